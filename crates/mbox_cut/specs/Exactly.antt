-- When a refusal comes.
use Rattle.std.specs.Prelude.{Result, IsErr}
use Rattle.std.specs.Result.{IsErrOf}

-- The refusal comes only where the fact holds, and where it holds the call doesn't succeed.
-- So nothing else but want of memory, or a refusal that comes before it, is answered there.
pub record ComesExactly {T E : Type 0} (result : Result T E) (refusal : E) (Fact : Type 0) : Type 0 where
  pub only : IsErrOf result refusal → Fact
  pub always : Fact → IsErr result
