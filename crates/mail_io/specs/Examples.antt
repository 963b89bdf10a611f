-- A sink for worked examples.
use Rattle.std.specs.Prelude.{ℕ, ◌+◌, ◌≡◌, List, length, min, Result, IfOk}
use Rattle.mail_io.specs.declared.errors.PutError.{PutError}

-- a call of `put` on a sink that is the number of its calls so far, and takes at most four bytes in each
pub record TakesFour (calls : ℕ) (piece : List ℕ) (result : Result ℕ PutError) (after : ℕ) : Type 0 where
  pub counted : after ≡ calls + 1
  pub taken : IfOk result (λ n. n ≡ min 4 (length piece))
