-- What `read_all` does.
use Rattle.std.specs.Prelude.{ℕ, ◌+◌, ◌<◌, ◌≤◌, ◌≡◌, ◌↔◌, List, length, Vec, Result, IfOk, IsErrOf}
use Rattle.std.specs.declared.alloc.Global.{Global}
use Rattle.std.specs.declared.option.Option.{Option}
use Rattle.std.specs.Io.KnownBytes.{Consumes, IsAtEnd}
use Rattle.mail_io.specs.declared.errors.ReadError.{ReadError}
use Rattle.mail_io.specs.declared.errors.ReadError.TheVariants.{TooLarge}

-- Bytes were taken from the front of those left, at most one more than the limit. `TooLarge` comes exactly where they
-- are more than the limit. `Ok` gives them, and nothing is left.
pub record TakesAll (before after : Option (List ℕ)) (limit : ℕ) (result : Result (Vec ℕ Global) ReadError) : Type 0 where
  pub taken : List ℕ
  pub moved : Consumes before after taken
  pub at_most : length taken ≤ limit + 1
  pub exactly_large : IsErrOf result TooLarge ↔ (limit < length taken)
  pub ok : IfOk result (λ bytes. (bytes.items ≡ taken) × IsAtEnd after)
