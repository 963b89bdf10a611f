-- What `write_all` does, and what a sink over a writer does to the writer.
use Rattle.std.specs.Prelude.{ℕ, ◌<◌, ◌≤◌, Bool, true, false, List, [], ◌∷◌, length, take, drop, Result, Ok, Err}
use Rattle.std.specs.declared.option.Option.{Option}
use Rattle.std.specs.Io.KnownBytes.{Appends}
use Rattle.mail_io.specs.declared.errors.PutError.{PutError}
use Rattle.mail_io.specs.declared.errors.WriteError.{WriteError}
use Rattle.mail_io.specs.declared.errors.WriteError.TheVariants.{Failed, Memory}

-- the bytes held grew by the first `sent` bytes, and by no more
pub record SendsPart (before after : Option (List ℕ)) (bytes : List ℕ) (sent : ℕ) : Type 0 where
  pub short : sent < length bytes
  pub told : Appends before after (take sent bytes)

-- the bytes held grew by all bytes, or at a refusal by as many of the first as it says
abbrev pub Sends : {T : Type 0} → Option (List ℕ) → Option (List ℕ) → List ℕ → Result T WriteError → Type 0
Sends before after bytes (Ok _) = Appends before after bytes
Sends before after bytes (Err (Failed sent)) = SendsPart before after bytes sent
Sends before after bytes (Err (Memory sent)) = SendsPart before after bytes sent

-- the bytes grew by some of the first bytes of the piece
abbrev pub AppendsPrefix : Option (List ℕ) → Option (List ℕ) → List ℕ → Type 0
AppendsPrefix before after piece = (n : ℕ) × (n ≤ length piece) × Appends before after (take n piece)

-- the writer's bytes grew by the first n bytes at `Ok(n)`, and at a refusal by some of the first
abbrev pub PassesOn : {E : Type 0} → Option (List ℕ) → Option (List ℕ) → Result ℕ E → List ℕ → Type 0
PassesOn before after (Ok n) piece = Appends before after (take n piece)
PassesOn before after (Err _) piece = AppendsPrefix before after piece

-- From one value of a sink to another, calls of `put` were offered the pieces in order: each call all of a piece that wasn't taken yet.
-- They end where everything is taken, or at the first that is refused. What a call of `put` is, the sink says.
pub data Offers {K : Type 0} (offered : K → List ℕ → Result ℕ PutError → K → Type 0) : K → List (List ℕ) → Bool → K → Type 0 where
  all_taken : (sink : K) → Offers offered sink [] false sink
  next_piece : (sink end : K) (pieces : List (List ℕ)) (refused : Bool) →
      Offers offered sink pieces refused end → Offers offered sink ([] ∷ pieces) refused end
  some_taken : (sink next end : K) (piece : List ℕ) (pieces : List (List ℕ)) (count : ℕ) (refused : Bool) →
      0 < length piece → offered sink piece (Ok count) next → Offers offered next (drop count piece ∷ pieces) refused end →
      Offers offered sink (piece ∷ pieces) refused end
  call_refused : (sink end : K) (piece : List ℕ) (pieces : List (List ℕ)) (error : PutError) →
      0 < length piece → offered sink piece (Err error) end → Offers offered sink (piece ∷ pieces) true end
