-- What contracts see of a sink, and what it was sent.
use Rattle.std.specs.Prelude.{ℕ, ◌≡◌, Bool, true, false, List, take, Result}
use Rattle.std.specs.declared.option.Option.{Option}
use Rattle.std.specs.List.{concat}
use Rattle.std.specs.Io.KnownBytes.{Appends}
use Rattle.mail_io.specs.Writing.{Offers}
use Rattle.mail_io.specs.declared.errors.PutError.{PutError}

-- of a sink: itself, the bytes that it holds, where it tells them, and its counts of faults and of wants of memory
pub record Output (K : Type 0) : Type 0 where
  pub sink : K
  pub held : Option (List ℕ)
  pub faults : ℕ
  pub wants : ℕ

abbrev pub sink_seen : {K : Type 0} → (K → Option (List ℕ)) → (K → ℕ) → (K → ℕ) → K → Output K
sink_seen held faults wants sink = record { sink = sink; held = held sink; faults = faults sink; wants = wants sink }

-- Pieces that were sent, where the sink says what a call of `put` is: the bytes held grew, and the calls were offered the pieces in order, each whole.
module _ {K : Type 0} (offered : K → List ℕ → Result ℕ PutError → K → Type 0) (before after : Output K) (pieces : List (List ℕ)) where
  -- all of them, with no fault and no want of memory
  pub record SendsAll : Type 0 where
    pub grown : Appends before.held after.held (concat pieces)
    pub calls : Offers offered before.sink pieces false after.sink
    pub no_fault : after.faults ≡ before.faults
    pub no_want : after.wants ≡ before.wants

  -- a beginning of them, up to a call that was refused
  pub record SendsPart : Type 0 where
    pub sent : ℕ
    pub grown : Appends before.held after.held (take sent (concat pieces))
    pub calls : Offers offered before.sink pieces true after.sink

  -- a beginning of them, of which the last call may have been refused
  pub record SendsSome : Type 0 where
    pub sent : ℕ
    pub grown : Appends before.held after.held (take sent (concat pieces))
    pub whole : ℕ
    pub refused : Bool
    pub calls : Offers offered before.sink (take whole pieces) refused after.sink
