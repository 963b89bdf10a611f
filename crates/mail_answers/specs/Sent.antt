-- How much of the answer lines was sent.
use Rattle.std.specs.Prelude.{◌≡◌, ℕ, ◌+◌, List, Result, Ok, Err}
use Rattle.mail_io.specs.Causes.{Rose}
use Rattle.mail_io.specs.declared.errors.PutError.{PutError}
use Rattle.mail_io.specs.declared.errors.WriteError.{WriteError}
use Rattle.mail_io.specs.declared.errors.WriteError.TheVariants.{Failed, Memory}
use Rattle.mail_answers.specs.Sending.{Output, SendsAll, SendsPart, SendsSome}

-- how many bytes were sent before a refusal
abbrev pub sent_of : WriteError → ℕ
sent_of (Failed sent) = sent
sent_of (Memory sent) = sent

-- the refusal, where so many bytes were sent before
abbrev pub sent_after : ℕ → WriteError → WriteError
sent_after sent (Failed more) = Failed (sent + more)
sent_after sent (Memory more) = Memory (sent + more)

module _ {K : Type 0} (offered : K → List ℕ → Result ℕ PutError → K → Type 0) (sink sink_after : Output K) (lines : List (List ℕ)) where
  -- The lines were sent, each in one piece; or the first `sent` bytes of them, where the sink failed and its count rose, or for want of
  -- memory, here or in the sink. Then no fault was passed over.
  abbrev pub AreSent : {T : Type 0} → Result T WriteError → Type 0
  AreSent (Ok _) = SendsAll offered sink sink_after lines
  AreSent (Err (Failed sent)) = (part : SendsPart offered sink sink_after lines) × (part.sent ≡ sent) × Rose sink.faults sink_after.faults
  AreSent (Err (Memory sent)) = (some : SendsSome offered sink sink_after lines) × (some.sent ≡ sent) × (sink_after.faults ≡ sink.faults)
