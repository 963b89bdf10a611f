-- What the notes hold after `write_all` of a note.
use Rattle.std.proofs.Common.{ℕ, List, [], ◌∷◌, take, true, sym, subst, Result, Ok, Err, inl, inr}
use Rattle.std.proofs.lemmas.List.{append-nil}
use Rattle.std.specs.Result.{is_err}
use Rattle.std.specs.Io.KnownBytes.{Appends}
use Rattle.mail_io.specs.Causes.{HasCause}
use Rattle.mail_io.specs.Refusals.{WriteFailed, WriteWantsMemory}
use Rattle.mail_io.specs.Writing.{Offers, Sends}
use Rattle.mail_io.specs.declared.errors.PutError.{PutError}
use Rattle.mail_io.specs.declared.errors.WriteError.{WriteError}
use Rattle.mail_io.specs.declared.errors.WriteError.TheVariants as write
use Rattle.mail_answers.specs.Sending.{Output, SendsPart}
use Rattle.mail_search.specs.Notes.{HasNote}

module _ {K : Type 0} (offered : K → List ℕ → Result ℕ PutError → K → Type 0) (before after : Output K) (note : List ℕ) where
  abbrev part : (sent : ℕ) → Appends before.held after.held (take sent note) → Offers offered before.sink (note ∷ []) true after.sink
      → SendsPart offered before after (note ∷ [])
  part sent grown calls = record {
    sent = sent;
    grown = subst (λ (x : List ℕ). Appends before.held after.held (take sent x)) (sym (append-nil note)) grown;
    calls = calls;
  }

  pub noted : (result : Result (Unit {0}) WriteError) → Sends before.held after.held note result
      → Offers offered before.sink (note ∷ []) (is_err result) after.sink
      → HasCause WriteFailed before.faults after.faults result → HasCause WriteWantsMemory before.wants after.wants result → HasNote offered before after note
  noted (Ok x) sends calls faults wants =
      inl record {
        grown = subst (λ (x : List ℕ). Appends before.held after.held x) (sym (append-nil note)) sends;
        calls = calls;
        no_fault = faults.kept;
        no_want = wants.kept;
      }
  noted (Err (write.Failed sent)) sends calls faults wants =
      inr record { sends = part sent sends.told calls; short = sends.short; cause = inl (faults.refused tt) }
  noted (Err (write.Memory sent)) sends calls faults wants =
      inr record { sends = part sent sends.told calls; short = sends.short; cause = inr (wants.refused tt) }
