-- What a sink was sent of the answer lines and the report.
use Rattle.std.proofs.Common.{◌≡◌, ℕ, Bool, true, false, List, [], ◌∷◌, ◌++◌, take, refl, sym, ◌∙◌, subst, Result, Ok, Err, inl, inr}
use Rattle.std.specs.Result.{IfOk, IsErrAnd, is_err}
use Rattle.std.specs.Io.KnownBytes.{Appends}
use Rattle.std.proofs.lemmas.List.{append-nil}
use Rattle.mail_io.specs.Causes.{Rose, HasCause}
use Rattle.mail_io.specs.Refusals.{WriteFailed, WriteWantsMemory}
use Rattle.mail_io.specs.Writing.{Offers, Sends}
use Rattle.mail_io.specs.declared.errors.PutError.{PutError}
use Rattle.mail_io.specs.declared.errors.WriteError.{WriteError}
use Rattle.mail_io.specs.declared.errors.WriteError.TheVariants as write
use Rattle.mail_words.specs.Key.{KeyNumbers}
use Rattle.mail_index.specs.Indexed.{IsIndexOf}
use Rattle.mail_answers.specs.Sending.{Output, SendsAll, SendsPart}
use Rattle.mail_answers.specs.Sent.{AreSent}
use Rattle.mail_answers.proofs.lemmas.Sending.{sends_none, sends_some, some_of_part, all_then, all_then_part, all_then_some, part_more, some_more}
use Rattle.mail_search.specs.Outcome.{IsSent, IsReported}
use Rattle.mail_search.specs.Reports.{Closed, report_of, report_line}
use Rattle.mail_search.specs.Statuses.{status_of_writing}
use Rattle.mail_search.specs.declared.status.Status.{Status}
use Rattle.mail_search.specs.declared.status.Status.TheVariants.{Done, ReadFault, Usage, NotMbox, TooLarge, BadQuery, WriteFault, Memory, TooManyMessages, TooManyPostings, BadScript}

-- a refusal that is handed on
pub handed_on : {T : Type 0} (Holds : Result T Status → Type 0) (result : Result T Status) (status : Status) → IsErrAnd result (λ s. s ≡ status)
    → Holds (Err status) → Holds result
handed_on Holds (Ok x) status h sent = absurd h
handed_on {T} Holds (Err s) status h sent = subst (λ (x : Status). Holds (Err x)) (sym h) sent

-- bytes that are the same as others
pub same_bytes : {T E : Type 0} (bytes : T → List ℕ) {a b : List ℕ} → a ≡ b → (result : Result T E) → IfOk result (λ x. bytes x ≡ a)
    → IfOk result (λ x. bytes x ≡ b)
same_bytes bytes same (Ok x) is = is ∙ same
same_bytes bytes same (Err e) is = tt

module _ {K : Type 0} (offered : K → List ℕ → Result ℕ PutError → K → Type 0) where
  abbrev part : (a b : Output K) (piece : List ℕ) (sent : ℕ) → Appends a.held b.held (take sent piece) → Offers offered a.sink (piece ∷ []) true b.sink
      → SendsPart offered a b (piece ∷ [])
  part a b piece sent grown calls = record {
    sent = sent;
    grown = subst (λ (x : List ℕ). Appends a.held b.held (take sent x)) (sym (append-nil piece)) grown;
    calls = calls;
  }

  -- `write_all` of one piece
  pub piece_sent : (a b : Output K) (piece : List ℕ) (result : Result (Unit {0}) WriteError) → Sends a.held b.held piece result
      → Offers offered a.sink (piece ∷ []) (is_err result) b.sink → HasCause WriteFailed a.faults b.faults result
      → HasCause WriteWantsMemory a.wants b.wants result → AreSent offered a b (piece ∷ []) result
  piece_sent a b piece (Ok value) sends calls faults wants = record {
    grown = subst (λ (x : List ℕ). Appends a.held b.held x) (sym (append-nil piece)) sends;
    calls = calls;
    no_fault = faults.kept;
    no_want = wants.kept;
  }
  piece_sent a b piece (Err (write.Failed sent)) sends calls faults wants = (part a b piece sent sends.told calls, refl, faults.refused tt)
  piece_sent a b piece (Err (write.Memory sent)) sends calls faults wants =
      (some_of_part offered a b (piece ∷ []) (part a b piece sent sends.told calls), refl, faults.other (λ h. h))

  -- ---- the report
  -- there was no memory for it
  pub none_of : (a : Output K) (piece : List ℕ) → AreSent offered a a (piece ∷ []) {T = Unit {0}} (Err (write.Memory 0))
  none_of a piece = (sends_some offered a a [] (piece ∷ []) (sends_none offered a), refl, refl)

  -- none is asked for
  pub not_reported : (a : Output K) (closed : Closed) → IsReported offered a a false closed (Ok closed)
  not_reported a closed = (refl, sends_none offered a)

  -- it was written
  pub reported : (a b : Output K) (closed : Closed) (value : Unit {0}) → AreSent offered a b (report_line closed ∷ []) {T = Unit {0}} (Ok value)
      → IsReported offered a b true closed (Ok closed)
  reported a b closed value sent = (refl, sent)

  -- it wasn't
  pub report_refused : (a b : Output K) (closed : Closed) (error : WriteError) → AreSent offered a b (report_line closed ∷ []) {T = Unit {0}} (Err error)
      → IsReported offered a b true closed (Err (status_of_writing error))
  report_refused a b closed (write.Failed sent) was = (was.0, was.2)
  report_refused a b closed (write.Memory sent) was = (was.0, was.2)

  -- ---- the lines of an index
  module _ (lists : List (List KeyNumbers)) (answers : List (List ℕ)) (report : Bool) where
    abbrev lines : Closed → List (List ℕ)
    lines closed = answers ++ report_of report closed

    -- there is no index
    pub none_sent : (a : Output K) → IsSent offered a a lists lines (Err Memory)
    none_sent a = (inl refl, refl)

    -- not all answers were written
    pub answers_refused : (a b : Output K) (closed : Closed) → IsIndexOf lists closed → (error : WriteError)
        → AreSent offered a b answers {T = Unit {0}} (Err error) → IsSent offered a b lists lines (Err (status_of_writing error))
    answers_refused a b closed index (write.Failed sent) was = ((closed, index, part_more offered a b answers (report_of report closed) was.0), was.2)
    answers_refused a b closed index (write.Memory sent) was = (inr (closed, index, some_more offered a b answers (report_of report closed) was.0), was.2)

    -- they were, and then the report or not
    pub all_sent : (a b c : Output K) (closed : Closed) → IsIndexOf lists closed → SendsAll offered a b answers → (result : Result Closed Status)
        → IsReported offered b c report closed result → IsSent offered a c lists lines result
    all_sent a b c closed index before (Ok back) was =
        let same : closed ≡ back = sym was.0 in (
          subst (IsIndexOf lists) same index,
          subst (λ (e : Closed). SendsAll offered a c (answers ++ report_of report e)) same
              (all_then offered a b c answers (report_of report closed) before was.1),
        )
    all_sent a b c closed index before (Err WriteFault) was = (
      (closed, index, all_then_part offered a b c answers (report_of report closed) before was.0),
      subst (λ (n : ℕ). Rose n c.faults) before.no_fault was.1,
    )
    all_sent a b c closed index before (Err Memory) was = (
      inr (closed, index, all_then_some offered a b c answers (report_of report closed) before was.0),
      was.1 ∙ before.no_fault,
    )
    all_sent a b c closed index before (Err Done) was = absurd was
    all_sent a b c closed index before (Err ReadFault) was = absurd was
    all_sent a b c closed index before (Err Usage) was = absurd was
    all_sent a b c closed index before (Err NotMbox) was = absurd was
    all_sent a b c closed index before (Err TooLarge) was = absurd was
    all_sent a b c closed index before (Err (BadQuery number error)) was = absurd was
    all_sent a b c closed index before (Err TooManyMessages) was = absurd was
    all_sent a b c closed index before (Err TooManyPostings) was = absurd was
    all_sent a b c closed index before (Err (BadScript line)) was = absurd was
