-- What the sink was sent after some of the answer lines.
use Rattle.std.proofs.Common.{◌≡◌, ℕ, ◌+◌, ◌<◌, true, List, [], ◌∷◌, ◌++◌, length, take, drop, get_or, map, sym, ap, ◌∙◌, subst, arith, Result, Err}
use Rattle.std.specs.List.{concat}
use Rattle.std.specs.Prelude.{Option}
use Rattle.std.proofs.lemmas.List.{take-append-drop, map-append, drop_more, take_more, length-append, append-nil}
use Rattle.std.proofs.lemmas.List.Folds.{concat-append}
use Rattle.mail_io.specs.Causes.{Rose, HasCause}
use Rattle.mail_io.specs.Refusals.{WriteFailed}
use Rattle.mail_io.specs.Writing.{Offers, Sends}
use Rattle.mail_io.specs.declared.errors.PutError.{PutError}
use Rattle.mail_io.specs.declared.errors.WriteError.{WriteError}
use Rattle.mail_io.specs.declared.errors.WriteError.TheVariants.{Failed, Memory}
use Rattle.mail_words.specs.Key.{KeyNumbers}
use Rattle.mail_query.specs.declared.query.Query.{Query}
use Rattle.mail_query.specs.Answers.{answer_line}
use Rattle.mail_answers.specs.Hits.{hits_in, lines_in}
use Rattle.mail_answers.specs.Sending.{Output, SendsAll}
use Rattle.mail_answers.specs.Sent.{AreSent, sent_of, sent_after}
use Rattle.mail_answers.proofs.lemmas.Sending.{sends_some, sends_part, some_of_part}

-- the lines before a query, its line, and those after it
pub lines_at : (lists : List (List KeyNumbers)) (queries : List Query) (i : ℕ) (q : Query) → i < length queries → q ≡ get_or queries i q
    → lines_in lists queries ≡ lines_in lists (take i queries) ++ (answer_line (hits_in lists q) ∷ lines_in lists (drop (i + 1) queries))
lines_at lists queries i q h is =
    let line : Query → List ℕ = λ query. answer_line (hits_in lists query) in
    let rest : drop i queries ≡ q ∷ drop (i + 1) queries = drop_more queries i q h ∙ ap (λ x. x ∷ drop (i + 1) queries) (sym is) in
    ap (map line) (sym (take-append-drop i queries) ∙ ap (λ l. take i queries ++ l) rest)
    ∙ map-append line (take i queries) (q ∷ drop (i + 1) queries)

-- one more line
pub lines_more : (lists : List (List KeyNumbers)) (queries : List Query) (i : ℕ) (q : Query) → i < length queries → q ≡ get_or queries i q
    → lines_in lists (take (i + 1) queries) ≡ lines_in lists (take i queries) ++ (answer_line (hits_in lists q) ∷ [])
lines_more lists queries i q h is =
    let line : Query → List ℕ = λ query. answer_line (hits_in lists query) in
    ap (map line) (take_more queries i q h ∙ ap (λ x. take i queries ++ x ∷ []) (sym is))
    ∙ map-append line (take i queries) (q ∷ [])

-- the bytes of one piece more
pub more_bytes : (pieces : List (List ℕ)) (piece : List ℕ) → length (concat (pieces ++ piece ∷ [])) ≡ length (concat pieces) + length piece
more_bytes pieces piece =
    ap length (concat-append pieces (piece ∷ []) ∙ ap (λ l. concat pieces ++ l) (append-nil piece)) ∙ length-append (concat pieces) piece

-- fewer bytes than all were sent before a refusal
pub refused_short : (before after : Option (List ℕ)) (bytes : List ℕ) (error : WriteError) → Sends {T = Unit {0}} before after bytes (Err error)
    → sent_of error < length bytes
refused_short before after bytes (Failed sent) sends = sends.short
refused_short before after bytes (Memory sent) sends = sends.short

module _ {K : Type 0} (offered : K → List ℕ → Result ℕ PutError → K → Type 0) where
  -- memory wanted before a line
  pub stopped_before : (a b : Output K) (pieces rest all : List (List ℕ)) (sent : ℕ) → all ≡ pieces ++ rest → sent ≡ length (concat pieces)
      → SendsAll offered a b pieces → AreSent offered a b all {T = Unit {0}} (Err (Memory sent))
  stopped_before a b pieces rest all sent split counted sends =
      subst (λ (ls : List (List ℕ)). AreSent offered a b ls {T = Unit {0}} (Err (Memory sent))) (sym split)
      (sends_some offered a b pieces rest sends, sym counted, sends.no_fault)

  -- `write_all` of the next line was refused
  refused_line : (a b c : Output K) (pieces rest : List (List ℕ)) (piece : List ℕ) (sent : ℕ) (error : WriteError) → sent ≡ length (concat pieces)
      → SendsAll offered a b pieces → Sends {T = Unit {0}} b.held c.held piece (Err error) → Offers offered b.sink (piece ∷ []) true c.sink
      → HasCause {T = Unit {0}} WriteFailed b.faults c.faults (Err error)
      → AreSent offered a c (pieces ++ piece ∷ rest) {T = Unit {0}} (Err (sent_after sent error))
  refused_line a b c pieces rest piece sent (Failed more) counted before sends calls cause = (
    sends_part offered a b c pieces rest piece more before (omega (arith, sends.short)) sends.told calls,
    ap (λ (n : ℕ). n + more) (sym counted),
    subst (λ (n : ℕ). Rose n c.faults) before.no_fault (cause.refused tt),
  )
  refused_line a b c pieces rest piece sent (Memory more) counted before sends calls cause = (
    some_of_part offered a c (pieces ++ piece ∷ rest) (sends_part offered a b c pieces rest piece more before (omega (arith, sends.short)) sends.told calls),
    ap (λ (n : ℕ). n + more) (sym counted),
    cause.other (λ h. h) ∙ before.no_fault,
  )

  pub refused_at : (a b c : Output K) (pieces rest all : List (List ℕ)) (piece : List ℕ) (sent : ℕ) (error : WriteError)
      → all ≡ pieces ++ piece ∷ rest → sent ≡ length (concat pieces)
      → SendsAll offered a b pieces → Sends {T = Unit {0}} b.held c.held piece (Err error) → Offers offered b.sink (piece ∷ []) true c.sink
      → HasCause {T = Unit {0}} WriteFailed b.faults c.faults (Err error) → AreSent offered a c all {T = Unit {0}} (Err (sent_after sent error))
  refused_at a b c pieces rest all piece sent error split counted before sends calls cause =
      subst (λ (ls : List (List ℕ)). AreSent offered a c ls {T = Unit {0}} (Err (sent_after sent error))) (sym split)
      (refused_line a b c pieces rest piece sent error counted before sends calls cause)
