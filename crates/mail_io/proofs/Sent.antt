-- What stands between two calls of `put`, and how what is offered goes on.
use Rattle.std.proofs.Common.{◌≡◌, ◌+◌, ◌<◌, ◌≤◌, ℕ, Bool, true, false, List, [], ◌∷◌, length, take, drop, sym, ap, ◌∙◌, subst, Result, Ok, Err}
use Rattle.std.proofs.lemmas.List.{drop-drop}
use Rattle.std.specs.declared.option.Option.{Option}
use Rattle.std.specs.Io.KnownBytes.{Appends}
use Rattle.mail_io.specs.declared.errors.PutError.{PutError}
use Rattle.mail_io.specs.Writing.{Offers}
use Rattle.mail_io.specs.Writing.Offers.{all_taken, next_piece, some_taken, call_refused}

-- the first `sent` bytes are held, and no count has risen
pub record IsSent (before now : Option (List ℕ)) (faults_before faults_now wants_before wants_now : ℕ) (bytes : List ℕ) (sent : ℕ) : Type 0 where
  pub within : sent ≤ length bytes
  pub told : Appends before now (take sent bytes)
  pub no_fault : faults_now ≡ faults_before
  pub no_want : wants_now ≡ wants_before

module _ {K : Type 0} (offered : K → List ℕ → Result ℕ PutError → K → Type 0) where
  -- who offers the bytes behind the first `sent` now has offered all of them since before
  abbrev pub GoesOn : K → K → List ℕ → ℕ → Type 0
  GoesOn before now bytes sent = (end : K) (refused : Bool) → Offers offered now (drop sent bytes ∷ []) refused end
      → Offers offered before (bytes ∷ []) refused end

  -- some more were taken
  pub goes_on-more : (before now next : K) (bytes rest : List ℕ) (sent count : ℕ) → rest ≡ drop sent bytes → 0 < length rest → offered now rest (Ok count) next
      → GoesOn before now bytes sent → GoesOn before next bytes (sent + count)
  goes_on-more before now next bytes rest sent count is some call goes end refused more =
      goes end refused (subst (λ (piece : List ℕ). Offers offered now (piece ∷ []) refused end) is
      (some_taken now next end rest [] count refused some call
      (subst (λ (piece : List ℕ). Offers offered next (piece ∷ []) refused end) (sym (ap (drop count) is ∙ drop-drop count sent bytes)) more)))

  -- none are left
  pub goes_on-all : (before now : K) (bytes : List ℕ) (sent : ℕ) → drop sent bytes ≡ [] → GoesOn before now bytes sent
      → Offers offered before (bytes ∷ []) false now
  goes_on-all before now bytes sent none goes =
      goes now false (subst (λ (piece : List ℕ). Offers offered now (piece ∷ []) false now) (sym none) (next_piece now now [] false (all_taken now)))

  -- a call was refused
  pub goes_on-refused : (before now end : K) (bytes rest : List ℕ) (sent : ℕ) (error : PutError) → rest ≡ drop sent bytes → 0 < length rest
      → offered now rest (Err error) end → GoesOn before now bytes sent → Offers offered before (bytes ∷ []) true end
  goes_on-refused before now end bytes rest sent error is some call goes =
      goes end true (subst (λ (piece : List ℕ). Offers offered now (piece ∷ []) true end) is (call_refused now end rest [] error some call))
