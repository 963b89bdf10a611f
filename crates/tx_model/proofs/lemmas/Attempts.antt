-- What is known of every memory that fits an attempt, and what stays known as the attempt goes on.
use Rattle.std.proofs.Common.{◌≡◌, ℕ, ◌+◌, ◌<◌, ◌≤◌, ◌++◌, Option, Some, None, List, [], ◌∷◌, length, get_or, set, slice_get, refl, sym, ◌∙◌, ap, subst, arith, inl, inr, Contains}
use Rattle.std.proofs.lemmas.List.{append-nil, length-append, length_push, get_or_append_left, get_or_push}
use Rattle.std.proofs.lemmas.List.Quantifiers.{Any-push}
use Rattle.std.proofs.lemmas.Option.{get_or_from_slice_get}
use Rattle.tx_model.specs.declared.word.Word.{Word}
use Rattle.tx_model.specs.declared.view.Attempt.{Attempt}
use Rattle.tx_model.specs.declared.view.Owned.{Owned}
use Rattle.tx_model.specs.declared.view.PassView.{PassView}
use Rattle.tx_model.specs.declared.pass.PassState.TheVariants.{Active}
use Rattle.tx_model.specs.Words.{no_word, value_of, put, HasAddress, AreApart}
use Rattle.tx_model.specs.Memory.{after, Agrees}
use Rattle.tx_model.specs.History.{IsBeginning, state_at}
use Rattle.tx_model.specs.Made.{Made}
use Rattle.tx_model.specs.Attempt.{Fits, HoldsOver, first_of, gate_value, reads_with}
use Rattle.tx_model.specs.Calls.{Read, OnlyReads, with_write}
use Rattle.tx_model.specs.Pass.{IsAttempt, IsPass}
use Rattle.tx_model.specs.Rule.{AttemptFollows}
use Rattle.tx_model.proofs.lemmas.Calls.{goes_on_then}
use Rattle.tx_model.proofs.lemmas.Histories.{beginning_then}
use Rattle.tx_model.proofs.lemmas.Memories.{after_put, value_read}
use Rattle.tx_model.proofs.lemmas.Passes.{active_not_idle}
use Rattle.tx_model.proofs.lemmas.Values.{value_cases, value_has, value_agrees, value_stays, has_value, has_left, none_missing, put_length, after_word}

-- ---- reads that agree
pub agrees_left : (words more : List Word) (memory : List ℕ) → Agrees (words ++ more) memory → Agrees words memory
agrees_left words more memory agrees k d below =
    subst (λ (w : Word). slice_get memory w.addr ≡ Some w.value) (get_or_append_left words more d k below)
    (agrees k d (omega (arith, below, length-append words more)))

pub agrees_last : (words : List Word) (word : Word) (memory : List ℕ) → Agrees (words ++ word ∷ []) memory
    → slice_get memory word.addr ≡ Some word.value
agrees_last words word memory agrees =
    subst (λ (w : Word). slice_get memory w.addr ≡ Some w.value) (get_or_push words word no_word (length words) refl)
    (agrees (length words) no_word (omega (arith, length_push words word)))

-- what agrees with one more read agrees without it
pub reads_agree : (writes reads : List Word) (addr value : ℕ) (memory : List ℕ) → Agrees (reads_with (value_of writes addr) reads addr value) memory
    → Agrees reads memory
reads_agree writes reads addr value memory = by_cases (value_of writes addr)
  where
    by_cases : (written : Option ℕ) → Agrees (reads_with written reads addr value) memory → Agrees reads memory
    by_cases None agrees = agrees_left reads (record { addr = addr; value = value } ∷ []) memory agrees
    by_cases (Some last) agrees = agrees

-- a word that the attempt hasn't written is among the reads with it
pub has_read : (writes reads : List Word) (addr value : ℕ) → value_of writes addr ≡ None
    → HasAddress (reads_with (value_of writes addr) reads addr value) addr
has_read writes reads addr value none =
    subst (λ (written : Option ℕ). HasAddress (reads_with written reads addr value) addr) (sym none)
    (Any-push (λ (w : Word). w.addr ≡ addr) reads (record { addr = addr; value = value }) refl)

-- ---- before a write
-- what holds of every good memory holds throughout an attempt that wrote nothing
pub holds_unwritten : (good P : List ℕ → Type 0) (attempt : Attempt) (owned : List Owned) → attempt.writes ≡ []
    → ((memory : List ℕ) → good memory → P memory) → HoldsOver good attempt owned P
holds_unwritten good P attempt owned none holds memory is_good fits =
    subst (λ words. P (after memory words)) (sym none) (holds memory is_good)

-- ---- after a read
pub read_only : {opening : List ℕ} {old new : PassView} {before now : Attempt} {addr value : ℕ} → Read opening old new before now addr value
    → OnlyReads old new before now
read_only {before = before} {now = now} {addr = addr} {value = value} read = record {
  goes_on = read.goes_on;
  reads = subst (IsBeginning before.reads) (sym read.reads) (by_cases (value_of before.writes addr));
  writes = read.writes;
  sealed = read.sealed;
  published = read.published;
}
  where
    by_cases : (written : Option ℕ) → IsBeginning before.reads (reads_with written before.reads addr value)
    by_cases None = (record { addr = addr; value = value } ∷ [], refl)
    by_cases (Some last) = ([], sym (append-nil before.reads))

pub only_reads_then : {old mid new : PassView} {before between now : Attempt} → OnlyReads old mid before between → OnlyReads mid new between now
    → OnlyReads old new before now
only_reads_then p q = record {
  goes_on = goes_on_then p.goes_on q.goes_on;
  reads = beginning_then _ _ _ p.reads q.reads;
  writes = q.writes ∙ p.writes;
  sealed = q.sealed ∙ p.sealed;
  published = q.published ∙ p.published;
}

module _ {old new : PassView} {before now : Attempt} (only : OnlyReads old new before now) where
  -- what fits the attempt after the reads fitted it before
  pub fitted_before_reads : (memory : List ℕ) → Fits memory now new.owned → Fits memory before old.owned
  fitted_before_reads memory fits = record {
    reads = agrees_left before.reads only.reads.0 memory (subst (λ reads. Agrees reads memory) only.reads.1 fits.reads);
    contents = λ o among. fits.contents o (subst (λ (owned : List Owned). Contains owned o) (sym only.goes_on.later.owned) among);
  }

  -- what held over every memory still holds
  pub holds_after_reads : (good P : List ℕ → Type 0) → HoldsOver good before old.owned P → HoldsOver good now new.owned P
  holds_after_reads good P holds memory is_good fits =
      subst (λ writes. P (after memory writes)) (sym only.writes) (holds memory is_good (fitted_before_reads memory fits))

  pub has_after_reads : (addr : ℕ) → HasAddress before.reads addr → HasAddress now.reads addr
  has_after_reads addr has = subst (λ words. HasAddress words addr) (sym only.reads.1) (has_left before.reads only.reads.0 addr has)

  -- a gate that had a value in the attempt still has it
  pub gate_value_stays : (gate value : ℕ) → gate_value before gate ≡ Some value → gate_value now gate ≡ Some value
  gate_value_stays gate value is =
      ap (λ writes. first_of (value_of writes gate) (value_of now.reads gate)) only.writes ∙ by_cases (value_of before.writes gate) is
    where
      by_cases : (written : Option ℕ) → first_of written (value_of before.reads gate) ≡ Some value → first_of written (value_of now.reads gate) ≡ Some value
      by_cases (Some last) same = same
      by_cases None same = ap (λ words. value_of words gate) only.reads.1 ∙ value_stays before.reads only.reads.0 gate value same

module _ {opening : List ℕ} {old new : PassView} {before now : Attempt} {addr value : ℕ} (read : Read opening old new before now addr value) where
  pub fitted_before_read : (memory : List ℕ) → Fits memory now new.owned → Fits memory before old.owned
  fitted_before_read = fitted_before_reads (read_only read)

  pub holds_after_read : (good P : List ℕ → Type 0) → HoldsOver good before old.owned P → HoldsOver good now new.owned P
  holds_after_read = holds_after_reads (read_only read)

  -- the word that was read has this value in each memory that fits
  pub value_read_over : AreApart before.writes → (memory : List ℕ) → addr < length memory → Fits memory now new.owned
      → get_or (after memory now.writes) addr 0 ≡ value
  value_read_over apart memory below fits =
      ap (λ writes. get_or (after memory writes) addr 0) read.writes
      ∙ get_or_from_slice_get (after memory before.writes) addr value 0 (value_read read apart memory below fits.reads)

  -- a word that the attempt hasn't written is among its reads
  pub address_read : value_of before.writes addr ≡ None → HasAddress now.reads addr
  address_read none = subst (λ words. HasAddress words addr) (sym read.reads) (has_read before.writes before.reads addr value none)

  -- what was read is the value that the address has in the attempt
  pub gate_value_read : gate_value now addr ≡ Some value
  gate_value_read =
      ap (λ writes. first_of (value_of writes addr) (value_of now.reads addr)) read.writes ∙ by_cases (value_of before.writes addr) refl
    where
      by_cases : (written : Option ℕ) → value_of before.writes addr ≡ written → first_of written (value_of now.reads addr) ≡ Some value
      by_cases (Some last) is = ap (λ (v : ℕ). Some v) (sym (read.written last is))
      by_cases None none =
          let memory = state_at opening new.history now.start in
          let reads = read.reads ∙ ap (λ (written : Option ℕ). reads_with written before.reads addr value) none in
          let (v, is) = has_value now.reads addr (address_read none) in
          is ∙ sym (value_agrees now.reads memory addr v read.one_state.agree is)
          ∙ agrees_last before.reads (record { addr = addr; value = value }) memory (subst (λ words. Agrees words memory) reads read.one_state.agree)

-- ---- after a write
-- a word that was written has its last value there
pub value_written : (memory : List ℕ) (words : List Word) (addr value : ℕ) → AreApart words → addr < length memory → value_of words addr ≡ Some value
    → get_or (after memory words) addr 0 ≡ value
value_written memory words addr value apart below is =
    get_or_from_slice_get (after memory words) addr value 0
    (after_word memory words apart addr below ∙ ap (λ (written : Option ℕ). first_of written (slice_get memory addr)) is)

-- a write adds one word at most
pub put_few : (words : List Word) (addr value : ℕ) → length (put words addr value) ≤ length words + 1
put_few words addr value =
    elim (value_cases words addr) [
      | inl (old, is) ↦ omega (arith, (put_length words addr value).0 (value_has words addr old is))
      | inr none ↦ omega (arith, (put_length words addr value).1 (none_missing words addr none))
    ]

-- what held of the memories with the word set holds after the write
pub holds_after_write : (good P : List ℕ → Type 0) (attempt : Attempt) (owned : List Owned) (addr value : ℕ) → AreApart attempt.writes
    → HoldsOver good attempt owned (λ memory. P (set memory addr value)) → HoldsOver good (with_write attempt addr value) owned P
holds_after_write good P attempt owned addr value apart holds memory is_good fits =
    subst P (sym (after_put memory attempt.writes addr value apart))
    (holds memory is_good (record { reads = fits.reads; contents = fits.contents }))

-- the value of a gate in the attempt is the one in every memory that has its reads, with the writes over it
pub value_over : (memory : List ℕ) (attempt : Attempt) (addr value : ℕ) → AreApart attempt.writes → addr < length memory
    → gate_value attempt addr ≡ Some value → (value_of attempt.reads addr ≡ Some value → slice_get memory addr ≡ Some value)
    → get_or (after memory attempt.writes) addr 0 ≡ value
value_over memory attempt addr value apart below is agrees =
    get_or_from_slice_get (after memory attempt.writes) addr value 0
    (after_word memory attempt.writes apart addr below ∙ by_cases (value_of attempt.writes addr) is)
  where
    by_cases : (written : Option ℕ) → first_of written (value_of attempt.reads addr) ≡ Some value → first_of written (slice_get memory addr) ≡ Some value
    by_cases (Some last) same = same
    by_cases None same = agrees same

-- ---- the state that the attempt reads from
module _ {S : Type 0} {good : S → List ℕ → List ℕ → Type 0} {budget : S → List ℕ → ℕ} {made : Made S} {view : PassView} {attempt : Attempt}
    (knows : IsPass good budget made view attempt) (active : view.state ≡ Active) where
  pub at_work : IsAttempt made.opening made.regions view attempt
  at_work = knows.attempting (active_not_idle view.state active)

  -- each address is written once
  pub writes_apart : AreApart attempt.writes
  writes_apart = at_work.follows.placed.apart

  -- what it did in regions is by the rule
  pub follows_rule : AttemptFollows made.opening made.regions attempt
  follows_rule = at_work.follows

  pub state_good : good made.sense made.opening (state_at made.opening view.history attempt.start)
  state_good = knows.good_states.states attempt.start at_work.started

  pub state_fits : Fits (state_at made.opening view.history attempt.start) attempt view.owned
  state_fits = at_work.from_one

  -- what holds over every memory holds over that state
  pub holds_here : (P : List ℕ → Type 0) → HoldsOver (good made.sense made.opening) attempt view.owned P
      → P (after (state_at made.opening view.history attempt.start) attempt.writes)
  holds_here P holds = holds (state_at made.opening view.history attempt.start) state_good state_fits
