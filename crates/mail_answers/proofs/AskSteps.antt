-- What an attempt of a whole pass that owns nothing reads of a complete index, and what its end leaves.
use Rattle.std.proofs.Common.{◌≡◌, ◌≢◌, ◌⊎◌, ℕ, ◌<◌, ◌≤◌, List, [], ◌∷◌, drop, get_or, length, refl, sym, ap, ◌∙◌, subst, arith, inl, inr, Contains}
use Rattle.std.proofs.lemmas.Bool.{cases_lt}
use Rattle.std.proofs.lemmas.List.{get_or_past}
use Rattle.tx_model.specs.declared.gate.Region.{Region}
use Rattle.tx_model.specs.declared.gate.TheConstants.{GATE_SEALED}
use Rattle.tx_model.specs.declared.history.Commit.{Commit}
use Rattle.tx_model.specs.declared.pass.PassState.TheVariants.{Idle, Stamped}
use Rattle.tx_model.specs.declared.pass.Receipt.{Receipt}
use Rattle.tx_model.specs.declared.view.Attempt.{Attempt}
use Rattle.tx_model.specs.declared.view.Owned.{Owned}
use Rattle.tx_model.specs.declared.view.PassView.{PassView}
use Rattle.tx_model.specs.Attempt.{starting_at}
use Rattle.tx_model.specs.Calls.{IsLater, OnlyRead}
use Rattle.tx_model.specs.History.{state_at}
use Rattle.tx_model.specs.Made.{Made, IsMade}
use Rattle.tx_model.specs.Memory.{Agrees}
use Rattle.tx_model.specs.Opacity.{ReadFromState}
use Rattle.tx_model.specs.Pass.{IsPass, IsWhole}
use Rattle.tx_model.specs.Tries.{Done, GaveUp}
use Rattle.tx_model.proofs.lemmas.Histories.{whole_beginning}
use Rattle.tx_model.proofs.lemmas.Passes.{idle_not_stamped, knows_all_same}
use Rattle.mail_words.specs.Key.{KeyNumbers, numbers}
use Rattle.tx_heap.specs.Layout.{mail_layout, sizes_of}
use Rattle.tx_heap.specs.Heap.{Heap, gate_of}
use Rattle.tx_heap.specs.Index.{rows_of}
use Rattle.tx_heap.specs.Mail.{AllowsRegions, IsGoodMail, mail_budget, mail_heap}
use Rattle.tx_heap.proofs.lemmas.Addresses.{which_region}
use Rattle.tx_heap.proofs.lemmas.HeapWords.{gate_word, gates_many, segments_many}
use Rattle.tx_heap.proofs.lemmas.Lanes.{contains_none, contains_first}
use Rattle.tx_postings.specs.Laws.{HasNonePacked}
use Rattle.mail_answers.specs.Asking.{OfRead, DidRead, DidAsk, numbers_in}
use Rattle.mail_answers.specs.Complete.{IsAsBefore, IsComplete, last_index}
use Rattle.mail_answers.specs.Lists.{ListMap, HasLists}
use Rattle.mail_answers.specs.Reading.{OfIndex, HaveRead}
use Rattle.mail_answers.specs.declared.attempt.Unread.{Unread}
use Rattle.mail_answers.specs.declared.attempt.Unread.TheVariants.{Sealed}

-- no gate of a complete index is sealed, nor that of a segment in use packed
pub no_sealed_gate : {lists : List (List KeyNumbers)} {opening memory : List ℕ} → IsGoodMail lists opening memory
    → IsComplete lists (mail_heap lists memory) → (segment : ℕ) → gate_of (mail_heap lists memory) segment ≡ GATE_SEALED → ⊥
no_sealed_gate {lists} {opening} {memory} good complete segment is = by_place (cases_lt segment (sizes_of lists).segments)
  where
    by_place : (segment < (sizes_of lists).segments) ⊎ ((sizes_of lists).segments ≤ segment) → ⊥
    by_place (inl below) = complete.none_sealed segment below is
    by_place (inr past) =
        omega (arith, is, get_or_past (mail_heap lists memory).gates segment 0 (omega (arith, past, gates_many (sizes_of lists) memory good.size)))

pub none_packed : {lists : List (List KeyNumbers)} {opening memory : List ℕ} → IsGoodMail lists opening memory
    → IsComplete lists (mail_heap lists memory) → HasNonePacked (mail_heap lists memory)
none_packed {lists} {opening} {memory} good complete segment used =
    complete.none_packed segment (omega (arith, used, good.index.grows.index.lanes.pool, segments_many (sizes_of lists) memory))

module _ {made : Made (List (List KeyNumbers))} {old : PassView} {before : Attempt} (knew : IsPass IsGoodMail mail_budget made old before) (whole : IsWhole old)
    (was : old.state ≢ Stamped) where
  -- a whole pass knows the whole history
  pub same_history : {new : PassView} {now : Attempt} → IsPass IsGoodMail mail_budget made new now → new.state ≢ Stamped → IsLater old new
      → new.history ≡ old.history
  same_history {new} knows is later =
      sym (whole_beginning old.history new.history later.history
      (omega (arith, knows_all_same old new later (knew.whole whole was) (knows.whole (later.share ∙ whole) is))))

  pub as_before : {new : PassView} {now : Attempt} → IsPass IsGoodMail mail_budget made new now → new.state ≡ Idle → IsLater old new → IsAsBefore old new
  as_before {new} knows idle later = record { idle = idle; share = later.share; history = same_history knows (idle_not_stamped new.state idle) later }

  last_good : IsGoodMail made.sense made.opening (state_at made.opening old.history (length old.history))
  last_good = knew.good_states.states (length old.history) (omega arith)

  -- a pass that owns a region knows that it is sealed
  pub owns_none : IsMade AllowsRegions IsGoodMail made → IsComplete made.sense (last_index made old.history) → old.owned ≡ []
  owns_none is_made complete = by_owned old.owned refl
    where
      by_owned : (owned : List Owned) → old.owned ≡ owned → old.owned ≡ []
      by_owned [] is = is
      by_owned (o ∷ rest) is =
          let among = subst (λ (owned : List Owned). Contains owned o) (sym is) (contains_first o rest) in
          let region = subst (λ (regions : List Region). Contains regions o.region) is_made.allowed (knew.owns o among).region in
          let (segment, below, at) = which_region (sizes_of made.sense) o.region region in
          let owner = knew.owners o among in
          let last = state_at made.opening old.history (length old.history) in
          let is_sealed = owner.is_sealed (length old.history) (omega (arith, owner.complete, knew.front)) (omega arith) (λ published. was published.0) in
          absurd (complete.none_sealed segment below
          (gate_word (sizes_of made.sense) last segment below ∙ ap (λ (r : Region). get_or last r.gate 0) (sym at) ∙ is_sealed))

  module _ {new : PassView} {now : Attempt} (knows : IsPass IsGoodMail mail_budget made new now) where
    -- a state that the pass knew to be complete, or a later one, is the last one
    of_last : (attempt : Attempt) {k : ℕ} → new.state ≡ Idle → IsLater old new → old.front ≤ k → ReadFromState made.opening new.history attempt.reads k
        → (P : Heap → Type 0) → OfRead made.sense made.opening attempt P → P (last_index made old.history)
    of_last attempt {k} idle later from one_state P holds =
        let same = same_history knows (idle_not_stamped new.state idle) later in
        let last : k ≡ length old.history = omega
        (arith, from, one_state.happened, (knew.whole whole was).front, ap (λ (h : List Commit). length h) same) in
        let state : state_at made.opening new.history k ≡ state_at made.opening old.history (length old.history) =
        ap (λ (h : List Commit). state_at made.opening h k) same ∙ ap (state_at made.opening old.history) last in
        holds (state_at made.opening old.history (length old.history)) last_good (subst (Agrees attempt.reads) state one_state.agree)

    module _ {keys : List KeyNumbers} {read : ListMap} where
      -- the attempt that was committed wrote nothing
      only_read : {receipt : Receipt} → (done : Done (DidAsk made.sense made.opening keys read) made.opening old new receipt)
          → OnlyRead made.opening old new done.attempt receipt.stamp
      only_read done = elim done.committed.received [ inl (wrote, some, w) ↦ absurd (some done.meaning.wrote_none) | inr (wrote, none, r) ↦ r ]

      pub asked_before : {receipt : Receipt} → Done (DidAsk made.sense made.opening keys read) made.opening old new receipt → IsAsBefore old new
      asked_before done = as_before knows done.committed.idle (only_read done).later

      -- the lists that were read are of the rows of the last state
      pub lists_of_last : {receipt : Receipt} → Done (DidAsk made.sense made.opening keys read) made.opening old new receipt
          → IsComplete made.sense (last_index made old.history) → HasLists read (rows_of mail_layout (last_index made old.history))
      lists_of_last done complete =
          let only = only_read done in
          of_last done.attempt done.committed.idle only.later (omega (arith, done.fresh, only.no_older)) only.from_state
          (λ heap. HasNonePacked heap → HasLists read (rows_of mail_layout heap)) done.meaning.of_rows (none_packed last_good complete)

      -- a refusal leaves the pass as it was
      pub refused_before : {refusal : Unread} → GaveUp (DidAsk made.sense made.opening keys read) made.opening old new refusal → IsAsBefore old new
      refused_before gave = as_before knows gave.ended.idle gave.ended.later

      -- and no segment was read as sealed
      pub none_sealed : (segment : ℕ) → GaveUp (DidAsk made.sense made.opening keys read) made.opening old new (Sealed segment)
          → IsComplete made.sense (last_index made old.history) → ⊥
      none_sealed segment gave complete =
          no_sealed_gate last_good complete segment
          (of_last gave.attempt gave.ended.idle gave.ended.later gave.fresh gave.one_state (λ heap. gate_of heap segment ≡ GATE_SEALED)
          gave.meaning)

-- ---- the attempt
-- what holds of every memory that fits an attempt of a pass that owns nothing, by its reads alone
of_read : (made : Made (List (List KeyNumbers))) (view : PassView) (attempt : Attempt) → view.owned ≡ [] → (P : Heap → Type 0)
    → OfIndex made view attempt P → OfRead made.sense made.opening attempt P
of_read made view attempt none P holds memory good agrees =
    holds memory good (record {
      reads = agrees;
      contents = λ o among. absurd (contains_none o (subst (λ (owned : List Owned). Contains owned o) none among));
    })

pub did_read : {made : Made (List (List KeyNumbers))} {old new : PassView} {before now : Attempt} {keys : List KeyNumbers} {read : ListMap}
    → before ≡ starting_at before.start → old.owned ≡ [] → HaveRead made old new before now keys read → DidRead made.sense made.opening keys read now
did_read {made} {old} {new} {before} {now} {keys} {read} fresh none have = record {
  wrote_none = have.only.writes ∙ ap (λ (a : Attempt). a.writes) fresh;
  all = have.all;
  of_rows = of_read made new now (have.only.goes_on.later.owned ∙ none) (λ heap. HasNonePacked heap → HasLists read (rows_of mail_layout heap))
      have.of_rows;
}

-- the numbers tell the keys
pub same_keys : (keys others : List KeyNumbers) → numbers_in keys ≡ numbers_in others → keys ≡ others
same_keys [] [] same = refl
same_keys [] (other ∷ others) same = cc
same_keys (key ∷ keys) [] same = cc
same_keys (key ∷ keys) (other ∷ others) same =
    let rest = same_keys keys others (ap (drop 4) same) in
    let first = ap (λ (ns : List ℕ). get_or ns 0 0) same in
    let second = ap (λ (ns : List ℕ). get_or ns 1 0) same in
    let third = ap (λ (ns : List ℕ). get_or ns 2 0) same in
    let fourth = ap (λ (ns : List ℕ). get_or ns 3 0) same in
    let is : numbers key.k0 key.k1 key.k2 key.k3 ≡ numbers other.k0 other.k1 other.k2 other.k3 = cc in
    ap (λ (k : KeyNumbers). k ∷ keys) is ∙ ap (λ (ks : List KeyNumbers). other ∷ ks) rest

-- one query after the other
pub as_before_then : {old mid new : PassView} → IsAsBefore old mid → IsAsBefore mid new → IsAsBefore old new
as_before_then first then = record { idle = then.idle; share = then.share ∙ first.share; history = then.history ∙ first.history }
