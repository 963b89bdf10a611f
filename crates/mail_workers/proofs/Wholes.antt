-- What a whole pass knows at the end: all commits since the workers began are moves of the index, and all words are in it.
use Rattle.std.proofs.Common.{◌≡◌, ◌≢◌, ℕ, zero, suc, ◌+◌, ◌-◌, ◌<◌, ◌≤◌, List, [], length, sym, ◌∙◌, ap, subst, arith, inl, inr, Result, Ok, Err, OnOk}
use Rattle.std.specs.Prelude.{Contains}
use Rattle.std.specs.List.{range_with_len}
use Rattle.std.proofs.lemmas.List.FromFn.{length-range_with_len, get_or-range_with_len}
use Rattle.tx_model.specs.declared.gate.TheConstants.{GATE_SEALED, GATE_PACKED}
use Rattle.tx_model.specs.declared.gate.Region.{Region}
use Rattle.tx_model.specs.declared.pass.PassState.TheVariants.{Idle}
use Rattle.tx_model.specs.declared.view.Attempt.{Attempt}
use Rattle.tx_model.specs.declared.view.PassView.{PassView}
use Rattle.tx_model.specs.History.{state_at}
use Rattle.tx_model.specs.Made.{Made, IsMade}
use Rattle.tx_model.specs.Pass.{IsPass, IsWhole, KnowsAll, OwnsRegion}
use Rattle.tx_model.proofs.lemmas.Histories.{beginning_length}
use Rattle.tx_model.proofs.lemmas.Passes.{idle_not_stamped}
use Rattle.mail_words.specs.Key.{KeyNumbers}
use Rattle.tx_heap.specs.Layout.{region_of}
use Rattle.tx_heap.specs.Heap.{need_of, gate_of}
use Rattle.tx_heap.specs.Mail.{AllowsRegions, IsGoodMail, mail_budget}
use Rattle.tx_heap.specs.Calls.{made_sizes}
use Rattle.tx_heap.proofs.lemmas.Addresses.{has_region_of}
use Rattle.tx_heap.proofs.lemmas.HeapWords.{gate_word}
use Rattle.mail_workers.specs.Indexing.{index_at, IsFinished}
use Rattle.mail_workers.specs.Workers.{HasGained, AllMoves, AreIndexed}

-- what holds anyway holds at `Ok`
pub on_ok : {T E F : Type 0} (result : Result T E) → F → OnOk result F
on_ok (Ok value) holds = holds
on_ok (Err error) holds = tt

-- ---- numbers from 1 on
has_number : (count number : ℕ) → 1 ≤ number → number ≤ count → Contains (range_with_len 1 count) number
has_number count number from to = (
  number - 1,
  omega (arith, from, to, length-range_with_len 1 count),
  get_or-range_with_len 1 count (number - 1) number (omega (arith, from, to)) ∙ omega (arith, from),
)

within_numbers : (count number : ℕ) → Contains (range_with_len 1 count) number → number ≤ count
within_numbers count number (i, below, is) =
    let inside : i < count = omega (arith, below, length-range_with_len 1 count) in
    omega (arith, inside, is, get_or-range_with_len 1 count i number inside)

module _ {made : Made (List (List KeyNumbers))} {old new : PassView} {before now : Attempt} {drawn_before drawn : List ℕ}
    (knew : IsPass IsGoodMail mail_budget made old before)
    (knows : IsPass IsGoodMail mail_budget made new now) (was_idle : old.state ≡ Idle) (idle : new.state ≡ Idle) (whole : IsWhole old)
    (share : new.share ≡ old.share)
    (gained : HasGained made old drawn_before new drawn) where
  knew_all : KnowsAll old
  knew_all = knew.whole whole (idle_not_stamped old.state was_idle)

  knows_all : KnowsAll new
  knows_all = knows.whole (share ∙ whole) (idle_not_stamped new.state idle)

  pub all_moves : AllMoves made old new
  all_moves stamp past within =
      elim (gained.moves stamp (subst (λ mine. Contains mine stamp) (sym knows_all.mine)
      (has_number (length new.history) stamp (omega (arith, past)) within))) [
        | inl before ↦ absurd (omega (arith, past, within_numbers (length old.history) stamp (subst (λ mine. Contains mine stamp) knew_all.mine before)))
        | inr move ↦ move
      ]

  -- no need rises
  needs_fall : (message from more : ℕ) → length old.history ≤ from → from + more ≤ length new.history
      → need_of (index_at made new.history (from + more)) message ≤ need_of (index_at made new.history from) message
  needs_fall message from zero past within =
      let same : from + zero ≡ from = omega arith in
      omega (arith, ap (λ k. need_of (index_at made new.history k) message) same)
  needs_fall message from (suc more) past within =
      let next = from + more + 1 in
      let move = all_moves next (omega (arith, past)) (omega (arith, within)) in
      let here : next - 1 ≡ from + more = omega arith in
      let last : from + suc more ≡ next = omega arith in
      let need = λ (k : ℕ). need_of (index_at made new.history k) message in
      omega (arith, needs_fall message from more past (omega (arith, within)), move.step.moves.needs message, ap need here, ap need last)

  -- no segment is packed that wasn't
  packed_before : (segment from more : ℕ) → length old.history ≤ from → from + more ≤ length new.history
      → gate_of (index_at made new.history (from + more)) segment ≡ GATE_PACKED
      → gate_of (index_at made new.history from) segment ≡ GATE_PACKED
  packed_before segment from zero past within packed =
      let same : from ≡ from + zero = omega arith in
      ap (λ k. gate_of (index_at made new.history k) segment) same ∙ packed
  packed_before segment from (suc more) past within packed =
      let next = from + more + 1 in
      let move = all_moves next (omega (arith, past)) (omega (arith, within)) in
      let here : from + more ≡ next - 1 = omega arith in
      let last : next ≡ from + suc more = omega arith in
      let gate = λ (k : ℕ). gate_of (index_at made new.history k) segment in
      packed_before segment from more past (omega (arith, within)) (ap gate here ∙ move.step.packs_none segment (ap gate last ∙ packed))

  module _ (is_made : IsMade AllowsRegions IsGoodMail made) (owns_none : new.owned ≡ []) (none_before : drawn_before ≡ [])
      (all : drawn ≡ range_with_len 1 (made_sizes made).messages) where
    finished : (message : ℕ) → 1 ≤ message → message ≤ (made_sizes made).messages → IsFinished made new.history old.front message
    finished message from to =
        elim (gained.finished message (subst (λ d. Contains d message) (sym all) (has_number (made_sizes made).messages message from to))) [
          | inl before ↦ absurd (none_among (subst (λ d. Contains d message) none_before before))
          | inr was ↦ was
        ]
      where
        none_among : Contains [] message → ⊥
        none_among (i, below, is) = omega (arith, below)

    none_to_come : (message : ℕ) → 1 ≤ message → message ≤ (made_sizes made).messages → need_of (index_at made new.history (length new.history)) message ≡ 0
    none_to_come message from to =
        let was = finished message from to in
        let rest : was.state + (length new.history - was.state) ≡ length new.history = omega (arith, was.happened) in
        let fell = needs_fall message was.state (length new.history - was.state) (omega (arith, was.no_older, knew_all.front)) (omega (arith, rest)) in
        omega (arith, fell, was.need, ap (λ k. need_of (index_at made new.history k) message) rest)

    none_sealed : (segment : ℕ) → segment < (made_sizes made).segments → gate_of (index_at made new.history (length new.history)) segment ≢ GATE_SEALED
    none_sealed segment below is_sealed =
        let sizes = made_sizes made in
        let region = region_of sizes segment in
        let among = subst (λ (regions : List Region). Contains regions region) (sym is_made.allowed) (has_region_of sizes segment below) in
        let here = sym (gate_word sizes (state_at made.opening new.history (length new.history)) segment below) ∙ is_sealed in
        none_owned (subst (λ owned. OwnsRegion owned region) owns_none ((knows.sealed (share ∙ whole) (idle_not_stamped new.state idle) region among).0 here))
      where
        none_owned : OwnsRegion [] (region_of (made_sizes made) segment) → ⊥
        none_owned (i, o, below, at, is) = omega (arith, below)

    pub are_indexed : AreIndexed made old new
    are_indexed = record {
      needs = none_to_come;
      none_sealed = none_sealed;
      packs_none = λ segment packed.
          let rest : length old.history + (length new.history - length old.history) ≡ length new.history = omega (arith, gained_long) in
          packed_before segment (length old.history) (length new.history - length old.history) (omega arith) (omega (arith, rest))
          (ap (λ k. gate_of (index_at made new.history k) segment) rest ∙ packed);
    }
      where
        gained_long : length old.history ≤ length new.history
        gained_long = beginning_length old.history new.history gained.history
