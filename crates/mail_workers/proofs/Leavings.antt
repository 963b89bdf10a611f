-- A segment that was left, in an attempt that was committed.
use Rattle.std.proofs.Common.{◌≡◌, ◌≢◌, ◌⊎◌, ℕ, ◌<◌, ◌≤◌, List, [], ◌∷◌, length, get_or, set, slice_index, sym, ◌∙◌, ap, subst, arith, inl, inr}
use Rattle.std.proofs.lemmas.Bool.{cases_eq, cases_lt}
use Rattle.std.proofs.lemmas.List.{get_or-set_same, get_or-set_other, get_or_past, length-set}
use Rattle.tx_model.specs.declared.gate.TheConstants.{GATE_OPEN, GATE_PACKED}
use Rattle.tx_model.specs.declared.pass.Receipt.{Receipt}
use Rattle.tx_model.specs.declared.view.Attempt.{Attempt}
use Rattle.tx_model.specs.declared.view.PassView.{PassView}
use Rattle.tx_model.specs.Made.{Made}
use Rattle.tx_model.specs.Pass.{IsPass}
use Rattle.tx_model.specs.Calls.{WornOut}
use Rattle.tx_model.specs.Tries.{Done}
use Rattle.tx_model.proofs.lemmas.States.{budget_bounds}
use Rattle.mail_words.specs.Key.{KeyNumbers}
use Rattle.tx_heap.specs.Layout.{Layout, mail_layout}
use Rattle.tx_heap.specs.Heap.{Heap}
use Rattle.tx_heap.specs.Index.{HasLanes}
use Rattle.tx_heap.specs.Fresh.{with_fresh}
use Rattle.tx_heap.specs.Mail.{IsGoodMail, mail_heap, mail_budget}
use Rattle.tx_postings.specs.Leaving.{Leaves, DidLeave}
use Rattle.tx_postings.specs.declared.leaving.Leaving.{Leaving}
use Rattle.tx_postings.specs.declared.leaving.Leaving.TheVariants.{Fresh, Moved, Roomy}
use Rattle.tx_postings.proofs.lemmas.Moves.{fresh_moves}
use Rattle.mail_workers.specs.Indexing.{IsIndexing, HasMoved}
use Rattle.mail_workers.specs.Leaving.{DidTry, HasLeft}
use Rattle.mail_workers.proofs.Moves.{WritesIndex, committed_moved}

-- a gate that is opened isn't packed
open_not_packed : (gates : List ℕ) (at segment : ℕ) → get_or (set gates at GATE_OPEN) segment 0 ≡ GATE_PACKED → get_or gates segment 0 ≡ GATE_PACKED
open_not_packed gates at segment packed = by_index (cases_eq at segment)
  where
    here : at ≡ segment → (at < length gates) ⊎ (length gates ≤ at) → get_or gates segment 0 ≡ GATE_PACKED
    here same (inl below) =
        absurd (omega (arith, packed, ap (λ i. get_or (set gates at GATE_OPEN) i 0) (sym same) ∙ get_or-set_same gates at GATE_OPEN 0 below))
    here same (inr past) =
        absurd (omega (arith, packed, get_or_past (set gates at GATE_OPEN) segment 0 (omega (arith, length-set gates at GATE_OPEN, past, same))))

    by_index : ((at ≡ segment) ⊎ (at ≡ segment → ⊥)) → get_or gates segment 0 ≡ GATE_PACKED
    by_index (inl same) = here same (cases_lt at (length gates))
    by_index (inr other) = sym (get_or-set_other gates at segment GATE_OPEN 0 (λ same. other (sym same))) ∙ packed

fresh_index : (layout : Layout) (lane before : ℕ) (heap : Heap) → HasLanes heap → IsIndexing heap (with_fresh layout lane before heap)
fresh_index layout lane before heap lanes = record {
  moves = fresh_moves layout lane before heap lanes;
  packs_none = λ segment packed. open_not_packed heap.gates heap.pool segment packed;
}

-- the writes, if any, put a fresh segment in
leaves_index : (made : Made (List (List KeyNumbers))) (lane segment : ℕ) {attempt : Attempt} (leaving : Leaving)
    → Leaves made.sense made.opening lane segment leaving attempt → attempt.writes ≢ [] → WritesIndex made attempt
leaves_index made lane segment (Fresh fresh) wrote some = λ memory good fits.
    subst (IsIndexing (mail_heap made.sense memory)) (sym (wrote.changed memory good fits))
    (fresh_index mail_layout lane segment (mail_heap made.sense memory) good.index.grows.index.lanes)
leaves_index made lane segment (Moved current) none some = absurd (some none)
leaves_index made lane segment (Roomy free) none some = absurd (some none)

pub left_moved : {made : Made (List (List KeyNumbers))} {old new : PassView} {now : Attempt} {lane segment : ℕ} {leaving : Leaving}
    → IsPass IsGoodMail mail_budget made new now → HasLeft made old new lane segment leaving → HasMoved made old new
left_moved {made} {lane = lane} {segment = segment} {leaving = leaving} knows left =
    committed_moved {attempt = left.attempt} knows left.did.sealed left.did.published
    (leaves_index made lane segment leaving left.did.wrote) left.committed

-- the lane and the segment that were left are those that were to be left
pub has_left : {made : Made (List (List KeyNumbers))} {old new : PassView} {lane segment lane_then segment_then : ℕ} {leaving : Leaving} {receipt : Receipt}
    → lane_then ∷ segment_then ∷ [] ≡ lane ∷ segment ∷ []
    → Done (DidTry made.sense made.opening lane_then segment_then leaving) made.opening old new receipt → HasLeft made old new lane segment leaving
has_left {made} {leaving = leaving} {receipt = receipt} same done = record {
  attempt = done.attempt;
  receipt = receipt;
  fresh = done.fresh;
  did = subst (λ (task : List ℕ). DidLeave made.sense made.opening (slice_index task 0) (slice_index task 1) leaving done.attempt) same done.meaning;
  committed = done.committed;
}

-- where the opening's budget is below the life, the memory is never worn out
pub commit_never_worn : {made : Made (List (List KeyNumbers))} {left new : PassView} {attempt now : Attempt} {index : ℕ}
    → IsPass IsGoodMail mail_budget made new now → mail_budget made.sense made.opening < made.life → WornOut made.life left new attempt index → ⊥
commit_never_worn {made} {new = new} knows life worn =
    let most = (budget_bounds (IsGoodMail made.sense made.opening) (mail_budget made.sense) made.opening new.history knows.good_states).1 in
    omega (arith, most, worn.full, life)
