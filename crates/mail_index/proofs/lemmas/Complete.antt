-- Where the workers began with the opening, they leave a complete index.
use Rattle.std.proofs.Common.{◌≡◌, ◌≢◌, ◌⊎◌, ℕ, ◌<◌, ◌≤◌, List, [], length, ap, subst, arith, inl, inr}
use Rattle.std.proofs.lemmas.Bool.{cases_lt}
use Rattle.tx_model.specs.declared.gate.TheConstants.{GATE_PACKED}
use Rattle.tx_model.specs.declared.history.Commit.{Commit}
use Rattle.tx_model.specs.declared.view.PassView.{PassView}
use Rattle.tx_model.specs.History.{state_at}
use Rattle.tx_model.specs.Made.{Made}
use Rattle.mail_words.specs.Key.{KeyNumbers}
use Rattle.tx_heap.specs.Layout.{sizes_of}
use Rattle.tx_heap.specs.Heap.{Heap, gate_of}
use Rattle.tx_heap.specs.Mail.{mail_heap}
use Rattle.tx_heap.specs.Opening.{opening_of}
use Rattle.tx_heap.specs.OpeningLaw.{opening_heap, opening_parts}
use Rattle.tx_heap.proofs.lemmas.Opening.{open_gate, unused_gate}
use Rattle.mail_workers.specs.Workers.{AreIndexed}
use Rattle.mail_answers.specs.Complete.{IsComplete, last_index}

-- no segment of the opening is packed
none_packed : (lists : List (List KeyNumbers)) (segment : ℕ) → gate_of (mail_heap lists (opening_of lists)) segment ≢ GATE_PACKED
none_packed lists segment packed = by_place (cases_lt segment 8)
  where
    is : gate_of (mail_heap lists (opening_of lists)) segment ≡ gate_of (opening_heap lists (sizes_of lists).segments) segment
    is = ap (λ (heap : Heap). gate_of heap segment) (opening_parts lists (sizes_of lists).segments (omega arith))

    by_place : (segment < 8) ⊎ (8 ≤ segment) → ⊥
    by_place (inl below) = omega (arith, packed, is, open_gate lists (sizes_of lists).segments (omega arith) segment below)
    by_place (inr from) = omega (arith, packed, is, unused_gate lists (sizes_of lists).segments (omega arith) segment from)

pub all_indexed : {made : Made (List (List KeyNumbers))} {old new : PassView} → made.opening ≡ opening_of made.sense → old.history ≡ []
    → AreIndexed made old new → IsComplete made.sense (last_index made new.history)
all_indexed {made} {old} {new} opening none are = record {
  needs = are.needs;
  none_sealed = are.none_sealed;
  none_packed = λ segment below packed. none_packed made.sense segment (at_first segment packed);
}
  where
    -- what is packed now was packed in the opening
    at_first : (segment : ℕ) → gate_of (last_index made new.history) segment ≡ GATE_PACKED
        → gate_of (mail_heap made.sense (opening_of made.sense)) segment ≡ GATE_PACKED
    at_first segment packed =
        subst (λ (memory : List ℕ). gate_of (mail_heap made.sense memory) segment ≡ GATE_PACKED) opening
        (subst (λ (h : List Commit). gate_of (mail_heap made.sense (state_at made.opening new.history (length h))) segment ≡ GATE_PACKED) none
        (are.packs_none segment packed))
