-- The opening has no row, and all words are to come.
use Rattle.std.specs.Prelude.{Contains}
use Rattle.std.proofs.Common.{◌≡◌, ◌≢◌, ℕ, ◌≤◌, List, [], ◌∷◌, get_or, refl, sym, ap, ◌∙◌, subst, arith}
use Rattle.mail_words.specs.Key.{KeyNumbers}
use Rattle.tx_heap.specs.Layout.{mail_layout}
use Rattle.tx_heap.specs.Heap.{Heap, need_of}
use Rattle.tx_heap.specs.Index.{rows_of}
use Rattle.tx_heap.specs.Mail.{mail_heap}
use Rattle.tx_heap.specs.Opening.{opening_of}
use Rattle.tx_heap.specs.OpeningLaw.{opening_parts}
use Rattle.tx_heap.specs.Pairwise.{Pairwise}
use Rattle.tx_heap.specs.Examples.{a}
use Rattle.tx_heap.specs.Segment.{Row}
use Rattle.tx_heap.proofs.lemmas.Lanes.{contains_none}
use Rattle.tx_heap.proofs.lemmas.Opening.{opening_has_no_rows}
use Rattle.mail_index.proofs.laws.index_examples.Goals as goal

none : rows_of mail_layout (mail_heap [] (opening_of [])) ≡ []
none = opening_has_no_rows []

pub returns-clause-no_lists : goal.returns-clause-no_lists
returns-clause-no_lists c = record {
  sense = refl;
  opening = refl;
  no_row = none;
  legal = λ k commit there. cc;
  needs = λ message from to. absurd (omega (arith, from, to));
  once = subst (λ (rows : List Row). Pairwise ◌≢◌ rows) (sym none) tt;
  rows = λ row. (
    λ among. absurd (contains_none row (subst (λ (rows : List Row). Contains rows row) none among)),
    λ among. absurd (contains_none row among),
  );
}

pub returns-clause-nothing_committed : goal.returns-clause-nothing_committed
returns-clause-nothing_committed c index =
    let need : need_of (mail_heap ((a ∷ []) ∷ []) (opening_of ((a ∷ []) ∷ []))) 1 ≡ 1 = ap (λ (heap : Heap). need_of heap 1) (opening_parts
    ((a ∷ []) ∷ []) 8 (omega arith)) in
    omega (arith, need, index.needs 1 (omega arith) (omega arith))

pub returns-clause-rows_at_once : goal.returns-clause-rows_at_once
returns-clause-rows_at_once c opening index =
    let first : 9 ≡ 8 = ap (λ (words : List ℕ). get_or words 0 0) index.opening in
    omega (arith, first)
