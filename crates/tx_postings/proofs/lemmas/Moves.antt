-- Moves of an index: one after another, and what a batch and a fresh segment do.
use Rattle.std.proofs.Common.{◌≡◌, ◌⊎◌, ℕ, ◌+◌, ◌-◌, ◌<◌, ◌≤◌, true, false, List, length, set, get_or, sym, ◌∙◌, ap, subst, arith, inl, inr}
use Rattle.std.proofs.lemmas.Bool.{cases_eq, cases_lt}
use Rattle.std.proofs.lemmas.List.{get_or-set_same, get_or-set_other, get_or_past, length-set}
use Rattle.mail_words.specs.Key.{KeyNumbers}
use Rattle.tx_model.specs.declared.gate.TheConstants.{GATE_OPEN}
use Rattle.tx_model.specs.declared.pass.Receipt.{Receipt}
use Rattle.tx_model.specs.declared.view.Attempt.{Attempt}
use Rattle.tx_model.specs.declared.view.PassView.{PassView}
use Rattle.tx_model.specs.History.{state_at, IsGoodHistory}
use Rattle.tx_model.specs.Made.{Made}
use Rattle.tx_model.specs.Attempt.{starting_at, commit_of}
use Rattle.tx_model.specs.Calls.{Wrote, Received, Committed}
use Rattle.tx_model.proofs.lemmas.Memories.{after_commit_none}
use Rattle.tx_model.proofs.lemmas.States.{state_next}
use Rattle.tx_heap.specs.Layout.{Layout, mail_layout}
use Rattle.tx_heap.specs.Heap.{Heap, need_of}
use Rattle.tx_heap.specs.Index.{HasLanes}
use Rattle.tx_heap.specs.Fresh.{with_fresh}
use Rattle.tx_heap.specs.Mail.{IsGoodMail, mail_heap, mail_budget}
use Rattle.tx_heap.proofs.lemmas.Reads.{fits_alone}
use Rattle.tx_postings.specs.Batch.{AddsKeys}
use Rattle.tx_postings.specs.Filled.{Filled}
use Rattle.tx_postings.specs.declared.leaving.Leaving.TheVariants.{Fresh}
use Rattle.tx_postings.specs.Leaving.{DidLeave}
use Rattle.tx_postings.specs.Moves.{IsMailMove, MovesMail, WritesMove}

-- ---- one after another
pub no_move : (heap : Heap) → IsMailMove heap heap
no_move heap = record { needs = λ message. omega arith; gates = λ segment. omega arith }

pub move_then : {one two three : Heap} → IsMailMove one two → IsMailMove two three → IsMailMove one three
move_then first next = record {
  needs = λ message. omega (arith, first.needs message, next.needs message);
  gates = λ segment. omega (arith, first.gates segment, next.gates segment);
}

-- ---- a word that is set to less, or to more
set_less : (words : List ℕ) (at value k : ℕ) → value ≤ get_or words at 0 → get_or (set words at value) k 0 ≤ get_or words k 0
set_less words at value k less = by_offset (cases_eq at k)
  where
    here : at ≡ k → (at < length words) ⊎ (length words ≤ at) → get_or (set words at value) k 0 ≤ get_or words k 0
    here same (inl below) =
        omega (arith, less, ap (λ i. get_or (set words at value) i 0) (sym same) ∙ get_or-set_same words at value 0 below, ap (λ i. get_or words i 0) same)
    here same (inr past) = omega (arith, get_or_past (set words at value) k 0 (omega (arith, length-set words at value, past, same)))

    by_offset : ((at ≡ k) ⊎ (at ≡ k → ⊥)) → get_or (set words at value) k 0 ≤ get_or words k 0
    by_offset (inl same) = here same (cases_lt at (length words))
    by_offset (inr other) = omega (arith, get_or-set_other words at k value 0 (λ same. other (sym same)))

set_more : (words : List ℕ) (at value k : ℕ) → get_or words at 0 ≤ value → get_or words k 0 ≤ get_or (set words at value) k 0
set_more words at value k more = by_offset (cases_eq at k)
  where
    here : at ≡ k → (at < length words) ⊎ (length words ≤ at) → get_or words k 0 ≤ get_or (set words at value) k 0
    here same (inl below) =
        omega (arith, more, ap (λ i. get_or (set words at value) i 0) (sym same) ∙ get_or-set_same words at value 0 below, ap (λ i. get_or words i 0) same)
    here same (inr past) = omega (arith, get_or_past words k 0 (omega (arith, past, same)))

    by_offset : ((at ≡ k) ⊎ (at ≡ k → ⊥)) → get_or words k 0 ≤ get_or (set words at value) k 0
    by_offset (inl same) = here same (cases_lt at (length words))
    by_offset (inr other) = omega (arith, get_or-set_other words at k value 0 (λ same. other (sym same)))

-- ---- a batch
pub adds_move : {layout : Layout} {message : ℕ} {keys : List KeyNumbers} {old new : Heap} → AddsKeys layout message keys old new → IsMailMove old new
adds_move {message = message} {keys = keys} {old = old} {new = new} adds = record {
  needs =
      λ other. omega (
        arith,
        set_less old.needs (message - 1) (need_of old message - length keys) (other - 1) (omega arith),
        ap
            (λ words. get_or words (other - 1) 0) adds.needs,
      );
  gates = λ segment. omega (arith, ap (λ words. get_or words segment 0) adds.gates);
}

-- ---- a fresh segment
pub fresh_moves : (layout : Layout) (lane before : ℕ) (heap : Heap) → HasLanes heap → IsMailMove heap (with_fresh layout lane before heap)
fresh_moves layout lane before heap lanes = record {
  needs = λ message. omega arith;
  gates = λ segment. set_more heap.gates heap.pool GATE_OPEN segment (omega (arith, closed (cases_lt heap.pool (length heap.segments))));
}
  where
    closed : (heap.pool < length heap.segments) ⊎ (length heap.segments ≤ heap.pool) → get_or heap.gates heap.pool 0 ≡ 0
    closed (inl some) = (lanes.unused heap.pool (omega arith) some).gate
    closed (inr none) = get_or_past heap.gates heap.pool 0 (omega (arith, lanes.gates, none))

-- ---- what an attempt's writes do, and its commit
pub filled_moves : {made : Made (List (List KeyNumbers))} {old new : PassView} {before now : Attempt} {message left : ℕ} → before ≡ starting_at before.start
    → Filled made old new before now message left → WritesMove made now
filled_moves start fill = record {
  published = fill.published ∙ ap (λ (a : Attempt). a.published) start;
  moves = λ memory good fits. adds_move (fill.adds memory good fits);
}

pub left_moves : {made : Made (List (List KeyNumbers))} {attempt : Attempt} {lane segment fresh : ℕ}
    → DidLeave made.sense made.opening lane segment (Fresh fresh) attempt → WritesMove made attempt
left_moves {made} {lane = lane} {segment = segment} left = record {
  published = left.published;
  moves = λ memory good fits. subst (λ next. IsMailMove (mail_heap made.sense memory) next) (sym (left.wrote.changed memory good fits))
      (fresh_moves mail_layout lane segment (mail_heap made.sense memory) good.index.grows.index.lanes);
}

false_not_true : false ≡ true → ⊥
false_not_true e = cc

module _ {made : Made (List (List KeyNumbers))} {old new : PassView} {attempt : Attempt} (writes : WritesMove made attempt)
    (good : IsGoodHistory (IsGoodMail made.sense made.opening) (mail_budget made.sense) made.opening new.history) (front : new.front ≤ length new.history) where
  pub wrote_moves : {stamp : ℕ} → Wrote made.opening old new attempt stamp → MovesMail made new.history stamp
  wrote_moves {stamp} wrote =
      let before = state_at made.opening new.history (stamp - 1) in
      let back : stamp - 1 + 1 ≡ stamp = omega (arith, wrote.later) in
      let there = good.states (stamp - 1) (omega (arith, wrote.complete, front)) in
      let then = ap (state_at made.opening new.history) (sym back) ∙ state_next made.opening new.history (stamp - 1) (commit_of attempt old.owned) wrote.there
      ∙ after_commit_none before attempt old.owned writes.published in
      subst (λ memory. IsMailMove (mail_heap made.sense before) (mail_heap made.sense memory)) (sym then) (writes.moves before there (fits_alone wrote.fits))

  pub committed_moves : {receipt : Receipt} → Committed made.opening old new attempt receipt → receipt.wrote ≡ true → MovesMail made new.history receipt.stamp
  committed_moves {receipt} committed is = by_receipt committed.received
    where
      by_receipt : Received made.opening old new attempt receipt → MovesMail made new.history receipt.stamp
      by_receipt (inl (same, some, wrote)) = wrote_moves wrote
      by_receipt (inr (other, none, read)) = absurd (false_not_true (sym other ∙ is))
