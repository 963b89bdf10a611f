-- What a closed ring has, where all words are in its index.
use Rattle.std.proofs.Common.{◌≡◌, ℕ, ◌-◌, ◌≤◌, List, length, take, refl, sym, ap, ◌∙◌, subst, arith, Contains, ◌↔◌}
use Rattle.std.proofs.lemmas.List.{take_all}
use Rattle.tx_model.specs.declared.view.Attempt.{Attempt}
use Rattle.tx_model.specs.declared.view.PassView.{PassView}
use Rattle.tx_model.specs.History.{state_at}
use Rattle.tx_model.specs.Made.{Made}
use Rattle.tx_model.specs.Pass.{IsPass}
use Rattle.mail_words.specs.Key.{KeyNumbers}
use Rattle.mail_query.specs.ListTable.{table_of}
use Rattle.ring_words.specs.Closing.{Ending, ending}
use Rattle.tx_heap.specs.Layout.{mail_layout}
use Rattle.tx_heap.specs.Heap.{Heap}
use Rattle.tx_heap.specs.Index.{list_of, added_keys, rows_of, IsGoodIndex}
use Rattle.tx_heap.specs.Opening.{opening_of}
use Rattle.tx_heap.specs.Mail.{IsGoodMail, mail_heap, mail_budget}
use Rattle.tx_heap.specs.Segment.{Row}
use Rattle.tx_heap.proofs.lemmas.Opening.{opening_has_no_rows}
use Rattle.mail_answers.specs.Complete.{IsComplete, last_index}
use Rattle.mail_index.specs.Indexed.{IsIndexed, IsIndexOf}
use Rattle.mail_index.proofs.Tables.{pair_of_list}

module _ {lists : List (List KeyNumbers)} {heap : Heap} (good : IsGoodIndex mail_layout lists heap) (complete : IsComplete lists heap) where
  all_added : (message : ℕ) → 1 ≤ message → message ≤ length lists → added_keys lists heap message ≡ list_of lists message
  all_added message from to =
      ap (λ need. take (length (list_of lists message) - need) (list_of lists message)) (complete.needs message from to)
      ∙ take_all (length (list_of lists message) - 0) (list_of lists message) (omega arith)

  -- the rows are the pairs of the lists
  rows_are : (row : Row) → Contains (rows_of mail_layout heap) row ↔ Contains (table_of lists) row
  rows_are row = (
    λ among.
        let (from, to, there) = (good.rows.exactly row).0 among in
        (pair_of_list lists row.0 row.1).1
        (from, omega (arith, to), subst (λ keys. Contains keys row.0) (all_added row.1 from to) there),
    λ among.
        let (from, below, there) = (pair_of_list lists row.0 row.1).0 among in
        let to : row.1 ≤ length lists = omega (arith, below) in
        (good.rows.exactly row).1 (from, to, subst (λ keys. Contains keys row.0) (sym (all_added row.1 from to)) there),
  )

pub ended : {made : Made (List (List KeyNumbers))} {view : PassView} {attempt : Attempt} {e : Ending (List (List KeyNumbers))}
    → IsPass IsGoodMail mail_budget made view attempt → IsIndexed made.sense made view → e ≡ ending made view → IsIndexOf made.sense e
ended {made} {view} {e = e} knows indexed is = subst (IsIndexOf made.sense) (sym is) (record {
  sense = refl;
  opening = indexed.opening;
  no_row = ap (λ (memory : List ℕ). rows_of mail_layout (mail_heap made.sense memory)) indexed.opening ∙ opening_has_no_rows made.sense;
  legal = knows.legal;
  needs = indexed.complete.needs;
  once = last.index.rows.once;
  rows = rows_are last.index indexed.complete;
})
  where
    last : IsGoodMail made.sense made.opening (state_at made.opening view.history (length view.history))
    last = knows.good_states.states (length view.history) (omega arith)
