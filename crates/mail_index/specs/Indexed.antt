-- The index of word lists on a ring, while it is open and once it is closed.
use Rattle.std.specs.Prelude.{◌≡◌, ◌≢◌, ◌↔◌, ℕ, ◌≤◌, ◌^◌, List, [], length, Contains}
use Rattle.tx_model.specs.declared.pass.PassState.TheVariants.{Idle}
use Rattle.tx_model.specs.declared.view.PassView.{PassView}
use Rattle.tx_model.specs.History.{IsLegal}
use Rattle.tx_model.specs.Made.{Made}
use Rattle.tx_model.specs.Pass.{IsWhole}
use Rattle.ring_words.specs.Closing.{Ending}
use Rattle.mail_words.specs.Key.{KeyNumbers}
use Rattle.mail_query.specs.ListTable.{table_of}
use Rattle.tx_heap.specs.Layout.{mail_layout, sizes_of, regions_of}
use Rattle.tx_heap.specs.Heap.{need_of}
use Rattle.tx_heap.specs.Index.{rows_of}
use Rattle.tx_heap.specs.Mail.{mail_heap}
use Rattle.tx_heap.specs.Opening.{opening_of}
use Rattle.tx_heap.specs.Pairwise.{Pairwise}
use Rattle.tx_heap.specs.Segment.{Row}
use Rattle.mail_answers.specs.Complete.{IsComplete, last_index}

-- what the memory of an index of these lists is made with
abbrev pub made_for : List (List KeyNumbers) → Made (List (List KeyNumbers))
made_for lists = record { sense = lists; opening = opening_of lists; regions = regions_of (sizes_of lists); life = 2 ^ 60 }

-- the memory was made for the lists, with no word in the index; its one pass is idle, and now all words are in the index
pub record IsIndexed (lists : List (List KeyNumbers)) (made : Made (List (List KeyNumbers))) (view : PassView) : Type 0 where
  pub sense : made.sense ≡ lists
  pub opening : made.opening ≡ opening_of made.sense
  pub idle : view.state ≡ Idle
  pub whole : IsWhole view
  pub complete : IsComplete made.sense (last_index made view.history)

-- A ring that was closed has the index of these lists. It opened with no row, its history is legal, and at its end no word is to come, and
-- the rows are the pairs of a key with the number of a list that has it, each once.
pub record IsIndexOf (lists : List (List KeyNumbers)) (ending : Ending (List (List KeyNumbers))) : Type 0 where
  pub sense : ending.made.sense ≡ lists
  pub opening : ending.made.opening ≡ opening_of lists
  pub no_row : rows_of mail_layout (mail_heap lists ending.made.opening) ≡ []
  pub legal : IsLegal ending.made.opening ending.history
  pub needs : (message : ℕ) → 1 ≤ message → message ≤ length lists → need_of (last_index ending.made ending.history) message ≡ 0
  pub once : Pairwise ◌≢◌ (rows_of mail_layout (last_index ending.made ending.history))
  pub rows : (row : Row) → Contains (rows_of mail_layout (last_index ending.made ending.history)) row ↔ Contains (table_of lists) row
