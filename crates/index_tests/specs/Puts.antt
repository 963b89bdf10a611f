-- What a test asks of an attempt before it puts a record.
use Rattle.std.specs.Prelude.{◌≡◌, ℕ, List}
use Rattle.tx_model.specs.declared.pass.PassState.TheVariants.{Active}
use Rattle.tx_model.specs.declared.view.Attempt.{Attempt}
use Rattle.tx_model.specs.declared.view.PassView.{PassView}
use Rattle.tx_model.specs.Made.{Made}
use Rattle.mail_words.specs.Key.{KeyNumbers}
use Rattle.tx_heap.specs.Layout.{mail_layout}
use Rattle.tx_heap.specs.Heap.{own_of}
use Rattle.tx_heap.specs.Index.{IsIndex}
use Rattle.tx_heap.specs.Calls.{made_sizes, HoldsOverIndex}
use Rattle.tx_buckets.specs.Reading.{IsOpened}

-- the lane's own segment is open, the index has its form
pub record IsReady (made : Made (List (List KeyNumbers))) (view : PassView) (attempt : Attempt) (lane segment : ℕ) : Type 0 where
  pub active : view.state ≡ Active
  pub opened : IsOpened (made_sizes made) attempt segment
  pub index : HoldsOverIndex made attempt (IsIndex mail_layout)
  pub own : HoldsOverIndex made attempt (λ heap. own_of heap lane ≡ segment)
