-- What leaving a full segment did.
use Rattle.std.specs.Prelude.{ℕ, ◌<◌, ◌≤◌, List, Option, Some, None, slice_index}
use Rattle.std.specs.declared.convert.Infallible.{Infallible}
use Rattle.tx_model.specs.declared.pass.Receipt.{Receipt}
use Rattle.tx_model.specs.declared.view.Attempt.{Attempt}
use Rattle.tx_model.specs.declared.view.PassView.{PassView}
use Rattle.tx_model.specs.Made.{Made}
use Rattle.tx_model.specs.Calls.{Committed}
use Rattle.mail_words.specs.Key.{KeyNumbers}
use Rattle.tx_heap.specs.Layout.{sizes_of}
use Rattle.tx_postings.specs.Leaving.{DidLeave}
use Rattle.tx_postings.specs.declared.leaving.Leaving.{Leaving}

-- a lane and a segment of the index
abbrev pub MayLeave : List (List KeyNumbers) → List ℕ → Type 0
MayLeave lists task = (slice_index task 0 < 8) × (slice_index task 1 < (sizes_of lists).segments)

-- what an attempt did; none refuses
abbrev pub DidTry : List (List KeyNumbers) → List ℕ → (lane segment : ℕ) → Leaving → Option Infallible → Attempt → Type 0
DidTry lists opening lane segment leaving None attempt = DidLeave lists opening lane segment leaving attempt
DidTry lists opening lane segment leaving (Some never) attempt = ⊥

-- an attempt that began with all that the pass knew came to this answer, and was committed
pub record HasLeft (made : Made (List (List KeyNumbers))) (old new : PassView) (lane segment : ℕ) (leaving : Leaving) : Type 0 where
  pub attempt : Attempt
  pub receipt : Receipt
  pub fresh : old.front ≤ attempt.start
  pub did : DidLeave made.sense made.opening lane segment leaving attempt
  pub committed : Committed made.opening old new attempt receipt
