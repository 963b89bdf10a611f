-- What reads of an open segment leave.
use Rattle.std.specs.Prelude.{◌≡◌, ◌≢◌, ℕ, ◌<◌, List, Bool, Some, Option, Contains, MatchBool, slice_index}
use Rattle.tx_model.specs.declared.gate.TheConstants.{GATE_OPEN}
use Rattle.tx_model.specs.declared.view.Attempt.{Attempt}
use Rattle.tx_model.specs.declared.view.PassView.{PassView}
use Rattle.tx_model.specs.Words.{HasAddress}
use Rattle.tx_model.specs.Made.{Made}
use Rattle.tx_model.specs.Attempt.{gate_value}
use Rattle.mail_words.specs.Key.{KeyNumbers}
use Rattle.tx_heap.specs.Layout.{Sizes, mail_layout, gate_at, region_of}
use Rattle.tx_heap.specs.Segment.{key_at}
use Rattle.tx_heap.specs.Heap.{segment_of}
use Rattle.tx_model.specs.Calls.{OnlyReads}
use Rattle.tx_heap.specs.Calls.{made_sizes, HoldsOverIndex}
use Rattle.tx_buckets.specs.Records.{IsFound}

-- the segment's gate was read and is open in the attempt, which didn't publish it
pub record IsOpened (sizes : Sizes) (attempt : Attempt) (segment : ℕ) : Type 0 where
  pub within : segment < sizes.segments
  pub gate_read : HasAddress attempt.reads (gate_at sizes segment)
  pub is_open : gate_value attempt (gate_at sizes segment) ≡ Some GATE_OPEN
  pub not_published : Contains attempt.published (region_of sizes segment) → ⊥

module _ (made : Made (List (List KeyNumbers))) (old new : PassView) (before now : Attempt) (segment : ℕ) where
  -- the word at an offset of the segment was read
  pub record ReadWord (offset value : ℕ) : Type 0 where
    pub only : OnlyReads old new before now
    pub opened : IsOpened (made_sizes made) now segment
    pub word : HoldsOverIndex made now (λ heap. slice_index (segment_of heap segment) offset ≡ value)

  -- the key of the record at an offset was compared
  pub record ReadKey (at : ℕ) (key : KeyNumbers) (same : Bool) : Type 0 where
    pub only : OnlyReads old new before now
    pub opened : IsOpened (made_sizes made) now segment
    pub compared : HoldsOverIndex made now (λ heap. MatchBool same (key_at (segment_of heap segment) at ≡ key) (key_at (segment_of heap segment) at ≢ key))

  -- the record of the key was looked for
  pub record FoundKey (key : KeyNumbers) (answer : Option ℕ) : Type 0 where
    pub only : OnlyReads old new before now
    pub opened : IsOpened (made_sizes made) now segment
    pub found : HoldsOverIndex made now (λ heap. IsFound mail_layout (segment_of heap segment) key answer)
