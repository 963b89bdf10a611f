-- What the calls on segments ask of an attempt, and what they leave of it.
use Rattle.std.specs.Prelude.{◌≡◌, ℕ, ◌+◌, ◌<◌, List, [], Some}
use Rattle.tx_model.specs.declared.gate.TheConstants.{GATE_UNUSED, GATE_OPEN}
use Rattle.tx_model.specs.declared.word.Word.{Word}
use Rattle.tx_model.specs.declared.view.Attempt.{Attempt}
use Rattle.tx_model.specs.declared.view.PassView.{PassView}
use Rattle.tx_model.specs.Made.{Made}
use Rattle.tx_model.specs.Memory.{after}
use Rattle.tx_model.specs.Words.{value_of, put, HasAddress}
use Rattle.tx_model.specs.Attempt.{Fits, gate_value, reads_after, reads_with}
use Rattle.mail_words.specs.Key.{KeyNumbers}
use Rattle.tx_model.specs.Attempt.{HoldsOver}
use Rattle.tx_model.specs.Calls.{GoesOnWith}
use Rattle.tx_heap.specs.Layout.{Sizes, sizes_of, mail_layout, pool_at, lane_at, gate_at, link_at, base_at}
use Rattle.tx_heap.specs.Segment.{first_at}
use Rattle.tx_heap.specs.Heap.{Heap, own_of}
use Rattle.tx_heap.specs.Index.{MayGrow}
use Rattle.tx_heap.specs.Mail.{IsGoodMail, mail_heap}
use Rattle.tx_heap.specs.Fresh.{with_fresh}

module _ (made : Made (List (List KeyNumbers))) where
  abbrev pub made_sizes : Sizes
  made_sizes = sizes_of made.sense

  -- this holds of the index in every good memory that fits the attempt, whatever the pass owns, with the attempt's writes over it
  abbrev pub HoldsOverIndex : Attempt → (Heap → Type 0) → Type 0
  HoldsOverIndex attempt P = HoldsOver (IsGoodMail made.sense made.opening) attempt [] (λ memory. P (mail_heap made.sense memory))

  -- the reads after those of a word and of a segment's gate
  abbrev pub reads_with_gate : Attempt → ℕ → ℕ → ℕ → ℕ → List Word
  reads_with_gate attempt addr value segment gate =
      reads_with (value_of attempt.writes (gate_at made_sizes segment)) (reads_after attempt addr value) (gate_at made_sizes segment) gate

  -- the lane word was read and names the segment, and its gate was read and is open
  pub record OpenedSegment (old new : PassView) (before now : Attempt) (lane segment : ℕ) : Type 0 where
    pub goes_on : GoesOnWith old new before now (reads_with_gate before (lane_at lane) (segment + 1) segment GATE_OPEN) before.writes
    pub within : segment < made_sizes.segments
    pub own : HoldsOverIndex now (λ heap. own_of heap lane ≡ segment)
    pub is_open : gate_value now (gate_at made_sizes segment) ≡ Some GATE_OPEN

  -- the pool and the gate of the first unused segment were read
  pub record FoundUnused (old new : PassView) (start now : Attempt) (fresh : ℕ) : Type 0 where
    pub goes_on : GoesOnWith old new start now (reads_with_gate start pool_at fresh fresh GATE_UNUSED) start.writes
    pub within : fresh < made_sizes.segments
    pub pool : HoldsOverIndex now (λ heap. heap.pool ≡ fresh)
    pub gate_read : HasAddress now.reads (gate_at made_sizes fresh)
    pub is_unused : gate_value now (gate_at made_sizes fresh) ≡ Some GATE_UNUSED

  -- the writes that open the segment, set its free offset, link it, and make it the lane's own and the last in use
  abbrev pub writes_of_fresh : List Word → ℕ → ℕ → ℕ → List Word
  writes_of_fresh writes lane before fresh =
      let opened = put writes (gate_at made_sizes fresh) GATE_OPEN in
      let blank = put opened (base_at made_sizes fresh) (first_at mail_layout) in
      let linked = put blank (link_at made_sizes fresh) (before + 1) in
      put (put linked (lane_at lane) (fresh + 1)) pool_at (fresh + 1)

  -- the first unused segment was put in front of the lane's own one
  pub record MadeFresh (old new : PassView) (start now : Attempt) (lane before fresh : ℕ) : Type 0 where
    pub goes_on : GoesOnWith old new start now (reads_with_gate start pool_at fresh fresh GATE_UNUSED) (writes_of_fresh start.writes lane before fresh)
    pub within : fresh < made_sizes.segments
    -- over each memory, the index is what it was, with the fresh segment
    pub changed : (memory : List ℕ) → IsGoodMail made.sense made.opening memory → Fits memory now []
        → ((mail_heap made.sense (after memory start.writes)).pool ≡ fresh)
        × (mail_heap made.sense (after memory now.writes) ≡ with_fresh mail_layout lane before (mail_heap made.sense (after memory start.writes)))
    pub grows : HoldsOverIndex now (MayGrow mail_layout)
    pub is_open : gate_value now (gate_at made_sizes fresh) ≡ Some GATE_OPEN
