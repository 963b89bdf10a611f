-- The messages of a key in the open segments of its lane.
use Rattle.std.specs.Prelude.{◌≡◌, ◌⊎◌, ℕ, ◌++◌, List, [], ◌∷◌, map, slice_index, Some}
use Rattle.tx_model.specs.declared.gate.TheConstants.{GATE_OPEN, GATE_SEALED, GATE_PACKED}
use Rattle.tx_model.specs.declared.pass.Stop.{Stop}
use Rattle.tx_model.specs.declared.history.Commit.{Commit}
use Rattle.tx_model.specs.declared.view.Attempt.{Attempt}
use Rattle.tx_model.specs.declared.view.PassView.{PassView}
use Rattle.tx_model.specs.Made.{Made}
use Rattle.tx_model.specs.Attempt.{Fits, gate_value}
use Rattle.mail_words.specs.Key.{KeyNumbers}
use Rattle.tx_heap.specs.Layout.{Layout, mail_layout, gate_at}
use Rattle.tx_heap.specs.Segment.{Cell, record_at}
use Rattle.tx_heap.specs.Heap.{Heap, gate_of, segment_of, lane_segments}
use Rattle.tx_heap.specs.Mail.{IsGoodMail, mail_heap}
use Rattle.tx_model.specs.Calls.{IsStopped, OnlyReads}
use Rattle.tx_heap.specs.Calls.{made_sizes, HoldsOverIndex}
use Rattle.tx_buckets.specs.Records.{IsRecordOf}
use Rattle.tx_postings.specs.declared.listing.ListStop.{ListStop}
use Rattle.tx_postings.specs.declared.listing.ListStop.TheVariants.{Stopped, Sealed, Memory}

-- ---- in an index
-- the messages of the key's record, the newest first, or none where it has no record
abbrev pub AreOfRecord : Layout → List ℕ → KeyNumbers → List ℕ → Type 0
AreOfRecord layout words key messages =
    ((at : ℕ) × IsRecordOf layout words key at × (messages ≡ map (λ (c : Cell). c.message) (record_at words at).cells))
    ⊎ (((at : ℕ) → ¬ IsRecordOf layout words key at) × (messages ≡ []))

-- an open segment has those of its record, and a packed one is passed over
abbrev pub AreOfSegment : Layout → KeyNumbers → Heap → ℕ → List ℕ → Type 0
AreOfSegment layout key heap segment messages =
    ((gate_of heap segment ≡ GATE_OPEN) × AreOfRecord layout (segment_of heap segment) key messages)
    ⊎ ((gate_of heap segment ≡ GATE_PACKED) × (messages ≡ []))

-- those of several segments, one segment after the other
abbrev pub AreOfSegments : Layout → KeyNumbers → Heap → List ℕ → List ℕ → Type 0
AreOfSegments layout key heap [] messages = messages ≡ []
AreOfSegments layout key heap (segment ∷ segments) messages =
    (here rest : List ℕ) × (messages ≡ here ++ rest) × AreOfSegment layout key heap segment here × AreOfSegments layout key heap segments rest

-- those of all segments of the key's lane, the newest segment first
abbrev pub AreListed : Layout → KeyNumbers → Heap → List ℕ → Type 0
AreListed layout key heap messages = AreOfSegments layout key heap (lane_segments heap (layout.lane_of key)) messages

-- the segment of the lane is sealed, and the messages are those of the segments in front of it
pub record IsCutShort (layout : Layout) (key : KeyNumbers) (segment : ℕ) (heap : Heap) (messages : List ℕ) : Type 0 where
  pub front : List ℕ
  pub behind : List ℕ
  pub among : lane_segments heap (layout.lane_of key) ≡ front ++ segment ∷ behind
  pub is_sealed : gate_of heap segment ≡ GATE_SEALED
  pub listed : AreOfSegments layout key heap front messages

-- ---- what the calls leave
module _ (made : Made (List (List KeyNumbers))) (old new : PassView) (before now : Attempt) (key : KeyNumbers) (items then : List ℕ) where
  -- the messages came behind what there was, and are those of every good memory that fits the attempt
  pub record Listed : Type 0 where
    pub only : OnlyReads old new before now
    pub messages : List ℕ
    pub added : then ≡ items ++ messages
    pub listed : (memory : List ℕ) → IsGoodMail made.sense made.opening memory → Fits memory now []
        → AreListed mail_layout key (mail_heap made.sense memory) messages

  -- the gate of a segment of the key's lane was read as sealed
  pub record MetSealed (segment : ℕ) : Type 0 where
    pub only : OnlyReads old new before now
    pub gate_read : gate_value now (gate_at (made_sizes made) segment) ≡ Some GATE_SEALED
    pub messages : List ℕ
    pub added : then ≡ items ++ messages
    pub cut_short : (memory : List ℕ) → IsGoodMail made.sense made.opening memory → Fits memory now []
        → IsCutShort mail_layout key segment (mail_heap made.sense memory) messages

  -- the messages of the key's record in one open segment came
  pub record ListedOpen (segment : ℕ) : Type 0 where
    pub only : OnlyReads old new before now
    pub messages : List ℕ
    pub added : then ≡ items ++ messages
    pub here : HoldsOverIndex made now (λ heap. AreOfRecord mail_layout (segment_of heap segment) key messages)

  -- those of one segment by its gate
  pub record ListedAt (segment : ℕ) : Type 0 where
    pub only : OnlyReads old new before now
    pub messages : List ℕ
    pub added : then ≡ items ++ messages
    pub here : HoldsOverIndex made now (λ heap. AreOfSegment mail_layout key heap segment messages)

  -- and its link was read
  pub record ListedTo (segment next : ℕ) : Type 0 where
    pub at : ListedAt segment
    pub link : HoldsOverIndex made now (λ heap. slice_index heap.links segment ≡ next)

  -- its gate was read as sealed
  pub record SealedAt (segment : ℕ) : Type 0 where
    pub only : OnlyReads old new before now
    pub gate_read : gate_value now (gate_at (made_sizes made) segment) ≡ Some GATE_SEALED
    pub added : then ≡ items
    pub is_sealed : HoldsOverIndex made now (λ heap. gate_of heap segment ≡ GATE_SEALED)

module _ (made : Made (List (List KeyNumbers))) (shows : List Commit → ℕ → List ℕ → Stop → Type 0) (old new : PassView) (before now : Attempt)
    (key : KeyNumbers) (items then : List ℕ) where
  -- why the messages weren't listed: a read was stopped; a sealed segment was met; there was no memory for them
  abbrev pub NotListed : ListStop → Type 0
  NotListed (Stopped stop) = IsStopped shows made.opening old new before stop
  NotListed (Sealed segment) = MetSealed made old new before now key items then segment
  NotListed Memory = OnlyReads old new before now

  -- those of one segment
  abbrev pub NotListedAt : ℕ → ListStop → Type 0
  NotListedAt segment (Stopped stop) = IsStopped shows made.opening old new before stop
  NotListedAt segment (Sealed other) = (other ≡ segment) × SealedAt made old new before now key items then segment
  NotListedAt segment Memory = OnlyReads old new before now

  -- those of an open segment
  abbrev pub NotListedOpen : ListStop → Type 0
  NotListedOpen (Stopped stop) = IsStopped shows made.opening old new before stop
  NotListedOpen (Sealed segment) = ⊥
  NotListedOpen Memory = OnlyReads old new before now
