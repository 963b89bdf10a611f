-- What leaving a full segment does.
use Rattle.std.specs.Prelude.{◌≡◌, ◌≢◌, ℕ, ◌-◌, ◌≤◌, List, []}
use Rattle.tx_model.specs.declared.view.Attempt.{Attempt}
use Rattle.tx_model.specs.declared.view.PassView.{PassView}
use Rattle.tx_model.specs.Memory.{after}
use Rattle.tx_model.specs.Made.{Made}
use Rattle.tx_model.specs.Attempt.{Fits}
use Rattle.tx_model.specs.Tries.{ReadyToCommit}
use Rattle.mail_words.specs.Key.{KeyNumbers}
use Rattle.tx_heap.specs.Layout.{mail_layout, segment_len, full_below}
use Rattle.tx_heap.specs.Segment.{free_of}
use Rattle.tx_heap.specs.Heap.{Heap, own_of, segment_of}
use Rattle.tx_heap.specs.Fresh.{IsOwnFull, with_fresh}
use Rattle.tx_heap.specs.Mail.{IsGoodMail, mail_heap, mail_budget}
use Rattle.tx_postings.specs.declared.leaving.Leaving.{Leaving}
use Rattle.tx_postings.specs.declared.leaving.Leaving.TheVariants.{Fresh, Moved, Roomy}

-- the answer for an index: the lane has another segment; the segment has room; or it is full, and this is the first unused one
abbrev pub IsLeaving : ℕ → ℕ → Leaving → Heap → Type 0
IsLeaving lane segment (Fresh fresh) heap = IsOwnFull lane segment heap × (heap.pool ≡ fresh)
IsLeaving lane segment (Moved current) heap = (own_of heap lane ≡ current) × (current ≢ segment)
IsLeaving lane segment (Roomy free) heap = (own_of heap lane ≡ segment) × (free ≡ segment_len - free_of (segment_of heap segment)) × (full_below ≤ free)

-- ---- by the attempt alone
module _ (lists : List (List KeyNumbers)) (opening : List ℕ) (lane segment : ℕ) where
  -- it wrote, and over each good memory that fits it a fresh segment is put in front of the full one
  pub record PutsFresh (attempt : Attempt) : Type 0 where
    pub some : attempt.writes ≢ []
    pub changed : (memory : List ℕ) → IsGoodMail lists opening memory → Fits memory attempt []
        → mail_heap lists (after memory attempt.writes) ≡ with_fresh mail_layout lane segment (mail_heap lists memory)

  -- otherwise it only read
  abbrev pub Leaves : Leaving → Attempt → Type 0
  Leaves (Fresh fresh) attempt = PutsFresh attempt
  Leaves (Moved current) attempt = attempt.writes ≡ []
  Leaves (Roomy free) attempt = attempt.writes ≡ []

  -- the answer is that of every good memory that fits the attempt, whatever the pass owns
  pub record DidLeave (leaving : Leaving) (attempt : Attempt) : Type 0 where
    pub is : (memory : List ℕ) → IsGoodMail lists opening memory → Fits memory attempt []
        → IsLeaving lane segment leaving (mail_heap lists memory)
    pub wrote : Leaves leaving attempt
    pub sealed : attempt.sealed ≡ []
    pub published : attempt.published ≡ []

-- ---- the attempt goes on, and may be committed
pub record LeftFull (made : Made (List (List KeyNumbers))) (old new : PassView) (before now : Attempt) (lane segment : ℕ) (leaving : Leaving) : Type 0 where
  pub ready : ReadyToCommit IsGoodMail mail_budget made old new before now
  pub did : DidLeave made.sense made.opening lane segment leaving now
