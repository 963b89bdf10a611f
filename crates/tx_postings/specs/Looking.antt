-- What looking for the keys of a batch finds, before anything is written.
use Rattle.std.specs.Prelude.{◌≡◌, ℕ, ◌+◌, ◌*◌, ◌<◌, ◌≤◌, List, length, take, Option, None, Some, slice_index_or, slice_set}
use Rattle.tx_model.specs.declared.pass.Stop.{Stop}
use Rattle.tx_model.specs.declared.history.Commit.{Commit}
use Rattle.tx_model.specs.declared.view.Attempt.{Attempt}
use Rattle.tx_model.specs.declared.view.PassView.{PassView}
use Rattle.tx_model.specs.History.{state_at}
use Rattle.tx_model.specs.Made.{Made}
use Rattle.tx_model.specs.Attempt.{Fits}
use Rattle.tx_model.specs.Calls.{IsStopped, Ended}
use Rattle.mail_words.specs.Key.{KeyNumbers}
use Rattle.mail_words.specs.Hash as hash
use Rattle.tx_heap.specs.Layout.{mail_layout}
use Rattle.tx_heap.specs.Heap.{Heap, own_of, segment_of}
use Rattle.tx_heap.specs.Mail.{IsGoodMail, mail_heap}
use Rattle.tx_model.specs.Calls.{OnlyReads}
use Rattle.tx_heap.specs.Calls.{HoldsOverIndex}
use Rattle.tx_buckets.specs.Records.{IsFound}
use Rattle.tx_postings.specs.Batch.{TakeWords, LacksRoom}
use Rattle.tx_postings.specs.Filling.{words_for, CanFill}
use Rattle.tx_postings.specs.Heads.{needs_of, IsHead, HasHeads}
use Rattle.tx_postings.specs.declared.heads.Head.{Head}
use Rattle.tx_postings.specs.declared.stops.FillStop.{FillStop}
use Rattle.tx_postings.specs.declared.stops.FillStop.TheVariants.{Room, Stopped}

module _ (made : Made (List (List KeyNumbers))) (old new : PassView) (before now : Attempt) where
  -- what is known of a lane's own segment, by what was known before
  pub record HasHead (lane : ℕ) (known : Option Head) (head : Head) : Type 0 where
    pub only : OnlyReads old new before now
    pub is : IsHead made new now lane head
    pub needs : head.needs ≡ needs_of known

  -- a key was looked for in its lane's own segment, and takes so many words more there
  pub record LookedAt (key : KeyNumbers) (heads then : List (Option Head)) (offset : Option ℕ) : Type 0 where
    pub only : OnlyReads old new before now
    pub head : Head
    pub is : IsHead made new now (hash.lane_of key) head
    pub needs : head.needs ≡ needs_of (slice_index_or heads (hash.lane_of key) None) + words_for offset
    pub heads_are : then ≡ slice_set heads (hash.lane_of key) (Some head)
    pub found : HoldsOverIndex made now (λ heap. IsFound mail_layout (segment_of heap (own_of heap (hash.lane_of key))) key offset)

  -- the first keys were looked for, and take so many words
  pub record LookedFor (keys : List KeyNumbers) (k : ℕ) (offsets : List (Option ℕ)) (heads : List (Option Head)) : Type 0 where
    pub only : OnlyReads old new before now
    pub has : HasHeads made new now keys k heads
    pub found : (j : ℕ) (key : KeyNumbers) → j < k → j < length keys
        → HoldsOverIndex made now (λ heap.
        IsFound mail_layout (segment_of heap (own_of heap (hash.lane_of (slice_index_or keys j key)))) (slice_index_or keys j key)
        (slice_index_or offsets j None))
    pub takes : (lane : ℕ) → HoldsOverIndex made now (λ heap. TakeWords mail_layout heap lane (take k keys) (needs_of (slice_index_or heads lane None)))
    pub small : (lane : ℕ) → needs_of (slice_index_or heads lane None) ≤ 8 * k

  -- all keys were looked for, and the lanes have room for them
  pub record LookedUp (keys : List KeyNumbers) (offsets : List (Option ℕ)) (heads : List (Option Head)) : Type 0 where
    pub only : OnlyReads old new before now
    pub has : HasHeads made new now keys (length keys) heads
    pub can : HoldsOverIndex made now (CanFill mail_layout keys offsets)

-- ---- refusals
module _ (made : Made (List (List KeyNumbers))) (old new : PassView) (before : Attempt) where
  -- in a state that the attempt may have read from, this is so
  pub record LackedIn (P : Heap → Type 0) : Type 0 where
    pub ended : Ended old new before
    pub from : ℕ
    pub no_older : before.start ≤ from
    pub within : from ≤ length new.history
    pub good : IsGoodMail made.sense made.opening (state_at made.opening new.history from)
    pub fits : Fits (state_at made.opening new.history from) before old.owned
    pub lacks : P (mail_heap made.sense (state_at made.opening new.history from))

-- why the keys of a batch weren't looked up
abbrev pub LookRefused : Made (List (List KeyNumbers)) → (List Commit → ℕ → List ℕ → Stop → Type 0) → PassView → PassView → Attempt → List KeyNumbers
    → FillStop → Type 0
LookRefused made shows old new before keys (Stopped stop) = IsStopped shows made.opening old new before stop
LookRefused made shows old new before keys (Room lane segment free needs) = LackedIn made old new before (LacksRoom mail_layout keys lane segment free needs)
