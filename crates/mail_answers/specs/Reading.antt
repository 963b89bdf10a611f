-- What reading the messages of keys leaves of an attempt.
use Rattle.std.specs.Prelude.{◌≡◌, ◌⊎◌, ℕ, List, IsSome}
use Rattle.std.specs.BTreeMap.{get}
use Rattle.tx_model.specs.declared.gate.TheConstants.{GATE_SEALED}
use Rattle.tx_model.specs.declared.history.Commit.{Commit}
use Rattle.tx_model.specs.declared.pass.Stop.{Stop}
use Rattle.tx_model.specs.declared.view.Attempt.{Attempt}
use Rattle.tx_model.specs.declared.view.PassView.{PassView}
use Rattle.tx_model.specs.Attempt.{Fits}
use Rattle.tx_model.specs.Calls.{IsStopped, OnlyReads}
use Rattle.tx_model.specs.Made.{Made}
use Rattle.mail_words.specs.Key.{KeyNumbers, key_cmp}
use Rattle.tx_heap.specs.Layout.{mail_layout}
use Rattle.tx_heap.specs.Heap.{Heap, gate_of}
use Rattle.tx_heap.specs.Index.{rows_of}
use Rattle.tx_heap.specs.Mail.{IsGoodMail, mail_heap}
use Rattle.tx_postings.specs.Laws.{HasNonePacked}
use Rattle.tx_postings.specs.declared.listing.ListStop.{ListStop}
use Rattle.tx_postings.specs.declared.listing.ListStop.TheVariants.{Stopped, Sealed, Memory}
use Rattle.mail_answers.specs.Lists.{ListMap, HasLists, HasKeys}

-- this holds of the index in every good memory that fits the attempt
abbrev pub OfIndex : Made (List (List KeyNumbers)) → PassView → Attempt → (Heap → Type 0) → Type 0
OfIndex made view attempt P =
    (memory : List ℕ) → IsGoodMail made.sense made.opening memory → Fits memory attempt view.owned → P (mail_heap made.sense memory)

module _ (made : Made (List (List KeyNumbers))) where
  -- the lists have the messages of the rows of every good memory that fits the attempt and has no packed gate
  abbrev pub AreOfRows : PassView → Attempt → ListMap → Type 0
  AreOfRows view attempt lists = OfIndex made view attempt (λ heap. HasNonePacked heap → HasLists lists (rows_of mail_layout heap))

  -- the messages of the keys were read, and nothing else was done
  pub record HaveRead (old new : PassView) (before now : Attempt) (keys : List KeyNumbers) (lists : ListMap) : Type 0 where
    pub only : OnlyReads old new before now
    pub all : HasKeys lists keys
    pub of_rows : AreOfRows new now lists

  -- the key has a list now, and the others have theirs
  pub record GainsList (view : PassView) (attempt : Attempt) (key : KeyNumbers) (old new : ListMap) : Type 0 where
    pub more : (other : KeyNumbers) → IsSome (get key_cmp old other) ⊎ (other ≡ key) → IsSome (get key_cmp new other)
    pub of_rows : AreOfRows view attempt old → AreOfRows view attempt new

-- why they weren't read: a read was stopped; a segment is sealed; there was no memory
module _ (made : Made (List (List KeyNumbers))) (shows : List Commit → ℕ → List ℕ → Stop → Type 0) (old new : PassView) (before now : Attempt) where
  abbrev pub NotRead : ListStop → Type 0
  NotRead (Stopped stop) = IsStopped shows made.opening old new before stop
  NotRead (Sealed segment) = OnlyReads old new before now × OfIndex made new now (λ heap. gate_of heap segment ≡ GATE_SEALED)
  NotRead Memory = OnlyReads old new before now
