-- What those who index do to an index: no message has more words to come, and no segment's gate goes back.
use Rattle.std.specs.Prelude.{◌≡◌, ℕ, ◌-◌, ◌≤◌, List, []}
use Rattle.tx_model.specs.declared.history.Commit.{Commit}
use Rattle.tx_model.specs.declared.view.Attempt.{Attempt}
use Rattle.tx_model.specs.History.{state_at}
use Rattle.tx_model.specs.Memory.{after}
use Rattle.tx_model.specs.Attempt.{Fits}
use Rattle.tx_model.specs.Made.{Made}
use Rattle.mail_words.specs.Key.{KeyNumbers}
use Rattle.tx_heap.specs.Heap.{Heap, need_of, gate_of}
use Rattle.tx_heap.specs.Mail.{IsGoodMail, mail_heap}

-- no need word is greater, and no gate's value is lower
pub record IsMailMove (old new : Heap) : Type 0 where
  pub needs : (message : ℕ) → need_of new message ≤ need_of old message
  pub gates : (segment : ℕ) → gate_of old segment ≤ gate_of new segment

module _ (made : Made (List (List KeyNumbers))) where
  -- the commit of this number moves the index so
  abbrev pub MovesMail : List Commit → ℕ → Type 0
  MovesMail history stamp =
      IsMailMove (mail_heap made.sense (state_at made.opening history (stamp - 1))) (mail_heap made.sense (state_at made.opening history stamp))

  -- the writes of the attempt move the index of each good memory that fits it so, whatever the pass owns, and it publishes nothing
  pub record WritesMove (attempt : Attempt) : Type 0 where
    pub published : attempt.published ≡ []
    pub moves : (memory : List ℕ) → IsGoodMail made.sense made.opening memory → Fits memory attempt []
        → IsMailMove (mail_heap made.sense memory) (mail_heap made.sense (after memory attempt.writes))
