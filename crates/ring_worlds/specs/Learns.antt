-- What a step teaches the caller that makes it, in the words of the contract of memories.
use Rattle.std.specs.Prelude.{◌≡◌, ℕ, ◌<◌, ◌≤◌, ◌++◌, [], ◌∷◌, length, Some, slice_get}
use Rattle.tx_model.specs.History.{IsLegal}
use Rattle.ring_core.specs.declared.action.Progress.{Progress}
use Rattle.ring_core.specs.declared.action.Progress.TheVariants.{Started, Value, Stamped, Completed}
use Rattle.ring_core.specs.Outcomes.{absorbed}
use Rattle.ring_core.specs.Request.{next_action}
use Rattle.ring_core.specs.Tags as tags
use Rattle.ring_worlds.specs.declared.process.Process.{Process}
use Rattle.ring_worlds.specs.World.{World, board_of, tag_of, commit_of}
use Rattle.ring_worlds.specs.Answers.{Tells}
use Rattle.ring_worlds.specs.Memory.{IsOwned, IsFrom}
use Rattle.ring_worlds.specs.Steps.{found, answer_of}

-- the first so many commits are complete
pub record AreComplete (w : World) (count : ℕ) : Type 0 where
  pub happened : count ≤ length w.history
  pub complete : (entry : ℕ) → 1 ≤ entry → entry ≤ count → tags.complete entry ≤ tag_of w.shape (board_of w 0) entry

-- the start of the caller after its step
abbrev pub start_after : World → Process → ℕ
start_after w p = (absorbed w.shape p.caller (found w (next_action w.shape p.caller))).caller.start

-- the caller's commit is the last one of a legal history, after all that it knew
pub record JoinsHistory (w next : World) (p : Process) (stamp : ℕ) : Type 0 where
  pub history : next.history ≡ w.history ++ commit_of p ∷ []
  pub last : stamp ≡ length next.history
  pub legal : IsLegal next.opening next.history
  pub after_front : p.front < stamp
  pub after_start : p.caller.start < stamp

-- the commit and all before it are complete, and each word outside of owned regions is of the state after it or of a later published commit that leaves the
-- word
pub record IsWrittenBack (w next : World) (stamp : ℕ) : Type 0 where
  pub complete : AreComplete next stamp
  pub words : (addr value : ℕ) → (IsOwned next.processes addr → ⊥) → slice_get next.heap addr ≡ Some value → IsFrom next.shape next stamp addr value

-- what the answer of the step says
abbrev pub LearnsBy : World → World → Process → Progress → Type 0
LearnsBy w next p (Started start) = (p.front ≤ start) × AreComplete w start × (start_after w p ≡ start)
LearnsBy w next p (Value value) = (p.front ≤ start_after w p)
    × Tells w.shape w.opening w.regions (board_of w 0) p p.caller.stage (start_after w p) (Value value)
LearnsBy w next p (Stamped stamp) = JoinsHistory w next p stamp
LearnsBy w next p (Completed stamp) = (stamp ≡ p.caller.stamp) × IsWrittenBack w next stamp
LearnsBy w next p progress = Tells w.shape w.opening w.regions (board_of w 0) p p.caller.stage (start_after w p) progress

abbrev pub Learns : World → World → Process → Type 0
Learns w next p = LearnsBy w next p (answer_of w p)
