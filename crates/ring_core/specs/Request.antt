-- The stages of an open request, and the atomic step that comes next at each.
-- Entry i has the slot i mod ring.
use Rattle.std.specs.Prelude.{ℕ, ◌+◌, ◌-◌, ◌%◌, Bool, true, false, slice_index}
use Rattle.tx_model.specs.Words.{word_at}
use Rattle.ring_core.specs.declared.shape.Shape.{Shape}
use Rattle.ring_core.specs.declared.caller.Caller.{Caller}
use Rattle.ring_core.specs.declared.action.Action.{Action}
use Rattle.ring_core.specs.declared.action.Action.TheVariants as action
use Rattle.ring_core.specs.declared.stage.Stage.{Stage}
use Rattle.ring_core.specs.declared.stage.Stage.TheVariants.{Closed, BeginIndex, BeginTag, ReadHeap, Check, StampSlot, StampSwap, Turn, Between}
use Rattle.ring_core.specs.declared.stage.CheckStage.{CheckStage}
use Rattle.ring_core.specs.declared.stage.CheckStage.TheVariants.{Index, First, Words, Second}
use Rattle.ring_core.specs.declared.stage.TurnStage.{TurnStage}
use Rattle.ring_core.specs.Tags.{filling, writing, complete}
use Rattle.ring_core.specs.declared.stage.TurnStage.TheVariants.{Filling, Signature, Writing, Earlier, EarlierWords, EarlierAgain, Heap, Before, Complete}

-- whether a request is open
abbrev pub is_open : Stage → Bool
is_open Closed = false
is_open (Between stage) = false
is_open _ = true

module _ (shape : Shape) where
  abbrev pub slot_of : ℕ → ℕ
  slot_of entry = entry % shape.ring

  abbrev pub check_action : CheckStage → Action
  check_action Index = action.LoadIndex
  check_action (First walk) = action.LoadTag (slot_of walk.at)
  check_action (Words walk word) = action.LoadSig (slot_of walk.at) word
  check_action (Second walk) = action.LoadTag (slot_of walk.at)

  abbrev pub turn_action : Caller → TurnStage → Action
  turn_action c Filling = action.StoreTag (slot_of c.stamp) (filling c.stamp)
  turn_action c (Signature word) = action.StoreSig (slot_of c.stamp) word (slice_index c.write_sig word)
  turn_action c Writing = action.StoreTag (slot_of c.stamp) (writing c.stamp)
  turn_action c (Earlier at) = action.LoadTag (slot_of at)
  turn_action c (EarlierWords at word) = action.LoadSig (slot_of at) word
  turn_action c (EarlierAgain at) = action.LoadTag (slot_of at)
  turn_action c (Heap index) = action.StoreHeap (word_at c.writes index).addr (word_at c.writes index).value
  turn_action c Before = action.LoadTag (slot_of (c.stamp - 1))
  turn_action c Complete = action.StoreTag (slot_of c.stamp) (complete c.stamp)

  abbrev pub action_at : Caller → Stage → Action
  action_at c Closed = action.Idle
  action_at c BeginIndex = action.LoadIndex
  action_at c (BeginTag top at) = action.LoadTag (slot_of at)
  action_at c (ReadHeap addr) = action.LoadHeap addr
  action_at c (Check purpose stage) = check_action stage
  action_at c (StampSlot top) = action.LoadTag (slot_of (top + 1))
  action_at c (StampSwap top) = action.SwapIndex top
  action_at c (Turn stage) = turn_action c stage
  action_at c (Between stage) = action.Idle

  -- the next atomic step of a caller
  abbrev pub next_action : Caller → Action
  next_action c = action_at c c.stage
