-- how many steps an open request may still take
use Rattle.std.specs.Prelude.{ℕ, ◌+◌, ◌-◌, ◌*◌, length}
use Rattle.ring_core.specs.declared.shape.Shape.{Shape}
use Rattle.ring_core.specs.declared.caller.Caller.{Caller}
use Rattle.ring_core.specs.declared.stage.Stage.{Stage}
use Rattle.ring_core.specs.declared.stage.Stage.TheVariants.{Closed, BeginIndex, BeginTag, ReadHeap, Check, StampSlot, StampSwap, Turn, Between}
use Rattle.ring_core.specs.declared.stage.Purpose.{Purpose}
use Rattle.ring_core.specs.declared.stage.Purpose.TheVariants.{Read, Stamp}
use Rattle.ring_core.specs.declared.stage.CheckStage.{CheckStage}
use Rattle.ring_core.specs.declared.stage.CheckStage.TheVariants.{Index, First, Words, Second}
use Rattle.ring_core.specs.declared.stage.TurnStage.{TurnStage}
use Rattle.ring_core.specs.declared.stage.TurnStage.TheVariants.{Filling, Signature, Writing, Earlier, EarlierWords, EarlierAgain, Heap, Before, Complete}

-- a stamp has two steps after its check
abbrev pub after_check : Purpose → ℕ
after_check (Read addr value) = 0
after_check Stamp = 2

module _ (shape : Shape) where
  -- the steps for `entries` entries, each with its words and two tags
  abbrev pub walk_steps : ℕ → ℕ
  walk_steps entries = entries * (shape.sig_words + 2)

  abbrev pub check_steps : Caller → CheckStage → ℕ
  check_steps c Index = 1 + walk_steps shape.ring
  check_steps c (First walk) = walk_steps (walk.at - c.start)
  check_steps c (Words walk word) = walk_steps (walk.at - c.start - 1) + (shape.sig_words - word) + 1
  check_steps c (Second walk) = walk_steps (walk.at - c.start - 1) + 1

  abbrev pub turn_steps : Caller → TurnStage → ℕ
  turn_steps c Filling = 1 + shape.sig_words + 1 + walk_steps (c.stamp - 1 - c.start) + length c.writes + 2
  turn_steps c (Signature word) = (shape.sig_words - word) + 1 + walk_steps (c.stamp - 1 - c.start) + length c.writes + 2
  turn_steps c Writing = 1 + walk_steps (c.stamp - 1 - c.start) + length c.writes + 2
  turn_steps c (Earlier at) = walk_steps (at - c.start) + length c.writes + 2
  turn_steps c (EarlierWords at word) = walk_steps (at - c.start - 1) + (shape.sig_words - word) + 1 + length c.writes + 2
  turn_steps c (EarlierAgain at) = walk_steps (at - c.start - 1) + 1 + length c.writes + 2
  turn_steps c (Heap index) = (length c.writes - index) + 2
  turn_steps c Before = 2
  turn_steps c Complete = 1

  abbrev pub steps_at : Caller → Stage → ℕ
  steps_at c Closed = 0
  steps_at c BeginIndex = 1 + shape.ring
  steps_at c (BeginTag top at) = at - (top - shape.ring)
  steps_at c (ReadHeap addr) = 2 + walk_steps shape.ring
  steps_at c (Check purpose stage) = check_steps c stage + after_check purpose
  steps_at c (StampSlot top) = 2
  steps_at c (StampSwap top) = 1
  steps_at c (Turn stage) = turn_steps c stage
  steps_at c (Between stage) = 0

  abbrev pub steps_left : Caller → ℕ
  steps_left c = steps_at c c.stage
