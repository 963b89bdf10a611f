-- which words a step may find
use Rattle.std.specs.Prelude.{◌≡◌, ℕ, ◌<◌, ◌≤◌}
use Rattle.ring_core.specs.declared.shape.Shape.{Shape}
use Rattle.ring_core.specs.declared.caller.Caller.{Caller}
use Rattle.ring_core.specs.declared.stage.Stage.{Stage}
use Rattle.ring_core.specs.declared.stage.Stage.TheVariants.{Closed, BeginIndex, BeginTag, ReadHeap, Check, StampSlot, StampSwap, Turn, Between}
use Rattle.ring_core.specs.declared.stage.CheckStage.{CheckStage}
use Rattle.ring_core.specs.declared.stage.CheckStage.TheVariants.{Index, First, Words, Second}
use Rattle.ring_core.specs.Tags.{writing, complete}
use Rattle.ring_core.specs.declared.stage.Walk.{Walk}
use Rattle.ring_core.specs.declared.stage.TurnStage.{TurnStage}
use Rattle.ring_core.specs.declared.stage.TurnStage.TheVariants.{Filling, Signature, Writing, Earlier, EarlierWords, EarlierAgain, Heap, Before, Complete}

module _ (shape : Shape) where
  -- a tag of the ring
  abbrev pub IsTag : ℕ → Type 0
  IsTag tag = tag ≤ complete shape.life

  -- every entry but the newest that a check loaded is published
  abbrev pub IsCheckTag : Walk → ℕ → Type 0
  IsCheckTag walk tag = IsTag tag × (walk.at < walk.top → writing walk.at ≤ tag)

  abbrev pub IsCheckWord : Caller → CheckStage → ℕ → Type 0
  IsCheckWord c Index index = (c.start ≤ index) × (index ≤ shape.life)
  IsCheckWord c (First walk) tag = IsCheckTag walk tag
  IsCheckWord c (Words walk word) value = Unit {0}
  IsCheckWord c (Second walk) tag = IsCheckTag walk tag

  -- a store finds 0
  abbrev pub IsTurnWord : TurnStage → ℕ → Type 0
  IsTurnWord Filling word = word ≡ 0
  IsTurnWord (Signature j) word = word ≡ 0
  IsTurnWord Writing word = word ≡ 0
  IsTurnWord (Earlier at) tag = IsTag tag
  IsTurnWord (EarlierWords at j) word = Unit {0}
  IsTurnWord (EarlierAgain at) tag = IsTag tag
  IsTurnWord (Heap index) word = word ≡ 0
  IsTurnWord Before tag = IsTag tag
  IsTurnWord Complete word = word ≡ 0

  abbrev pub IsWordAt : Caller → Stage → ℕ → Type 0
  IsWordAt c Closed word = ⊥
  IsWordAt c BeginIndex index = index ≤ shape.life
  IsWordAt c (BeginTag top at) tag = IsTag tag
  IsWordAt c (ReadHeap addr) value = Unit {0}
  IsWordAt c (Check purpose stage) word = IsCheckWord c stage word
  IsWordAt c (StampSlot top) tag = IsTag tag
  IsWordAt c (StampSwap top) found = (top ≤ found) × (found ≤ shape.life)
  IsWordAt c (Turn stage) word = IsTurnWord stage word
  IsWordAt c (Between stage) word = ⊥

  -- a request is open, and its next step may find this word
  abbrev pub CanAbsorb : Caller → ℕ → Type 0
  CanAbsorb c word = IsWordAt c c.stage word
