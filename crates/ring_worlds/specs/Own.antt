-- What holds of a stamped caller and its slot.
use Rattle.std.specs.Prelude.{◌≡◌, ℕ, ◌+◌, ◌*◌, ◌%◌, ◌-◌, ◌<◌, ◌≤◌, List, Some, slice_get, slice_index, slice_set}
use Rattle.ring_core.specs.declared.shape.Shape.{Shape}
use Rattle.ring_core.specs.declared.stage.Stage.{Stage}
use Rattle.ring_core.specs.declared.stage.Stage.TheVariants.{Turn, Between}
use Rattle.ring_core.specs.declared.stage.TurnStage.{TurnStage}
use Rattle.ring_core.specs.declared.stage.TurnStage.TheVariants.{Filling, Signature, Writing, Complete}
use Rattle.ring_worlds.specs.declared.process.Process.{Process}
use Rattle.ring_core.specs.Tags.{filling, writing, complete}
use Rattle.ring_worlds.specs.World.{Board, tag_of, sig_word, commit_of}

module _ (shape : Shape) where
  -- so many words of this signature are stored in the slot of this entry
  abbrev pub HasStored : Board → ℕ → List ℕ → ℕ → Type 0
  HasStored b stamp sig count = (word : ℕ) → word < count → sig_word shape b (stamp % shape.ring) word ≡ slice_index sig word

  -- the tag of its slot, by the stage
  abbrev pub TagFits : Board → ℕ → List ℕ → TurnStage → Type 0
  TagFits b stamp sig Filling = tag_of shape b stamp < filling stamp
  TagFits b stamp sig (Signature j) = (tag_of shape b stamp ≡ filling stamp) × HasStored b stamp sig j
  TagFits b stamp sig Writing = (tag_of shape b stamp ≡ filling stamp) × HasStored b stamp sig shape.sig_words
  TagFits b stamp sig Complete = (tag_of shape b stamp ≡ writing stamp) × (b.complete + 1 ≡ stamp)
  TagFits b stamp sig _ = tag_of shape b stamp ≡ writing stamp

  -- its commit is in the history, after the complete ones, and the slot is as far as the stage says
  pub record IsOwn (b : Board) (p : Process) (stage : TurnStage) : Type 0 where
    pub newer : b.complete < p.caller.stamp
    pub there : slice_get b.history (p.caller.stamp - 1) ≡ Some (commit_of p)
    pub tag : TagFits b p.caller.stamp p.caller.write_sig stage

  -- the boards that the stores lead to
  abbrev pub with_tag : Board → ℕ → ℕ → Board
  with_tag b entry tag = record b { tags = slice_set b.tags (entry % shape.ring) tag }

  abbrev pub with_word : Board → ℕ → ℕ → ℕ → Board
  with_word b entry word value = record b { sigs = slice_set b.sigs (entry % shape.ring * shape.sig_words + word) value }

  abbrev pub completed : Board → ℕ → Board
  completed b entry = record b { tags = slice_set b.tags (entry % shape.ring) (complete entry); complete = entry }

  -- of a stamped caller, by its stage
  abbrev pub IsOwnAt : Board → Process → Stage → Type 0
  IsOwnAt b p (Turn stage) = IsOwn b p stage
  IsOwnAt b p (Between stage) = IsOwn b p stage
  IsOwnAt b p _ = Unit {0}
