-- Worked examples of how a world is stored.
use Rattle.std.specs.Prelude.{◌≡◌, [], ◌∷◌, Some, None, slice_set}
use Rattle.ring_core.specs.declared.action.Action.TheVariants.{StoreTag, StoreHeap, SwapIndex}
use Rattle.ring_core.specs.declared.stage.Stage.TheVariants.{ReadHeap, Check}
use Rattle.ring_core.specs.declared.stage.Purpose.TheVariants.{Read, Stamp}
use Rattle.ring_core.specs.declared.stage.CheckStage.TheVariants.{Index}
use Rattle.ring_worlds.specs.World.{commit_of}
use Rattle.ring_worlds.specs.Examples.{first_world, writer}
use Rattle.ring_state.specs.Plain.{read_address}
use Rattle.ring_state.specs.Kept.{landed}

-- a read asks for its address from its load to the end of its check, and a stamp for none
abbrev pub ReadAddressExample : Type 0
ReadAddressExample = (read_address (ReadHeap 3) ≡ Some 3) × (read_address (Check (Read 3 7) Index) ≡ Some 3) × (read_address (Check Stamp Index) ≡ None)

-- in a ring of four, the tag of slot 1 is stored, or the word at address 2
abbrev pub StoreExample : Type 0
StoreExample =
    ((landed first_world 1 writer (StoreTag 1 5)).tags ≡ 0 ∷ 5 ∷ 0 ∷ 0 ∷ [])
    × ((landed first_world 1 writer (StoreHeap 2 6)).heap ≡ slice_set first_world.heap 2 6)

-- an exchange that finds the index that it expects puts the commit into the history, and another one changes nothing there
abbrev pub SwapExample : Type 0
SwapExample =
    ((landed first_world 1 writer (SwapIndex 0)).history ≡ commit_of writer ∷ [])
    × ((landed first_world 1 writer (SwapIndex 0)).index ≡ 1)
    × ((landed first_world 1 writer (SwapIndex 3)).history ≡ [])
    × ((landed first_world 1 writer (SwapIndex 3)).index ≡ 0)
