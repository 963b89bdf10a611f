-- Worked examples: requests over the words that their steps find, with one signature word.
-- Of 64 places, addresses 1 and 56 have place 39, and address 2 has place 15.
use Rattle.std.specs.Prelude.{◌≡◌, ℕ, ◌^◌, [], ◌∷◌}
use Rattle.tx_model.specs.declared.pass.PassState.TheVariants as state
use Rattle.tx_model.specs.declared.pass.Stop.TheVariants.{Met, Overrun}
use Rattle.ring_core.specs.declared.shape.Shape.{Shape}
use Rattle.ring_core.specs.declared.caller.Caller.{Caller}
use Rattle.ring_core.specs.declared.action.Action.TheVariants.{LoadIndex, LoadTag, LoadSig, LoadHeap, SwapIndex, StoreTag, StoreSig, StoreHeap}
use Rattle.ring_core.specs.declared.action.Progress.TheVariants.{Going, Started, Value, Stopped, Stamped, Later, Completed, Worn}
use Rattle.ring_core.specs.declared.action.Later.TheVariants.{Lost, Unpublished, SlotBusy, Order}
use Rattle.ring_core.specs.declared.stage.Stage.{Stage}
use Rattle.ring_core.specs.declared.stage.Stage.TheVariants.{BeginIndex, ReadHeap, Check, Turn}
use Rattle.ring_core.specs.declared.stage.Purpose.TheVariants.{Stamp}
use Rattle.ring_core.specs.declared.stage.CheckStage.TheVariants.{Index}
use Rattle.ring_core.specs.declared.stage.TurnStage.TheVariants.{Filling}
use Rattle.ring_core.specs.Outcomes.{opening}
use Rattle.ring_core.specs.Machine.{written, resumed}
use Rattle.ring_core.specs.Trace.{trace_of, after}

-- a ring of so many entries
abbrev pub ring_of : ℕ → Shape
ring_of entries = record { ring = entries; sig_words = 1; heap = 64; life = 100 }

-- a caller at this stage of a request, with an attempt that began at this start
abbrev pub attempt : ℕ → Stage → Caller
attempt start stage = record (opening (ring_of 4)) { state = state.Active; start = start; stage = stage }

abbrev pub stamping : Caller
stamping = written (attempt 0 (Check Stamp Index)) 1 5

-- entry 2, whose write is to address 1
abbrev pub turning : Caller
turning =
    record (written (attempt 0 (Turn Filling)) 1 5) { state = state.Stamped; stamp = 2 }

-- the caller at the beginning of its next turn
abbrev pub next_turn : Caller → Caller
next_turn c = record c { stage = resumed c.stage }

-- in a ring of 4, entry 4 is filling, 3 is writing, 2 is complete: the attempt starts at 2
abbrev pub BeginExample : Type 0
BeginExample =
    trace_of (ring_of 4) (record (opening (ring_of 4)) { stage = BeginIndex }) (4 ∷ 17 ∷ 14 ∷ 11 ∷ []) ≡ (LoadIndex, Going) ∷ (LoadTag 0, Going) ∷
    (LoadTag 3, Going) ∷ (LoadTag 2, Started 2) ∷ []

-- none of the last four is complete: the attempt starts before them
abbrev pub BeginBelowExample : Type 0
BeginBelowExample =
    trace_of (ring_of 4) (record (opening (ring_of 4)) { stage = BeginIndex }) (6 ∷ 25 ∷ 22 ∷ 18 ∷ 14 ∷ []) ≡ (LoadIndex, Going) ∷ (LoadTag 2, Going) ∷
    (LoadTag 1, Going) ∷ (LoadTag 0, Going) ∷ (LoadTag 3, Started 2) ∷ []

-- a read passes over entry 1, which isn't published, and its start stays at 0
abbrev pub PassedOverExample : Type 0
PassedOverExample =
    (trace_of (ring_of 4) (attempt 0 (ReadHeap 1)) (0 ∷ 1 ∷ 0 ∷ []) ≡ (LoadHeap 1, Going) ∷ (LoadIndex, Going) ∷ (LoadTag 1, Value 0) ∷ [])
    × ((after (ring_of 4) (attempt 0 (ReadHeap 1)) (0 ∷ 1 ∷ 0 ∷ [])).start ≡ 0)

-- a read of a word that nobody wrote moves the start to entry 1, which is complete, but not past it while it is writing
abbrev pub ReadExample : Type 0
ReadExample =
    (trace_of (ring_of 4) (attempt 0 (ReadHeap 3)) (8 ∷ 1 ∷ 7 ∷ 2 ^ 39 ∷ 7 ∷ []) ≡ (LoadHeap 3, Going) ∷ (LoadIndex, Going) ∷ (LoadTag 1, Going) ∷
    (LoadSig 1 0, Going) ∷ (LoadTag 1, Value 8) ∷ []) × ((after (ring_of 4) (attempt 0 (ReadHeap 3)) (8 ∷ 1 ∷ 7 ∷ 2 ^ 39 ∷ 7 ∷ [])).start ≡ 1)
    × ((after (ring_of 4) (attempt 0 (ReadHeap 3)) (8 ∷ 1 ∷ 6 ∷ 2 ^ 39 ∷ 6 ∷ [])).start ≡ 0)

-- entry 1 wrote address 1: reads of 1 and of 56, which has the same place, are stopped
abbrev pub MetExample : Type 0
MetExample =
    (trace_of (ring_of 4) (attempt 0 (ReadHeap 1)) (5 ∷ 1 ∷ 6 ∷ 2 ^ 39 ∷ 6 ∷ []) ≡ (LoadHeap 1, Going) ∷ (LoadIndex, Going) ∷ (LoadTag 1, Going) ∷
    (LoadSig 1 0, Going) ∷ (LoadTag 1, Stopped (Met 1)) ∷ [])
    × (trace_of (ring_of 4) (attempt 0 (ReadHeap 56)) (0 ∷ 1 ∷ 6 ∷ 2 ^ 39 ∷ 6 ∷ []) ≡ (LoadHeap 56, Going) ∷ (LoadIndex, Going) ∷ (LoadTag 1, Going) ∷
    (LoadSig 1 0, Going) ∷ (LoadTag 1, Stopped (Met 1)) ∷ [])

-- the index is 3 in a ring of one entry: entry 2 is lost
abbrev pub OverrunIndexExample : Type 0
OverrunIndexExample =
    trace_of (ring_of 1) (attempt 1 (ReadHeap 4)) (0 ∷ 3 ∷ []) ≡ (LoadHeap 4, Going) ∷ (LoadIndex, Stopped (Overrun 2 3)) ∷ []

-- the slot of entry 1 is filled for entry 5 before its tag is loaded
abbrev pub OverrunFirstExample : Type 0
OverrunFirstExample =
    trace_of (ring_of 4) (attempt 0 (ReadHeap 3)) (0 ∷ 1 ∷ 21 ∷ []) ≡ (LoadHeap 3, Going) ∷ (LoadIndex, Going) ∷ (LoadTag 1, Stopped (Overrun 1 5)) ∷ []

-- the same between the two loads of its tag
abbrev pub OverrunSecondExample : Type 0
OverrunSecondExample =
    trace_of (ring_of 4) (attempt 0 (ReadHeap 3)) (0 ∷ 1 ∷ 7 ∷ 0 ∷ 21 ∷ []) ≡ (LoadHeap 3, Going) ∷ (LoadIndex, Going) ∷ (LoadTag 1, Going) ∷
    (LoadSig 1 0, Going) ∷ (LoadTag 1, Stopped (Overrun 1 5)) ∷ []

-- a stamp from index 0, and the three ways in which it may be refused
abbrev pub StampedExample : Type 0
StampedExample =
    trace_of (ring_of 4) stamping (0 ∷ 0 ∷ 0 ∷ []) ≡ (LoadIndex, Going) ∷ (LoadTag 1, Going) ∷ (SwapIndex 0, Stamped 1) ∷ []

abbrev pub LostExample : Type 0
LostExample =
    trace_of (ring_of 4) stamping (0 ∷ 0 ∷ 1 ∷ []) ≡ (LoadIndex, Going) ∷ (LoadTag 1, Going) ∷ (SwapIndex 0, Later (Lost 1)) ∷ []

abbrev pub UnpublishedExample : Type 0
UnpublishedExample =
    trace_of (ring_of 4) stamping (1 ∷ 0 ∷ []) ≡ (LoadIndex, Going) ∷ (LoadTag 1, Later (Unpublished 1 0)) ∷ []

-- in a ring of one entry, entry 1 is still writing
abbrev pub SlotBusyExample : Type 0
SlotBusyExample =
    trace_of (ring_of 1) stamping (1 ∷ 6 ∷ 2 ^ 15 ∷ 6 ∷ 6 ∷ []) ≡ (LoadIndex, Going) ∷ (LoadTag 0, Going) ∷ (LoadSig 0 0, Going) ∷ (LoadTag 0, Going) ∷
    (LoadTag 0, Later (SlotBusy 1 6)) ∷ []

-- the ring has had all its commits
abbrev pub WornExample : Type 0
WornExample = trace_of (ring_of 4) stamping (100 ∷ []) ≡ (LoadIndex, Worn 100) ∷ []

-- entry 1 wrote address 1 too: the turn waits for it before it stores its word, and then goes on at the same load
abbrev pub WaitsForEarlierExample : Type 0
WaitsForEarlierExample =
    (trace_of (ring_of 4) turning (0 ∷ 0 ∷ 0 ∷ 6 ∷ 2 ^ 39 ∷ 6 ∷ []) ≡ (StoreTag 2 9, Going) ∷ (StoreSig 2 0 (2 ^ 39), Going) ∷ (StoreTag 2 10, Going) ∷
    (LoadTag 1, Going) ∷ (LoadSig 1 0, Going) ∷ (LoadTag 1, Later (Order 1 6)) ∷ [])
    × (trace_of (ring_of 4) (next_turn (after (ring_of 4) turning (0 ∷ 0 ∷ 0 ∷ 6 ∷ 2 ^ 39 ∷ 6 ∷ []))) (7 ∷ 0 ∷ 7 ∷ 0 ∷ []) ≡ (LoadTag 1, Going) ∷
    (StoreHeap 1 5, Going) ∷ (LoadTag 1, Going) ∷ (StoreTag 2 11, Completed 2) ∷ [])

-- entry 1 wrote another place: the word is stored at once, but entry 2 isn't complete before it
abbrev pub WaitsForOrderExample : Type 0
WaitsForOrderExample =
    trace_of (ring_of 4) turning (0 ∷ 0 ∷ 0 ∷ 6 ∷ 2 ^ 15 ∷ 0 ∷ 6 ∷ []) ≡ (StoreTag 2 9, Going) ∷ (StoreSig 2 0 (2 ^ 39), Going) ∷ (StoreTag 2 10, Going) ∷
    (LoadTag 1, Going) ∷ (LoadSig 1 0, Going) ∷ (StoreHeap 1 5, Going) ∷ (LoadTag 1, Later (Order 1 6)) ∷ []
