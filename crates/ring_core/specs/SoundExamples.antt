-- Callers that are sound and callers that aren't, moves, tags and kinds, with a ring of 4 entries and a heap of 64 words.
use Rattle.std.specs.Prelude.{◌≡◌, Some, None, [], ◌∷◌}
use Rattle.tx_model.specs.WordLaws.{word}
use Rattle.ring_sig.specs.Signature.{signature_of}
use Rattle.ring_core.specs.declared.caller.Caller.{Caller}
use Rattle.ring_core.specs.declared.kind.Kind.TheVariants.{LoadIndex, StoreTagWriting}
use Rattle.ring_core.specs.declared.stage.Stage.TheVariants.{Closed, ReadHeap, Check, Turn, Between}
use Rattle.ring_core.specs.declared.stage.Purpose.TheVariants.{Read, Stamp}
use Rattle.ring_core.specs.declared.stage.CheckStage.TheVariants.{Index, First}
use Rattle.ring_core.specs.declared.stage.TurnStage.TheVariants.{Filling, Writing}
use Rattle.ring_core.specs.Tags.{filling, writing, complete, entry_of}
use Rattle.ring_core.specs.Kinds.{kind_at}
use Rattle.ring_core.specs.Outcomes.{opening}
use Rattle.ring_core.specs.Sound.{IsSound}
use Rattle.ring_core.specs.Machine.{written}
use Rattle.ring_core.specs.Moves.{IsMoved}
use Rattle.ring_core.specs.Examples.{ring_of, attempt}

abbrev Sound : Caller → Type 0
Sound c = IsSound (ring_of 4) c

-- an attempt that has written 5 to address 1
abbrev pub wrote_one : Caller
wrote_one = written (attempt 0 Closed) 1 5

abbrev pub SoundExample : Type 0
SoundExample = Sound wrote_one

-- an idle caller with a write that was left over, and outside the heap
abbrev pub LeftOverExample : Type 0
LeftOverExample = ¬ Sound (record (opening (ring_of 4)) { writes = word 100 1 ∷ [] })

-- an idle caller that has a read in its signature
abbrev pub LeftReadExample : Type 0
LeftReadExample = ¬ Sound (record (opening (ring_of 4)) { read_sig = signature_of 1 (1 ∷ []) })

-- a caller that has a number, and hasn't stamped
abbrev pub StaleStampExample : Type 0
StaleStampExample = ¬ Sound (record (attempt 0 Closed) { stamp = 1 })

-- the same address twice
abbrev pub WroteTwiceExample : Type 0
WroteTwiceExample = ¬ Sound (record wrote_one { writes = word 1 5 ∷ word 1 6 ∷ [] })

-- a write past the heap
abbrev pub PastHeapExample : Type 0
PastHeapExample = ¬ Sound (written (attempt 0 Closed) 64 5)

-- a signature that has the place of address 2 too
abbrev pub LargerSignatureExample : Type 0
LargerSignatureExample = ¬ Sound (record wrote_one { write_sig = signature_of 1 (1 ∷ 2 ∷ []) })

-- a read that checks entry 2 and would move the start to 1 only, with nothing that it has found
abbrev pub LowCandidateExample : Type 0
LowCandidateExample =
    ¬ Sound (attempt 0 (Check (Read 3 8) (First (record { top = 3; at = 2; candidate = 1 }))))

abbrev pub WriteMovesExample : Type 0
WriteMovesExample = IsMoved (ring_of 4) (attempt 0 Closed) wrote_one

-- a read of an address that was written opens no request
abbrev pub NoReadOfWrittenExample : Type 0
NoReadOfWrittenExample = ¬ IsMoved (ring_of 4) wrote_one (record wrote_one { stage = ReadHeap 1 })

-- nothing was written
abbrev pub NoEmptyStampExample : Type 0
NoEmptyStampExample = ¬ IsMoved (ring_of 4) (attempt 0 Closed) (attempt 0 (Check Stamp Index))

-- the tags of entry 2
abbrev pub TagsExample : Type 0
TagsExample = (filling 2 ≡ 9) × (writing 2 ≡ 10) × (complete 2 ≡ 11) × (entry_of 11 ≡ 2)

abbrev pub KindsExample : Type 0
KindsExample =
    (kind_at (Check Stamp Index) ≡ Some LoadIndex) × (kind_at (Turn Writing) ≡ Some StoreTagWriting) × (kind_at (Between Filling) ≡ None)
