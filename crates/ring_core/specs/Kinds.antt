-- The kind of the atomic step that comes next, by the stage of the open request.
use Rattle.std.specs.Prelude.{Option, Some, None}
use Rattle.ring_core.specs.declared.kind.Kind.{Kind}
use Rattle.ring_core.specs.declared.kind.Kind.TheVariants as kind
use Rattle.ring_core.specs.declared.stage.Stage.{Stage}
use Rattle.ring_core.specs.declared.stage.Stage.TheVariants.{Closed, BeginIndex, BeginTag, ReadHeap, Check, StampSlot, StampSwap, Turn, Between}
use Rattle.ring_core.specs.declared.stage.CheckStage.{CheckStage}
use Rattle.ring_core.specs.declared.stage.CheckStage.TheVariants.{Index, First, Words, Second}
use Rattle.ring_core.specs.declared.stage.TurnStage.{TurnStage}
use Rattle.ring_core.specs.declared.stage.TurnStage.TheVariants.{Filling, Signature, Writing, Earlier, EarlierWords, EarlierAgain, Heap, Before, Complete}

abbrev pub check_kind : CheckStage → Kind
check_kind Index = kind.LoadIndex
check_kind (First walk) = kind.LoadTag
check_kind (Words walk word) = kind.LoadSig
check_kind (Second walk) = kind.LoadTag

abbrev pub turn_kind : TurnStage → Kind
turn_kind Filling = kind.StoreTagFilling
turn_kind (Signature word) = kind.StoreSig
turn_kind Writing = kind.StoreTagWriting
turn_kind (Earlier at) = kind.LoadTag
turn_kind (EarlierWords at word) = kind.LoadSig
turn_kind (EarlierAgain at) = kind.LoadTag
turn_kind (Heap index) = kind.StoreHeap
turn_kind Before = kind.LoadTag
turn_kind Complete = kind.StoreTagComplete

-- where no request is open there is none
abbrev pub kind_at : Stage → Option Kind
kind_at Closed = None
kind_at BeginIndex = Some kind.LoadIndex
kind_at (BeginTag top at) = Some kind.LoadTag
kind_at (ReadHeap addr) = Some kind.LoadHeap
kind_at (Check purpose stage) = Some (check_kind stage)
kind_at (StampSlot top) = Some kind.LoadTag
kind_at (StampSwap top) = Some kind.SwapIndex
kind_at (Turn stage) = Some (turn_kind stage)
kind_at (Between stage) = None
