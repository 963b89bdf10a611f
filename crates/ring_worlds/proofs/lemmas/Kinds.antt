-- A caller whose next step has a kind has an open request.
use Rattle.std.proofs.Common.{◌≡◌, true, Some, refl}
use Rattle.ring_core.specs.declared.kind.Kind.{Kind}
use Rattle.ring_core.specs.declared.stage.Stage.{Stage}
use Rattle.ring_core.specs.declared.stage.Stage.TheVariants.{Closed, BeginIndex, BeginTag, ReadHeap, Check, StampSlot, StampSwap, Turn, Between}
use Rattle.ring_core.specs.Kinds.{kind_at}
use Rattle.ring_core.specs.Request.{is_open}

pub open_at : (stage : Stage) (kind : Kind) → kind_at stage ≡ Some kind → is_open stage ≡ true
open_at Closed kind is = cc
open_at BeginIndex kind is = refl
open_at (BeginTag top at) kind is = refl
open_at (ReadHeap addr) kind is = refl
open_at (Check purpose stage) kind is = refl
open_at (StampSlot top) kind is = refl
open_at (StampSwap top) kind is = refl
open_at (Turn stage) kind is = refl
open_at (Between stage) kind is = cc
