-- A caller with an open request has a next step, and runs of steps, moves and owners' stores.
use Rattle.std.proofs.Common.{◌≡◌, ℕ, true, Some, refl, ap, inl, inr}
use mathlib.Core.Option.{some}
use lib.ListN.{get_elem?}
use Rattle.std.proofs.lemmas.Bool.{cases_eq}
use Rattle.ring_core.specs.declared.kind.Kind.{Kind}
use Rattle.ring_core.specs.declared.kind.Kind.TheVariants as kind
use Rattle.ring_core.specs.declared.stage.Stage.{Stage}
use Rattle.ring_core.specs.declared.stage.Stage.TheVariants.{Closed, BeginIndex, BeginTag, ReadHeap, Check, StampSlot, StampSwap, Turn, Between}
use Rattle.ring_core.specs.declared.stage.CheckStage.TheVariants.{Index, First, Words, Second}
use Rattle.ring_core.specs.declared.stage.TurnStage.TheVariants.{Filling, Signature, Writing, Earlier, EarlierWords, EarlierAgain, Heap, Before, Complete}
use Rattle.ring_core.specs.Kinds.{kind_at}
use Rattle.ring_core.specs.Request.{is_open, action_at}
use Rattle.ring_worlds.specs.declared.process.Process.{Process}
use Rattle.ring_worlds.specs.World.{World}
use Rattle.ring_worlds.specs.Sound.{Sound}
use Rattle.ring_worlds.specs.Steps.{StepsTo, Steps}
use Rattle.ring_worlds.specs.Runs.{Happens, Runs}
use Rattle.ring_worlds.specs.Runs as runs
use Rattle.ring_worlds.specs.Laws.{StepsKeep, MoveKeeps, OwnedStoreKeeps, RunKeeps, OpeningIsSound, ReachedIsSound, StepExists}

module _ (w : World) (who : ℕ) (p : Process) (here : get_elem? w.processes who ≡ some p) where
  abbrev HasNext : Type 0
  HasNext = (k : Kind) × (next : World) × Steps w who k next

  step : (k : Kind) (next : World) → kind_at p.caller.stage ≡ Some k → StepsTo w who p k next → HasNext
  step k next is to = (k, next, record { process = p; here = here; is_kind = is; steps = to })

  next_at : (stage : Stage) → p.caller.stage ≡ stage → is_open stage ≡ true → HasNext
  next_at Closed is opened = absurd cc
  next_at (Between stage) is opened = absurd cc
  next_at BeginIndex is opened = step kind.LoadIndex _ (ap kind_at is) (ap (action_at w.shape p.caller) is, refl)
  next_at (BeginTag top at) is opened = step kind.LoadTag _ (ap kind_at is) (_, (ap (action_at w.shape p.caller) is, refl))
  next_at (ReadHeap addr) is opened = step kind.LoadHeap _ (ap kind_at is) (addr, (ap (action_at w.shape p.caller) is, refl))
  next_at (Check why Index) is opened = step kind.LoadIndex _ (ap kind_at is) (ap (action_at w.shape p.caller) is, refl)
  next_at (Check why (First walk)) is opened = step kind.LoadTag _ (ap kind_at is) (_, (ap (action_at w.shape p.caller) is, refl))
  next_at (Check why (Words walk word)) is opened = step kind.LoadSig _ (ap kind_at is) (_, word, (ap (action_at w.shape p.caller) is, refl))
  next_at (Check why (Second walk)) is opened = step kind.LoadTag _ (ap kind_at is) (_, (ap (action_at w.shape p.caller) is, refl))
  next_at (StampSlot top) is opened = step kind.LoadTag _ (ap kind_at is) (_, (ap (action_at w.shape p.caller) is, refl))
  next_at (StampSwap top) is opened =
      elim (cases_eq w.index top) [
        | inl same ↦ step kind.SwapIndex _ (ap kind_at is) (top, ap (action_at w.shape p.caller) is, inl (same, refl))
        | inr other ↦ step kind.SwapIndex _ (ap kind_at is) (top, ap (action_at w.shape p.caller) is, inr (other, refl))
      ]
  next_at (Turn Filling) is opened = step kind.StoreTagFilling _ (ap kind_at is) (_, _, ap (action_at w.shape p.caller) is, refl)
  next_at (Turn (Signature j)) is opened = step kind.StoreSig _ (ap kind_at is) (_, j, _, ap (action_at w.shape p.caller) is, refl)
  next_at (Turn Writing) is opened = step kind.StoreTagWriting _ (ap kind_at is) (_, _, ap (action_at w.shape p.caller) is, refl)
  next_at (Turn (Earlier at)) is opened = step kind.LoadTag _ (ap kind_at is) (_, (ap (action_at w.shape p.caller) is, refl))
  next_at (Turn (EarlierWords at j)) is opened = step kind.LoadSig _ (ap kind_at is) (_, j, (ap (action_at w.shape p.caller) is, refl))
  next_at (Turn (EarlierAgain at)) is opened = step kind.LoadTag _ (ap kind_at is) (_, (ap (action_at w.shape p.caller) is, refl))
  next_at (Turn (Heap index)) is opened = step kind.StoreHeap _ (ap kind_at is) (_, _, ap (action_at w.shape p.caller) is, refl)
  next_at (Turn Before) is opened = step kind.LoadTag _ (ap kind_at is) (_, (ap (action_at w.shape p.caller) is, refl))
  next_at (Turn Complete) is opened = step kind.StoreTagComplete _ (ap kind_at is) (_, _, ap (action_at w.shape p.caller) is, refl)

pub step_exists : StepExists
step_exists w who p here opened = next_at w who p here p.caller.stage refl opened

-- ---- runs
module _ (steps : StepsKeep) (moves : MoveKeeps) (stores : OwnedStoreKeeps) where
  happens_keep : (w next : World) → Sound w → Happens w next → Sound next
  happens_keep w next s (runs.step who k taken) = (steps k w next who s taken).0
  happens_keep w next s (runs.move who made) = moves w next who s made
  happens_keep w next s (runs.owner_store who store) = stores w next who s store

  pub runs_keep : RunKeeps
  runs_keep w _ s runs.start = s
  runs_keep w next s (runs.more run event) = happens_keep _ next (runs_keep w _ s run) event

pub reached_is_sound : OpeningIsSound → RunKeeps → ReachedIsSound
reached_is_sound opens keeps shape regions words callers w may run = keeps _ w (opens shape regions words callers may) run
