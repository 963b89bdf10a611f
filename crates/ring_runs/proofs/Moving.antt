-- Moves of a stored world, and of the world that it stands for.
use Rattle.std.proofs.Common.{◌≡◌, ◌↔◌, ℕ, zero, suc, ◌<◌, List, [], ◌∷◌, length, get_or, set, map, Option, Some, None, Result, Ok, Err, IsSome, IsErr, IfSome, IfNone, OnOk, OnErr, refl, sym, ◌∙◌, ap, subst, arith}
use Rattle.std.proofs.lemmas.List.{map-set, length-map}
use mathlib.Core.Option.{some, some-injective, some-ne-none}
use lib.ListN.{get_elem?}
use Rattle.tx_model.specs.declared.pass.PassState.TheVariants as state
use Rattle.tx_model.specs.declared.pass.WriteFull.{WriteFull}
use Rattle.tx_model.specs.Words.{HasAddress}
use Rattle.tx_model.specs.Attempt.{MayRead, MayWrite}
use Rattle.ring_core.specs.declared.shape.Shape.{Shape}
use Rattle.ring_core.specs.declared.stage.Stage.{Stage}
use Rattle.ring_core.specs.declared.stage.Stage.TheVariants.{BeginIndex, ReadHeap, Check}
use Rattle.ring_core.specs.declared.stage.Purpose.TheVariants.{Stamp}
use Rattle.ring_core.specs.declared.stage.CheckStage.TheVariants.{Index}
use Rattle.ring_core.specs.Machine as core
use Rattle.ring_core.specs.Machine.{with_caller, written, resumed, IsFull}
use Rattle.ring_worlds.specs.declared.process.Process.{Process}
use Rattle.ring_state.specs.declared.plain.Plain.{Plain}
use Rattle.ring_worlds.specs.World.{World, attempt_of, with_process}
use Rattle.ring_worlds.specs.Runs.{resting}
use Rattle.ring_worlds.specs.Sound.{Sound}
use Rattle.ring_worlds.specs.Moves.{IsClosed, IsBetween, at_stage, with_written, ended, IsMove, Moves}
use Rattle.ring_worlds.specs.Moves.IsMove.{begins, reads, rereads, writes, stamps, turns, ends}
use Rattle.ring_worlds.specs.Laws.{MoveKeeps}
use Rattle.ring_state.specs.Plain.{MemberView, process_of, resting_member, with_machine, ended_member, NothingSealed}
use Rattle.ring_state.specs.Kept.{world_of, member_at, with_member, IsKept}
use Rattle.ring_worlds.specs.Calls.{process_at}
use Rattle.ring_worlds.proofs.lemmas.Elements.{elem_there, get_either}
use Rattle.ring_state.proofs.lemmas.Stepping.{process_here, same_member, shapes_with, shape_here}

-- a stored caller seals, publishes and owns nothing
none_sealed : (members : List MemberView) (i : ℕ) (p : Process) → get_elem? (map process_of members) i ≡ some p
    → (p.sealed ≡ []) × (p.published ≡ []) × (p.owned ≡ [])
none_sealed [] i p e = absurd (some-ne-none p (sym e))
none_sealed (m ∷ members) zero p e =
    subst (λ (q : Process). (q.sealed ≡ []) × (q.published ≡ []) × (q.owned ≡ [])) (some-injective (process_of m) p e) (refl, refl, refl)
none_sealed (m ∷ members) (suc i) p e = none_sealed members i p e

pub nothing_sealed : (d : Plain) → NothingSealed (world_of d)
nothing_sealed d = none_sealed d.members.items

-- a caller of the stored world has moved
pub record HasMoved (d : Plain) (w : World) (who : ℕ) (q : Process) (new : MemberView) : Type 0 where
  pub kept : IsKept (with_member d who new)
  pub moves : Moves w who (world_of (with_member d who new))
  pub after : world_of (with_member d who new) ≡ with_process w who q

-- the same where the move has an answer
pub record HasRead (d : Plain) (w : World) (who addr : ℕ) (new : MemberView) (result : Option ℕ) : Type 0 where
  pub kept : IsKept (with_member d who new)
  pub moves : Moves w who (world_of (with_member d who new))
  pub answered : IfSome result (λ _. world_of (with_member d who new) ≡ w)
  pub asked : IfNone result (world_of (with_member d who new) ≡ with_process w who (at_stage (process_at w who) (ReadHeap addr)))

pub record HasPut (d : Plain) (w : World) (who addr value : ℕ) (new : MemberView) (result : Result (Unit {0}) WriteFull) : Type 0 where
  pub kept : IsKept (with_member d who new)
  pub moves : OnOk result (Moves w who (world_of (with_member d who new)))
  pub wrote : OnOk result (world_of (with_member d who new) ≡ with_process w who (with_written (process_at w who) addr value))
  pub same : OnErr result (world_of (with_member d who new) ≡ w)

module _ (keeps : MoveKeeps) (d : Plain) (kept : IsKept d) (w : World) (view : world_of d ≡ w) (who : ℕ) (here : who < length w.processes) (old : MemberView)
    (there : old ≡ get_or d.members.items who old) where
  below : who < length d.members.items
  below = omega (arith, length-map d.members.items process_of, ap (λ (w : World). length w.processes) view)

  old_is : old ≡ member_at d who
  old_is = there ∙ get_either d.members.items who old (resting_member d.shape) below

  pub process_is : process_of old ≡ process_at w who
  process_is = ap process_of old_is ∙ sym (process_here d who) ∙ ap (λ (w : World). process_at w who) view

  pub shape_is : old.machine.shape ≡ d.shape
  shape_is = ap (λ (m : MemberView). m.machine.shape) old_is ∙ shape_here d who kept.shapes below

  pub heap_is : (addr : ℕ) → addr < w.shape.heap → addr < old.machine.shape.heap
  heap_is addr within = omega (arith, ap (λ (s : Shape). s.heap) shape_is, ap (λ (w : World). w.shape.heap) view)

  moved_by : (new : MemberView) (q : Process) → new.machine.shape ≡ d.shape → process_of new ≡ q → IsMove w.shape w.regions (process_at w who) q
      → HasMoved d w who q new
  moved_by new q shape is move =
      let after : world_of (with_member d who new) ≡ with_process w who q =
      ap (λ processes. record (world_of d) { processes = processes })
      (map-set process_of d.members.items who new ∙ ap (set (map process_of d.members.items) who) is)
      ∙ ap (λ (w : World). with_process w who q) view in
      let moves : Moves w who (world_of (with_member d who new)) = record {
        process = process_at w who;
        here = elem_there w.processes who (resting w.shape) here;
        moved = q;
        moves = move;
        after = after;
      } in
      record {
        kept = record {
          sound = keeps w (world_of (with_member d who new)) who (subst Sound view kept.sound) moves;
          nothing_sealed = nothing_sealed (with_member d who new);
          shapes = shapes_with d who kept.shapes new shape;
        };
        moves = moves;
        after = after;
      }

  -- at another stage
  staged : (new : MemberView) (stage : Stage) → new ≡ with_machine old (core.at_stage old.machine stage)
      → IsMove w.shape w.regions (process_at w who) (at_stage (process_at w who) stage) → HasMoved d w who (at_stage (process_at w who) stage) new
  staged new stage is move =
      moved_by new (at_stage (process_at w who) stage) (ap (λ (m : MemberView). m.machine.shape) is ∙ shape_is)
      (ap process_of is ∙ ap (λ p. at_stage p stage) process_is) move

  pub has_begun : (new : MemberView) → (process_at w who).caller.state ≡ state.Idle → IsClosed (process_at w who)
      → new ≡ with_machine old (core.at_stage old.machine BeginIndex) → HasMoved d w who (at_stage (process_at w who) BeginIndex) new
  has_begun new idle closed is = staged new BeginIndex is (begins idle closed refl)

  pub has_stamped : (new : MemberView) → IsBetween (process_at w who) → 0 < length (process_at w who).caller.writes
      → new ≡ with_machine old (core.at_stage old.machine (Check Stamp Index))
      → HasMoved d w who (at_stage (process_at w who) (Check Stamp Index)) new
  has_stamped new between wrote is = staged new (Check Stamp Index) is (stamps between wrote refl)

  pub has_turned : (new : MemberView) → (process_at w who).caller.state ≡ state.Stamped → IsClosed (process_at w who)
      → new ≡ with_machine old (core.at_stage old.machine (resumed old.machine.caller.stage))
      → HasMoved d w who (at_stage (process_at w who) (resumed (process_at w who).caller.stage)) new
  has_turned new stamped closed is =
      staged new (resumed (process_at w who).caller.stage) (is
      ∙ ap (λ (p : Process). with_machine old (core.at_stage old.machine (resumed p.caller.stage))) process_is) (turns stamped closed refl)

  pub has_ended : (new : MemberView) → IsBetween (process_at w who) → new ≡ ended_member old → HasMoved d w who (ended w.shape (process_at w who)) new
  has_ended new between is =
      moved_by new (ended w.shape (process_at w who)) (ap (λ (m : MemberView). m.machine.shape) is ∙ shape_is)
      (ap process_of is ∙ ap (λ (s : Shape). ended s (process_of old)) (shape_is ∙ ap (λ (w : World). w.shape) view) ∙ ap (ended w.shape) process_is)
      (ends between refl)

  -- a read that is answered at once changes nothing
  pub has_reread : (new : MemberView) (addr : ℕ) → IsBetween (process_at w who) → MayRead w.regions (attempt_of (process_at w who)) addr
      → HasAddress old.machine.caller.writes addr → new ≡ old → HasMoved d w who (process_at w who) new
  has_reread new addr between may has is =
      moved_by new (process_at w who) (ap (λ (m : MemberView). m.machine.shape) is ∙ shape_is) (ap process_of is ∙ process_is)
      (rereads addr between (subst (λ (p : Process). HasAddress p.caller.writes addr) process_is has) may refl)

  pub has_asked : (new : MemberView) (addr : ℕ) → IsBetween (process_at w who) → addr < w.shape.heap → MayRead w.regions (attempt_of (process_at w who)) addr
      → (HasAddress old.machine.caller.writes addr → ⊥)
      → new ≡ with_machine old (core.at_stage old.machine (ReadHeap addr)) → HasMoved d w who (at_stage (process_at w who) (ReadHeap addr)) new
  has_asked new addr between within may none is =
      staged new (ReadHeap addr) is (reads addr between within (λ has. none (subst (λ (p : Process). HasAddress p.caller.writes addr) (sym process_is) has))
      may refl)

  pub has_written : (new : MemberView) (addr value : ℕ) → IsBetween (process_at w who) → addr < w.shape.heap
      → MayWrite w.regions (attempt_of (process_at w who)) addr value → (IsFull old.machine.caller addr → ⊥)
      → new ≡ with_machine old (with_caller old.machine (written old.machine.caller addr value))
      → HasMoved d w who (with_written (process_at w who) addr value) new
  has_written new addr value between within may room is =
      moved_by new (with_written (process_at w who) addr value) (ap (λ (m : MemberView). m.machine.shape) is ∙ shape_is)
      (ap process_of is ∙ ap (λ p. with_written p addr value) process_is)
      (writes addr value between within may (λ full. room (subst (λ (p : Process). IsFull p.caller addr) (sym process_is) full)) refl)

  -- nothing changes
  pub stays : (new : MemberView) → new ≡ old → world_of (with_member d who new) ≡ w
  stays new is = ap (λ m. world_of (with_member d who m)) (is ∙ old_is) ∙ same_member d who ∙ view

  pub kept_still : (new : MemberView) → new ≡ old → IsKept (with_member d who new)
  kept_still new is = record {
    sound = subst Sound (sym (stays new is)) (subst Sound view kept.sound);
    nothing_sealed = nothing_sealed (with_member d who new);
    shapes = shapes_with d who kept.shapes new (ap (λ (m : MemberView). m.machine.shape) is ∙ shape_is);
  }

  pub has_read : (new : MemberView) (addr : ℕ) → IsBetween (process_at w who) → addr < w.shape.heap → MayRead w.regions (attempt_of (process_at w who)) addr
      → (result : Option ℕ) → (IsSome result ↔ HasAddress old.machine.caller.writes addr)
      → IfSome result (λ _. new ≡ old) → IfNone result (new ≡ with_machine old (core.at_stage old.machine (ReadHeap addr))) → HasRead d w who addr new result
  has_read new addr between within may (Some value) exactly same opened =
      let moved = has_reread new addr between may (exactly.0 refl) same in
      record {
        kept = moved.kept;
        moves = moved.moves;
        answered = stays new same;
        asked = tt;
      }
  has_read new addr between within may None exactly same opened =
      let moved = has_asked new addr between within may (λ has. cc (exactly.1 has)) opened in
      record {
        kept = moved.kept;
        moves = moved.moves;
        answered = tt;
        asked = moved.after;
      }

  pub has_put : (new : MemberView) (addr value : ℕ) → IsBetween (process_at w who) → addr < w.shape.heap
      → MayWrite w.regions (attempt_of (process_at w who)) addr value → (result : Result (Unit {0}) WriteFull)
      → (IsErr result ↔ IsFull old.machine.caller addr)
      → OnOk result (new ≡ with_machine old (with_caller old.machine (written old.machine.caller addr value))) → OnErr result (new ≡ old)
      → HasPut d w who addr value new result
  has_put new addr value between within may (Ok done) exactly wrote same =
      let moved = has_written new addr value between within may (λ full. cc (exactly.1 full)) wrote in
      record {
        kept = moved.kept;
        moves = moved.moves;
        wrote = moved.after;
        same = tt;
      }
  has_put new addr value between within may (Err full) exactly wrote same = record {
    kept = kept_still new same;
    moves = tt;
    wrote = tt;
    same = stays new same;
  }
