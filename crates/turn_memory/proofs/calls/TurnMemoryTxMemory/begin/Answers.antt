-- The lock is taken with the heap, and the attempt reads from the last state.
use Rattle.std.proofs.Common.{◌∙◌, Some, ap, refl}
use Rattle.turn_memory.proofs.Steps.{takes_lock}
use Rattle.turn_memory.specs.declared.pass.TurnPass.{TurnPass}
use Rattle.turn_memory.proofs.Known.{knows_view, rests, pass_knows, took, took_slot, began_built, began}
use Rattle.turn_memory.proofs.calls.TurnMemoryTxMemory.begin.Goals as goal

pub take_lock-requires-clause-may : goal.take_lock-requires-clause-may
take_lock-requires-clause-may g c = λ f ne step. takes_lock _ _ _ _ c.args.pass.now.seat.id c.args.pass.now.seat.me f _ (knows_view c.requires.of.built) ne

pub exchange-requires : goal.exchange-requires
exchange-requires g c =
    let p = c.requires.of.built in
    let told = c.take_lock.ensures.took.1.0 refl in
    (c.take_lock.ensures.table ∙ p.seat, (Some (took p (rests p c.requires.idle) told).heap, took_slot p (rests p c.requires.idle) told))

pub returns-in-Some : goal.returns-in-Some
returns-in-Some g c =
    let p = c.requires.of.built in
    let rest = rests p c.requires.idle in
    let told = c.take_lock.ensures.took.1.0 refl in
    let now : TurnPass g.row.S.Denot = record { seat = c.exchange.new.seat; heap = Some c.settle.new.self } in
    let left = c.exchange.ensures in
    let seat = left.0 ∙ c.take_lock.ensures.table in
    let heap = ap Some c.settle.ensures in
    record {
      of = pass_knows (began_built p rest told now seat left.2 c.in-Some.is left.3 heap) c.requires.of.is_made;
      began = began p rest told now seat left.2 c.in-Some.is left.3 heap;
    }
