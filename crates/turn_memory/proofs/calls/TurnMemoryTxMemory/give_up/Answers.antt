-- The writes are undone, and the lock is given back.
use Rattle.std.proofs.Common.{◌∙◌, sym}
use Rattle.turn_memory.specs.declared.pass.TurnPass.{TurnPass}
use Rattle.turn_memory.proofs.Known.{works, pass_knows}
use Rattle.turn_memory.proofs.Attempts.{may_release, released_built, ended}
use Rattle.turn_memory.proofs.calls.TurnMemoryTxMemory.give_up.Goals as goal

pub give_lock-requires-clause-may : goal.give_lock-requires-clause-may
give_lock-requires-clause-may g c =
    let p = c.requires.of.built in
    may_release p (works p c.requires.active (sym c.take.ensures.value ∙ c.in-Some.is)) _ c.restore.new.self c.restore.ensures

pub returns : goal.returns
returns g c =
    let p = c.requires.of.built in
    let w = works p c.requires.active (sym c.take.ensures.value ∙ c.in-Some.is) in
    let now : TurnPass g.row.S.Denot = record { seat = c.give_lock.new.seat; heap = c.take.new.self } in
    let gave = c.give_lock.ensures in
    record {
      of = pass_knows (released_built p w now c.restore.new.self gave.gave gave.table c.take.ensures.after) c.requires.of.is_made;
      ended = ended p w now c.restore.new.self gave.gave;
    }
