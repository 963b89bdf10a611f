-- The word is there, and in the last state.
use Rattle.std.proofs.Common.{Some, ap, refl}
use Rattle.tx_model.specs.Calls.{Read}
use Rattle.turn_memory.specs.Lock.{made_of, attempt_on}
use Rattle.turn_memory.proofs.Known.{works, pass_knows, as_seen}
use Rattle.turn_memory.proofs.Attempts.{open_within, open_read, still_built, reads}
use Rattle.turn_memory.proofs.calls.TurnMemoryTxMemory.read.Goals as goal

pub read-requires : goal.read-requires
read-requires g c = open_within (works c.requires.of.built c.requires.active c.in-Some.is).open_on c.args.addr c.requires.within

pub returns-clause-of : goal.returns-clause-of
returns-clause-of g c =
    let p = c.requires.of.built in
    let w = works p c.requires.active c.in-Some.is in
    pass_knows (still_built p w (record { seat = c.args.pass.now.seat; heap = Some c.read.new.self }) refl (ap Some c.read.ensures.heap)
    (open_read w.open_on c.args.addr c.requires.within (rw (w.me, w.has_heap) at c.requires.rule))) c.requires.of.is_made

pub returns-clause-read : goal.returns-clause-read
returns-clause-read g c =
    let p = c.requires.of.built in
    let w = works p c.requires.active c.in-Some.is in
    let opening = (made_of c.args.self.now.table.shared.key).opening in
    as_seen p (record { seat = c.args.pass.now.seat; heap = Some c.read.new.self }) w.me w.has_heap
    (λ v v' a. Read opening v v' a (attempt_on v'.history c.read.new.self) c.args.addr c.read.result)
    (rw (c.read.ensures.heap, c.read.ensures.value) (reads p w c.args.addr c.requires.within))
