-- The word is written, or the heap is as it was.
use Rattle.std.proofs.Common.{Some, ap, refl}
use Rattle.std.proofs.lemmas.Result.{on_ok_weaker}
use Rattle.turn_memory.specs.Lock.{attempt_on}
use Rattle.turn_memory.proofs.Known.{works, pass_knows}
use Rattle.turn_memory.proofs.Attempts.{open_within, open_after, still_built}
use Rattle.turn_memory.proofs.calls.TurnMemoryTxMemory.write.Goals as goal

pub write-requires : goal.write-requires
write-requires g c = open_within (works c.requires.of.built c.requires.active c.in-Some.is).open_on c.args.addr c.requires.within

pub returns-clause-of : goal.returns-clause-of
returns-clause-of g c =
    let p = c.requires.of.built in
    let w = works p c.requires.active c.in-Some.is in
    pass_knows (still_built p w (record { seat = c.args.pass.now.seat; heap = Some c.write.new.self }) refl refl
    (open_after w.open_on c.args.addr c.requires.within c.args.value (rw (w.me, w.has_heap) at c.requires.rule) c.write.result c.write.ensures.exactly_full
    c.write.new.self c.write.ensures.written c.write.ensures.unchanged)) c.requires.of.is_made

pub returns-clause-written : goal.returns-clause-written
returns-clause-written g c =
    let p = c.requires.of.built in
    let w = works p c.requires.active c.in-Some.is in
    on_ok_weaker c.write.result (λ is. rw (w.me, w.has_heap) (ap (attempt_on p.view.history) is)) c.write.ensures.written

pub returns-clause-exactly_full : goal.returns-clause-exactly_full
returns-clause-exactly_full g c =
    let w = works c.requires.of.built c.requires.active c.in-Some.is in
    rw (w.me, w.has_heap) c.write.ensures.exactly_full
