-- One more word is written, or nothing has changed.
use Rattle.std.proofs.Common.{sym, ap, subst, ◌∙◌}
use Rattle.ring_core.specs.declared.shape.Shape.{Shape}
use Rattle.ring_core.specs.Shape.{IsShape}
use Rattle.ring_words.specs.declared.pass.RingPass.{RingPass}
use Rattle.ring_words.proofs.Knows.{pass_knows}
use Rattle.ring_words.proofs.ReadCalls.{write_seated, write_closed}
use Rattle.ring_words.proofs.ring.Ring.write.Goals as goal

pub returns-clause-of : goal.returns-clause-of
returns-clause-of g c =
    let ring = c.args.self.now in
    let pass = c.args.pass.now in
    let put = c.put_write.ensures in
    let now : RingPass g.row.S.Denot = record { local = c.put_write.new.self; seat = pass.seat; seals = pass.seals } in
    pass_knows g.S.Sense.allows g.S.Sense.good g.S.Sense.budget ring.words.shared.key ring.words.shared.table_id now c.requires.of.is_made
    (write_seated g.S.Sense.good g.S.Sense.budget ring.words.shared.key ring.words.shared.table_id pass c.requires.of.seated c.requires.of.closed
    c.requires.active c.move_keeps.ensures (subst IsShape (sym ring.told.1) ring.limits)
    c.moves_keep.ensures (ring.told.2 ∙ ap (λ (s : Shape). s.heap) (sym ring.told.1)) c.args.addr c.requires.within c.args.value c.requires.rule
    c.put_write.result c.put_write.new.self put.full put.ok put.moved put.kept)
    (write_closed pass c.requires.of.closed c.args.addr c.args.value c.put_write.result c.put_write.new.self put.ok put.kept) c.requires.of.counted
