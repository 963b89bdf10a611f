-- One batch more came in.
use Rattle.std.proofs.Common.{subst}
use Rattle.mail_workers.specs.Indexing.{NeedWas}
use Rattle.mail_workers.proofs.Moves.{moved_then, need_since}
use Rattle.mail_workers.proofs.message.index_message.Goals as goal

pub returns-then-left-eq0-clause-moved : goal.returns-then-left-eq0-clause-moved
returns-then-left-eq0-clause-moved g c = moved_then c.loop.invariant.moved c.add_words-left.ensures.moved

pub returns-then-left-eq0-clause-finished : goal.returns-then-left-eq0-clause-finished
returns-then-left-eq0-clause-finished g c =
    subst
    (λ left. NeedWas (g.M.TxMemory.made c.args.mem.now) (g.M.TxMemory.view c.add_words-left.new.pass).history (g.M.TxMemory.view c.args.pass.now).front
    c.args.message left) c.if-left-eq0.true
    (need_since c.loop.invariant.moved.front c.add_words-left.ensures.left)

pub loop-preserved : goal.loop-preserved
loop-preserved g c = record {
  of = c.add_words-left.ensures.of;
  idle = c.add_words-left.ensures.idle;
  moved = moved_then c.loop.invariant.moved c.add_words-left.ensures.moved;
}
