-- The commit is complete, or the pass is stamped as before.
use Rattle.ring_words.specs.Pass.{made_by}
use Rattle.ring_words.proofs.Committing.{still_then, finished_then}
use Rattle.ring_words.proofs.ring.Ring.finish.Goals as goal

pub returns-in-Completed-clause-finished : goal.returns-in-Completed-clause-finished
returns-in-Completed-clause-finished g c =
    let (next, finite, of, still) = c.loop.invariant in
    finished_then (made_by c.args.self.now).opening c.in-Completed.receipt still c.in-Completed.ensures.completed

pub loop-preserved : goal.loop-preserved
loop-preserved g c =
    let (next, finite, of, still) = c.loop.invariant in
    (tt, tt, c.turn.ensures.of, still_then still c.in-Later.ensures.still)
