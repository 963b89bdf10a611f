-- The attempt is a commit, or it is over; else it goes on as it was, and is asked for again.
use Rattle.ring_words.specs.Pass.{made_by, shape_by, view_of}
use Rattle.ring_words.proofs.Committing.{same_then, became_then, ended_since, shows_since, worn_since}
use Rattle.ring_words.proofs.ring.Ring.enter.Goals as goal

pub returns-in-Stamped-clause-became : goal.returns-in-Stamped-clause-became
returns-in-Stamped-clause-became g c =
    let (next, finite, of, same) = c.loop.invariant in
    (c.in-Stamped.stamp, became_then same (made_by c.args.self.now).opening c.in-Stamped.stamp c.in-Stamped.ensures.answer)

pub returns-in-Stopped-clause-refused : goal.returns-in-Stopped-clause-refused
returns-in-Stopped-clause-refused g c =
    let (next, finite, of, same) = c.loop.invariant in
    let (ended, shown, loaded) = c.in-Stopped.ensures.answer in
    (ended_since same ended, shows_since same (shape_by c.args.self.now) (view_of c.try_stamp.new.pass).history c.in-Stopped.stop shown)

pub returns-in-Worn-clause-refused : goal.returns-in-Worn-clause-refused
returns-in-Worn-clause-refused g c =
    let (next, finite, of, same) = c.loop.invariant in
    worn_since same c.in-Worn.ensures.answer

pub loop-preserved : goal.loop-preserved
loop-preserved g c =
    let (next, finite, of, same) = c.loop.invariant in
    (tt, tt, c.try_stamp.ensures.of, same_then same c.in-Later.ensures.answer.0)
