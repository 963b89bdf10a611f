-- the attempt goes on as it was, but for its start
use Rattle.ring_words.specs.Pass.{IsOf, view_of, attempt_now}
use Rattle.ring_words.proofs.Committing.{GoesOnSame}
use Rattle.ring_words.proofs.ring.Ring.enter.Given as goal

abbrev pub invariant-loop : goal.invariant-loop
invariant-loop g l =
    (goal.iterator-loop g).can_next l.iterator' × (goal.iterator-loop g).is_finite l.iterator'
    × IsOf g.S.Sense.allows g.S.Sense.good g.S.Sense.budget l.self l.pass
    × GoesOnSame (view_of l.initial.pass) (view_of l.pass) (attempt_now l.initial.pass) (attempt_now l.pass)
