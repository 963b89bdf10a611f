use Rattle.ring_core.specs.Machine.{steps_of}
use Rattle.ring_words.specs.Pass.{IsSeated, process_now}
use Rattle.ring_words.specs.Stamping.{StampsOn}
use Rattle.ring_words.proofs.ring.Ring.stamp.Given as goal

abbrev pub ghosts-step : goal.ghosts-step
ghosts-step g a = record { moved = process_now a.pass.now }

abbrev pub ghosts-exchange : goal.ghosts-exchange
ghosts-exchange g a = record { moved = process_now a.pass.now }

-- the request is open, and its swap is still to come
abbrev pub invariant-loop-from : goal.invariant-loop-from
invariant-loop-from g l =
    IsSeated g.S.Sense.good g.S.Sense.budget l.self.words.shared.key l.self.words.shared.table_id l.pass × StampsOn l.fn.pass l.pass

abbrev pub decreases-loop-from : goal.decreases-loop-from
decreases-loop-from g l = steps_of l.pass.local
