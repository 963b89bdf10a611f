use Rattle.ring_core.specs.Machine.{steps_of}
use Rattle.ring_words.specs.Pass.{IsSeated, process_now}
use Rattle.ring_words.specs.Requests.{KeptOn}
use Rattle.ring_words.proofs.ring.Ring.answer.Given as goal

abbrev pub ghosts-step : goal.ghosts-step
ghosts-step g a = record { moved = process_now a.pass.now }

-- the same request is open
abbrev pub invariant-loop-progress : goal.invariant-loop-progress
invariant-loop-progress g l =
    IsSeated g.S.Sense.good g.S.Sense.budget l.self.words.shared.key l.self.words.shared.table_id l.pass × KeptOn l.fn.pass l.pass

abbrev pub decreases-loop-progress : goal.decreases-loop-progress
decreases-loop-progress g l = steps_of l.pass.local
