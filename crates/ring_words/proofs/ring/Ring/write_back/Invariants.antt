use Rattle.ring_core.specs.Machine.{steps_of}
use Rattle.ring_words.specs.Pass.{IsSeated, process_now}
use Rattle.ring_words.specs.Turns.{IsTurning}
use Rattle.ring_words.proofs.ring.Ring.write_back.Given as goal

abbrev pub ghosts-turn_step : goal.ghosts-turn_step
ghosts-turn_step g a = record { moved = process_now a.pass.now }

-- the same turn is open
abbrev pub invariant-loop-progress : goal.invariant-loop-progress
invariant-loop-progress g l =
    IsSeated g.S.Sense.good g.S.Sense.budget l.self.words.shared.key l.self.words.shared.table_id l.pass × IsTurning l.fn.pass l.pass

abbrev pub decreases-loop-progress : goal.decreases-loop-progress
decreases-loop-progress g l = steps_of l.pass.local
