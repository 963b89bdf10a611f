use Rattle.ring_worlds.proofs.worlds.Unsound.{early, stale, hasty, lost, disordered, unwaited, intruded}
use Rattle.ring_worlds.proofs.laws.unsound_examples.Goals as goal

pub returns : goal.returns
returns c = record { early = early; stale = stale; hasty = hasty; lost = lost; disordered = disordered; unwaited = unwaited; intruded = intruded }
