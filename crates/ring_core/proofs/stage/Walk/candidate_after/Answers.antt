use Rattle.std.proofs.Common.{rules}
use Rattle.ring_core.proofs.stage.Walk.candidate_after.Goals as goal

pub returns-then-tag-writing : goal.returns-then-tag-writing
returns-then-tag-writing c = search rules
