use Rattle.std.proofs.Common.{rules}
use Rattle.ring_script.proofs.draft.are_apart.Goals as goal

pub returns-then-one-other : goal.returns-then-one-other
returns-then-one-other c = search rules
