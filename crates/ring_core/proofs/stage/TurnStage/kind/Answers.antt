use Rattle.std.proofs.Common.{rules}
use Rattle.ring_core.proofs.stage.TurnStage.kind.Goals as goal

pub returns-in-Complete : goal.returns-in-Complete
returns-in-Complete c = search rules
