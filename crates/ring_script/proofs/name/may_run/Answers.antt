use Rattle.std.proofs.Common.{rules}
use Rattle.ring_script.proofs.name.may_run.Goals as goal

pub returns-in-Write : goal.returns-in-Write
returns-in-Write c = search rules
