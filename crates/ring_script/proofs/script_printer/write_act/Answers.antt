use Rattle.std.proofs.Common.{rules}
use Rattle.ring_script.proofs.script_printer.write_act.Goals as goal

pub returns-in-Store : goal.returns-in-Store
returns-in-Store c = search rules
