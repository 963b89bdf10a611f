use Rattle.std.proofs.Common.{rules}
use Rattle.ring_script.proofs.script_printer.is_run_by.Goals as goal

pub returns-then-next-event : goal.returns-then-next-event
returns-then-next-event c = search rules
