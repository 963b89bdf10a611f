use Rattle.std.proofs.Common.{rules}
use Rattle.ring_script.proofs.printer.write_later.Goals as goal

pub returns-in-Lost : goal.returns-in-Lost
returns-in-Lost c = search rules
