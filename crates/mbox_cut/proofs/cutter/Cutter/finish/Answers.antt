use Rattle.std.proofs.Common.{rules}
use Rattle.mbox_cut.proofs.cutter.Cutter.finish.Goals as goal

pub returns-clause-memory : goal.returns-clause-memory
returns-clause-memory c = search rules

pub returns-clause-closed : goal.returns-clause-closed
returns-clause-closed c = search rules
