use Rattle.std.proofs.Common.{rules}
use Rattle.mbox_cut.proofs.cutter.Cutter.begin.Goals as goal

pub returns-clause-room : goal.returns-clause-room
returns-clause-room c = search rules

pub returns-clause-closed : goal.returns-clause-closed
returns-clause-closed c = search rules

pub returns-clause-begun : goal.returns-clause-begun
returns-clause-begun c = search rules
