use Rattle.std.proofs.Common.{rules}
use Rattle.mbox_cut.proofs.separator.content.Goals as goal

pub returns-then-ends_with-2 : goal.returns-then-ends_with-2
returns-then-ends_with-2 c = search rules

pub returns-else-ends_with-2 : goal.returns-else-ends_with-2
returns-else-ends_with-2 c = search rules
