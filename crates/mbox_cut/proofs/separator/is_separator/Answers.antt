use Rattle.std.proofs.Common.{rules}
use Rattle.mbox_cut.proofs.separator.is_separator.Goals as goal

pub returns : goal.returns
returns c = search rules
