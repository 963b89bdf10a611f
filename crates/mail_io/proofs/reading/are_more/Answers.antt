use Rattle.std.proofs.Common.{rules}
use Rattle.mail_io.proofs.reading.are_more.Goals as goal

pub returns : goal.returns
returns c = search rules
