use Rattle.std.proofs.Common.{rules}
use Rattle.mail_query.proofs.parser.read.Goals as goal

pub loop-token-preserved : goal.loop-token-preserved
loop-token-preserved c = search rules
