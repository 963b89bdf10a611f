use Rattle.std.proofs.Common.{rules}
use Rattle.mail_answers.proofs.answering.counted.Goals as goal

pub returns-in-Failed : goal.returns-in-Failed
returns-in-Failed c = search rules
