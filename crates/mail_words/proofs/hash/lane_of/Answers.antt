use Rattle.std.proofs.Common.{rules}
use Rattle.mail_words.proofs.hash.lane_of.Goals as goal

pub returns-clause-lane : goal.returns-clause-lane
returns-clause-lane c = search rules
