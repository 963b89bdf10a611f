use Rattle.std.proofs.Common.{ap, ◌∙◌}
use Rattle.mail_query.specs.declared.query.Query.TheVariants.{All}
use Rattle.mail_query.proofs.Members.{all_of_several}
use Rattle.mail_query.proofs.group.all_of.Goals as goal

pub returns-in-Err : goal.returns-in-Err
returns-in-Err c = ap All (c.in-Err.ensures.several.0) ∙ all_of_several c.args.queries.members c.in-Err.ensures.several.1
