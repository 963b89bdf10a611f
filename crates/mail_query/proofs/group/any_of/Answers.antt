use Rattle.std.proofs.Common.{ap, ◌∙◌}
use Rattle.mail_query.specs.declared.query.Query.TheVariants.{Any}
use Rattle.mail_query.proofs.Members.{any_of_several}
use Rattle.mail_query.proofs.group.any_of.Goals as goal

pub returns-in-Err : goal.returns-in-Err
returns-in-Err c = ap Any (c.in-Err.ensures.several.0) ∙ any_of_several c.args.queries.members c.in-Err.ensures.several.1
