use Rattle.std.proofs.Common.{arith, ◌∷◌, [], ◌++◌, ◌∙◌, ap, List, slice_set}
use Rattle.std.proofs.lemmas.Grind.{common_steps}
use Rattle.std.proofs.Math.Seq.{set-append_seam}
use Rattle.mail_query.specs.declared.query.Query.{Query}
use Rattle.mail_query.proofs.query.Queries.push.Goals as goal

-- The room is behind the old members.
pub returns-in-Ok-clause-ok : goal.returns-in-Ok-clause-ok
returns-in-Ok-clause-ok c =
    c.set.ensures
    ∙ ap (λ (members : List Query). slice_set members c.len-index.result c.args.q) (c.in-Ok.ensures.ok)
    ∙ ap (λ index. slice_set (c.args.self.now.members ++ c.stand_in.result ∷ []) index c.args.q) c.len-index.ensures
    ∙ set-append_seam c.args.self.now.members c.stand_in.result [] c.args.q

pub set-requires : goal.set-requires
set-requires c = grind (arith, common_steps)
