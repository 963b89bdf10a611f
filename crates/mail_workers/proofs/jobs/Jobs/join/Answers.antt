use Rattle.std.proofs.Common.{rules}
use Rattle.mail_workers.proofs.Joins.{joins}
use Rattle.mail_workers.proofs.jobs.Jobs.join.Goals as goal

pub absorb-requires-clause-rule : goal.absorb-requires-clause-rule
absorb-requires-clause-rule g c =
    let l = c.joined_shares.ensures in
    let m = c.merged_stamps.ensures in
    joins l.apart l.others l.normal l.not_empty m.rise m.members _ _ _ _ c.requires.of.0.named

pub returns-clause-joined : goal.returns-clause-joined
returns-clause-joined c = search rules
