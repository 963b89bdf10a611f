-- What one worker did.
use Rattle.std.proofs.Common.{◌∙◌}
use Rattle.mail_workers.proofs.Teams.{indexed_moved}
use Rattle.mail_workers.proofs.run.fn.run_all.for_each_mut.Goals as goal

pub returns : goal.returns
returns g c =
    let did = c.work.ensures in
    record {
      ready = record {
        of_pass = did.of;
        idle = did.idle;
        of_mine = did.mine;
        filled = did.total ∙ c.requires.0.filled;
        owns_none = did.moved.owned ∙ c.requires.0.owns_none;
      };
      share = did.moved.share;
      job_share = did.job_share;
      indexed = λ since was. indexed_moved did.moved did.finished since was;
    }
