-- The later attempt began with the raise known to be complete.
use Rattle.std.proofs.lemmas.Grind.{common_steps}
use Rattle.std.proofs.Common.{arith}
use Rattle.tx_uses.proofs.ApartSteps.{raised_then}
use Rattle.tx_uses.proofs.apart.raise_then_read.Goals as goal

pub returns-in-Ok-read_now-clause-seen : goal.returns-in-Ok-read_now-clause-seen
returns-in-Ok-read_now-clause-seen g c =
    let had = c.in-Ok-read_now.ensures.had in
    record {
      raised = raised_then c.state_laws.ensures.stays c.pass_knows.ensures.front c.in-Ok.ensures.raised c.in-Ok-read_now.ensures.later;
      state = had.state;
      no_older = omega (arith, had.no_older, c.in-Ok.ensures.raised.complete);
      happened = had.happened;
      there = had.there;
    }

pub returns-in-Err-read_now-clause-not_seen : goal.returns-in-Err-read_now-clause-not_seen
returns-in-Err-read_now-clause-not_seen g c = grind (arith, common_steps)
