-- The attempt may be committed, and goes on as it was where it is to ask again.
use Rattle.std.proofs.Common.{◌∙◌}
use Rattle.ring_words.specs.Pass.{view_of}
use Rattle.ring_stress.proofs.Attempts.{may_commit, still_counted}
use Rattle.ring_stress.proofs.caller.Caller.stamp.Goals as goal

pub try_stamp-requires-clause-may : goal.try_stamp-requires-clause-may
try_stamp-requires-clause-may c = may_commit (view_of c.loop-ask.pass).owned c.loop-ask.invariant.counted

pub loop-ask-preserved : goal.loop-ask-preserved
loop-ask-preserved c =
    let (goes, busy) = c.in-Later.ensures.answer in
    record {
      of = c.try_stamp.ensures.of;
      counted = still_counted c.loop-ask.invariant.counted goes;
      share = goes.goes_on.later.share ∙ c.loop-ask.invariant.share;
    }
