-- The attempt goes on, and has counted its commit.
use Rattle.std.proofs.Common.{◌≡◌, length}
use Rattle.ring_words.specs.Pass.{made_by, view_of, attempt_now}
use Rattle.ring_stress.specs.Ready.{HasCounted, IsCountedBy}
use Rattle.ring_stress.proofs.caller.Caller.stamp.Given as goal

abbrev pub invariant-loop-ask : goal.invariant-loop-ask
invariant-loop-ask l = record {
  of : IsCountedBy l.ring l.pass;
  counted : HasCounted (length (made_by l.ring).opening) (view_of l.pass) (attempt_now l.pass);
  share : (view_of l.pass).share ≡ (view_of l.fn.pass).share;
}
