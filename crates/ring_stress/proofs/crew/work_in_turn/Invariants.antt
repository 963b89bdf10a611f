-- The pass is between two attempts.
use Rattle.std.proofs.Common.{◌≡◌}
use Rattle.tx_model.specs.declared.pass.PassState.TheVariants.{Idle}
use Rattle.ring_words.specs.Pass.{view_of}
use Rattle.ring_stress.specs.Ready.{IsCountedBy}
use Rattle.ring_stress.proofs.crew.work_in_turn.Given as goal

abbrev pub invariant-loop-caller : goal.invariant-loop-caller
invariant-loop-caller g l = record {
  of : IsCountedBy l.mem.ring l.pass;
  idle : (view_of l.pass).state ≡ Idle;
  share : (view_of l.pass).share ≡ (view_of l.fn.pass).share;
}
