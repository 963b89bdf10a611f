-- The pass is still stamped.
use Rattle.std.proofs.Common.{◌≡◌}
use Rattle.tx_model.specs.declared.pass.PassState.TheVariants.{Stamped}
use Rattle.ring_words.specs.Pass.{view_of}
use Rattle.ring_stress.specs.Ready.{IsCountedBy}
use Rattle.ring_stress.proofs.caller.Caller.finish.Given as goal

abbrev pub invariant-loop : goal.invariant-loop
invariant-loop g l =
    (goal.iterator-loop g).can_next l.iterator' × (goal.iterator-loop g).is_finite l.iterator'
    × IsCountedBy l.ring l.pass × ((view_of l.pass).state ≡ Stamped) × ((view_of l.pass).share ≡ (view_of l.fn.pass).share)
