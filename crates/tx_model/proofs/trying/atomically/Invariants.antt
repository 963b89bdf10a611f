-- the tries so far left the pass idle, with all that it had, and the body with its task
use Rattle.std.proofs.Common.{◌≡◌}
use Rattle.tx_model.specs.declared.pass.PassState.TheVariants.{Idle}
use Rattle.tx_model.specs.Calls.{IsLater}
use Rattle.tx_model.proofs.trying.atomically.Given as goal

abbrev pub invariant-loop : goal.invariant-loop
invariant-loop g l =
    (goal.iterator-loop g).can_next l.iterator' × (goal.iterator-loop g).is_finite l.iterator'
    × g.M.TxMemory.of l.mem l.pass
    × ((g.M.TxMemory.view l.pass).state ≡ Idle)
    × IsLater (g.M.TxMemory.view l.initial.pass) (g.M.TxMemory.view l.pass)
    × (g.B.Body.task l.body ≡ g.B.Body.task l.initial.body)
