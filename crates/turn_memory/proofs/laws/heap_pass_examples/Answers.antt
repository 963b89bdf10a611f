-- The attempt wrote word 2, which is in no region.
use Rattle.std.proofs.Common.{[], ◌∷◌, refl, sym, subst, arith, rules}
use Rattle.tx_model.specs.Made.{Made}
use Rattle.turn_memory.specs.Heap.{words_of}
use Rattle.turn_memory.specs.TurnPass.{IsOpen}
use Rattle.turn_memory.specs.Examples.{AnySense, opening, the_region, two_commits, open_heap}
use Rattle.turn_memory.proofs.ExamplesFacts.{gate_is, write_ok}
use Rattle.turn_memory.proofs.laws.heap_pass_examples.Goals as goal

is_open : IsOpen opening (the_region ∷ []) two_commits open_heap
is_open =
    record {
      last = refl;
      few = omega arith;
      reads = search rules;
      follows = write_ok 2 2 9 (omega arith) (omega arith);
      commits = refl;
      unsealed = gate_is (words_of open_heap) (λ is. omega (arith, is));
    }

pub returns-clause-open : goal.returns-clause-open
returns-clause-open c = is_open

pub returns-clause-at_work : goal.returns-clause-at_work
returns-clause-at_work c about made pass me has =
    let is_open_on = subst (λ (made : Made AnySense). IsOpen made.opening made.regions two_commits open_heap) (sym made) is_open in
    ((open_heap, record { active = refl; me = me; has_heap = has; open_on = is_open_on }), rw (me, has) refl)
