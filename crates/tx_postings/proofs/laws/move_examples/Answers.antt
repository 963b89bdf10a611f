-- Each need and each gate in turn.
use Rattle.std.proofs.Common.{ℕ, zero, suc, ◌-◌, ◌≤◌, get_or, arith}
use Rattle.tx_heap.specs.Examples.{all_added, grown}
use Rattle.tx_postings.specs.Examples.{one_to_come, with_sealed}
use Rattle.tx_postings.proofs.laws.move_examples.Goals as goal

needs_fall : (k : ℕ) → get_or with_sealed.needs k 0 ≤ get_or one_to_come.needs k 0
needs_fall zero = omega arith
needs_fall (suc zero) = omega arith
needs_fall (suc (suc zero)) = omega arith
needs_fall (suc (suc (suc k))) = omega arith

gates_rise : (k : ℕ) → get_or one_to_come.gates k 0 ≤ get_or with_sealed.gates k 0
gates_rise zero = omega arith
gates_rise (suc zero) = omega arith
gates_rise (suc (suc k)) = omega arith

opened : (k : ℕ) → get_or all_added.gates k 0 ≤ get_or grown.gates k 0
opened zero = omega arith
opened (suc zero) = omega arith
opened (suc (suc k)) = omega arith

pub returns-clause-moves : goal.returns-clause-moves
returns-clause-moves c = record { needs = λ message. needs_fall (message - 1); gates = gates_rise }

pub returns-clause-opens : goal.returns-clause-opens
returns-clause-opens c = record { needs = λ message. omega arith; gates = opened }

pub returns-clause-need_rises : goal.returns-clause-need_rises
returns-clause-need_rises c move = omega (arith, move.needs 3)

pub returns-clause-gate_falls : goal.returns-clause-gate_falls
returns-clause-gate_falls c move = omega (arith, move.gates 0)
