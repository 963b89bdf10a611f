use Rattle.std.proofs.Common.{rules}
use Rattle.ring_script.proofs.draft.is_unsealed.Goals as goal

pub returns-else-gate-eq-GATE_OPEN : goal.returns-else-gate-eq-GATE_OPEN
returns-else-gate-eq-GATE_OPEN c = search rules
