use Rattle.std.proofs.Common.{rules}
use Rattle.ring_state.proofs.gates.GateReads.clear.Goals as goal

pub returns : goal.returns
returns c = search rules
