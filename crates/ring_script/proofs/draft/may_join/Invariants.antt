-- The regions so far lie beside it.
use Rattle.std.proofs.Common.{take, Contains}
use Rattle.tx_model.specs.declared.gate.Region.{Region}
use Rattle.ring_script.specs.Draft.{AreBeside}
use Rattle.ring_script.proofs.draft.may_join.Given as goal

abbrev pub invariant-loop-other : goal.invariant-loop-other
invariant-loop-other l = (other : Region) → Contains (take l.other-index l.regions) other → AreBeside other l.region
