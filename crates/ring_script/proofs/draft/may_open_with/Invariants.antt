-- The gates so far are other words, or the value is none of a sealed region.
use Rattle.std.proofs.Common.{◌≡◌, take, Contains}
use Rattle.tx_model.specs.declared.gate.Region.{Region}
use Rattle.ring_script.specs.Draft.{IsUnsealed}
use Rattle.ring_script.proofs.draft.may_open_with.Given as goal

abbrev pub invariant-loop-region : goal.invariant-loop-region
invariant-loop-region l = (region : Region) → Contains (take l.region-index l.regions) region → l.word.addr ≡ region.gate → IsUnsealed l.word.value
