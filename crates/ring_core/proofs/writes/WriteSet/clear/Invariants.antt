use Rattle.std.proofs.Common.{◌≡◌}
use Rattle.tx_model.specs.Words.{addresses}
use Rattle.ring_core.proofs.Chained.{IsEmptying}
use Rattle.ring_core.proofs.writes.WriteSet.clear.Given as goal

abbrev pub invariant-loop-index : goal.invariant-loop-index
invariant-loop-index l = record {
  items : l.self-inside.items ≡ l.initial.self-inside.items;
  older : l.self-inside.older ≡ l.initial.self-inside.older;
  emptying : IsEmptying (addresses l.initial.self-inside.items.items) l.self-inside.newest l.index;
}
