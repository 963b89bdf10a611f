use Rattle.std.proofs.Common.{sym, ◌∙◌}
use Rattle.tx_model.proofs.lemmas.WordIndexes.{index_found}
use Rattle.ring_core.proofs.writes.WriteSet.value_of.Goals as goal

pub at-write-requires : goal.at-write-requires
at-write-requires c =
    (index_found c.args.self.now c.args.addr c.in_ok-index.index (sym c.index_of.ensures ∙ c.in_ok-index.was)).0
