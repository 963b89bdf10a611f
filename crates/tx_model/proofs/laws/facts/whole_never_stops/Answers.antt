use Rattle.tx_model.proofs.lemmas.Passes.{never_stops}
use Rattle.tx_model.proofs.laws.facts.whole_never_stops.Goals as goal

pub returns : goal.returns
returns g c old new from to whole active ended read stop =
    let mem = c.args._mem.now in
    never_stops g.S.Sense.good g.S.Sense.budget (g.M.TxMemory.made mem) _ _ _ (g.M.TxMemory.attempt new) (g.M.TxMemory.shows mem)
    (g.met.M.TxMemory.has_later mem) (g.met.M.TxMemory.knows mem old from) (g.met.M.TxMemory.knows mem new to) whole active ended read stop
