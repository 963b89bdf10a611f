use Rattle.tx_model.proofs.laws.facts.made_well.Goals as goal

pub returns : goal.returns
returns g c = g.met.M.TxMemory.made_well c.args._mem.now c.args._pass.now c.requires.of
