use Rattle.tx_model.proofs.laws.facts.pass_knows.Goals as goal

pub returns : goal.returns
returns g c = g.met.M.TxMemory.knows c.args._mem.now c.args._pass.now c.requires.of
