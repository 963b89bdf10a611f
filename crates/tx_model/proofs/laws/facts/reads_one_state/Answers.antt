use Rattle.tx_model.proofs.lemmas.Passes.{active_not_idle}
use Rattle.tx_model.proofs.laws.facts.reads_one_state.Goals as goal

pub returns : goal.returns
returns g c =
    let attempt = (g.met.M.TxMemory.knows c.args._mem.now c.args._pass.now c.requires.of).attempting (active_not_idle _ c.requires.active) in
    record { happened = attempt.started; agree = attempt.from_one.reads }
