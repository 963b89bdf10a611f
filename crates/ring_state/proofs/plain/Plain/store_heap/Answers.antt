-- The caller takes in 0, and the word is stored.
use Rattle.ring_state.proofs.lemmas.Stepping.{stores_heap}
use Rattle.ring_state.proofs.plain.Plain.store_heap.Goals as goal

pub returns-clause-stepped : goal.returns-clause-stepped
returns-clause-stepped c =
    stores_heap c.args.self.now c.args.who c.args.addr c.args.value c.in_ok-progress.progress c.take_in.new.self c.requires c.in_ok-progress.ensures.taken
