-- The caller takes in 0, and the word is stored.
use Rattle.ring_state.proofs.lemmas.Stepping.{stores_tag}
use Rattle.ring_state.proofs.plain.Plain.store_tag.Goals as goal

pub returns-clause-stepped : goal.returns-clause-stepped
returns-clause-stepped c =
    stores_tag c.args.self.now c.args.who c.args.slot c.args.tag c.in_ok-progress.progress c.take_in.new.self c.requires c.in_ok-progress.ensures.taken
