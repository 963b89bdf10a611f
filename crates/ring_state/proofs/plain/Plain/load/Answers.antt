-- The caller takes in the word, and the words stay.
use Rattle.ring_state.proofs.lemmas.Stepping.{loaded}
use Rattle.ring_state.proofs.plain.Plain.load.Goals as goal

pub returns-clause-stepped : goal.returns-clause-stepped
returns-clause-stepped c = loaded c.args.self.now c.args.who c.args.word c.take_in.result c.take_in.new.self c.requires c.take_in.ensures.taken
