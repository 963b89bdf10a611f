-- The word that is loaded is the one that the step finds.
use Rattle.std.proofs.Common.{refl}
use Rattle.ring_core.specs.declared.action.Action.TheVariants.{LoadIndex}
use Rattle.ring_state.proofs.lemmas.Stepping.{loads_found}
use Rattle.ring_state.proofs.plain.Plain.load_index.Goals as goal

pub load-requires : goal.load-requires
load-requires c =
    loads_found c.args.self.now c.args.who LoadIndex c.args.self.now.index c.requires refl refl
