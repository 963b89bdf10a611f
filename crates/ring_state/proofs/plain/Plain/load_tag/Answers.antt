-- The word that is loaded is the one that the step finds.
use Rattle.std.proofs.Common.{◌∙◌, refl}
use Rattle.ring_core.specs.declared.action.Action.TheVariants.{LoadTag}
use Rattle.ring_worlds.proofs.lemmas.Elements.{get_either}
use Rattle.ring_state.proofs.lemmas.Stepping.{loads_found}
use Rattle.ring_state.proofs.plain.Plain.load_tag.Goals as goal

pub load-requires : goal.load-requires
load-requires c =
    loads_found c.args.self.now c.args.who (LoadTag c.args.slot) c.index-tag.result.now c.requires refl
    (c.index-tag.ensures ∙ get_either c.args.self.now.tags.items c.args.slot c.index-tag.result.now 0 c.requires.inside)
