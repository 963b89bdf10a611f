use Rattle.ring_core.specs.declared.kind.Kind.TheVariants as kind
use Rattle.ring_worlds.proofs.worlds.Table as table
use Rattle.ring_worlds.proofs.laws.index_load_on_table.Goals as goal

pub returns : goal.returns
returns c = table.index_load_on_table (c.steps_keep.ensures kind.LoadIndex) c.next_step.ensures.absorbs
