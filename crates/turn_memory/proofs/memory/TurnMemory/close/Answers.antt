-- The whole pass is the only one, so the heap is at home, with the last state.
use Rattle.std.proofs.Common.{◌∙◌}
use Rattle.turn_memory.proofs.Known.{rests, closed_slot, closed_words}
use Rattle.turn_memory.proofs.memory.TurnMemory.close.Goals as goal

pub unreachable-requires : goal.unreachable-requires
unreachable-requires g c =
    let p = c.requires.of.built in
    closed_slot p (rests p c.requires.idle) c.requires.whole _ _ c.close_with-closed.ensures.values.2 c.take.ensures.value c.in_default.is

pub returns : goal.returns
returns g c =
    let p = c.requires.of.built in
    c.into_words.ensures
    ∙ closed_words p (rests p c.requires.idle) c.requires.whole _ _ c.close_with-closed.ensures.values.2 c.take.ensures.value c.in-Some.heap c.in-Some.is
