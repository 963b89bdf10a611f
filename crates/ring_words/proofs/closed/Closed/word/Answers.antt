-- The word of the table is that of the last state.
use Rattle.std.proofs.Common.{◌<◌, ◌∙◌, length, slice_index, ap, arith}
use Rattle.std.specs.Mem.Slots.{slots_items}
use Rattle.ring_words.specs.Closing.{Ending, last_words}
use Rattle.ring_words.proofs.Closes.{found_at}
use Rattle.ring_words.proofs.closed.Closed.word.Goals as goal

pub returns : goal.returns
returns g c =
    let closing = c.self.invariant.3 in
    let below : c.args.addr < c.self.inside.shape.heap =
    omega (arith, c.requires, closing.room, ap (λ (e : Ending g.row.S.Denot). length e.made.opening) c.self.view_is) in
    found_at (slots_items c.self.inside.table.words) _ c.word.result c.word.ensures
    ∙ closing.heap c.args.addr below
    ∙ ap (λ (e : Ending g.row.S.Denot). slice_index (last_words e) c.args.addr) c.self.view_is
