-- The words of the table are those of the last state, and no other seat has a commit.
use Rattle.std.proofs.Common.{ℕ, sym, ◌∙◌, ap, subst}
use Rattle.std.specs.Mem.Slots.{slots_items}
use Rattle.atomic_table.specs.declared.shared.Seat.{Seat}
use Rattle.ring_core.specs.declared.shape.Shape.{Shape}
use Rattle.ring_core.specs.Shape.{IsShape}
use Rattle.ring_words.specs.Closing.{IsClosing, ending_known}
use Rattle.ring_words.proofs.Closes.{closes}
use Rattle.ring_words.proofs.ring.Ring.close.Goals as goal

pub invariant_of-result : goal.invariant_of-result
invariant_of-result g c =
    let ring = c.args.self in
    let pass = c.args.pass in
    let shared = ring.words.shared in
    let counts = c.close_with-table.ensures.counts in
    let values = c.close_with-table.ensures.values in
    let words = slots_items c.close_with-table.result.words in
    let room = ring.told.2 ∙ ap (λ (s : Shape). s.heap) (sym ring.told.1) in
    let closing =
    closes g.S.Sense.allows g.S.Sense.good g.S.Sense.budget shared.key shared.table_id pass c.requires.of c.requires.idle c.requires.whole
    (subst IsShape (sym ring.told.1) ring.limits) room words _ values.2 in (
      values.0,
      counts.0 ∙ ring.sized.0,
      counts.1 ∙ ring.sized.1,
      subst (λ (seat : Seat ℕ _). IsClosing ring.sense ring.shape words pass.seals (ending_known ring.sense seat.me.0)) (sym c.of-last.ensures)
          (subst (λ (sense : g.row.S.Denot). IsClosing sense ring.shape words pass.seals (ending_known sense pass.seat.me.0)) ring.told.0
          (subst (λ (s : Shape). IsClosing shared.key.sense.value s words pass.seals (ending_known shared.key.sense.value pass.seat.me.0))
          ring.told.1 closing)),
    )
