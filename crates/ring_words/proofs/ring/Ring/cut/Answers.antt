-- The seat is split by the rule, and each half knows what the whole knew.
use Rattle.std.proofs.Common.{sym, ◌∙◌, ap, subst, arith}
use Rattle.ring_core.specs.Shape.{IsShape}
use Rattle.tx_model.specs.declared.view.PassView.{PassView}
use Rattle.ring_words.specs.Sealings.{seals_of}
use Rattle.ring_words.specs.declared.pass.RingPass.{RingPass}
use Rattle.ring_words.proofs.Splits.{splits_seat}
use Rattle.ring_words.proofs.Knows.{pass_knows}
use Rattle.ring_words.proofs.Cut.{left_seated, right_seat, right_view, left_view, right_rests}
use Rattle.ring_words.proofs.ring.Ring.cut.Goals as goal

pub split_seat-requires : goal.split_seat-requires
split_seat-requires g c =
    let ring = c.args.self.now in
    let pass = c.args.pass.now in
    let p = c.requires.of.seated in
    let law = c.split_shares.ensures in (
      p.at_table,
      omega (arith, ring.sized.0),
      splits_seat law.apart law.others law.normal law.not_empty c.opening_is_sound.ensures c.callers_change.ensures.join
          c.callers_change.ensures.becomes g.S.Sense.good g.S.Sense.budget
          ring.words.shared.key pass.seat.id pass.seat.me.0 p.knowledge p.known p.told,
    )

pub returns-clause-of : goal.returns-clause-of
returns-clause-of g c =
    let ring = c.args.self.now.words.shared in
    let law = c.split_shares.ensures in
    let split = c.split_seat.ensures in
    let now : RingPass g.row.S.Denot = record { local = c.args.pass.now.local; seat = c.split_seat.new.seat; seals = c.args.pass.now.seals } in
    pass_knows g.S.Sense.allows g.S.Sense.good g.S.Sense.budget ring.key ring.table_id now c.requires.of.is_made
    (left_seated law.apart law.normal law.not_empty g.S.Sense.good g.S.Sense.budget ring.key ring.table_id c.args.pass.now c.requires.of.seated
    c.split_seat.new.seat split.0 split.2) c.requires.of.closed
    (c.requires.of.counted ∙ ap (λ (v : PassView). seals_of v.history v.mine)
    (sym (left_view law.apart law.normal law.not_empty g.S.Sense.good g.S.Sense.budget ring.key ring.table_id c.args.pass.now
    c.requires.of.seated c.split_seat.new.seat split.2)))

pub returns-clause-given : goal.returns-clause-given
returns-clause-given g c =
    let ring = c.args.self.now in
    let law = c.split_shares.ensures in
    let split = c.split_seat.ensures in
    let limits = subst IsShape (sym ring.told.1) ring.limits in (
      right_seat law.apart law.normal law.not_empty g.S.Sense.good g.S.Sense.budget ring.words.shared.key ring.words.shared.table_id c.args.pass.now
          c.requires.of.seated c.opening_is_sound.ensures limits c.split_seat.result split.3 split.4,
      right_view law.apart law.normal law.not_empty g.S.Sense.good g.S.Sense.budget ring.words.shared.key ring.words.shared.table_id c.args.pass.now
          c.requires.of.seated c.split_seat.result split.4,
    )

pub returns-clause-rests : goal.returns-clause-rests
returns-clause-rests g c =
    let ring = c.args.self.now.words.shared in
    let law = c.split_shares.ensures in
    right_rests law.apart law.normal law.not_empty g.S.Sense.good g.S.Sense.budget ring.key ring.table_id c.args.pass.now c.requires.of.seated
    c.split_seat.result c.split_seat.ensures.4

pub returns-clause-kept : goal.returns-clause-kept
returns-clause-kept g c =
    let ring = c.args.self.now.words.shared in
    let law = c.split_shares.ensures in
    left_view law.apart law.normal law.not_empty g.S.Sense.good g.S.Sense.budget ring.key ring.table_id c.args.pass.now c.requires.of.seated
    c.split_seat.new.seat c.split_seat.ensures.2
