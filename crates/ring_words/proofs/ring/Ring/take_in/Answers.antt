-- The two seats are one, which then looks.
use Rattle.std.proofs.Common.{◌≢◌, ◌∙◌, ◌+◌, sym, ap, arith}
use Rattle.tx_model.specs.declared.pass.PassState.TheVariants.{Idle, Stamped}
use mathlib.Core.Option.{none}
use Rattle.atomic_table.specs.Table.{step}
use Rattle.ring_core.specs.declared.shape.Shape.{Shape}
use Rattle.ring_words.specs.declared.pass.RingPass.{RingPass}
use Rattle.ring_words.proofs.Joins.{joins_seats}
use Rattle.ring_words.proofs.Looks.{looks_around}
use Rattle.ring_words.specs.Pass.{view_of, seat_view}
use Rattle.ring_words.proofs.Sealings.{seals_joined, seals_few}
use Rattle.ring_words.proofs.Taken.{seat_stamps, seat_few, mid_is, seated_taken, are_joined}
use Rattle.ring_words.proofs.Knows.{pass_knows}
use Rattle.ring_words.proofs.ring.Ring.take_in.Goals as goal

idle_free : Idle ≢ Stamped
idle_free e = cc

pub join_seat-requires : goal.join_seat-requires
join_seat-requires g c =
    let ring = c.args.self.now in
    let pass = c.args.pass.now in
    let p = c.requires.of.seated in
    let o = c.requires.other in
    let law = c.joined_shares.ensures in
    let stamps = c.merged_stamps.ensures in
    let callers = c.callers_change.ensures in (
      p.at_table,
      o.at_table,
      o.no_slot,
      omega (arith, ring.sized.0),
      joins_seats law.apart law.others law.normal law.not_empty stamps.rise stamps.members callers.becomes callers.spend g.S.Sense.good
          g.S.Sense.budget p.knowledge o.knowledge (λ was. idle_free (sym c.requires.idle ∙ p.moved.stays was)) o.free o.unowned
          ring.words.shared.key pass.seat.id c.args.seat.id pass.seat.me.0 c.args.seat.me.0 p.known o.known p.told,
    )

pub load-requires : goal.load-requires
load-requires g c =
    let ring = c.args.self.now in
    let shared = ring.words.shared in
    let p = c.requires.of.seated in (
      c.join_seat.ensures.0 ∙ p.at_table,
      omega (arith, ring.sized.0),
      looks_around g.S.Sense.good g.S.Sense.budget shared.key shared.table_id.slots c.join_seat.new.seat.id c.join_seat.new.seat.me _
          (step shared.table_id.slots 0 0 0 none)
          (mid_is c.callers_change.ensures.becomes g.S.Sense.good g.S.Sense.budget shared.key shared.table_id c.args.pass.now p c.requires.of.closed
          c.requires.idle c.args.seat c.requires.other c.join_seat.new.seat.me c.join_seat.ensures.2),
    )

pub returns-clause-of : goal.returns-clause-of
returns-clause-of g c =
    let shared = c.args.self.now.words.shared in
    let pass = c.args.pass.now in
    let now : RingPass g.row.S.Denot = record { local = pass.local; seat = c.load.new.seat; seals = pass.seals + c.args.seals } in
    pass_knows g.S.Sense.allows g.S.Sense.good g.S.Sense.budget shared.key shared.table_id now c.requires.of.is_made
    (seated_taken c.callers_change.ensures.becomes g.S.Sense.good g.S.Sense.budget shared.key shared.table_id pass c.requires.of.seated
    c.requires.of.closed c.requires.idle c.args.seat c.requires.other c.join_seat.new.seat.me c.join_seat.ensures.2
    c.load.new.seat (pass.seals + c.args.seals) (c.load.ensures.0 ∙ c.join_seat.ensures.0) c.load.ensures.2) c.requires.of.closed
    (seals_joined (view_of pass) (seat_view c.args.seat) (view_of now) pass.seals c.args.seals
    (are_joined c.callers_change.ensures.becomes g.S.Sense.good g.S.Sense.budget shared.key shared.table_id pass c.requires.of.seated
    c.requires.of.closed c.requires.idle c.args.seat
    c.requires.other c.join_seat.new.seat.me c.join_seat.ensures.2 c.load.new.seat (pass.seals + c.args.seals)
    (c.load.ensures.0 ∙ c.join_seat.ensures.0) c.load.ensures.2) c.requires.of.is_pass.mine
    (seat_stamps g.S.Sense.good g.S.Sense.budget shared.key shared.table_id c.args.seat c.requires.other)
    c.requires.of.counted c.requires.counted)

pub returns-clause-joined : goal.returns-clause-joined
returns-clause-joined g c =
    let shared = c.args.self.now.words.shared in
    let pass = c.args.pass.now in
    are_joined c.callers_change.ensures.becomes g.S.Sense.good g.S.Sense.budget shared.key shared.table_id pass c.requires.of.seated
    c.requires.of.closed c.requires.idle c.args.seat c.requires.other c.join_seat.new.seat.me c.join_seat.ensures.2
    c.load.new.seat (pass.seals + c.args.seals) (c.load.ensures.0 ∙ c.join_seat.ensures.0) c.load.ensures.2

-- there are no more sealing commits than commits
pub overflow_add-pass : goal.overflow_add-pass
overflow_add-pass g c =
    let ring = c.args.self.now in
    let view = view_of c.args.pass.now in
    let mine = seals_few view.history view.mine c.requires.of.is_pass.mine in
    let his = seat_few g.S.Sense.good g.S.Sense.budget ring.words.shared.key ring.words.shared.table_id c.args.seat c.requires.other in
    let life = ap (λ (s : Shape). s.life) ring.told.1 in
    omega (arith, mine, his, life, ring.limits.life, c.requires.of.is_pass.lasts, c.requires.of.counted, c.requires.counted)
