-- Two seats are made one, which then looks.
use Rattle.std.proofs.Common.{◌∙◌, ap, arith, refl}
use Rattle.turn_memory.specs.declared.pass.TurnPass.{TurnPass}
use Rattle.turn_memory.proofs.Known.{knows_view, rests, pass_knows, mid_me, joined_built, are_joined}
use Rattle.turn_memory.proofs.Seats.{joins_seats}
use Rattle.turn_memory.proofs.Steps.{looks_around}
use Rattle.turn_memory.proofs.Views.{JoinLaws}
use Rattle.turn_memory.proofs.calls.TurnMemoryTxMemory.join.Goals as goal

pub join_seat-requires : goal.join_seat-requires
join_seat-requires g c =
    let p = c.requires.of.0.built in
    let q = c.requires.of.1.built in
    let rest = rests q c.requires.idle.1 in
    let law = c.joined_shares.ensures in
    let laws : JoinLaws = record { apart = law.apart; others = law.others; normal = law.normal; not_empty = law.not_empty } in (
      p.seat,
      q.seat,
      ap (λ m. m.1) rest.me,
      omega (arith, c.args.self.now.sized.0),
      joins_seats _ _ _ c.args.pass.now.seat.id _ (rests p c.requires.idle.0).idle laws c.args.other.seat.id _ rest.idle _ _ (knows_view p) (knows_view q),
    )

pub load-requires : goal.load-requires
load-requires g c =
    let p = c.requires.of.0.built in
    let rest = rests p c.requires.idle.0 in (
      c.join_seat.ensures.0 ∙ p.seat,
      omega (arith, c.args.self.now.sized.0),
      looks_around _ _ _ _ c.join_seat.new.seat.id c.join_seat.new.seat.me _ (mid_me p c.requires.of.1.built rest c.join_seat.ensures.2) rest.idle,
    )

pub returns : goal.returns
returns g c =
    let p = c.requires.of.0.built in
    let q = c.requires.of.1.built in
    let rest = rests p c.requires.idle.0 in
    let now : TurnPass g.row.S.Denot = record { seat = c.load.new.seat; heap = c.args.pass.now.heap } in
    record {
      of = pass_knows (joined_built p q rest c.join_seat.ensures.2 now c.load.ensures.2 (c.load.ensures.0 ∙ c.join_seat.ensures.0 ∙ p.seat) refl)
          c.requires.of.0.is_made;
      joined = are_joined p q rest c.join_seat.ensures.2 now c.load.ensures.2;
    }
