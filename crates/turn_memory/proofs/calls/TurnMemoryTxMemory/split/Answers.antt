-- A further pass knows as much, and the rule is kept.
use Rattle.std.proofs.Common.{arith, None, refl}
use Rattle.turn_memory.proofs.Known.{knows_view, rests, pass_knows, kept_built, given_built, kept_view, given_view}
use Rattle.turn_memory.proofs.Seats.{splits_seat}
use Rattle.turn_memory.proofs.Views.{HalfLaws}
use Rattle.turn_memory.proofs.calls.TurnMemoryTxMemory.split.Goals as goal

pub split_seat-seat-requires : goal.split_seat-seat-requires
split_seat-seat-requires g c =
    let law = c.split_shares.ensures in
    let laws : HalfLaws = record { apart = law.apart; others = law.others; normal = law.normal; not_empty = law.not_empty } in
    let p = c.requires.of.built in
    (p.seat, omega (arith, c.args.self.now.sized.0), splits_seat _ _ _ c.args.pass.now.seat.id _ (rests p c.requires.idle).idle laws _ (knows_view p))

pub returns : goal.returns
returns g c =
    let law = c.split_shares.ensures in
    let laws : HalfLaws = record { apart = law.apart; others = law.others; normal = law.normal; not_empty = law.not_empty } in
    let told = c.split_seat-seat.ensures in
    let p = c.requires.of.built in
    let rest = rests p c.requires.idle in
    record {
      of = pass_knows (kept_built p rest laws _ told.0 told.2 refl) c.requires.of.is_made;
      given = (
        pass_knows (given_built p rest laws _ told.3 told.4 refl) c.requires.of.is_made,
        given_view p (record { seat = c.split_seat-seat.result; heap = None }) told.4,
      );
      kept = kept_view p (record { seat = c.split_seat-seat.new.seat; heap = c.args.pass.now.heap }) told.2;
      unchanged = tt;
    }
