-- The slot has the heap, and then the lock is free.
use Rattle.std.proofs.Common.{◌∙◌}
use Rattle.turn_memory.proofs.Steps.{filled}
use Rattle.turn_memory.proofs.lock.give_lock.Goals as goal

pub swap-requires : goal.swap-requires
swap-requires g c =
    let me_is = filled c.args.seat.now.me c.exchange.new.seat.me c.args.heap c.requires.slot.1 c.exchange.ensures.3 in
    (c.exchange.ensures.0 ∙ c.requires.table.0, c.requires.table.1, rw (c.exchange.ensures.1, me_is) (c.requires.may _))
