-- A batch that was committed, and what comes before.
use Rattle.tx_model.proofs.lemmas.Calls.{later_itself}
use Rattle.mail_workers.proofs.Moves.{moved_later, moved_then, need_since}
use Rattle.mail_workers.proofs.Batches.{batch_moved, batch_need, short_lane, short_segment, not_room, not_stopped, never_worn}
use Rattle.mail_workers.proofs.message.add_words.Goals as goal

pub loop-init : goal.loop-init
loop-init g c = record { of = c.requires.of; idle = c.requires.idle; moved = moved_later (later_itself (g.M.TxMemory.view c.args.pass.now)) }

pub returns-in-Ok-clause-moved : goal.returns-in-Ok-clause-moved
returns-in-Ok-clause-moved g c = moved_then c.loop.invariant.moved (batch_moved c.pass_knows.ensures c.in-Ok.ensures.added)

pub returns-in-Ok-clause-left : goal.returns-in-Ok-clause-left
returns-in-Ok-clause-left g c =
    need_since c.loop.invariant.moved.front
    (batch_need c.pass_knows.ensures c.in-Ok.ensures.added c.requires.from_one c.requires.to_last)

pub leave_segment-leaving-requires-clause-lane : goal.leave_segment-leaving-requires-clause-lane
leave_segment-leaving-requires-clause-lane g c = λ κs lives.
    short_lane c.pass_knows-in-Err-Room.ensures
    (not_room (g.M.TxMemory.made c.args.mem.now) (g.M.TxMemory.shows c.args.mem.now) c.in-Err-Room.field-0-is c.in-Err-Room.ensures.refused)

pub leave_segment-leaving-requires-clause-segment : goal.leave_segment-leaving-requires-clause-segment
leave_segment-leaving-requires-clause-segment g c = λ κs lives.
    short_segment c.pass_knows-in-Err-Room.ensures
    (not_room (g.M.TxMemory.made c.args.mem.now) (g.M.TxMemory.shows c.args.mem.now) c.in-Err-Room.field-0-is c.in-Err-Room.ensures.refused)

pub loop-preserved-in-Err-Room : goal.loop-preserved-in-Err-Room
loop-preserved-in-Err-Room g c =
    let no_room = not_room (g.M.TxMemory.made c.args.mem.now) (g.M.TxMemory.shows c.args.mem.now) c.in-Err-Room.field-0-is c.in-Err-Room.ensures.refused in
    record {
      of = c.leave_segment-leaving.ensures.of;
      idle = c.leave_segment-leaving.ensures.idle;
      moved = moved_then (moved_then c.loop.invariant.moved (moved_later no_room.later)) c.leave_segment-leaving.ensures.moved;
    }

pub loop-preserved : goal.loop-preserved
loop-preserved g c = record {
  of = c.add_batch.ensures.of;
  idle = c.add_batch.ensures.idle;
  moved = moved_then c.loop.invariant.moved
      (not_stopped (g.M.TxMemory.made c.args.mem.now) (g.M.TxMemory.shows c.args.mem.now) (g.M.TxMemory.view c.loop.pass)
      (g.M.TxMemory.view c.add_batch.new.pass) c.args.message c.in-Err-Stopped.field-0-is c.in-Err-Stopped.ensures.refused);
}

pub unreachable-requires : goal.unreachable-requires
unreachable-requires g c =
    never_worn (g.M.TxMemory.made c.args.mem.now) (g.M.TxMemory.shows c.args.mem.now) (g.M.TxMemory.view c.loop.pass) (g.M.TxMemory.view c.add_batch.new.pass)
    c.args.message c.requires.life
    c.in-Err-Worn.field-0-is c.in-Err-Worn.ensures.refused
