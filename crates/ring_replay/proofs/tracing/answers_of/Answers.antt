-- The refused event, by its line.
use Rattle.ring_replay.proofs.Ended.{index_below, refused_answer}
use Rattle.ring_replay.proofs.tracing.answers_of.Goals as goal

pub stop_of_event-requires : goal.stop_of_event-requires
stop_of_event-requires c at is = index_below c.args.setup.now c.args.events.now c.in-Err.error at c.in-Err.ensures is

pub returns : goal.returns
returns c =
    refused_answer c.args.setup.now c.args.events.now c.in-Err.error c.stop_of_event.result c.in-Err.ensures c.stop_of_event.ensures.refused
    c.stop_of_event.ensures.memory
