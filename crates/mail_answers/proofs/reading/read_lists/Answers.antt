-- One key after the other.
use Rattle.std.proofs.lemmas.Result.{err_from_is_err_and}
use Rattle.mail_answers.proofs.ReadSteps.{none_after, none_read, more_read, not_read_then}
use Rattle.mail_answers.proofs.reading.read_lists.Goals as goal

pub loop-key-init : goal.loop-key-init
loop-key-init g c = record {
  of = c.requires.of;
  read = none_read (g.M.TxMemory.view c.args.pass.now) (g.M.TxMemory.attempt c.args.pass.now) c.new-read.result.lists c.requires.active c.new-read.ensures;
}

pub read_list-requires-clause-none : goal.read_list-requires-clause-none
read_list-requires-clause-none g c = none_after c.loop-key.invariant.read.only c.requires.none

pub loop-key-preserved : goal.loop-key-preserved
loop-key-preserved g c = record {
  of = c.in_ok-read_list.ensures.of;
  read = more_read c.args.keys.now c.loop-key.key-index c.key-item.result c.key-item.result c.loop-key-test.true c.key-item.is c.loop-key.invariant.read
      c.in_ok-read_list.ensures.only c.in_ok-read_list.ensures.gains;
}

pub returns-in_err-read_list-clause-refused : goal.returns-in_err-read_list-clause-refused
returns-in_err-read_list-clause-refused g c =
    let memory = g.M.TxMemory in
    let p = err_from_is_err_and c.from_residual.result c.from_residual.ensures.1 in
    rw (p.1, p.2) (not_read_then (memory.made c.args.mem.now) (memory.view c.read_list.new.pass)
    (memory.attempt c.read_list.new.pass) c.loop-key.invariant.read.only
    (memory.shows c.args.mem.now) c.in_err-read_list.field-0.0 c.in_err-read_list.ensures.refused)
