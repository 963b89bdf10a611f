-- One try: the attempt began with all that the pass knew, and went on to its end.
use Rattle.std.proofs.Common.{arith, rules}
use Rattle.std.proofs.lemmas.Grind.{common_steps}
use Rattle.tx_model.proofs.lemmas.Calls.{later_then, ended_then, committed_then, worn_then, read_stays, refused_stopped, refused_worn}
use Rattle.tx_model.proofs.lemmas.Passes.{active_not_idle}
use Rattle.tx_model.proofs.trying.try_once.Goals as goal

pub returns-in-Ok-commit-clause-done : goal.returns-in-Ok-commit-clause-done
returns-in-Ok-commit-clause-done g c =
    let began = c.begin.ensures.began in
    let ready = c.in-Ok.ensures.ready in
    record {
      attempt = g.M.TxMemory.attempt c.attempt.new.pass;
      fresh = omega (arith, began.fresh, ready.goes_on.start);
      meaning = c.in-Ok.ensures.did;
      committed = committed_then (later_then began.later c.attempt.ensures.later) c.in-Ok-commit.ensures.committed;
    }

pub returns-in-Err-Worn-clause-not_done : goal.returns-in-Err-Worn-clause-not_done
returns-in-Err-Worn-clause-not_done g c =
    let began = c.begin.ensures.began in
    let ready = c.in-Ok.ensures.ready in
    record {
      attempt = g.M.TxMemory.attempt c.attempt.new.pass;
      fresh = omega (arith, began.fresh, ready.goes_on.start);
      meaning = c.in-Ok.ensures.did;
      worn = worn_then (later_then began.later c.attempt.ensures.later)
          (refused_worn (g.M.TxMemory.shows c.args.mem.now) _ _ _ _ _ _ c.in-Err-Worn.field-0-is c.in-Err-Worn.ensures.refused);
    }

pub returns-in-Err-Refused-clause-not_done : goal.returns-in-Err-Refused-clause-not_done
returns-in-Err-Refused-clause-not_done g c =
    let began = c.begin.ensures.began in
    let made = g.M.TxMemory.made c.args.mem.now in
    let cause = refused_stopped (g.M.TxMemory.shows c.args.mem.now) (g.B.Body.did made.sense made.opening c.attempt.new.self) made.opening
    (g.M.TxMemory.view c.begin.new.pass) (g.M.TxMemory.view c.attempt.new.pass) (g.M.TxMemory.attempt c.begin.new.pass)
    (g.M.TxMemory.attempt c.attempt.new.pass) _ _ c.in-Err-Refused.field-0-is c.in-Err-Refused.ensures.cause in
    let attempt = c.pass_knows.ensures.attempting (active_not_idle _ cause.0.active) in
    let ended = c.give_up.ensures.ended in
    record {
      attempt = g.M.TxMemory.attempt c.attempt.new.pass;
      fresh = omega (arith, began.fresh, cause.0.start);
      meaning = cause.1;
      ended = ended_then (later_then began.later c.attempt.ensures.later) ended;
      one_state = read_stays ended.later.history (record { happened = attempt.started; agree = attempt.from_one.reads });
    }

-- what the search finds late
pub returns-in-Err-Stopped-commit-clause-not_done : goal.returns-in-Err-Stopped-commit-clause-not_done
returns-in-Err-Stopped-commit-clause-not_done g c = grind (arith, common_steps)

pub returns-in-Err-Stopped-clause-not_done : goal.returns-in-Err-Stopped-clause-not_done
returns-in-Err-Stopped-clause-not_done g c = grind (arith, common_steps)

pub returns-in-Err-Stopped-clause-done : goal.returns-in-Err-Stopped-clause-done
returns-in-Err-Stopped-clause-done g c = search rules

pub returns-in-Err-Stopped-commit-clause-done : goal.returns-in-Err-Stopped-commit-clause-done
returns-in-Err-Stopped-commit-clause-done g c = search rules
