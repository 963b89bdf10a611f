use Rattle.std.proofs.Common.{rules}
use Rattle.mail_search.proofs.input.input_of.Goals as goal

pub returns-in_err-read_all-in-None-clause-taken : goal.returns-in_err-read_all-in-None-clause-taken
returns-in_err-read_all-in-None-clause-taken g c = search rules

pub returns-in_err-make_mbox-in-Some-clause-taken : goal.returns-in_err-make_mbox-in-Some-clause-taken
returns-in_err-make_mbox-in-Some-clause-taken g c = search rules

pub returns-in_ok-make_mbox-in-Some-clause-taken : goal.returns-in_ok-make_mbox-in-Some-clause-taken
returns-in_ok-make_mbox-in-Some-clause-taken g c = search rules
