-- The refusal is of this line.
use Rattle.ring_script.proofs.Tokens.{texts}
use Rattle.ring_script.proofs.Ending.{adding_refused}
use Rattle.ring_script.proofs.script.further_line.Goals as goal

pub returns-in-Err : goal.returns-in-Err
returns-in-Err c =
    adding_refused c.args.limit c.args.draft c.args.number (texts c.args.tokens.now) c.add.new.self c.in-Err.refusal c.at_line.result c.at_line.ensures
    c.in-Err.ensures
