use Rattle.ring_script.proofs.Again.{printed_says_again, printed_is_read_again}
use Rattle.ring_script.proofs.Roomy.{scripts_may_be_printed}
use Rattle.ring_script.proofs.laws.printed_scripts_agree.Goals as goal

pub returns : goal.returns
returns c = record { may = scripts_may_be_printed; says = printed_says_again; read = printed_is_read_again }
