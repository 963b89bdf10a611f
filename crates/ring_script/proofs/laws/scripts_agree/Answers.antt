use Rattle.ring_script.proofs.Readings.{scripts_agree as agree}
use Rattle.ring_script.proofs.Beginnings.{bad_is_apart, bad_is_one}
use Rattle.ring_script.proofs.laws.scripts_agree.Goals as goal

pub returns : goal.returns
returns c = record { read_once = agree; apart = bad_is_apart; one = bad_is_one }
