use Rattle.ring_script.proofs.Small.{lines_example, tokens_example, number_example, no_step}
use Rattle.ring_script.proofs.laws.line_examples.Goals as goal

pub returns : goal.returns
returns c = record { lines = lines_example; tokens = tokens_example; number = number_example; no_step = no_step }
