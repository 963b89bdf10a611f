use Rattle.std.proofs.Common.{arith}
use Rattle.std.proofs.lemmas.Grind.{common_steps}
use Rattle.bank.proofs.day_on_ring.Goals as goal

pub new-requires-2-clause-made : goal.new-requires-2-clause-made
new-requires-2-clause-made g c = grind (arith, common_steps)

pub run_day-report-requires-clause-tellers : goal.run_day-report-requires-clause-tellers
run_day-report-requires-clause-tellers g c κs within = grind (arith, common_steps)

pub run_day-report-requires-clause-life : goal.run_day-report-requires-clause-life
run_day-report-requires-clause-life g c κs within = grind (arith, common_steps)
