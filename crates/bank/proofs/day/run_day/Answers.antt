-- What the tellers and the auditor left, once all passes are one again.
use Rattle.std.proofs.Common.{arith}
use Rattle.std.proofs.lemmas.Grind.{common_steps}
use Rattle.bank.proofs.day.run_day.Goals as goal

pub returns-in_err-tallies-clause-share : goal.returns-in_err-tallies-clause-share
returns-in_err-tallies-clause-share g c = grind (arith, common_steps)

pub returns-in_err-audits-clause-share : goal.returns-in_err-audits-clause-share
returns-in_err-audits-clause-share g c = grind (arith, common_steps)

pub returns-clause-share : goal.returns-clause-share
returns-clause-share g c = grind (arith, common_steps)

pub returns-clause-made : goal.returns-clause-made
returns-clause-made g c = grind (arith, common_steps)

pub serve_and_audit-audits-requires-clause-ready : goal.serve_and_audit-audits-requires-clause-ready
serve_and_audit-audits-requires-clause-ready g c κs within = grind (arith, common_steps)

pub dismiss-requires-clause-ready : goal.dismiss-requires-clause-ready
dismiss-requires-clause-ready g c = grind (arith, common_steps)

pub returns-clause-tallies : goal.returns-clause-tallies
returns-clause-tallies g c = grind (arith, common_steps)
