use Rattle.std.proofs.lemmas.Grind.{common_steps}
use Rattle.std.proofs.Common.{arith, rules}
use Rattle.mail_workers.proofs.Seats.{has_rest}
use Rattle.mail_workers.proofs.Draws.{draws}
use Rattle.mail_workers.proofs.jobs.Jobs.draw.Goals as goal

pub pop_as-requires-clause-rule : goal.pop_as-requires-clause-rule
pop_as-requires-clause-rule g c = (draws _ _ c.requires.of.named, λ items views r at. has_rest _ _ items views r at)

pub returns-clause-drew : goal.returns-clause-drew
returns-clause-drew g c = search rules

pub returns-clause-none : goal.returns-clause-none
returns-clause-none g c = search rules

pub returns-clause-all : goal.returns-clause-all
returns-clause-all g c = grind (arith, common_steps)
