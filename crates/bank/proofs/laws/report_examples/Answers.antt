-- The balances are those that were read, and one word isn't two.
use Rattle.std.proofs.Common.{[], ◌∷◌, length, refl, ap, arith}
use Rattle.tx_model.proofs.lemmas.Regions.{from_length}
use Rattle.bank.proofs.laws.report_examples.Goals as goal

pub returns-clause-audit : goal.returns-clause-audit
returns-clause-audit c = record { balances = 6 ∷ 9 ∷ []; each = refl; reads = refl; writes = refl; added = refl; exact = refl }

pub returns-clause-part : goal.returns-clause-part
returns-clause-part c = λ is. omega (arith, ap length is.reads, from_length 0 is.balances, is.each)
