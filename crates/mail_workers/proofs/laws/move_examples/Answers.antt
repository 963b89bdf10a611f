-- Each need and each gate in turn, and the state in which the message is finished.
use Rattle.std.proofs.Common.{refl, arith}
use Rattle.mail_workers.proofs.ExamplesFacts.{opened, none_packed, raised, comes_in, not_yet, again}
use Rattle.mail_workers.proofs.laws.move_examples.Goals as goal

pub returns-clause-opens : goal.returns-clause-opens
returns-clause-opens c = record { moves = record { needs = λ message. omega arith; gates = opened }; packs_none = none_packed }

pub returns-clause-packs : goal.returns-clause-packs
returns-clause-packs c = (record { needs = λ message. omega arith; gates = raised }, λ move. omega (arith, move.packs_none 0 refl))

pub returns-clause-indexes : goal.returns-clause-indexes
returns-clause-indexes c = comes_in

pub returns-clause-raises : goal.returns-clause-raises
returns-clause-raises c move = omega (arith, move.step.moves.needs 1)

pub returns-clause-finished : goal.returns-clause-finished
returns-clause-finished c =
    (record { state = 1; no_older = omega arith; happened = omega arith; need = refl }, λ was. not_yet was.state was.happened was.need)

pub returns-clause-not_since : goal.returns-clause-not_since
returns-clause-not_since c =
    (record { state = 1; no_older = omega arith; happened = omega arith; need = refl }, λ was. again was.state was.no_older was.happened was.need)
