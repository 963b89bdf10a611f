-- One move, and two that aren't.
use Rattle.std.proofs.Common.{ℕ, refl, arith, ap}
use Rattle.tx_model.specs.Words.{index_of}
use Rattle.ring_core.specs.declared.caller.Caller.{Caller}
use Rattle.tx_model.specs.WordLaws.{word}
use Rattle.ring_core.specs.declared.stage.Stage.{Stage}
use Rattle.ring_core.specs.declared.stage.Stage.TheVariants.{ReadHeap}
use Rattle.ring_core.specs.Moves.{opens_begin, opens_read, puts_write, opens_stamp, opens_turn, ends_attempt}
use Rattle.ring_core.proofs.laws.move_examples.Goals as goal

pub returns-clause-write : goal.returns-clause-write
returns-clause-write c = puts_write 1 5 (record { active = refl; closed = refl }) (omega arith) (λ full. omega (arith, full.1)) refl

asked : Stage → ℕ
asked (ReadHeap addr) = addr
asked stage = 0

pub returns-clause-no_read : goal.returns-clause-no_read
unfolding index_of asked
returns-clause-no_read c (opens_begin is closed now) = cc
returns-clause-no_read c (opens_read addr rest here new now) =
    new (0, word 1 5, omega arith, refl, ap (λ (d : Caller). asked d.stage) now)
returns-clause-no_read c (puts_write addr value rest here room now) = let stage = ap (λ (d : Caller). d.stage) now in cc
returns-clause-no_read c (opens_stamp rest some now) = let stage = ap (λ (d : Caller). d.stage) now in cc
returns-clause-no_read c (opens_turn is closed now) = cc
returns-clause-no_read c (ends_attempt rest now) = let stage = ap (λ (d : Caller). d.stage) now in cc

pub returns-clause-no_stamp : goal.returns-clause-no_stamp
returns-clause-no_stamp c (opens_begin is closed now) = cc
returns-clause-no_stamp c (opens_read addr rest here new now) = let stage = ap (λ (d : Caller). d.stage) now in cc
returns-clause-no_stamp c (puts_write addr value rest here room now) = let stage = ap (λ (d : Caller). d.stage) now in cc
returns-clause-no_stamp c (opens_stamp rest some now) = omega (arith, some)
returns-clause-no_stamp c (opens_turn is closed now) = cc
returns-clause-no_stamp c (ends_attempt rest now) = let stage = ap (λ (d : Caller). d.stage) now in cc
