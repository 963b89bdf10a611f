-- A region that may be sealed, and one that may not.
use Rattle.std.proofs.Common.{◌≡◌, ℕ, ◌∷◌, [], Option, Some, refl, ◌∙◌, ap, arith}
use Rattle.tx_model.specs.declared.gate.TheConstants.{GATE_OPEN}
use Rattle.tx_model.specs.Words.{value_of}
use Rattle.tx_model.specs.Attempt.{gate_value, first_of}
use Rattle.tx_model.proofs.lemmas.Values.{no_value, place_value}
use Rattle.ring_worlds.specs.World.{attempt_of}
use Rattle.ring_worlds.specs.Moves as moves
use Rattle.ring_worlds.specs.Examples.{word, pair, sealer, SealExample, NoSealExample}

open_there : gate_value (attempt_of sealer) pair.gate ≡ Some GATE_OPEN
open_there =
    ap (λ (o : Option ℕ). first_of o (value_of (word 0 GATE_OPEN ∷ []) 0)) (no_value 0)
    ∙ place_value (word 0 GATE_OPEN ∷ []) 0 (λ i j before within. absurd (omega (arith, before, within))) (omega arith)

pub may_seal : SealExample
may_seal =
    moves.seals pair (record { active = refl; closed = refl })
    (record { of_memory = (0, omega arith, refl); gate_read = (0, word 0 GATE_OPEN, omega arith, refl, refl); is_open = open_there })
    (λ full. omega (arith, full.1)) refl

pub may_not_seal : NoSealExample
may_not_seal may = let read = may.gate_read in omega (arith, read.2)
