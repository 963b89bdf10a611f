-- The text grows by the next number.
use Rattle.std.proofs.Common.{ℕ, ◌∷◌, string_bytes}
use Rattle.std.specs.Prelude.{decimal}
use Rattle.ring_script.proofs.Texts.{one_more, grown}
use Rattle.ring_script.proofs.printer.write_numbers.Goals as goal

pub loop-number-preserved : goal.loop-number-preserved
loop-number-preserved c =
    grown (string_bytes c.args.text.now) (string_bytes c.loop-number.text) (string_bytes c.write_number.new.text) _ _ _ c.loop-number.invariant
    c.in_ok-write_number.ensures (one_more (λ (number : ℕ). 32 ∷ decimal number) c.args.numbers.now c.loop-number.number-index _ c.loop-number-test.true)
