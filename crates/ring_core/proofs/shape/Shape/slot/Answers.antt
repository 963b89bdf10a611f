-- The remainder by a power of two is what a mask leaves.
use Rattle.std.proofs.Common.{◌≡◌, ℕ, ◌-◌, ◌*◌, ◌%◌, ◌^◌, ◌<◌, sym, ◌∙◌, ap, subst, arith, mod-lt, w64}
use Rattle.std.proofs.Math.Nat.{mod-eq_of_lt}
use Rattle.std.proofs.Math.Pow.{pow-lt}
use Rattle.std.proofs.lemmas.Nat.{and_mask}
use Rattle.std.specs.Prelude.{bit_and}
use Rattle.std.specs.Int.{trailing_zeros}
use Rattle.ring_core.proofs.shape.Shape.slot.Goals as goal

one_power : (k : ℕ) → k < 64 → 1 * 2 ^ k % 2 ^ 64 ≡ 2 ^ k
one_power k below = let bound : 2 ^ k < 2 ^ 64 = pow-lt below in
    let one : 1 * 2 ^ k ≡ 2 ^ k = omega arith in
    ap (λ n. n % 2 ^ 64) one ∙ mod-eq_of_lt bound

pub returns-then-wrapping_shl-self : goal.returns-then-wrapping_shl-self
returns-then-wrapping_shl-self c =
    let k : ℕ = trailing_zeros w64 c.args.self.now.ring % 64 in
    let power : 2 ^ k ≡ c.args.self.now.ring =
    sym (one_power k (mod-lt (trailing_zeros w64 c.args.self.now.ring) (omega arith))) ∙ sym c.wrapping_shl.ensures ∙ c.if-wrapping_shl-self.true in
    subst (λ n. bit_and c.args.entry (n - 1) ≡ c.args.entry % n) power (and_mask c.args.entry k)
