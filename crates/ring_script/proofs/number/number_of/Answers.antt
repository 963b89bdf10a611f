-- A token is no number where it has too many digits, another byte, or too great a value.
use Rattle.std.proofs.Common.{◌≡◌, ℕ, ◌+◌, ◌≤◌, Some, length, take, get_or, sym, ◌∙◌, ap, subst, arith, inl, inr}
use Rattle.std.proofs.lemmas.Bool.{cases_lt}
use Rattle.std.proofs.lemmas.List.Elements.{All-from_get_or}
use Rattle.std.proofs.Math.Seq.{take-length}
use Rattle.ring_script.specs.Lines.{value_from}
use Rattle.ring_script.proofs.Values.{value_more, value_least}
use Rattle.ring_script.proofs.number.number_of.Goals as goal

pub returns-then-value-digit : goal.returns-then-value-digit
returns-then-value-digit c number = (
  λ e. absurd cc,
  λ is.
      let token = c.args.token.now in
      let i = c.loop-byte.byte-index in
      let more = value_more token i c.loop-byte-test.true in
      let least = value_least token (i + 1) in
      absurd (omega (arith, c.if-value-digit.true, c.loop-byte.invariant.value, more, least, is.value, is.fits)),
)

pub loop-byte-preserved : goal.loop-byte-preserved
loop-byte-preserved c =
    let token = c.args.token.now in
    let i = c.loop-byte.byte-index in
    let more = value_more token i c.loop-byte-test.true in
    record {
      value = omega (arith, c.loop-byte.invariant.value, more);
      digits = λ k below. elim (cases_lt k i) [
        | inl earlier ↦ c.loop-byte.invariant.digits k earlier
        | inr late ↦
            let here : i ≡ k = omega (arith, below, late) in
            subst (λ (j : ℕ). (48 ≤ get_or token j 0) × (get_or token j 0 ≤ 57)) here (c.if-byte-lt48.false, c.if-byte-gt57.false)
      ];
    }

pub returns : goal.returns
returns c number =
    let token = c.args.token.now in
    let all : c.loop-byte.byte-index ≡ length token = omega (arith, c.loop-byte-test.false, c.loop-byte.auto.byte-index-end) in
    let value : c.loop-byte.value ≡ value_from 0 token =
    c.loop-byte.invariant.value ∙ ap (λ (n : ℕ). value_from 0 (take n token)) all ∙ ap (value_from 0) (take-length token) in (
      λ e.
          let same : c.loop-byte.value ≡ number = cc in
          record {
            some = omega arith;
            most = omega arith;
            digits = All-from_get_or (λ (digit : ℕ). (48 ≤ digit) × (digit ≤ 57)) token 0
                (λ k below. c.loop-byte.invariant.digits k (omega (arith, below, all)));
            value = sym value ∙ same;
            fits = omega (arith, same, c.loop-byte.auto.value-fits);
          },
      λ is. ap (λ (v : ℕ). Some v) (value ∙ is.value),
    )
