-- Each gate is compared with the word.
use Rattle.std.proofs.Common.{◌≤◌, length, take, get_or, Contains, inl, inr, sym, ◌∙◌, ap, subst, arith, refl}
use Rattle.std.proofs.lemmas.List.{take_more, take_all}
use Rattle.std.proofs.lemmas.List.Elements.{Contains-get_or, Contains-push_cases}
use Rattle.tx_model.specs.declared.gate.Region.{Region}
use Rattle.tx_model.specs.Made.{no_region}
use Rattle.ring_script.proofs.draft.may_open_with.Goals as goal
use Rattle.ring_script.proofs.draft.may_open_with.Goals.{else-region-word-via-then-region-word+else-not-is_unsealed, else-region-word-via-else-region-word}

pub returns-then-not-is_unsealed : goal.returns-then-not-is_unsealed
returns-then-not-is_unsealed c =
    let regions = c.args.regions.now in
    let i = c.loop-region.region-index in (
      λ e. absurd (cc (e)),
      λ may.
          let here = may.gate (get_or regions i no_region) (Contains-get_or regions i no_region c.loop-region-test.true) (sym c.if-region-word.true) in
          let found = c.is_unsealed.ensures.1 here in
          absurd (cc (found, c.if-not-is_unsealed.true)),
    )

pub loop-region-preserved : goal.loop-region-preserved
loop-region-preserved c region among same =
    let regions = c.args.regions.now in
    let i = c.loop-region.region-index in
    let more = subst (λ l. Contains l region) (take_more regions i no_region c.loop-region-test.true) among in
    elim (Contains-push_cases (take i regions) (get_or regions i no_region) region more) [
      | inl earlier ↦ c.loop-region.invariant region earlier same
      | inr here ↦
          elim c.else-region-word.branch [
            | else-region-word-via-then-region-word+else-not-is_unsealed w ↦ w.is_unsealed.ensures.0 w.if-not-is_unsealed.false
            | else-region-word-via-else-region-word w ↦ absurd (w.if-region-word.false (ap (λ (r : Region). r.gate) here ∙ sym same))
          ]
    ]

pub returns : goal.returns
returns c =
    let regions = c.args.regions.now in
    let i = c.loop-region.region-index in
    let all : length regions ≤ i = omega (arith, c.loop-region-test.false) in (
      λ e. record {
        within = omega (arith, c.if-word-words.false);
        gate = λ region among same. c.loop-region.invariant region (subst (λ l. Contains l region) (sym (take_all i regions all)) among) same;
      },
      λ may. refl,
    )
