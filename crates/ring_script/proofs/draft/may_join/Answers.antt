-- Each region is compared with the new one.
use Rattle.std.proofs.Common.{◌≤◌, length, take, get_or, Contains, inl, inr, sym, subst, arith, refl}
use Rattle.std.proofs.lemmas.List.{take_more, take_all}
use Rattle.std.proofs.lemmas.List.Elements.{Contains-get_or, Contains-push_cases}
use Rattle.tx_model.specs.declared.gate.Region.{Region}
use Rattle.tx_model.specs.Made.{no_region}
use Rattle.ring_script.specs.Draft.{AreBeside}
use Rattle.ring_script.proofs.draft.may_join.Goals as goal

pub are_beside-requires-clause-first : goal.are_beside-requires-clause-first
are_beside-requires-clause-first c =
    let regions = c.args.regions.now in
    let i = c.loop-other.other-index in
    let within = c.requires.within (get_or regions i no_region) (Contains-get_or regions i no_region c.loop-other-test.true) in
    omega (arith, within, c.requires.few)

pub returns-then-not-are_beside : goal.returns-then-not-are_beside
returns-then-not-are_beside c =
    let regions = c.args.regions.now in
    let i = c.loop-other.other-index in (
      λ e. absurd (cc (e)),
      λ may.
          let beside = may.others (get_or regions i no_region) (Contains-get_or regions i no_region c.loop-other-test.true) in
          let found = c.are_beside.ensures.1 beside in
          absurd (cc (found, c.if-not-are_beside.true)),
    )

pub loop-other-preserved : goal.loop-other-preserved
loop-other-preserved c other among =
    let regions = c.args.regions.now in
    let i = c.loop-other.other-index in
    let more = subst (λ l. Contains l other) (take_more regions i no_region c.loop-other-test.true) among in
    elim (Contains-push_cases (take i regions) (get_or regions i no_region) other more) [
      | inl earlier ↦ c.loop-other.invariant other earlier
      | inr here ↦ subst (λ (r : Region). AreBeside r c.args.region) here (c.are_beside.ensures.0 c.if-not-are_beside.false)
    ]

pub returns : goal.returns
returns c =
    let regions = c.args.regions.now in
    let i = c.loop-other.other-index in
    let all : length regions ≤ i = omega (arith, c.loop-other-test.false) in (
      λ e. record {
        lies_in = c.lies_in.ensures.0 c.if-not-lies_in.false;
        others = λ other among. c.loop-other.invariant other (subst (λ l. Contains l other) (sym (take_all i regions all)) among);
      },
      λ may. refl,
    )
