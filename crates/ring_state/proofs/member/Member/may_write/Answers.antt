-- Every region lets the attempt write the value.
use Rattle.std.proofs.Common.{refl, sym, ◌∙◌, arith}
use Rattle.std.proofs.lemmas.Bool.{false≢true}
use Rattle.std.proofs.lemmas.List.Elements.{Contains-get_or}
use Rattle.tx_model.specs.Made.{no_region}
use Rattle.ring_worlds.specs.World.{attempt_of}
use Rattle.ring_state.specs.Plain.{process_of}
use Rattle.ring_state.specs.Rule.{LetsWrite}
use Rattle.ring_state.proofs.RuleFacts.{every_region, writes_by, lets_write}
use Rattle.ring_state.proofs.member.Member.may_write.Goals as goal

pub returns : goal.returns
returns c =
    let regions = c.args.regions.now in
    let attempt = attempt_of (process_of c.args.self.now) in (
      λ _. writes_by regions attempt c.args.addr c.args.value (every_region regions (LetsWrite attempt c.args.addr c.args.value)
          (λ k below. c.loop-region.invariant k (omega (arith, below, c.loop-region-test.false)))),
      λ _. refl,
    )

pub returns-then-not-lets_write : goal.returns-then-not-lets_write
returns-then-not-lets_write c =
    let regions = c.args.regions.now in
    let attempt = attempt_of (process_of c.args.self.now) in (
      λ is. absurd (false≢true is),
      λ may. absurd (false≢true (sym c.if-not-lets_write.true ∙ c.lets_write.ensures.1 (lets_write regions attempt c.args.addr c.args.value may _
          (Contains-get_or regions c.loop-region.region-index no_region c.loop-region-test.true)))),
    )
