-- Every region lets the attempt read the word.
use Rattle.std.proofs.Common.{refl, arith}
use Rattle.ring_worlds.specs.World.{attempt_of}
use Rattle.ring_state.specs.Plain.{process_of}
use Rattle.ring_state.specs.Rule.{LetsRead}
use Rattle.ring_state.proofs.RuleFacts.{every_region, reads_by}
use Rattle.ring_state.proofs.member.Member.may_read.Goals as goal

pub returns : goal.returns
returns c =
    let regions = c.args.regions.now in
    let attempt = attempt_of (process_of c.args.self.now) in (
      λ _. reads_by regions attempt c.args.addr refl (every_region regions (LetsRead attempt c.args.addr)
          (λ k below. c.loop-region.invariant k (omega (arith, below, c.loop-region-test.false)))),
      λ _. refl,
    )
