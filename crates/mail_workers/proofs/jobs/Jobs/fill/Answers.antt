use Rattle.std.proofs.Common.{ap, sym, ◌+◌, arith, rules}
use Rattle.mail_workers.proofs.Seats.{has_rest}
use Rattle.mail_workers.proofs.Fills.{fills, not_full}
use Rattle.mail_workers.proofs.jobs.Jobs.fill.Goals as goal

pub push_as-requires-clause-rule : goal.push_as-requires-clause-rule
push_as-requires-clause-rule g c =
    let is = c.loop-number.invariant.1 in
    (fills _ _ _ _ (ap (λ v. v.share) is) (ap (λ v. v.total + 1) (sym is)), λ items views r at. has_rest _ _ items views r at)

pub unreachable-requires : goal.unreachable-requires
unreachable-requires g c =
    let i = c.loop-number.invariant in
    not_full _ _ _ i.1 (omega (arith, c.loop-number-test.true, i.3, i.4)) c.in_default-push_as.ensures.rule.2

pub loop-number-init : goal.loop-number-init
loop-number-init g c = search rules
