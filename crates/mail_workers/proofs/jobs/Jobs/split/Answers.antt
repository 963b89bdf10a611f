use Rattle.std.proofs.Common.{ap, ap₂, sym, ◌∙◌}
use Rattle.tx_model.specs.Shares.{joined, kept_half, given_half}
use Rattle.mail_workers.proofs.Splits.{splits}
use Rattle.mail_workers.proofs.jobs.Jobs.split.Goals as goal

pub learn_as-requires-clause-rule : goal.learn_as-requires-clause-rule
learn_as-requires-clause-rule g c = λ items views r at. let seat = r.seats _ _ at in (seat.joined, seat.apart)

pub another-seat-requires-clause-rule : goal.another-seat-requires-clause-rule
another-seat-requires-clause-rule g c =
    let l = c.split_shares.ensures in
    splits l.apart l.others l.normal l.not_empty _ _ (λ none. c.requires.of.named (ap (λ v. v.share) (sym c.learn_as.ensures.queue.1) ∙ none))

pub returns-clause-rejoined : goal.returns-clause-rejoined
returns-clause-rejoined g c =
    let same = ap (λ v. v.share) c.learn_as.ensures.queue.1 in
    let made = c.another-seat.ensures.rule in
    let names = c.learn_as.ensures.rule.1 in
    ap₂ joined (ap (λ v. v.share) made.0 ∙ ap kept_half same) (ap (λ v. v.share) made.1 ∙ ap given_half same)
    ∙ c.rejoined_share.ensures _ names.1 names.0 c.requires.of.named
