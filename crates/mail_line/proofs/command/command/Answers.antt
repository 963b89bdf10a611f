use Rattle.std.proofs.Common.{rules, ap₂, ◌≡◌, ◌∙◌}
use Rattle.std.proofs.lemmas.Result.{IfOk-weaker}
use Rattle.clap.specs.Words.{rule_of, with_rule}
use Rattle.mail_line.specs.CommandLine.{queries_rule}
use Rattle.mail_line.proofs.command.command.Goals as goal

pub returns : goal.returns
returns c =
    let queries_is : rule_of c.action-queries.result ≡ queries_rule = search rules in
    let workers_kept = c.in_ok-arg.ensures.shape c.option.ensures.own ∙ ap₂ with_rule c.bare_command.ensures c.option.ensures.rule in
    let ring_kept = c.in_ok-arg-2.ensures.shape c.option-2.ensures.own ∙ ap₂ with_rule workers_kept c.option-2.ensures.rule in
    let bits_kept = c.in_ok-arg-3.ensures.shape c.option-3.ensures.own ∙ ap₂ with_rule ring_kept c.option-3.ensures.rule in
    let report_kept = c.in_ok-arg-4.ensures.shape c.flag.ensures.own ∙ ap₂ with_rule bits_kept c.flag.ensures.rule in
    let generate_kept = c.in_ok-arg-5.ensures.shape c.option-4.ensures.own ∙ ap₂ with_rule report_kept c.option-4.ensures.rule in
    let replay_kept = c.in_ok-arg-6.ensures.shape c.flag-2.ensures.own ∙ ap₂ with_rule generate_kept c.flag-2.ensures.rule in
    IfOk-weaker c.arg-7.result _ _ (λ r h. h.shape (search rules) ∙ ap₂ with_rule replay_kept queries_is) c.arg-7.ensures
