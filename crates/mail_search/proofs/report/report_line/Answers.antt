use Rattle.std.proofs.Common.{◌++◌, ◌∙◌, ℕ, List, length, codes, string_bytes, ap}
use Rattle.std.specs.Prelude.{decimal}
use Rattle.mail_search.proofs.Sent.{same_bytes}
use Rattle.mail_search.proofs.report.report_line.Goals as goal

pub returns : goal.returns
returns c =
    let line : ℕ → ℕ → List ℕ = λ commits seals. codes "commits " ++ (decimal commits ++ (codes " seals " ++ (decimal seals ++ codes "\n"))) in
    let counted = ap (λ (n : ℕ). line n c.seals-seals.result) c.commits-commits.ensures
    ∙ ap (line (length c.args.closed.now.history)) c.seals-seals.ensures in
    same_bytes string_bytes counted c.format.result c.format.ensures.ok
