use Rattle.std.proofs.Common.{◌∙◌, ap, codes, Option, List, [], ℕ, map}
use Rattle.std.specs.Prelude.{unwrap_or}
use Rattle.std.proofs.lemmas.List.{take_all}
use Rattle.clap.specs.Words.{found_of}
use Rattle.clap.proofs.WalkLemmas.{raw_values-rows}
use Rattle.mail_line.proofs.settings.queries_in.Goals as goal

abbrev read : Option (List (List ℕ)) → List (List ℕ)
read o = unwrap_or o []

pub returns-in_default : goal.returns-in_default
returns-in_default c =
    ap (map (λ q. q.now)) c.new-queries.ensures.items
    ∙ ap read (c.in_default.ensures ∙ raw_values-rows (found_of c.args.matches.now) (codes "queries"))

pub returns : goal.returns
returns c =
    c.loop-text.invariant ∙ ap (map (λ q. q.now)) (take_all c.loop-text.text-index c.in-Some.texts.now c.loop-text-test.false)
    ∙ ap read (c.in-Some.ensures ∙ raw_values-rows (found_of c.args.matches.now) (codes "queries"))
