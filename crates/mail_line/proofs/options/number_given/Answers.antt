use Rattle.std.proofs.Common.{◌∙◌, ap, Option, Some, None, List, ℕ}
use Rattle.std.specs.Option.{option_map_or}
use Rattle.std.specs.Prelude.{option_map}
use Rattle.clap.specs.Words.{found_of}
use Rattle.clap.proofs.WalkLemmas.{first_value-rows}
use Rattle.mail_line.specs.CommandLine.{number_in}
use Rattle.mail_line.proofs.options.number_given.Goals as goal

abbrev read : ℕ → ℕ → Option (List ℕ) → Option (Option ℕ)
read low high o = option_map_or (λ text. option_map (λ n. Some n) (number_in low high text)) o (Some None)

abbrev kept : Option ℕ → Option (Option ℕ)
kept o = option_map (λ n. Some n) o

pub returns-in-Some-number_in : goal.returns-in-Some-number_in
returns-in-Some-number_in c =
    ap kept c.in-Some-number_in.ensures
    ∙ ap (read c.args.low c.args.high) (c.in-Some.ensures ∙ first_value-rows (found_of c.args.matches.now) c.args.option.now)

pub returns-in-None-number_in : goal.returns-in-None-number_in
returns-in-None-number_in c =
    ap kept c.in-None-number_in.ensures
    ∙ ap (read c.args.low c.args.high) (c.in-Some.ensures ∙ first_value-rows (found_of c.args.matches.now) c.args.option.now)

pub returns-in-None : goal.returns-in-None
returns-in-None c = ap (read c.args.low c.args.high) (c.in-None.ensures ∙ first_value-rows (found_of c.args.matches.now) c.args.option.now)
