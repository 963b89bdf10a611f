use Rattle.std.proofs.Common.{◌∙◌, ap, codes, Option, List, ℕ, Bool, false}
use Rattle.std.specs.Option.{option_map_or}
use Rattle.std.specs.Str.{bytes_eq}
use Rattle.clap.specs.Words.{found_of}
use Rattle.clap.proofs.WalkLemmas.{first_value-rows}
use Rattle.mail_line.proofs.options.is_set.Goals as goal

abbrev read : Option (List ℕ) → Bool
read o = option_map_or (λ text. bytes_eq text (codes "true")) o false

pub returns-in-Some : goal.returns-in-Some
returns-in-Some c = c.eq.ensures ∙ ap read (c.in-Some.ensures ∙ first_value-rows (found_of c.args.matches.now) c.args.flag.now)

pub returns-in-None : goal.returns-in-None
returns-in-None c = ap read (c.in-None.ensures ∙ first_value-rows (found_of c.args.matches.now) c.args.flag.now)
