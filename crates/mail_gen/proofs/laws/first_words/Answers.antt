use Rattle.std.proofs.Common.{refl}
use Rattle.std.specs.Fmt.{digits}
use Rattle.mail_gen.specs.Generator.{word}
use Rattle.mail_gen.proofs.laws.first_words.Goals as goal

pub returns-clause-first : goal.returns-clause-first
unfolding word digits
returns-clause-first c = refl

pub returns-clause-second : goal.returns-clause-second
unfolding word digits
returns-clause-second c = refl

pub returns-clause-third : goal.returns-clause-third
unfolding word digits
returns-clause-third c = refl

pub returns-clause-fourth : goal.returns-clause-fourth
unfolding word digits
returns-clause-fourth c = refl

pub returns-clause-again : goal.returns-clause-again
unfolding word digits
returns-clause-again c = refl
