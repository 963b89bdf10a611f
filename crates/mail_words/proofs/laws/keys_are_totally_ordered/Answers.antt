use Rattle.std.proofs.Common.{sym, ap, ◌∙◌}
use Rattle.mail_words.specs.Key.{same_key}
use Rattle.mail_words.proofs.Keys.{same_key-is, same_key-refl}
use Rattle.mail_words.proofs.Rising.{key_total, key_ties}
use Rattle.mail_words.proofs.laws.keys_are_totally_ordered.Goals as goal

pub returns-clause-total : goal.returns-clause-total
returns-clause-total c = key_total

pub returns-clause-ties : goal.returns-clause-ties
returns-clause-ties c = key_ties

pub returns-clause-same : goal.returns-clause-same
returns-clause-same c = λ key other. (same_key-is key other, λ equal. ap (same_key key) (sym equal) ∙ same_key-refl key)
