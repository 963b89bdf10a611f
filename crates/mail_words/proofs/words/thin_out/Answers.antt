use Rattle.std.proofs.Common.{◌∙◌, ap}
use Rattle.mail_words.specs.Words.{rising}
use Rattle.mail_words.proofs.Rising.{rising-twice}
use Rattle.mail_words.proofs.words.thin_out.Goals as goal

pub returns : goal.returns
returns c = ap rising c.drop_doubles.ensures ∙ rising-twice c.args.keys.now.items
