use Rattle.std.proofs.Common.{◌∙◌}
use Rattle.std.proofs.lemmas.List.Filters.{dedup_is}
use Rattle.mail_words.specs.Key.{same_key}
use Rattle.mail_words.proofs.Rising.{rising-sorted_dedup}
use Rattle.mail_words.proofs.words.drop_doubles.Goals as goal

pub returns : goal.returns
returns c =
    dedup_is same_key _ _ c.dedup.ensures.filtered
    ∙ rising-sorted_dedup c.args.keys.now.items _ c.sort_unstable.ensures.permutation c.sort_unstable.ensures.sorted
