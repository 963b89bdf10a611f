use Rattle.std.proofs.Common.{refl}
use Rattle.mail_words.specs.Hash.{mixed}
use Rattle.mail_words.proofs.laws.hashes_of_two_words.Goals as goal

pub returns : goal.returns
unfolding mixed
returns c = record { short = refl; short_bucket = refl; short_lane = refl; long = refl; long_bucket = refl; long_lane = refl }
