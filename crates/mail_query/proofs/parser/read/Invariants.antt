use Rattle.std.proofs.Common.{◌≡◌, length, []}
use Rattle.mail_query.specs.Refusals.{Before}
use Rattle.mail_query.specs.Tokens.{tokens_of}
use Rattle.mail_query.specs.Refusals.{first_refusal}
use Rattle.mail_query.specs.Reading.{reading_of, before_of, read_from, fresh}
use Rattle.mail_query.proofs.parser.read.Given as goal

abbrev pub invariant-loop-token : goal.invariant-loop-token
invariant-loop-token l =
    (first_refusal Before.Start 0 (tokens_of l.text) ≡ first_refusal (before_of (reading_of l.reading).group) (length (reading_of l.reading).outer)
    (tokens_of l.rest))
    × (read_from fresh [] (tokens_of l.text) ≡ read_from (reading_of l.reading).group (reading_of l.reading).outer (tokens_of l.rest))

abbrev pub decreases-loop-token : goal.decreases-loop-token
decreases-loop-token l = length l.rest
