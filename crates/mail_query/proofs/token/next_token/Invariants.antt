use Rattle.std.proofs.Common.{◌≡◌, ◌≤◌, length}
use Rattle.mail_query.specs.Tokens.{tokens_of}
use Rattle.mail_query.proofs.token.next_token.Given as goal

abbrev pub invariant-loop-byte : goal.invariant-loop-byte
invariant-loop-byte l = (tokens_of l.text ≡ tokens_of l.rest) × (length l.rest ≤ length l.text)

abbrev pub decreases-loop-byte : goal.decreases-loop-byte
decreases-loop-byte l = length l.rest
