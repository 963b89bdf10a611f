-- The keys so far are those of the words among the pieces so far, but for doubles.
use Rattle.std.proofs.Common.{◌≡◌, map}
use Rattle.mail_words.specs.Words.{rising}
use Rattle.mail_words.proofs.Runs.{keys_in}
use Rattle.mail_words.proofs.words.list_words.Given as goal

abbrev pub invariant-loop-piece : goal.invariant-loop-piece
invariant-loop-piece l = rising l.keys.items ≡ rising (keys_in (map (λ piece. piece.now) l.yielded))
