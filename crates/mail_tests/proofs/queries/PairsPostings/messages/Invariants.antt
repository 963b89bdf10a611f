use Rattle.std.proofs.Common.{◌≡◌, ◌++◌, map, filter, take}
use Rattle.mail_words.specs.Key.{same_key}
use Rattle.mail_tests.proofs.queries.PairsPostings.messages.Given as goal

abbrev pub invariant-loop-pair : goal.invariant-loop-pair
invariant-loop-pair l =
    l.into.items ≡ l.fn.into.items ++ map (λ pair. pair.message) (filter (λ pair. same_key pair.key l.key) (take l.pair-index l.pair-items))
