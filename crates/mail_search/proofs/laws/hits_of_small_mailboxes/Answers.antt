use Rattle.std.proofs.Common.{◌++◌, codes, replicate}
use Rattle.mail_words.specs.Key.{key_of}
use Rattle.mail_search.proofs.Worked.{word_hits, hits_without}
use Rattle.mail_search.proofs.laws.hits_of_small_mailboxes.Goals as goal

pub returns-clause-separator_as_content : goal.returns-clause-separator_as_content
returns-clause-separator_as_content c = word_hits c.truth_by_cases.ensures.word (codes "From a\none\nFrom two\n") (key_of (codes "two"))

pub returns-clause-separator : goal.returns-clause-separator
returns-clause-separator c = word_hits c.truth_by_cases.ensures.word (codes "From a\none\n\nFrom two\n") (key_of (codes "two"))

pub returns-clause-without : goal.returns-clause-without
returns-clause-without c = hits_without c.truth_by_cases.ensures.word c.truth_by_cases.ensures.negation (codes "From a\none\n\nFrom two\n")
    (key_of (codes "one"))

pub returns-clause-second : goal.returns-clause-second
returns-clause-second c = word_hits c.truth_by_cases.ensures.word (codes "From a\r\nx y\r\n\r\nFrom b\r\nz") (key_of (codes "z"))

pub returns-clause-longest : goal.returns-clause-longest
returns-clause-longest c = word_hits c.truth_by_cases.ensures.word (codes "From a\n" ++ replicate 32 97) (key_of (replicate 32 97))

pub returns-clause-too_long : goal.returns-clause-too_long
returns-clause-too_long c = word_hits c.truth_by_cases.ensures.word (codes "From a\n" ++ replicate 33 97) (key_of (replicate 32 97))
