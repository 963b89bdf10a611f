-- What a query finds in a table of keys and message numbers, and the line that says so.
use Rattle.std.specs.Prelude.{ℕ, ◌==◌, List, [], ◌∷◌, ◌++◌, length, map, filter, codes, decimal}
use Rattle.std.specs.List.{range_with_len, concat}
use Rattle.mail_words.specs.Key.{KeyNumbers, same_key}
use Rattle.mail_query.specs.declared.query.Query.{Query}
use Rattle.mail_query.specs.Numbers.{rising}
use Rattle.mail_query.specs.Truth.{satisfies}

-- pairs of a key and the number of a message that has the word
abbrev pub Table : Type 0
Table = List (KeyNumbers × ℕ)

-- the keys that the table pairs with the number
abbrev pub keys_with : Table → ℕ → List KeyNumbers
keys_with table number = map (λ pair. pair.0) (filter (λ pair. pair.1 == number) table)

-- the numbers from 1 to `count` for which the query holds of the keys that the table pairs with the number
abbrev pub numbers_where : Query → Table → ℕ → List ℕ
numbers_where q table count = filter (λ number. satisfies q (keys_with table number)) (range_with_len 1 count)

-- the numbers that the table pairs with the key, rising, each once
abbrev pub messages_with : Table → KeyNumbers → List ℕ
messages_with table key = rising (map (λ pair. pair.1) (filter (λ pair. same_key pair.0 key) table))

-- how many hits there are, a colon, each hit behind a space, and a line feed
abbrev pub answer_line : List ℕ → List ℕ
answer_line hits = decimal (length hits) ++ codes ":" ++ concat (map (λ hit. 32 ∷ decimal hit) hits) ++ 10 ∷ []
