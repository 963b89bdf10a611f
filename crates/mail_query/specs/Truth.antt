-- Whether a query holds of a set of keys.
use Rattle.std.specs.Prelude.{Bool, not, List, [], ◌∷◌}
use Rattle.std.specs.List.{list_all, list_any, flat_map}
use Rattle.mail_words.specs.Key.{KeyNumbers, same_key}
use Rattle.mail_query.specs.declared.query.Query.{Query, fold-Query}
use Rattle.mail_query.specs.declared.query.Query.TheOpen.{Query-F}

-- the key is among the keys
abbrev pub has_key : KeyNumbers → List KeyNumbers → Bool
has_key key keys = list_any (λ other. same_key other key) keys

-- one level, where it is known of each query inside whether it holds
abbrev pub satisfies_step : List KeyNumbers → Query-F Bool (List Bool) → Bool
satisfies_step keys (Query-F.Word key) = has_key key keys
satisfies_step keys (Query-F.Not of) = not of
satisfies_step keys (Query-F.All of) = list_all (λ member. member) of
satisfies_step keys (Query-F.Any of) = list_any (λ member. member) of

-- the query holds of the keys
abbrev pub satisfies : Query → List KeyNumbers → Bool
satisfies query keys = fold-Query Bool (List Bool) (satisfies_step keys) (λ queries. queries.members) query

-- one level, where the keys of each query inside are known
abbrev pub keys_in_step : Query-F (List KeyNumbers) (List (List KeyNumbers)) → List KeyNumbers
keys_in_step (Query-F.Word key) = key ∷ []
keys_in_step (Query-F.Not of) = of
keys_in_step (Query-F.All of) = flat_map (λ keys. keys) of
keys_in_step (Query-F.Any of) = flat_map (λ keys. keys) of

-- the keys of the words of a query, in order
abbrev pub keys_in : Query → List KeyNumbers
keys_in = fold-Query (List KeyNumbers) (List (List KeyNumbers)) keys_in_step (λ queries. queries.members)
