-- Which queries are in form: each `All` and `Any` has at least two members.
use Rattle.std.specs.Prelude.{Bool, true, ◌&&◌, nat_le, List, length}
use Rattle.std.specs.List.{list_all}
use Rattle.mail_words.specs.Key.{is_key}
use Rattle.mail_query.specs.declared.query.Query.{Query, fold-Query}
use Rattle.mail_query.specs.declared.query.Query.TheOpen.{Query-F}

-- one level, where it is known of each query inside whether it is in form
abbrev pub in_form_step : Query-F Bool (List Bool) → Bool
in_form_step (Query-F.Word key) = true
in_form_step (Query-F.Not of) = of
in_form_step (Query-F.All of) = nat_le 2 (length of) && list_all (λ member. member) of
in_form_step (Query-F.Any of) = nat_le 2 (length of) && list_all (λ member. member) of

abbrev pub in_form : Query → Bool
in_form = fold-Query Bool (List Bool) in_form_step (λ queries. queries.members)

-- one level, where it is known of each query inside whether its keys are keys of words
abbrev pub has_words_step : Query-F Bool (List Bool) → Bool
has_words_step (Query-F.Word key) = is_key key
has_words_step (Query-F.Not of) = of
has_words_step (Query-F.All of) = list_all (λ member. member) of
has_words_step (Query-F.Any of) = list_all (λ member. member) of

-- each key is the key of a word, as the program's keys are
abbrev pub has_words : Query → Bool
has_words = fold-Query Bool (List Bool) has_words_step (λ queries. queries.members)
