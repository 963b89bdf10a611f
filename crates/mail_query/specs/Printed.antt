-- The text of a query: one space between two items, and none round `|`, `!` or parentheses.
use Rattle.std.specs.Prelude.{ℕ, Bool, true, false, List, [], ◌∷◌, ◌++◌, map, if◌then◌else◌}
use Rattle.mail_words.specs.Key.{word_of}
use Rattle.mail_query.specs.declared.query.Query.{Query, fold-Query}
use Rattle.mail_query.specs.declared.query.Query.TheOpen.{Query-F}

-- where a query stands in a text: alone, in an `Any`, in an `All`, or directly behind a `!`
pub data Context : Type 0 where
  Alone : Context
  InAny : Context
  InAll : Context
  UnderNot : Context

-- Parentheses stand round an `Any` inside anything.
abbrev pub wraps_any : Context → Bool
wraps_any Context.Alone = false
wraps_any Context.InAny = true
wraps_any Context.InAll = true
wraps_any Context.UnderNot = true

-- They stand round an `All` in an `All` and under `!`.
abbrev pub wraps_all : Context → Bool
wraps_all Context.Alone = false
wraps_all Context.InAny = false
wraps_all Context.InAll = true
wraps_all Context.UnderNot = true

-- They stand round a `Not` under `!`, and nowhere else.
abbrev pub wraps_not : Context → Bool
wraps_not Context.Alone = false
wraps_not Context.InAny = false
wraps_not Context.InAll = false
wraps_not Context.UnderNot = true

abbrev pub wraps : {A B : Type 0} → Query-F A B → Context → Bool
wraps (Query-F.Word key) context = false
wraps (Query-F.Not of) context = wraps_not context
wraps (Query-F.All of) context = wraps_all context
wraps (Query-F.Any of) context = wraps_any context

-- the text, in parentheses where the test holds
abbrev pub grouped : Bool → List ℕ → List ℕ
grouped wrapped text = if wrapped then 40 ∷ (text ++ (41 ∷ [])) else text

-- the texts, with a byte between each two
abbrev pub joined : ℕ → List (List ℕ) → List ℕ
joined between [] = []
joined between (text ∷ []) = text
joined between (text ∷ next ∷ texts) = text ++ between ∷ joined between (next ∷ texts)

-- the text with no parentheses round it, where the text of each query inside is known in each context
abbrev pub bare : Query-F (Context → List ℕ) (List (Context → List ℕ)) → List ℕ
bare (Query-F.Word key) = word_of key
bare (Query-F.Not of) = 33 ∷ of Context.UnderNot
bare (Query-F.All of) = joined 32 (map (λ member. member Context.InAll) of)
bare (Query-F.Any of) = joined 124 (map (λ member. member Context.InAny) of)

abbrev pub printed_step : Query-F (Context → List ℕ) (List (Context → List ℕ)) → Context → List ℕ
printed_step layer context = grouped (wraps layer context) (bare layer)

-- the text of a query in a context
abbrev pub printed_at : Query → Context → List ℕ
printed_at = fold-Query (Context → List ℕ) (List (Context → List ℕ)) printed_step (λ queries. queries.members)

abbrev pub printed : Query → List ℕ
printed query = printed_at query Context.Alone
