-- Which lists of keys a query holds of, and the answer lines that say so.
use Rattle.std.specs.Prelude.{ℕ, List, map, filter}
use Rattle.std.specs.List.{enumerate_from}
use Rattle.mail_words.specs.Key.{KeyNumbers}
use Rattle.mail_query.specs.Answers.{answer_line}
use Rattle.mail_query.specs.Truth.{satisfies}
use Rattle.mail_query.specs.declared.query.Query.{Query}

-- the numbers of the lists, from one on, of whose keys the query holds
abbrev pub hits_from : ℕ → List (List KeyNumbers) → Query → List ℕ
hits_from number lists query = map (λ list. list.0) (filter (λ list. satisfies query list.1) (enumerate_from number lists))

-- those of all lists, from 1 on
abbrev pub hits_in : List (List KeyNumbers) → Query → List ℕ
hits_in lists query = hits_from 1 lists query

-- the answer lines of the queries, in order
abbrev pub lines_in : List (List KeyNumbers) → List Query → List (List ℕ)
lines_in lists queries = map (λ query. answer_line (hits_in lists query)) queries
