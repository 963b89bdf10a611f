-- The members of a list of queries, and the query that a list of queries is.
use Rattle.std.specs.Prelude.{List, [], ◌∷◌}
use Rattle.mail_query.specs.declared.query.Query.{Query}
use Rattle.mail_query.specs.declared.query.Query.TheVariants.{All, Any}
use Rattle.mail_query.specs.declared.query.Queries.{Queries}

abbrev pub members_of : Queries → List Query
members_of queries = queries.members

-- all of several queries; one by itself is that query
abbrev pub all_of : List Query → Query
all_of [] = All (record { members = [] })
all_of (q ∷ []) = q
all_of (p ∷ q ∷ qs) = All (record { members = p ∷ q ∷ qs })

-- any of several queries; one by itself is that query
abbrev pub any_of : List Query → Query
any_of [] = Any (record { members = [] })
any_of (q ∷ []) = q
any_of (p ∷ q ∷ qs) = Any (record { members = p ∷ q ∷ qs })
