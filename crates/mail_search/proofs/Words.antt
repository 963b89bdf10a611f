-- The texts of queries, one after the other.
use Rattle.std.proofs.Common.{ℕ, List, [], ◌∷◌, ◌++◌}
use Rattle.mail_query.specs.Grammar.{ReadsAs}
use Rattle.mail_query.specs.declared.query.Query.{Query}
use Rattle.mail_search.specs.CommandLine.{AllRead}

-- one more text, which reads as one more query
pub AllRead-push : (words : List (List ℕ)) (queries : List Query) (word : List ℕ) (query : Query) → AllRead words queries → ReadsAs word query
    → AllRead (words ++ word ∷ []) (queries ++ query ∷ [])
AllRead-push [] [] word query all reads = (reads, tt)
AllRead-push [] (other ∷ queries) word query all reads = absurd all
AllRead-push (first ∷ words) [] word query all reads = absurd all
AllRead-push (first ∷ words) (other ∷ queries) word query all reads = (all.0, AllRead-push words queries word query all.1 reads)
