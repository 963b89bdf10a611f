-- By the cases of a query.
use Rattle.std.proofs.Common.{◌≡◌, ℕ, Bool, cond, not, List, [], ◌∷◌, map, ap, ◌∙◌}
use Rattle.mail_words.specs.Key.{KeyNumbers}
use Rattle.mail_query.specs.Truth.{satisfies, has_key}
use Rattle.mail_query.specs.declared.query.Query.{Query}
use Rattle.mail_query.specs.declared.query.Query.TheVariants.{Word, Not}
use Rattle.mail_answers.specs.Hits.{hits_in}
use Rattle.mail_answers.specs.Examples.{hello, ring, three_lists}
use Rattle.mail_answers.proofs.laws.hits_examples.Goals as goal

-- the three lists by three tests
abbrev kept : Bool → Bool → Bool → List ℕ
kept first second third =
    map (λ (list : ℕ × List KeyNumbers). list.0)
    (cond first ((1, hello ∷ ring ∷ []) ∷ cond second ((2, hello ∷ []) ∷ cond third ((3, []) ∷ []) []) (cond third ((3, []) ∷ []) []))
    (cond second ((2, hello ∷ []) ∷ cond third ((3, []) ∷ []) []) (cond third ((3, []) ∷ []) [])))

by_tests : (query : Query) (first second third : Bool) → satisfies query (hello ∷ ring ∷ []) ≡ first → satisfies query (hello ∷ []) ≡ second
    → satisfies query [] ≡ third → hits_in three_lists query ≡ kept first second third
by_tests query first second third one two three =
    ap (λ b. kept b (satisfies query (hello ∷ [])) (satisfies query [])) one ∙ ap (λ b. kept first b (satisfies query [])) two
    ∙ ap (λ b. kept first second b) three

pub returns-clause-word : goal.returns-clause-word
returns-clause-word c =
    let word = c.truth_by_cases.ensures.word in (
      by_tests (Word hello) (has_key hello (hello ∷ ring ∷ [])) (has_key hello (hello ∷ [])) (has_key hello []) (word hello (hello ∷ ring ∷ []))
          (word hello (hello ∷ [])) (word hello []),
      by_tests (Word ring) (has_key ring (hello ∷ ring ∷ [])) (has_key ring (hello ∷ [])) (has_key ring []) (word ring (hello ∷ ring ∷ []))
          (word ring (hello ∷ [])) (word ring []),
    )

pub returns-clause-without : goal.returns-clause-without
returns-clause-without c =
    let word = c.truth_by_cases.ensures.word in
    let negation = c.truth_by_cases.ensures.negation in
    by_tests (Not (Word ring)) (not (has_key ring (hello ∷ ring ∷ []))) (not (has_key ring (hello ∷ []))) (not (has_key ring []))
    (negation (Word ring) (hello ∷ ring ∷ []) ∙ ap not (word ring (hello ∷ ring ∷ [])))
    (negation (Word ring) (hello ∷ []) ∙ ap not (word ring (hello ∷ [])))
    (negation (Word ring) [] ∙ ap not (word ring []))
