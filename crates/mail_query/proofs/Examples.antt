-- The examples of the definitions.
use Rattle.std.proofs.Common.{◌≡◌, refl, ℕ, List, [], ◌∷◌, ◌++◌, replicate, codes, ◌∙◌, ap}
use Rattle.mail_words.specs.Key.{key_of}
use Rattle.mail_query.specs.declared.query.Query.{Query}
use Rattle.mail_query.specs.declared.query.Query.TheVariants.{Word, Not, All, Any}
use Rattle.mail_query.specs.Printed.Context.{Alone, InAny, InAll, UnderNot}
use Rattle.mail_query.specs.Grammar.{ReadsAs}
use Rattle.mail_query.specs.Printed.{printed, printed_at}
use Rattle.mail_query.proofs.Sound.{sound}
use Rattle.mail_query.proofs.Printed.{printed-word, printed-not, printed-all, printed-any}

abbrev word : List ℕ → Query
word text = Word (key_of text)

abbrev a_or_b : Query
a_or_b = Any (record { members = word (codes "a") ∷ word (codes "b") ∷ [] })

abbrev pub a_or_b_not_c : Query
a_or_b_not_c = All (record { members = a_or_b ∷ Not (word (codes "c")) ∷ [] })

pub spaces_read : ReadsAs (codes "( A  |b) !c") a_or_b_not_c
spaces_read = sound (codes "( A  |b) !c") refl

any_printed : printed_at a_or_b InAll ≡ codes "(a|b)"
any_printed =
    printed-any (word (codes "a") ∷ word (codes "b") ∷ []) InAll
    ∙ ap (λ text. 40 ∷ ((text ++ 124 ∷ printed_at (word (codes "b")) InAny) ++ (41 ∷ []))) (printed-word (key_of (codes "a")) InAny)
    ∙ ap (λ text. 40 ∷ ((codes "a" ++ 124 ∷ text) ++ (41 ∷ []))) (printed-word (key_of (codes "b")) InAny)

not_printed : printed_at (Not (word (codes "c"))) InAll ≡ codes "!c"
not_printed = printed-not (word (codes "c")) InAll ∙ ap (λ text. 33 ∷ text) (printed-word (key_of (codes "c")) UnderNot)

pub spaces_print : printed a_or_b_not_c ≡ codes "(a|b) !c"
spaces_print =
    printed-all (a_or_b ∷ Not (word (codes "c")) ∷ []) Alone
    ∙ ap (λ text. text ++ 32 ∷ printed_at (Not (word (codes "c"))) InAll) any_printed ∙ ap (λ text. codes "(a|b)" ++ 32 ∷ text) not_printed

pub bar_read : ReadsAs (codes "a b|c") (Any (record { members = All (record { members = word (codes "a") ∷ word (codes "b") ∷ [] }) ∷ word (codes "c") ∷ [] }))
bar_read = sound (codes "a b|c") refl

pub bang_read : ReadsAs (codes "!a b") (All (record { members = Not (word (codes "a")) ∷ word (codes "b") ∷ [] }))
bang_read = sound (codes "!a b") refl

pub deep_read : ReadsAs (replicate 32 40 ++ 97 ∷ replicate 32 41) (word (codes "a"))
deep_read = sound (replicate 32 40 ++ 97 ∷ replicate 32 41) refl

pub long_read : ReadsAs (replicate 32 97) (word (replicate 32 97))
long_read = sound (replicate 32 97) refl
