-- Which keys the queries of the worked examples hold of.
use Rattle.std.proofs.Common.{◌≡◌, ℕ, true, false, not, ◌&&◌, ◌||◌, List, [], ◌∷◌, ◌++◌, ap, ◌∙◌}
use Rattle.mail_words.specs.Key.{KeyNumbers}
use Rattle.mail_query.specs.declared.query.Query.TheVariants.{Word, Not}
use Rattle.mail_query.specs.Truth.{satisfies, has_key, keys_in, keys_in_step}
use Rattle.mail_query.specs.Answers.{Table, keys_with, numbers_where}
use Rattle.mail_query.specs.Examples.{hello, ring, bloom, hello_without_ring, ring_or_bloom}
use Rattle.mail_query.proofs.Folds.{folded_word}
use Rattle.mail_query.proofs.Tables.{passing, same_passing}
use Rattle.mail_query.proofs.Truths.{satisfies_word, satisfies_not, satisfies_all, satisfies_any}
use Rattle.mail_query.proofs.Evaluated.{keys_all, keys_not}

pub without_ring : (keys : List KeyNumbers) → satisfies hello_without_ring keys ≡ (has_key hello keys && (not (has_key ring keys) && true))
without_ring keys =
    satisfies_all (Word hello ∷ Not (Word ring) ∷ []) keys
    ∙ ap (λ b. b && (satisfies (Not (Word ring)) keys && true)) (satisfies_word hello keys)
    ∙ ap (λ b. has_key hello keys && (b && true)) (satisfies_not (Word ring) keys ∙ ap not (satisfies_word ring keys))

pub one_of_two : (keys : List KeyNumbers) → satisfies ring_or_bloom keys ≡ (has_key ring keys || (has_key bloom keys || false))
one_of_two keys =
    satisfies_any (Word ring ∷ Word bloom ∷ []) keys
    ∙ ap (λ b. b || (satisfies (Word bloom) keys || false)) (satisfies_word ring keys)
    ∙ ap (λ b. has_key ring keys || (b || false)) (satisfies_word bloom keys)

pub keys_without_ring : keys_in hello_without_ring ≡ hello ∷ ring ∷ []
keys_without_ring =
    keys_all (Word hello ∷ Not (Word ring) ∷ [])
    ∙ ap (λ l. l ++ (keys_in (Not (Word ring)) ++ [])) (folded_word (List KeyNumbers) keys_in_step hello)
    ∙ ap (λ l. (hello ∷ []) ++ (l ++ [])) (keys_not (Word ring) ∙ folded_word (List KeyNumbers) keys_in_step ring)

pub numbers_without_ring : (table : Table) (count : ℕ) → numbers_where hello_without_ring table count
    ≡ passing (λ number. has_key hello (keys_with table number) && (not (has_key ring (keys_with table number)) && true)) count
numbers_without_ring table count = same_passing _ _ count (λ number. without_ring (keys_with table number))

pub numbers_of_two : (table : Table) (count : ℕ) → numbers_where ring_or_bloom table count
    ≡ passing (λ number. has_key ring (keys_with table number) || (has_key bloom (keys_with table number) || false)) count
numbers_of_two table count = same_passing _ _ count (λ number. one_of_two (keys_with table number))
