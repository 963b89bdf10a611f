-- What a query holds of, case by case.
use Rattle.std.proofs.Common.{◌≡◌, ℕ, ◌+◌, Bool, not, ◌&&◌, ◌||◌, List, [], ◌∷◌, drop, map, refl, sym, ap, ◌∙◌, slice_get, Some}
use Rattle.std.specs.List.{list_all, list_any}
use Rattle.std.proofs.lemmas.List.{at_drop_more}
use Rattle.std.proofs.lemmas.List.Folds.{list_all-map}
use Rattle.std.proofs.lemmas.Option.{get_or_from_slice_get, slice_get_within}
use Rattle.mail_words.specs.Key.{KeyNumbers}
use Rattle.mail_query.specs.declared.query.Query.{Query}
use Rattle.mail_query.specs.declared.query.Query.TheVariants.{Word, Not, All, Any}
use Rattle.mail_query.specs.Truth.{satisfies, satisfies_step, has_key}
use Rattle.mail_query.proofs.Folds.{folded, folded_word, folded_not, folded_all, folded_any}

pub satisfies_word : (key : KeyNumbers) (keys : List KeyNumbers) → satisfies (Word key) keys ≡ has_key key keys
satisfies_word key keys = folded_word Bool (satisfies_step keys) key

pub satisfies_not : (q : Query) (keys : List KeyNumbers) → satisfies (Not q) keys ≡ not (satisfies q keys)
satisfies_not q keys = folded_not Bool (satisfies_step keys) q

pub satisfies_all : (qs : List Query) (keys : List KeyNumbers) → satisfies (All (record { members = qs })) keys ≡ list_all (λ q. satisfies q keys) qs
satisfies_all qs keys = folded_all Bool (satisfies_step keys) qs ∙ list_all-map (λ member. member) (folded Bool (satisfies_step keys)) qs

any-map : (p : Query → Bool) (qs : List Query) → list_any (λ member. member) (map p qs) ≡ list_any p qs
any-map p [] = refl
any-map p (q ∷ qs) = ap (λ b. p q || b) (any-map p qs)

pub satisfies_any : (qs : List Query) (keys : List KeyNumbers) → satisfies (Any (record { members = qs })) keys ≡ list_any (λ q. satisfies q keys) qs
satisfies_any qs keys = folded_any Bool (satisfies_step keys) qs ∙ any-map (folded Bool (satisfies_step keys)) qs

-- a function of the queries from an index on, with the one at the index read
pub at_member : {Y : Type 0} (F : List Query → Y) (qs : List Query) (index : ℕ) (q : Query) → slice_get qs index ≡ Some q
    → F (drop index qs) ≡ F (q ∷ drop (index + 1) qs)
at_member F qs index q is =
    at_drop_more F qs index q (slice_get_within qs index q is) ∙ ap (λ x. F (x ∷ drop (index + 1) qs)) (get_or_from_slice_get qs index q q is)

-- one more query is read, and it holds or doesn't
pub all_next : (p : Query → Bool) (qs : List Query) (index : ℕ) (q : Query) (b : Bool) → slice_get qs index ≡ Some q → b ≡ p q →
    list_all p (drop index qs) ≡ (b && list_all p (drop (index + 1) qs))
all_next p qs index q b is answer = at_member (list_all p) qs index q is ∙ ap (λ b. b && list_all p (drop (index + 1) qs)) (sym answer)

pub any_next : (p : Query → Bool) (qs : List Query) (index : ℕ) (q : Query) (b : Bool) → slice_get qs index ≡ Some q → b ≡ p q →
    list_any p (drop index qs) ≡ (b || list_any p (drop (index + 1) qs))
any_next p qs index q b is answer = at_member (list_any p) qs index q is ∙ ap (λ b. b || list_any p (drop (index + 1) qs)) (sym answer)
