-- The keys and the truth of a query, from those of its members.
use Rattle.std.proofs.Common.{◌≡◌, ℕ, zero, suc, ◌+◌, Bool, ◌&&◌, ◌||◌, List, [], ◌∷◌, ◌++◌, take, map, sym, ap, ◌∙◌, subst, slice_get, Some, Result, Ok, Err, IfOk, refl}
use Rattle.std.specs.List.{list_all, list_any, flat_map, Contains}
use Rattle.std.proofs.lemmas.List.Elements.{Contains-append_left, Contains-append_right}
use Rattle.std.proofs.lemmas.List.Folds.{list_all_more, list_any_more}
use Rattle.std.proofs.lemmas.Option.{get_or_from_slice_get, slice_get_within}
use Rattle.mail_words.specs.Key.{KeyNumbers}
use Rattle.mail_query.specs.declared.query.Query.{Query}
use Rattle.mail_query.specs.declared.query.Query.TheVariants.{Not, All, Any}
use Rattle.mail_query.specs.Truth.{keys_in, keys_in_step}
use Rattle.mail_query.proofs.Folds.{folded_not, folded_all, folded_any}

-- ---- the keys of a query

pub keys_not : (q : Query) → keys_in (Not q) ≡ keys_in q
keys_not q = folded_not (List KeyNumbers) keys_in_step q

flat-map : {A B C : Type 0} (f : A → B) (g : B → List C) (xs : List A) → flat_map g (map f xs) ≡ flat_map (λ x. g (f x)) xs
flat-map f g [] = refl
flat-map f g (x ∷ xs) = ap (λ l. g (f x) ++ l) (flat-map f g xs)

pub keys_all : (qs : List Query) → keys_in (All (record { members = qs })) ≡ flat_map keys_in qs
keys_all qs = folded_all (List KeyNumbers) keys_in_step qs ∙ flat-map keys_in (λ keys. keys) qs

pub keys_any : (qs : List Query) → keys_in (Any (record { members = qs })) ≡ flat_map keys_in qs
keys_any qs = folded_any (List KeyNumbers) keys_in_step qs ∙ flat-map keys_in (λ keys. keys) qs

-- a key of a member is a key of the whole
pub key_of_member : (qs : List Query) (index : ℕ) (q : Query) → slice_get qs index ≡ Some q → (key : KeyNumbers) → Contains (keys_in q) key
    → Contains (flat_map keys_in qs) key
key_of_member [] index q is key there = absurd (let e : ⊥ = cc in e)
key_of_member (p ∷ qs) zero q is key there =
    let same : p ≡ q = cc in
    Contains-append_left (keys_in p) (flat_map keys_in qs) key (subst (λ r. Contains (keys_in r) key) (sym same) there)
key_of_member (p ∷ qs) (suc index) q is key there = Contains-append_right (keys_in p) (flat_map keys_in qs) key (key_of_member qs index q is key there)

-- ---- the members so far

pub all_more : (p : Query → Bool) (qs : List Query) (index : ℕ) (q : Query) → slice_get qs index ≡ Some q
    → (list_all p (take index qs) && p q) ≡ list_all p (take (index + 1) qs)
all_more p qs index q is =
    sym (list_all_more p qs index q (slice_get_within qs index q is) ∙ ap (λ r. list_all p (take index qs) && p r) (get_or_from_slice_get qs index q q is))

pub any_more : (p : Query → Bool) (qs : List Query) (index : ℕ) (q : Query) → slice_get qs index ≡ Some q
    → (list_any p (take index qs) || p q) ≡ list_any p (take (index + 1) qs)
any_more p qs index q is =
    sym (list_any_more p qs index q (slice_get_within qs index q is) ∙ ap (λ r. list_any p (take index qs) || p r) (get_or_from_slice_get qs index q q is))

pub if_ok_map : {A E : Type 0} (P Q : A → Type 0) (r : Result A E) → ((x : A) → P x → Q x) → IfOk r P → IfOk r Q
if_ok_map P Q (Ok x) gives holds = gives x holds
if_ok_map P Q (Err e) gives holds = tt
