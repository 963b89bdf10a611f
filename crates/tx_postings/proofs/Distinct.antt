-- A rising list has each key once.
use Rattle.std.proofs.Common.{◌≡◌, ◌≢◌, ℕ, List, [], ◌∷◌, ◌++◌, refl, sym, ◌∙◌, ap, subst}
use Rattle.std.specs.Prelude.{Contains}
use Rattle.std.specs.List.Sorted.{IsStrictlySortedBy}
use Rattle.std.specs.Ordering.{nat_cmp, ordering_then}
use Rattle.std.specs.Cmp.{nat_cmp_is}
use Rattle.std.specs.declared.cmp.Ordering.TheVariants.{Less, Equal}
use Rattle.std.proofs.lemmas.List.Elements.{All-from_recursion, All-weaker, All-contains}
use Rattle.mail_words.specs.Key.{KeyNumbers, key_cmp}
use Rattle.tx_heap.specs.Pairwise.{Pairwise}
use Rattle.tx_buckets.proofs.lemmas.Lists.{Pairwise_beside}

nat_self : (n : ℕ) → nat_cmp n n ≡ Equal
nat_self n = sym (nat_cmp_is n n Equal refl)

key_self : (key : KeyNumbers) → key_cmp key key ≡ Equal
key_self key =
    ap (λ o. ordering_then o (ordering_then (nat_cmp key.k1 key.k1) (ordering_then (nat_cmp key.k2 key.k2) (nat_cmp key.k3 key.k3)))) (nat_self key.k0)
    ∙ ap (λ o. ordering_then o (ordering_then (nat_cmp key.k2 key.k2) (nat_cmp key.k3 key.k3))) (nat_self key.k1)
    ∙ ap (λ o. ordering_then o (nat_cmp key.k3 key.k3)) (nat_self key.k2)
    ∙ nat_self key.k3

equal_not_less : Equal ≡ Less → ⊥
equal_not_less e = cc

pub distinct : (keys : List KeyNumbers) → IsStrictlySortedBy key_cmp keys → Pairwise ◌≢◌ keys
unfolding IsStrictlySortedBy
distinct [] sorted = tt
distinct (key ∷ keys) sorted = (
  All-weaker (λ other. key_cmp key other ≡ Less) (λ other. key ≢ other)
      (λ other less same. equal_not_less (sym (key_self key) ∙ ap (key_cmp key) same ∙ less)) keys
      (All-from_recursion (λ other. key_cmp key other ≡ Less) keys sorted.0),
  distinct keys sorted.1,
)

turned : (a b : KeyNumbers) → a ≢ b → b ≢ a
turned a b apart same = apart (sym same)

-- a key of a list is none of those around it
pub key_beside : (list front back : List KeyNumbers) (key : KeyNumbers) → Pairwise ◌≢◌ list → list ≡ front ++ key ∷ back → (other : KeyNumbers)
    → Contains (front ++ back) other → key ≢ other
key_beside list front back key apart is other among =
    All-contains (λ k. key ≢ k) (front ++ back) other (Pairwise_beside ◌≢◌ turned front back key (subst (Pairwise ◌≢◌) is apart)) among
