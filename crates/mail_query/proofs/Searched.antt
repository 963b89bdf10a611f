-- A binary search in rising keys finds a key exactly where it is among them.
use Rattle.std.proofs.Common.{◌≡◌, ℕ, suc, ◌+◌, ◌<◌, ◌≤◌, Bool, false, ◌||◌, List, [], ◌∷◌, length, get_or, refl, sym, ap, ◌∙◌, subst, arith, is_ok, Result, Ok, Err, Ordering, zero, ◌⊎◌, inl, inr}
use Rattle.std.specs.declared.cmp.Ordering.TheVariants.{Less, Greater}
use Rattle.std.specs.Ordering.{is_lt, is_eq, ordering_reverse}
use Rattle.std.specs.Cmp.{IsTotalOrder}
use Rattle.std.specs.List.{list_any}
use Rattle.std.specs.List.Sorted.{IsStrictlySortedBy, IsSorted, IsBinarySearchResult, IsSearchInRange, IsPartitionPoint}
use Rattle.std.proofs.lemmas.Bool.{cases_lt}
use Rattle.std.proofs.lemmas.List.Folds.{list_any_at}
use Rattle.std.proofs.lemmas.List.Sorted.{searchable_from_sorted}
use Rattle.mail_words.specs.Key.{KeyNumbers, key_cmp, same_key}
use Rattle.mail_query.specs.Truth.{has_key}
use Rattle.mail_query.proofs.KeyOrder.{KeyOrder}

-- each element of a rising list is below the next
rises_at : {K : Type 0} (R : K → K → Ordering) (xs : List K) (k : ℕ) (d : K) → IsStrictlySortedBy R xs → suc k < length xs
    → R (get_or xs k d) (get_or xs (suc k) d) ≡ Less
unfolding IsStrictlySortedBy
rises_at R [] k d rising within = absurd (omega arith)
rises_at R (x ∷ []) k d rising within = absurd (omega arith)
rises_at R (x ∷ y ∷ ys) zero d rising within = rising.0.0
rises_at R (x ∷ y ∷ ys) (suc k) d rising within = rises_at R (y ∷ ys) k d rising.1 (omega arith)

module _ {K : Type 0} (R : K → K → Ordering) (o : IsTotalOrder R) where
  sorted_rising : (xs : List K) → IsStrictlySortedBy R xs → IsSorted R xs
  sorted_rising xs rising k d low within =
      let next : suc k ≡ k + 1 = omega arith in
      let rises : R (get_or xs k d) (get_or xs (k + 1) d) ≡ Less =
      subst (λ j. R (get_or xs k d) (get_or xs j d) ≡ Less) next (rises_at R xs k d rising (omega arith)) in
      ap is_lt (o.antisymm (get_or xs (k + 1) d) (get_or xs k d) ∙ ap ordering_reverse rises)

  none_at : (p : K → Bool) (xs : List K) → ((k : ℕ) (d : K) → k < length xs → p (get_or xs k d) ≡ false) → list_any p xs ≡ false
  none_at p [] fails = refl
  none_at p (x ∷ xs) fails = ap (λ b. b || list_any p xs) (fails 0 x (omega arith)) ∙ none_at p xs (λ k d within. fails (suc k) d (omega arith))

  either_side : (xs : List K) (x : K) (i k : ℕ) (d : K) → IsPartitionPoint (λ y. R y x ≡ Less) (λ y. R y x ≡ Greater) xs i → (k < i) ⊎ (i ≤ k) → k < length xs
      → is_eq (R (get_or xs k d) x) ≡ false
  either_side xs x i k d around (inl before) within = ap is_eq (around.0 k d (omega arith) before)
  either_side xs x i k d around (inr behind) within = ap is_eq (around.1 k d behind within)

  -- what the search answers
  pub searched_in : (xs : List K) (x : K) (r : Result ℕ ℕ) → IsStrictlySortedBy R xs → IsSearchInRange r (length xs) → IsBinarySearchResult (λ y. R y x) xs r →
      is_ok r ≡ list_any (λ y. is_eq (R y x)) xs
  searched_in xs x (Ok i) rising within found = sym (list_any_at (λ y. is_eq (R y x)) xs i x within (ap is_eq (found x)))
  searched_in xs x (Err i) rising within found =
      let around = found (searchable_from_sorted o (λ y. y) xs x (sorted_rising xs rising)) in
      sym (none_at (λ y. is_eq (R y x)) xs (λ k d inside. either_side xs x i k d around (cases_lt k i) inside))

module _ (order : KeyOrder) where
  any_ties : (key : KeyNumbers) (keys : List KeyNumbers) → list_any (λ other. is_eq (key_cmp other key)) keys ≡ has_key key keys
  any_ties key [] = refl
  any_ties key (other ∷ keys) =
      ap (λ b. b || list_any (λ k. is_eq (key_cmp k key)) keys) (sym (order.ties other key)) ∙ ap (λ b. same_key other key || b) (any_ties key keys)

  pub searched_keys : (keys : List KeyNumbers) (key : KeyNumbers) (r : Result ℕ ℕ) → IsStrictlySortedBy key_cmp keys → IsSearchInRange r (length keys) →
      IsBinarySearchResult (λ y. key_cmp y key) keys r → is_ok r ≡ has_key key keys
  searched_keys keys key r rising within found = searched_in key_cmp order.total keys key r rising within found ∙ any_ties key keys
