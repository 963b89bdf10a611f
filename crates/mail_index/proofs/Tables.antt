-- What the table of word lists has.
use Rattle.std.proofs.Common.{◌≡◌, ℕ, zero, suc, ◌+◌, ◌-◌, ◌<◌, ◌≤◌, List, [], ◌∷◌, ◌++◌, length, get_or, refl, sym, ap, ◌∙◌, subst, arith, inl, inr, Contains, ◌↔◌}
use Rattle.std.proofs.lemmas.List.Elements.{Contains-append_left, Contains-append_right, Contains-append_cases}
use Rattle.mail_words.specs.Key.{KeyNumbers}
use Rattle.mail_query.specs.ListTable.{pairs_of, pairs_from, table_of}
use Rattle.tx_heap.proofs.lemmas.Lanes.{contains_none, contains_first, contains_rest, contains_cases}

same_pair : {key other : KeyNumbers} {m n : ℕ} → key ≡ other → m ≡ n → ◌≡◌ {A = KeyNumbers × ℕ} (key, m) (other, n)
same_pair {key} {other} {m} {n} p q = ap (λ (k : KeyNumbers). (k, m)) p ∙ ap (λ (x : ℕ). (other, x)) q

-- a key of a list is paired with its number
pair_there : (keys : List KeyNumbers) (number : ℕ) (key : KeyNumbers) → Contains keys key → Contains (pairs_of keys number) (key, number)
pair_there [] number key among = absurd (contains_none key among)
pair_there (first ∷ keys) number key among =
    elim (contains_cases first key keys among) [
      | inl here ↦ subst (λ (pair : KeyNumbers × ℕ). Contains (pairs_of (first ∷ keys) number) pair) (same_pair here refl) (contains_first
          (first, number) (pairs_of keys number))
      | inr later ↦ contains_rest (first, number) (key, number) (pairs_of keys number) (pair_there keys number key later)
    ]

pair_of : (keys : List KeyNumbers) (number : ℕ) (key : KeyNumbers) (m : ℕ) → Contains (pairs_of keys number) (key, m) → Contains keys key × (m ≡ number)
pair_of [] number key m among = absurd (contains_none (key, m) among)
pair_of (first ∷ keys) number key m among =
    elim (contains_cases (first, number) (key, m) (pairs_of keys number) among) [
      | inl here ↦ (
        subst (λ (k : KeyNumbers). Contains (first ∷ keys) k) (ap (λ (pair : KeyNumbers × ℕ). pair.0) here) (contains_first first keys),
        sym (ap (λ (pair : KeyNumbers × ℕ). pair.1) here),
      )
      | inr later ↦ let (there, is) = pair_of keys number key m later in (contains_rest first key keys there, is)
    ]

-- the pair of a key with a number from one on is there where the list of that number has the key
abbrev pub IsOfList : ℕ → List (List KeyNumbers) → KeyNumbers → ℕ → Type 0
IsOfList from lists key m = (from ≤ m) × (m < from + length lists) × Contains (get_or lists (m - from) []) key

of_list : (from : ℕ) (lists : List (List KeyNumbers)) (key : KeyNumbers) (m : ℕ) → Contains (pairs_from from lists) (key, m) → IsOfList from lists key m
of_list from [] key m among = absurd (contains_none (key, m) among)
of_list from (keys ∷ lists) key m among =
    elim (Contains-append_cases (pairs_of keys from) (pairs_from (from + 1) lists) (key, m) among) [
      | inl here ↦
          let (there, is) = pair_of keys from key m here in
          let at : zero ≡ m - from = omega (arith, is) in (
            omega (arith, is),
            omega (arith, is),
            subst (λ (i : ℕ). Contains (get_or (keys ∷ lists) i []) key) at there,
          )
      | inr later ↦
          let (low, high, there) = of_list (from + 1) lists key m later in
          let at : suc (m - (from + 1)) ≡ m - from = omega (arith, low) in (
            omega (arith, low),
            omega (arith, high),
            subst (λ (i : ℕ). Contains (get_or (keys ∷ lists) i []) key) at there,
          )
    ]

in_list : (from : ℕ) (lists : List (List KeyNumbers)) (key : KeyNumbers) (m : ℕ) → IsOfList from lists key m → Contains (pairs_from from lists) (key, m)
in_list from [] key m (low, high, there) = absurd (omega (arith, low, high))
in_list from (keys ∷ lists) key m (low, high, there) = by_place (m - from) refl there (λ later. in_list (from + 1) lists key m later)
  where
    by_place : (k : ℕ) → m - from ≡ k → Contains (get_or (keys ∷ lists) (m - from) []) key
        → (IsOfList (from + 1) lists key m → Contains (pairs_from (from + 1) lists) (key, m))
        → Contains (pairs_of keys from ++ pairs_from (from + 1) lists) (key, m)
    by_place zero at there rest =
        let same : from ≡ m = omega (arith, at, low) in
        Contains-append_left (pairs_of keys from) (pairs_from (from + 1) lists) (key, m)
        (subst (λ (pair : KeyNumbers × ℕ). Contains (pairs_of keys from) pair) (same_pair refl same)
        (pair_there keys from key (subst (λ (i : ℕ). Contains (get_or (keys ∷ lists) i []) key) at there)))
    by_place (suc k) at there rest =
        let behind : m - (from + 1) ≡ k = omega (arith, at) in
        Contains-append_right (pairs_of keys from) (pairs_from (from + 1) lists) (key, m)
        (rest (
          omega (arith, at),
          omega (arith, high),
          subst (λ (i : ℕ). Contains (get_or lists i []) key) (sym behind) (subst (λ (i : ℕ). Contains (get_or (keys ∷ lists) i []) key) at there),
        ))

-- the table has a pair exactly where the list of its number has its key
pub pair_of_list : (lists : List (List KeyNumbers)) (key : KeyNumbers) (m : ℕ) → Contains (table_of lists) (key, m) ↔ IsOfList 1 lists key m
pair_of_list lists key m = (of_list 1 lists key m, in_list 1 lists key m)
