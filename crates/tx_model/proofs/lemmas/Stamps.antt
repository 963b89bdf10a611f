-- The numbers of a pass's commits: merged with another's, with one more, or all there are.
use Rattle.std.proofs.Common.{◌≡◌, ◌≢◌, ◌⊎◌, ℕ, ◌+◌, ◌<◌, ◌≤◌, ◌++◌, nat_lt, List, [], ◌∷◌, zero, suc, length, get_or, slice_index, Contains, refl, sym, ◌∙◌, ap, subst, inl, inr, arith}
use Rattle.std.specs.List.{insert, range_with_len}
use Rattle.std.specs.List.Sorted.{IsPermutation}
use Rattle.std.proofs.lemmas.List.Sorted.{IsPermutation-refl, IsPermutation-trans, IsPermutation-to_front, IsPermutation-insert, IsPermutation-append_left}
use Rattle.std.proofs.lemmas.List.FromFn.{length-range_with_len, get_or-range_with_len}
use Rattle.std.proofs.lemmas.Grind.{same_number_lists, get_or_default_zero}
use Rattle.std.proofs.lemmas.Bool.{cases_lt, cond_both, cond-false, ltb-true, ltb-false, le-ltb}
use Rattle.std.proofs.lemmas.List.{append_assoc, append-nil, get_or_default, get_or_append_left, get_or_push, length_push}
use Rattle.std.proofs.lemmas.List.Elements.{Contains-get_or}
use Rattle.tx_model.specs.Calls.{placed, merged}
use Rattle.tx_model.specs.Pass.{AreStamps}
use Rattle.tx_model.specs.Laws.{MergedStamps, MergedMembers}
use Rattle.tx_model.proofs.ShareNames.{contains_none, contains_first, contains_more, contains_cases}

-- ---- which numbers are there
placed_back : (stamp : ℕ) (stamps : List ℕ) (y : ℕ) → Contains (placed stamp stamps) y → (stamp ≡ y) ⊎ Contains stamps y
placed_back stamp [] y has = contains_cases stamp [] y has
placed_back stamp (first ∷ stamps) y has =
    cond_both (nat_lt stamp first) (stamp ∷ first ∷ stamps) (first ∷ placed stamp stamps) (λ (list : List ℕ). Contains list y
    → (stamp ≡ y) ⊎ Contains (first ∷ stamps) y)
    (λ yes among. contains_cases stamp (first ∷ stamps) y among)
    (λ no among. elim (contains_cases first (placed stamp stamps) y among) [
      | inl e ↦ inr (0, omega arith, e)
      | inr rest ↦ elim (placed_back stamp stamps y rest) [
        | inl e ↦ inl e
        | inr old ↦ inr (contains_more first stamps y old)
      ]
    ])
    has

placed_new : (stamp : ℕ) (stamps : List ℕ) → Contains (placed stamp stamps) stamp
placed_new stamp [] = contains_first stamp []
placed_new stamp (first ∷ stamps) =
    cond_both (nat_lt stamp first) (stamp ∷ first ∷ stamps) (first ∷ placed stamp stamps) (λ (list : List ℕ). Contains list stamp)
    (λ yes. contains_first stamp (first ∷ stamps))
    (λ no. contains_more first (placed stamp stamps) stamp (placed_new stamp stamps))

placed_old : (stamp : ℕ) (stamps : List ℕ) (y : ℕ) → Contains stamps y → Contains (placed stamp stamps) y
placed_old stamp [] y has = absurd (contains_none y has)
placed_old stamp (first ∷ stamps) y has =
    cond_both (nat_lt stamp first) (stamp ∷ first ∷ stamps) (first ∷ placed stamp stamps) (λ (list : List ℕ). Contains list y)
    (λ yes. contains_more stamp (first ∷ stamps) y has)
    (λ no. elim (contains_cases first stamps y has) [
      | inl e ↦ (0, omega arith, e)
      | inr rest ↦ contains_more first (placed stamp stamps) y (placed_old stamp stamps y rest)
    ])

merged_back : (stamps others : List ℕ) (y : ℕ) → Contains (merged stamps others) y → Contains stamps y ⊎ Contains others y
merged_back stamps [] y has = inl has
merged_back stamps (stamp ∷ others) y has =
    elim (merged_back (placed stamp stamps) others y has) [
      | inl among ↦ elim (placed_back stamp stamps y among) [
        | inl e ↦ inr (0, omega arith, e)
        | inr old ↦ inl old
      ]
      | inr rest ↦ inr (contains_more stamp others y rest)
    ]

merged_left : (stamps others : List ℕ) (y : ℕ) → Contains stamps y → Contains (merged stamps others) y
merged_left stamps [] y has = has
merged_left stamps (stamp ∷ others) y has = merged_left (placed stamp stamps) others y (placed_old stamp stamps y has)

merged_right : (stamps others : List ℕ) (y : ℕ) → Contains others y → Contains (merged stamps others) y
merged_right stamps [] y has = absurd (contains_none y has)
merged_right stamps (stamp ∷ others) y has =
    elim (contains_cases stamp others y has) [
      | inl e ↦
          merged_left (placed stamp stamps) others y (subst (Contains (placed stamp stamps)) e (placed_new stamp stamps))
      | inr rest ↦ merged_right (placed stamp stamps) others y rest
    ]

pub merged_members : MergedMembers
merged_members stamps others stamp = (
  merged_back stamps others stamp,
  λ either. elim either [
    | inl has ↦ merged_left stamps others stamp has
    | inr has ↦ merged_right stamps others stamp has
  ],
)

-- ---- numbers that rise
module _ (count : ℕ) where
  stamps_rest : (stamp : ℕ) (stamps : List ℕ) → AreStamps count (stamp ∷ stamps) → AreStamps count stamps
  stamps_rest stamp stamps ok = record {
    rise = λ i j before below. ok.rise (suc i) (suc j) (omega (arith, before)) (omega (arith, below));
    within = λ i below. ok.within (suc i) (omega (arith, below));
  }

  stamps_first : (stamp : ℕ) (stamps : List ℕ) → AreStamps count (stamp ∷ stamps) → (y : ℕ) → Contains stamps y → stamp < y
  stamps_first stamp stamps ok y (k, below, at) =
      let above = ok.rise 0 (suc k) (omega arith) (omega (arith, below)) in
      omega (arith, above, at, get_or_default stamps k 0 y below)

  stamps_cons : (stamp : ℕ) (stamps : List ℕ) → (1 ≤ stamp) × (stamp ≤ count) → ((y : ℕ) → Contains stamps y → stamp < y) → AreStamps count stamps
      → AreStamps count (stamp ∷ stamps)
  stamps_cons stamp stamps inside above ok = record { rise = rise; within = within }
    where
      rise : (i j : ℕ) → i < j → j < length (stamp ∷ stamps) → get_or (stamp ∷ stamps) i 0 < get_or (stamp ∷ stamps) j 0
      rise zero zero before below = absurd (omega (arith, before))
      rise zero (suc j) before below = above (get_or stamps j 0) (Contains-get_or stamps j 0 (omega (arith, below)))
      rise (suc i) zero before below = absurd (omega (arith, before))
      rise (suc i) (suc j) before below = ok.rise i j (omega (arith, before)) (omega (arith, below))

      within : (i : ℕ) → i < length (stamp ∷ stamps) → (1 ≤ get_or (stamp ∷ stamps) i 0) × (get_or (stamp ∷ stamps) i 0 ≤ count)
      within zero below = inside
      within (suc i) below = ok.within i (omega (arith, below))

  placed_stamps : (stamp : ℕ) (stamps : List ℕ) → (1 ≤ stamp) × (stamp ≤ count) → AreStamps count stamps → ¬ Contains stamps stamp
      → AreStamps count (placed stamp stamps)
  placed_stamps stamp [] inside ok new = stamps_cons stamp [] inside (λ y has. absurd (contains_none y has)) ok
  placed_stamps stamp (first ∷ stamps) inside ok new =
      cond_both (nat_lt stamp first) (stamp ∷ first ∷ stamps) (first ∷ placed stamp stamps) (AreStamps count)
      (λ yes. stamps_cons stamp (first ∷ stamps) inside
      (λ y among. elim (contains_cases first stamps y among) [
        | inl e ↦ omega (arith, e, ltb-true stamp first yes)
        | inr rest ↦ omega (arith, ltb-true stamp first yes, stamps_first first stamps ok y rest)
      ])
      ok)
      (λ no. stamps_cons first (placed stamp stamps) (ok.within 0 (omega arith))
      (λ y among. elim (placed_back stamp stamps y among) [
        | inl e ↦ omega (arith, e, ltb-false stamp first no, apart)
        | inr rest ↦ stamps_first first stamps ok y rest
      ])
      (placed_stamps stamp stamps inside (stamps_rest first stamps ok) (λ has. new (contains_more first stamps stamp has))))
    where
      apart : first ≢ stamp
      apart e = new (0, omega arith, e)

pub merged_stamps : MergedStamps
merged_stamps count stamps [] ok other apart = ok
merged_stamps count stamps (stamp ∷ others) ok other apart =
    merged_stamps count (placed stamp stamps) others
    (placed_stamps count stamp stamps (other.within 0 (omega arith)) ok (λ has. apart stamp has (contains_first stamp others)))
    (stamps_rest count stamp others other)
    (λ y among rest. elim (placed_back stamp stamps y among) [
      | inl e ↦ omega (arith, e, stamps_first count stamp others other y rest)
      | inr old ↦ apart y old (contains_more stamp others y rest)
    ])

-- a number greater than the others comes last
pub placed_last : (stamp : ℕ) (stamps : List ℕ) → ((i : ℕ) → i < length stamps → slice_index stamps i < stamp) → placed stamp stamps ≡ stamps ++ stamp ∷ []
placed_last stamp [] below = refl
placed_last stamp (first ∷ stamps) below =
    let least : first < stamp = below 0 (omega arith) in
    cond-false _ (stamp ∷ first ∷ stamps) (first ∷ placed stamp stamps) (le-ltb stamp first (omega arith))
    ∙ ap (λ rest. first ∷ rest) (placed_last stamp stamps (λ i within. below (suc i) (omega (arith, within))))

-- ---- merged numbers are those of both, in another order
placed_at : (stamp : ℕ) (stamps : List ℕ) → (i : ℕ) × (placed stamp stamps ≡ insert stamps i stamp)
placed_at stamp [] = (0, refl)
placed_at stamp (first ∷ stamps) =
    cond_both (nat_lt stamp first) (stamp ∷ first ∷ stamps) (first ∷ placed stamp stamps)
    (λ (list : List ℕ). (i : ℕ) × (list ≡ insert (first ∷ stamps) i stamp))
    (λ less. (0, refl))
    (λ late. let (i, is) = placed_at stamp stamps in (suc i, ap (λ list. first ∷ list) is))

placed_permutes : (stamp : ℕ) (stamps : List ℕ) → IsPermutation (stamps ++ stamp ∷ []) (placed stamp stamps)
placed_permutes stamp stamps =
    let (i, is) = placed_at stamp stamps in
    IsPermutation-trans (stamps ++ stamp ∷ []) (stamp ∷ stamps) (placed stamp stamps) (IsPermutation-to_front stamps stamp)
    (subst (IsPermutation (stamp ∷ stamps)) (sym is) (IsPermutation-insert stamps i stamp))

pub merged_permutes : (stamps others : List ℕ) → IsPermutation (stamps ++ others) (merged stamps others)
merged_permutes stamps [] = subst (λ list. IsPermutation list stamps) (sym (append-nil stamps)) (IsPermutation-refl stamps)
merged_permutes stamps (stamp ∷ others) =
    IsPermutation-trans (stamps ++ stamp ∷ others) (placed stamp stamps ++ others) (merged (placed stamp stamps) others)
    (subst (λ list. IsPermutation list (placed stamp stamps ++ others)) (append_assoc stamps (stamp ∷ []) others)
    (IsPermutation-append_left others (stamps ++ stamp ∷ []) (placed stamp stamps) (placed_permutes stamp stamps)))
    (merged_permutes (placed stamp stamps) others)

-- ---- rising lists
pub range_more : (first count : ℕ) → range_with_len first (suc count) ≡ range_with_len first count ++ (first + count) ∷ []
range_more first zero = ap (λ n. n ∷ []) (omega arith)
range_more first (suc count) = ap (λ rest. first ∷ rest) (range_more (first + 1) count ∙ ap (λ n. range_with_len (first + 1) count ++ n ∷ []) (omega arith))

-- each number is one of those up to the count
pub stamps_within : (count : ℕ) (stamps : List ℕ) → AreStamps count stamps → (stamp : ℕ) → Contains stamps stamp → (1 ≤ stamp) × (stamp ≤ count)
stamps_within count stamps are stamp (i, below, is) =
    let at = get_or_default stamps i 0 stamp below in
    (omega (arith, are.within i below, at, is), omega (arith, are.within i below, at, is))

-- a rising list of numbers from 1 on has at least i + 1 at index i
at_least : (count : ℕ) (stamps : List ℕ) → AreStamps count stamps → (i : ℕ) → i < length stamps → i + 1 ≤ slice_index stamps i
at_least count stamps are zero below = omega (arith, are.within 0 below)
at_least count stamps are (suc i) below =
    let before : i < length stamps = omega (arith, below) in
    omega (arith, at_least count stamps are i before, are.rise i (suc i) (omega arith) below)

-- it is no longer than its last number
pub stamps_few : (count : ℕ) (stamps : List ℕ) → AreStamps count stamps → length stamps ≤ count
stamps_few count [] are = omega arith
stamps_few count (x ∷ xs) are =
    let last : length xs < length (x ∷ xs) = omega arith in
    omega (arith, at_least count (x ∷ xs) are (length xs) last, are.within (length xs) last)

-- the same numbers, below a greater count
pub stamps_wider : (count more : ℕ) (stamps : List ℕ) → count ≤ more → AreStamps count stamps → AreStamps more stamps
stamps_wider count more stamps upto are =
    record { rise = are.rise; within = λ i below. (omega (arith, are.within i below), omega (arith, are.within i below, upto)) }

-- one more number, greater than all
pub stamps_more : (count : ℕ) (stamps : List ℕ) → AreStamps count stamps → AreStamps (count + 1) (stamps ++ (count + 1) ∷ [])
stamps_more count stamps are =
    record {
      rise = λ i j before below. rises i j before (omega (arith, below, length_push stamps (count + 1)));
      within = λ i below. bounds i (omega (arith, below, length_push stamps (count + 1)));
    }
  where
    old : (i : ℕ) → i < length stamps → slice_index (stamps ++ (count + 1) ∷ []) i ≡ slice_index stamps i
    old i below = get_or_append_left stamps ((count + 1) ∷ []) 0 i below

    last : slice_index (stamps ++ (count + 1) ∷ []) (length stamps) ≡ count + 1
    last = get_or_push stamps (count + 1) 0 (length stamps) refl

    bounds : (i : ℕ) → i ≤ length stamps → (1 ≤ slice_index (stamps ++ (count + 1) ∷ []) i) × (slice_index (stamps ++ (count + 1) ∷ []) i ≤ count + 1)
    bounds i upto =
        elim (cases_lt i (length stamps)) [
          | inl below ↦ let w = are.within i below in (omega (arith, w, old i below), omega (arith, w, old i below))
          | inr late ↦
              let here : i ≡ length stamps = omega (arith, upto, late) in
              let is : slice_index (stamps ++ (count + 1) ∷ []) i ≡ count + 1 = ap (slice_index (stamps ++ (count + 1) ∷ [])) here ∙ last in
              (omega (arith, is), omega (arith, is))
        ]

    rises : (i j : ℕ) → i < j → j ≤ length stamps → slice_index (stamps ++ (count + 1) ∷ []) i < slice_index (stamps ++ (count + 1) ∷ []) j
    rises i j before upto =
        let early : i < length stamps = omega (arith, before, upto) in
        elim (cases_lt j (length stamps)) [
          | inl below ↦ omega (arith, are.rise i j before below, old i early, old j below)
          | inr late ↦
              let here : j ≡ length stamps = omega (arith, upto, late) in
              let is : slice_index (stamps ++ (count + 1) ∷ []) j ≡ count + 1 = ap (slice_index (stamps ++ (count + 1) ∷ [])) here ∙ last in
              omega (arith, are.within i early, old i early, is)
        ]

-- ---- a rising list that has all numbers up to the count
module _ (count : ℕ) (stamps : List ℕ) (are : AreStamps count stamps) (all : (stamp : ℕ) → 1 ≤ stamp → stamp ≤ count → Contains stamps stamp) where
  -- the number i + 1 isn't before index i, if those before have their own
  here : (i : ℕ) → i < length stamps → ((j : ℕ) → j < i → slice_index stamps j ≡ j + 1) → slice_index stamps i ≡ i + 1
  here i below before =
      let least = at_least count stamps are i below in
      let (p, inside, is) = all (i + 1) (omega arith) (omega (arith, least, are.within i below)) in
      let at : slice_index stamps p ≡ i + 1 = sym (get_or_default_zero stamps p (i + 1) inside) ∙ is in
      let early : p ≤ i = omega (arith, at, at_least count stamps are p inside) in
      elim (cases_lt p i) [
        | inl less ↦ absurd (omega (arith, before p less, at, less))
        | inr late ↦ ap (slice_index stamps) (omega (arith, early, late)) ∙ at
      ]

  up_to : (i : ℕ) → i ≤ length stamps → (j : ℕ) → j < i → slice_index stamps j ≡ j + 1
  up_to zero upto j below = absurd (omega (arith, below))
  up_to (suc i) upto j below =
      elim (cases_lt j i) [
        | inl less ↦ up_to i (omega (arith, upto)) j less
        | inr late ↦
            let last : i ≡ j = omega (arith, below, late) in
            subst (λ k. slice_index stamps k ≡ k + 1) last (here i (omega (arith, upto)) (up_to i (omega (arith, upto))))
      ]

  as_many : length stamps ≡ count
  as_many =
      elim (cases_lt (length stamps) count) [
        | inl short ↦
            let (p, inside, is) = all count (omega (arith, short)) (omega arith) in
            let at : slice_index stamps p ≡ count = sym (get_or_default_zero stamps p count inside) ∙ is in
            absurd (omega (arith, at, up_to (length stamps) (omega arith) p inside, inside, short))
        | inr late ↦ omega (arith, late, stamps_few count stamps are)
      ]

  pub stamps_all : stamps ≡ range_with_len 1 count
  stamps_all =
      same_number_lists stamps (range_with_len 1 count) (as_many ∙ sym (length-range_with_len 1 count))
      (λ k below. omega (arith, up_to (length stamps) (omega arith) k below, get_or-range_with_len 1 count k 0 (omega (arith, below, as_many))))
