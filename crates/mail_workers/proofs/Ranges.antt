-- The numbers that the queue holds.
use Rattle.std.proofs.Common.{◌≡◌, ℕ, zero, suc, ◌+◌, ◌++◌, List, [], ◌∷◌, sym, ◌∙◌, ap, arith}
use Rattle.std.specs.List.{range_with_len}

pub range_parts : (first count more : ℕ) → range_with_len first count ++ range_with_len (first + count) more ≡ range_with_len first (count + more)
range_parts first zero more =
    let same : first + 0 ≡ first = omega arith in
    let all : more ≡ 0 + more = omega arith in
    ap (λ (n : ℕ). range_with_len n more) same ∙ ap (range_with_len first) all
range_parts first (suc count) more =
    let same : first + suc count ≡ first + 1 + count = omega arith in
    let longer : suc (count + more) ≡ suc count + more = omega arith in
    ap (λ rest. first ∷ rest)
    (ap (λ (n : ℕ). range_with_len (first + 1) count ++ range_with_len n more) same ∙ range_parts (first + 1) count more)
    ∙ ap (range_with_len first) longer

-- one number more
pub range_push : (count : ℕ) → range_with_len 1 (count + 1) ≡ range_with_len 1 count ++ (count + 1) ∷ []
range_push count = sym (range_parts 1 count 1) ∙ ap (λ n. range_with_len 1 count ++ n ∷ []) (omega arith)

-- a range that begins with a number
pub record First (number : ℕ) (items : List ℕ) (first count : ℕ) : Type 0 where
  pub rest : ℕ
  pub count_is : count ≡ rest + 1
  pub here : number ≡ first
  pub more : items ≡ range_with_len (first + 1) rest

pub range_first : (number : ℕ) (items : List ℕ) (first count : ℕ) → number ∷ items ≡ range_with_len first count → First number items first count
range_first number items first zero e = absurd (none e)
  where
    none : number ∷ items ≡ [] → ⊥
    none e = cc
range_first number items first (suc count) e = record { rest = count; count_is = omega arith; here = head e; more = tail e }
  where
    head : number ∷ items ≡ first ∷ range_with_len (first + 1) count → number ≡ first
    head e = cc

    tail : number ∷ items ≡ first ∷ range_with_len (first + 1) count → items ≡ range_with_len (first + 1) count
    tail e = cc
