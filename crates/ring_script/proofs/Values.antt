-- The value of digits.
use Rattle.std.proofs.Common.{◌≡◌, ℕ, ◌+◌, ◌-◌, ◌*◌, ◌<◌, ◌≤◌, List, [], ◌∷◌, ◌++◌, length, take, drop, get_or, refl, sym, ◌∙◌, ap, arith}
use Rattle.std.proofs.lemmas.List.{take_more, take-append-drop}
use Rattle.ring_script.specs.Lines.{value_from}

pub value_last : (value : ℕ) (digits : List ℕ) (digit : ℕ) → value_from value (digits ++ digit ∷ []) ≡ 10 * value_from value digits + (digit - 48)
value_last value [] digit = refl
value_last value (first ∷ digits) digit = value_last (10 * value + (first - 48)) digits digit

pub value_more : (token : List ℕ) (i : ℕ) → i < length token
    → value_from 0 (take (i + 1) token) ≡ 10 * value_from 0 (take i token) + (get_or token i 0 - 48)
value_more token i below = ap (value_from 0) (take_more token i 0 below) ∙ value_last 0 (take i token) (get_or token i 0)

value_parts : (value : ℕ) (digits more : List ℕ) → value_from value (digits ++ more) ≡ value_from (value_from value digits) more
value_parts value [] more = refl
value_parts value (digit ∷ digits) more = value_parts (10 * value + (digit - 48)) digits more

grows : (value : ℕ) (digits : List ℕ) → value ≤ value_from value digits
grows value [] = omega arith
grows value (digit ∷ digits) = let more = grows (10 * value + (digit - 48)) digits in omega (arith, more)

-- more digits have no lower value
pub value_least : (token : List ℕ) (i : ℕ) → value_from 0 (take i token) ≤ value_from 0 token
value_least token i =
    let whole : value_from 0 token ≡ value_from (value_from 0 (take i token)) (drop i token) =
    ap (value_from 0) (sym (take-append-drop i token)) ∙ value_parts 0 (take i token) (drop i token) in
    let more = grows (value_from 0 (take i token)) (drop i token) in
    omega (arith, whole, more)
