-- The decimal text of a number is a plain token, and that number.
use Rattle.std.proofs.Common.{◌≡◌, ℕ, ◌+◌, ◌*◌, ◌/◌, ◌%◌, ◌<◌, ◌≤◌, ◌^◌, List, [], ◌∷◌, ◌++◌, length, map, decimal, All, arith, length-append}
use Rattle.std.proofs.lemmas.Fmt.{decimal_by_steps, length-decimal-le}
use Rattle.std.proofs.lemmas.List.Elements.{All-nil, All-cons, All-head, All-tail, All-push}
use Rattle.std.proofs.Math.Nat.{div-add-mod}
use Rattle.ring_script.specs.Lines.{IsNumber, value_from}
use Rattle.ring_script.specs.Grammar.{AreNumbers}
use Rattle.ring_script.proofs.Values.{value_last}
use Rattle.ring_script.proofs.Plain.{AllFrom, IsPlain, ArePlain}

abbrev IsDigit : ℕ → Type 0
IsDigit digit = (48 ≤ digit) × (digit ≤ 57)

record IsText (number : ℕ) (digits : List ℕ) : Type 0 where
  pub some : 1 ≤ length digits
  pub all : All IsDigit digits
  pub value : value_from 0 digits ≡ number

one_digit : (n : ℕ) → n < 10 → IsText n ((48 + n) ∷ [])
one_digit n below = record {
  some = omega arith;
  all = All-cons IsDigit (48 + n) [] (omega arith, omega (arith, below)) (All-nil IsDigit);
  value = omega arith;
}

more_digits : (n : ℕ) (digits : List ℕ) → 10 ≤ n → IsText (n / 10) digits → IsText n (digits ++ (48 + n % 10) ∷ [])
more_digits n digits many is =
    let parts : 10 * (n / 10) + n % 10 ≡ n = div-add-mod n 10 in
    let last = value_last 0 digits (48 + n % 10) in
    record {
      some = omega (arith, length-append digits ((48 + n % 10) ∷ []));
      all = All-push IsDigit digits (48 + n % 10) is.all (omega arith, omega arith);
      value = omega (arith, last, is.value, parts);
    }

digits_of : (n : ℕ) → n < 2 ^ 64 → IsText n (decimal n)
digits_of n below = decimal_by_steps IsText one_digit more_digits n below

pub number_decimal : (n : ℕ) → n < 2 ^ 64 → IsNumber (decimal n) n
number_decimal n below =
    let is = digits_of n below in
    record {
      some = is.some;
      most = length-decimal-le 20 n (omega arith) (omega (arith, below)) below;
      digits = is.all;
      value = is.value;
      fits = below;
    }

digits_from : (digits : List ℕ) → All IsDigit digits → AllFrom 36 digits
digits_from [] all = tt
digits_from (digit ∷ digits) all =
    let first = All-head IsDigit digit digits all in
    (omega (arith, first.0), digits_from digits (All-tail IsDigit digit digits all))

pub plain_decimal : (n : ℕ) → n < 2 ^ 64 → IsPlain (decimal n)
plain_decimal n below = let is = digits_of n below in (omega (arith, is.some), digits_from (decimal n) is.all)

-- ---- several numbers
abbrev pub AllFit : List ℕ → Type 0
AllFit [] = Unit {0}
AllFit (number ∷ numbers) = (number < 2 ^ 64) × AllFit numbers

pub numbers_decimal : (numbers : List ℕ) → AllFit numbers → AreNumbers (map decimal numbers) numbers
numbers_decimal [] fit = tt
numbers_decimal (number ∷ numbers) fit = (number_decimal number fit.0, numbers_decimal numbers fit.1)

pub plain_numbers : (numbers : List ℕ) → AllFit numbers → ArePlain (map decimal numbers)
plain_numbers [] fit = tt
plain_numbers (number ∷ numbers) fit = (plain_decimal number fit.0, plain_numbers numbers fit.1)
