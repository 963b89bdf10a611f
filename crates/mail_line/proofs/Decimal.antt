-- Texts of digits alone.
use Rattle.std.proofs.Common.{◌≡◌, ℕ, ◌<◌, ◌≤◌, Bool, true, false, List, [], ◌∷◌, length, ◌&&◌, cond, refl, sym, ap, arith, inl, inr, Some, None}
use Rattle.std.specs.List.{list_all}
use Rattle.std.specs.Char.{is_ascii_digit}
use Rattle.std.specs.Str.Parse.{AllDigits, digits_value, ParsesUnsigned}
use Rattle.std.specs.Prelude.{Ok, Err, ◌^◌, nat_le}
use Rattle.std.proofs.lemmas.Bool.{and_parts, cases_lt}
use Rattle.std.proofs.lemmas.Str.Parse.{tells_digits, parse_gives, numerals_by_value}
use Rattle.mail_line.specs.CommandLine.{is_number, number_in}

all_digits : (text : List ℕ) → list_all is_ascii_digit text ≡ true → AllDigits 10 text
all_digits [] e = tt
all_digits (c ∷ cs) e =
    let (here, more) = and_parts (is_ascii_digit c) _ e in
    tells_digits.more c cs (digit_range c here) (all_digits cs more)
  where
    digit_range : (c : ℕ) → is_ascii_digit c ≡ true → (48 ≤ c) × (c ≤ 57)
    digit_range c e = grind arith

refused : (a b c : Bool) (n : ℕ) → c ≡ false → cond (a && (b && c)) (Some n) None ≡ None
refused true true c n e = ap (λ (t : Bool). cond t (Some n) None) e
refused true false c n e = refl
refused false b c n e = refl

digits_of : (text : List ℕ) → is_number text ≡ true → (0 < length text) × (list_all is_ascii_digit text ≡ true)
digits_of text e = grind arith

-- a text of digits that isn't read as a number is too large a number
pub too_large : {E : Type 0} (low high : ℕ) (text : List ℕ) (e : E) → ParsesUnsigned 64 10 text (Err e) → is_number text ≡ true → high < 2 ^ 64
    → None ≡ number_in low high text
too_large {E} low high text e parsed is fits =
    let (some, digits) = digits_of text is in
    sym (refused (is_number text) (nat_le low (digits_value 10 text)) (nat_le (digits_value 10 text) high) (digits_value 10 text) (go some digits))
  where
    go : 0 < length text → list_all is_ascii_digit text ≡ true → nat_le (digits_value 10 text) high ≡ false
    go some digits =
        elim (cases_lt (digits_value 10 text) (2 ^ 64)) [
          | inl small ↦
              let bad : Err e ≡ Ok (digits_value 10 text) =
              parse_gives (numerals_by_value (AllDigits 10) tells_digits) 64 text (Err e) parsed (all_digits text digits) some small in
              cc
          | inr large ↦ grind arith
        ]
