-- What the mailbox is made of, part after part.
use Rattle.std.proofs.Common.{◌≡◌, ℕ, zero, suc, ◌+◌, ◌*◌, ◌≤◌, ◌%◌, ◌-◌, List, [], ◌∷◌, ◌++◌, length, map, sym, refl, ap, ◌∙◌, arith}
use Rattle.std.specs.Prelude.{codes, decimal}
use Rattle.std.specs.List.{concat, join_with_byte, range_with_len}
use Rattle.std.proofs.lemmas.Fmt.{decimal_digit, length-decimal-le}
use Rattle.std.proofs.lemmas.List.{append_assoc, append-nil, length-append}
use Rattle.std.proofs.lemmas.Simd.{map-map}
use Rattle.std.proofs.lemmas.List.Folds.{concat-append}
use Rattle.std.proofs.lemmas.List.FromFn.{map-range_with_len_more}
use Rattle.mail_gen.specs.Generator.{body, body_line, line_of_words, mailbox, message, separator, subject, text, top_bits, word}

-- the parts with these numbers, one after the other
unfoldable pub parts : (ℕ → List ℕ) → ℕ → ℕ → List ℕ
parts part first count = concat (map part (range_with_len first count))

pub parts-none : (part : ℕ → List ℕ) (first count : ℕ) → count ≡ 0 → parts part first count ≡ []
unfolding parts
parts-none part first count is = ap (λ n. concat (map part (range_with_len first n))) is

pub parts-more : (part : ℕ → List ℕ) (first count next : ℕ) → first + count ≡ next
    → parts part first (count + 1) ≡ parts part first count ++ part next
unfolding parts
parts-more part first count next is =
    ap concat (map-range_with_len_more part first count next is)
    ∙ concat-append (map part (range_with_len first count)) (part next ∷ [])
    ∙ ap (λ last. parts part first count ++ last) (append-nil (part next))

joined : (byte : ℕ) (piece : List ℕ) (pieces : List (List ℕ))
    → join_with_byte byte (piece ∷ pieces) ≡ piece ++ concat (map (λ other. byte ∷ other) pieces)
joined byte piece [] = sym (append-nil piece)
joined byte piece (next ∷ pieces) = ap (λ rest. piece ++ byte ∷ rest) (joined byte next pieces)

-- the words of a line behind the first, each with the space before it
abbrev pub spaced : ℕ → List ℕ
spaced number = 32 ∷ word number

pub line-is : (first : ℕ) → line_of_words first ≡ word first ++ parts spaced (first + 1) 11 ++ 10 ∷ []
unfolding line_of_words parts
line-is first =
    let others = range_with_len (first + 1) 11 in
    ap (λ line. line ++ 10 ∷ []) (joined 32 (word first) (map word others) ∙ ap (λ rest. word first ++ concat rest) (map-map (λ other. 32 ∷ other) word others))

pub length-parts-more : (part : ℕ → List ℕ) (first count next : ℕ) → first + count ≡ next
    → length (parts part first (count + 1)) ≡ length (parts part first count) + length (part next)
length-parts-more part first count next is = ap length (parts-more part first count next is) ∙ length-append (parts part first count) (part next)

pub length-spaced : (number : ℕ) → length (spaced number) ≡ 2 + length (decimal (top_bits number))
unfolding word
length-spaced number = omega arith

-- a line is as long as its twelve words, each with a space: its line feed stands for one of them
pub length-line : (first : ℕ) → length (line_of_words first) ≡ length (parts spaced first 12)
unfolding parts
length-line first =
    let others = parts spaced (first + 1) 11 in
    let last : length (word first) + length others + 1 ≡ length (spaced first) + length others = omega (arith, length-append (32 ∷ []) (word first)) in
    ap length (line-is first)
    ∙ length-append (word first ++ others) (10 ∷ [])
    ∙ ap (λ rest. rest + 1) (length-append (word first) others)
    ∙ last
    ∙ sym (length-append (spaced first) others)

length-four : (a b c d : List ℕ) → length (a ++ b ++ c ++ d) ≡ length a + length b + length c + length d
length-four a b c d =
    length-append (a ++ b ++ c) d
    ∙ ap (λ n. n + length d) (length-append (a ++ b) c
    ∙ ap (λ n. n + length c) (length-append a b))

length-subject : (number : ℕ) → length (subject number) ≡ 14 + length (decimal number)
unfolding subject
length-subject number =
    let digit : length (decimal (number % 10)) ≡ 1 = ap length (decimal_digit (number % 10) (omega arith)) in
    let front = codes "Subject: m" ++ decimal number ++ codes " d" ++ decimal (number % 10) in
    let pieces = length-four (codes "Subject: m") (decimal number) (codes " d") (decimal (number % 10)) in
    omega (arith, digit, pieces, length-append front (codes "\n"))

length-separator : length separator ≡ 46
unfolding separator
length-separator = refl

length-body : (number : ℕ)
    → length (body number) ≡ length (body_line number 0) + length (body_line number 1) + length (body_line number 2) + length (body_line number 3)
length-body number =
    let line = body_line number in
    let last = length-append (line 3) [] in
    let third = length-append (line 2) (line 3 ++ []) in
    let second = length-append (line 1) (line 2 ++ (line 3 ++ [])) in
    let first = length-append (line 0) (line 1 ++ (line 2 ++ (line 3 ++ []))) in
    omega (arith, first, second, third, last)

pub length-message : (number : ℕ)
    → length (message number) ≡ 62 + length (decimal number) + length (body_line number 0) + length (body_line number 1)
    + length (body_line number 2) + length (body_line number 3)
length-message number =
    let pieces = length-four (subject number) (codes "\n") (body number) (codes "\n") in
    omega (arith, length-append separator (text number), pieces, length-separator, length-subject number, length-body number)

pub text_onto : (front a b c d : List ℕ) → front ++ a ++ b ++ c ++ d ≡ front ++ (a ++ b ++ c ++ d)
text_onto front a b c d =
    ap (λ l. l ++ c ++ d) (append_assoc front a b) ∙ ap (λ l. l ++ d) (append_assoc front (a ++ b) c) ∙ append_assoc front (a ++ b ++ c) d

-- ---- how long the mailbox can be

length-word-le : (number : ℕ) → length (spaced number) ≤ 7
length-word-le number =
    let digits = length-decimal-le 5 (top_bits number) (omega arith) (omega arith) (omega arith) in
    omega (arith, length-spaced number, digits)

length-parts-le : (part : ℕ → List ℕ) (most : ℕ) → ((number : ℕ) → length (part number) ≤ most) → (first count : ℕ)
    → length (parts part first count) ≤ most * count
length-parts-le part most each first zero = omega (arith, ap length (parts-none part first 0 refl))
length-parts-le part most each first (suc count) =
    let more = length-parts-more part first count (first + count) refl in
    let same : suc count ≡ count + 1 = omega arith in
    let product : most * suc count ≡ most * count + most = omega arith in
    omega (arith, ap (λ n. length (parts part first n)) same, more, each (first + count), length-parts-le part most each first count, product)

length-message-le : (number : ℕ) → number ≤ 100_000 → length (message number) ≤ 404
length-message-le number few =
    let line : ℕ → ℕ = λ k. length (body_line number k) in
    let digits = length-decimal-le 6 number (omega arith) (omega (arith, few)) (omega (arith, few)) in
    let most = length-parts-le spaced 7 length-word-le in
    let each : (k : ℕ) → length (body_line number k) ≤ 84 = λ k.
    omega (arith, length-line (48 * (number - 1) + 12 * k + 1), most (48 * (number - 1) + 12 * k + 1) 12) in
    omega (arith, length-message number, digits, each 0, each 1, each 2, each 3)

pub mailbox-bytes : (count : ℕ) → count ≤ 100_000 → length (mailbox count) ≤ 404 * count
unfolding parts
mailbox-bytes zero few = omega arith
mailbox-bytes (suc count) few =
    let more = length-parts-more message 1 count (1 + count) refl in
    let same : suc count ≡ count + 1 = omega arith in
    let product : 404 * suc count ≡ 404 * count + 404 = omega arith in
    omega (
      arith,
      ap (λ n. length (parts message 1 n)) same,
      more,
      length-message-le (1 + count) (omega (arith, few)),
      mailbox-bytes count
          (omega (arith, few)),
      product,
    )
