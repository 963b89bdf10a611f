-- The mailbox is written message after message, each within its limits.
use Rattle.std.proofs.Common.{◌≡◌, ℕ, zero, suc, ◌+◌, ◌-◌, ◌*◌, ◌%◌, ◌^◌, ◌<◌, ◌≤◌, true, false, not, cond, eqb, List, [], ◌∷◌, ◌++◌, length, map, refl, sym, ap, ◌∙◌, arith, codes}
use Rattle.std.specs.Prelude.{decimal}
use Rattle.std.specs.List.{concat, count_by, join_with_byte, range_with_len, sum_by}
use Rattle.std.specs.Char.{is_ascii_digit}
use Rattle.std.specs.Str.{all_ascii_digits}
use Rattle.std.proofs.lemmas.Bool.{and_from, and_parts, false≢true, ne_eqb, or_left}
use Rattle.std.proofs.lemmas.Fmt.{digits_decimal}
use Rattle.std.proofs.lemmas.Str.Parse.{numerals_by_value, tells_all_ascii_digits}
use Rattle.std.proofs.lemmas.List.{append_assoc}
use Rattle.std.proofs.lemmas.List.Folds.{list_all-append}
use Rattle.std.proofs.lemmas.List.Sums.{sum_by-append}
use Rattle.std.proofs.lemmas.Simd.{map-map}
use Rattle.mail_words.proofs.Lemmas.{length-word_list-le, parts_words}
use Rattle.mail_words.specs.Lists.{postings_in, word_lists}
use Rattle.mail_words.specs.Words.{word_list}
use Rattle.mbox_cut.specs.Mbox.{bytes_of, is_mbox, messages_of}
use Rattle.mbox_cut.proofs.Lemmas.{AreWritten, IsWritten, WrittenMessage, all_of, is_plain, is_plain_byte, messages_of-written, text_of, whole_of, written}
use Rattle.mail_gen.specs.Generator.{body, body_line, line_of_words, mailbox, message, separator, subject, text, top_bits, word}

-- ---- digits

digits_of_decimal : (number : ℕ) → number < 2 ^ 64 → all_ascii_digits (decimal number) ≡ true
digits_of_decimal number small = digits_decimal (numerals_by_value (λ ds. all_ascii_digits ds ≡ true) tells_all_ascii_digits) number small

digit_is_plain : (byte : ℕ) → is_ascii_digit byte ≡ true → is_plain_byte byte ≡ true
digit_is_plain byte digit =
    let feed : eqb byte 10 ≡ false = ne_eqb byte 10 (λ same. false≢true (ap is_ascii_digit (sym same) ∙ digit)) in
    let back : eqb byte 13 ≡ false = ne_eqb byte 13 (λ same. false≢true (ap is_ascii_digit (sym same) ∙ digit)) in
    and_from (not (eqb byte 10)) (not (eqb byte 13)) (ap not feed) (ap not back)

digit_parts_no_words : (byte : ℕ) → is_ascii_digit byte ≡ true → parts_words byte ≡ false
digit_parts_no_words byte digit = ap not (or_left _ _ (or_left _ _ digit))

digits_are_plain : (digits : List ℕ) → all_ascii_digits digits ≡ true → is_plain digits ≡ true
digits_are_plain [] are = refl
digits_are_plain (byte ∷ digits) are =
    let both = and_parts (is_ascii_digit byte) (all_ascii_digits digits) are in
    and_from (is_plain_byte byte) (is_plain digits) (digit_is_plain byte both.0) (digits_are_plain digits both.1)

-- how many bytes part words
abbrev parting : List ℕ → ℕ
parting bytes = count_by parts_words bytes

parting-append : (bytes others : List ℕ) → parting (bytes ++ others) ≡ parting bytes + parting others
parting-append bytes others = sum_by-append (λ byte. cond (parts_words byte) 1 0) bytes others

digits_part_no_words : (digits : List ℕ) → all_ascii_digits digits ≡ true → parting digits ≡ 0
digits_part_no_words [] are = refl
digits_part_no_words (byte ∷ digits) are =
    let both = and_parts (is_ascii_digit byte) (all_ascii_digits digits) are in
    let first : parting (byte ∷ []) ≡ 0 = ap (λ b. 0 + cond b 1 0) (digit_parts_no_words byte both.0) in
    omega (arith, parting-append (byte ∷ []) digits, first, digits_part_no_words digits both.1)

-- ---- words and lines

plain-append : (bytes others : List ℕ) → is_plain bytes ≡ true → is_plain others ≡ true → is_plain (bytes ++ others) ≡ true
plain-append bytes others first second = list_all-append is_plain_byte bytes others ∙ and_from (is_plain bytes) (is_plain others) first second

digits_of_word : (number : ℕ) → all_ascii_digits (decimal (top_bits number)) ≡ true
digits_of_word number = digits_of_decimal (top_bits number) (omega arith)

plain_word : (number : ℕ) → is_plain (word number) ≡ true
unfolding word
plain_word number = plain-append (codes "w") (decimal (top_bits number)) refl (digits_are_plain (decimal (top_bits number)) (digits_of_word number))

parting_word : (number : ℕ) → parting (word number) ≡ 0
unfolding word
parting_word number =
    omega (arith, parting-append (codes "w") (decimal (top_bits number)), digits_part_no_words (decimal (top_bits number)) (digits_of_word number))

plain_joined : (numbers : List ℕ) → is_plain (join_with_byte 32 (map word numbers)) ≡ true
plain_joined [] = refl
plain_joined (number ∷ []) = plain_word number
plain_joined (number ∷ next ∷ numbers) =
    plain-append (word number) (32 ∷ join_with_byte 32 (map word (next ∷ numbers))) (plain_word number) (plain_joined (next ∷ numbers))

parting_joined : (number : ℕ) (numbers : List ℕ) → parting (join_with_byte 32 (map word (number ∷ numbers))) ≡ length numbers
parting_joined number [] = parting_word number
parting_joined number (next ∷ numbers) =
    let rest = join_with_byte 32 (map word (next ∷ numbers)) in
    omega (arith, parting-append (word number) (32 ∷ rest), parting-append (32 ∷ []) rest, parting_word number, parting_joined next numbers)

-- the words of a line of a message
words : ℕ → ℕ → List ℕ
words number line = join_with_byte 32 (map word (range_with_len (48 * (number - 1) + 12 * line + 1) 12))

line-is_words : (number line : ℕ) → body_line number line ≡ words number line ++ 10 ∷ []
unfolding line_of_words words
line-is_words number line = refl

plain_words : (number line : ℕ) → is_plain (words number line) ≡ true
unfolding words
plain_words number line = plain_joined (range_with_len (48 * (number - 1) + 12 * line + 1) 12)

parting_line : (number line : ℕ) → parting (body_line number line) ≡ 12
unfolding words
parting_line number line =
    let first = 48 * (number - 1) + 12 * line + 1 in
    ap parting (line-is_words number line) ∙ parting-append (words number line) (10 ∷ [])
    ∙ ap (λ n. n + 1) (parting_joined first (range_with_len (first + 1) 11))

-- ---- the subject

subject_content : ℕ → List ℕ
subject_content number = codes "Subject: m" ++ decimal number ++ codes " d" ++ decimal (number % 10)

subject-is : (number : ℕ) → subject number ≡ subject_content number ++ 10 ∷ []
unfolding subject subject_content
subject-is number = refl

module _ (number : ℕ) (small : number < 2 ^ 64) where
  plain_subject : is_plain (subject_content number) ≡ true
  unfolding subject_content
  plain_subject =
      let front = codes "Subject: m" in
      let digits = digits_are_plain (decimal number) (digits_of_decimal number small) in
      let last = digits_are_plain (decimal (number % 10)) (digits_of_decimal (number % 10) (omega arith)) in
      plain-append (front ++ decimal number ++ codes " d") (decimal (number % 10))
      (plain-append (front ++ decimal number) (codes " d") (plain-append front (decimal number) refl digits) refl) last

  parting_subject : parting (subject number) ≡ 4
  unfolding subject_content
  parting_subject =
      let front = codes "Subject: m" in
      let digits = digits_part_no_words (decimal number) (digits_of_decimal number small) in
      let last = digits_part_no_words (decimal (number % 10)) (digits_of_decimal (number % 10) (omega arith)) in
      ap parting (subject-is number)
      ∙ omega (
        arith,
        parting-append (subject_content number) (10 ∷ []),
        parting-append (front ++ decimal number ++ codes " d") (decimal (number % 10)),
        parting-append (front ++ decimal number) (codes " d"),
        parting-append front (decimal number),
        digits,
        last,
      )

  -- ---- the text

  parting_body : parting (body number) ≡ 48
  parting_body =
      let line = body_line number in
      omega (
        arith,
        parting-append (line 0) (line 1 ++ (line 2 ++ (line 3 ++ []))),
        parting-append (line 1) (line 2 ++ (line 3 ++ [])),
        parting-append (line 2) (line 3 ++ []),
        parting-append (line 3) [],
        parting_line number 0,
        parting_line number 1,
        parting_line number 2,
        parting_line number 3,
      )

  parting_text : parting (text number) ≡ 54
  parting_text =
      let front = subject number ++ 10 ∷ [] in
      omega (
        arith,
        parting-append (front ++ body number) (10 ∷ []),
        parting-append front (body number),
        parting-append (subject number)
            (10 ∷ []),
        parting_subject,
        parting_body,
      )

-- ---- the messages

separator_content : List ℕ
separator_content = codes "From gen@example.org Thu Jan  1 00:00:00 1970"

separator-is : separator ≡ separator_content ++ 10 ∷ []
unfolding separator separator_content
separator-is = refl

lines : ℕ → List (List ℕ)
lines number = subject_content number ∷ [] ∷ words number 0 ∷ words number 1 ∷ words number 2 ∷ words number 3 ∷ []

-- a message, line by line
as_written : ℕ → WrittenMessage
as_written number = (separator_content, lines number)

written_body : (number : ℕ) → body number ≡ written (words number 0 ∷ words number 1 ∷ words number 2 ∷ words number 3 ∷ [])
written_body number =
    let w = words number in
    let third = append_assoc (w 3) (10 ∷ []) [] in
    let second = append_assoc (w 2) (10 ∷ []) (w 3 ++ 10 ∷ []) in
    let first = append_assoc (w 1) (10 ∷ []) (w 2 ++ 10 ∷ (w 3 ++ 10 ∷ [])) in
    let zeroth = append_assoc (w 0) (10 ∷ []) (w 1 ++ 10 ∷ (w 2 ++ 10 ∷ (w 3 ++ 10 ∷ []))) in
    ap (λ line. line ++ (body_line number 1 ++ (body_line number 2 ++ (body_line number 3 ++ [])))) (line-is_words number 0)
    ∙ ap (λ line. (w 0 ++ 10 ∷ []) ++ (line ++ (body_line number 2 ++ (body_line number 3 ++ [])))) (line-is_words number 1)
    ∙ ap (λ line. (w 0 ++ 10 ∷ []) ++ ((w 1 ++ 10 ∷ []) ++ (line ++ (body_line number 3 ++ [])))) (line-is_words number 2)
    ∙ ap (λ line. (w 0 ++ 10 ∷ []) ++ ((w 1 ++ 10 ∷ []) ++ ((w 2 ++ 10 ∷ []) ++ (line ++ [])))) (line-is_words number 3)
    ∙ ap (λ rest. (w 0 ++ 10 ∷ []) ++ ((w 1 ++ 10 ∷ []) ++ ((w 2 ++ 10 ∷ []) ++ rest))) third
    ∙ ap (λ rest. (w 0 ++ 10 ∷ []) ++ ((w 1 ++ 10 ∷ []) ++ rest)) second
    ∙ ap (λ rest. (w 0 ++ 10 ∷ []) ++ rest) first
    ∙ zeroth

text_of-as_written : (number : ℕ) → text_of (as_written number) ≡ text number
unfolding as_written lines
text_of-as_written number =
    let subject = subject_content number in
    let rest = written (words number 0 ∷ words number 1 ∷ words number 2 ∷ words number 3 ∷ []) in
    sym (ap (λ l. (l ++ 10 ∷ []) ++ body number ++ 10 ∷ []) (subject-is number)
    ∙ ap (λ b. ((subject ++ 10 ∷ []) ++ 10 ∷ []) ++ b ++ 10 ∷ []) (written_body number)
    ∙ ap (λ l. l ++ rest ++ 10 ∷ []) (append_assoc subject (10 ∷ []) (10 ∷ []))
    ∙ ap (λ l. l ++ 10 ∷ []) (append_assoc subject (10 ∷ 10 ∷ []) rest))

whole_of-as_written : (number : ℕ) → whole_of (as_written number) ≡ message number
unfolding as_written
whole_of-as_written number =
    ap (λ l. separator_content ++ 10 ∷ l) (text_of-as_written number)
    ∙ sym (ap (λ l. l ++ text number) separator-is ∙ append_assoc separator_content (10 ∷ []) (text number))

all_of-as_written : (numbers : List ℕ) → all_of (map as_written numbers) ≡ concat (map message numbers)
all_of-as_written [] = refl
all_of-as_written (number ∷ numbers) =
    ap (λ l. l ++ all_of (map as_written numbers)) (whole_of-as_written number) ∙ ap (λ l. message number ++ l) (all_of-as_written numbers)

texts-as_written : (numbers : List ℕ) → map text_of (map as_written numbers) ≡ map text numbers
texts-as_written [] = refl
texts-as_written (number ∷ numbers) =
    ap (λ t. t ∷ map text_of (map as_written numbers)) (text_of-as_written number) ∙ ap (λ ts. text number ∷ ts) (texts-as_written numbers)

is_written : (number : ℕ) → number < 2 ^ 64 → IsWritten (as_written number)
unfolding as_written lines separator_content subject_content words word
is_written number small = record {
  separator = refl;
  others = refl;
  plain_separator = refl;
  plain_lines =
      and_from _ _ (plain_subject number small) (and_from _ _ (plain_words number 0) (and_from _ _ (plain_words number 1)
      (and_from _ _ (plain_words number 2) (and_from _ _ (plain_words number 3) refl))));
}

are_written : (first count : ℕ) → first + count < 2 ^ 64 → AreWritten (map as_written (range_with_len first count))
are_written first zero small = tt
are_written first (suc count) small = (is_written first (omega (arith, small)), are_written (first + 1) count (omega (arith, small)))

-- the mailbox is one, and its messages are the texts
pub mailbox-messages : (count : ℕ) → count ≤ 100_000
    → (is_mbox (mailbox count) ≡ true) × (map (bytes_of (mailbox count)) (messages_of (mailbox count)) ≡ map text (range_with_len 1 count))
mailbox-messages count few =
    let numbers = range_with_len 1 count in
    let are = messages_of-written (map as_written numbers) (are_written 1 count (omega (arith, few))) in
    let same = all_of-as_written numbers in (
      sym (ap is_mbox same) ∙ are.0,
      sym (ap (λ bytes. map (bytes_of bytes) (messages_of bytes)) same) ∙ are.1 ∙ texts-as_written numbers,
    )

-- ---- the limits

postings-bound : (first count : ℕ) → first + count < 2 ^ 64 → sum_by length (map word_list (map text (range_with_len first count))) ≤ 55 * count
postings-bound first zero small = omega arith
postings-bound first (suc count) small =
    let number_small : first < 2 ^ 64 = omega (arith, small) in
    let others = map word_list (map text (range_with_len (first + 1) count)) in
    let sum = sum_by-append length (word_list (text first) ∷ []) others in
    let one = length-word_list-le (text first) in
    omega (arith, sum, one, parting_text first number_small, postings-bound (first + 1) count (omega (arith, small)))

pub mailbox-postings : (count : ℕ) → count ≤ 100_000 → postings_in (word_lists (mailbox count) (messages_of (mailbox count))) ≤ 55 * count
mailbox-postings count few =
    let bytes = mailbox count in
    let lists : word_lists bytes (messages_of bytes) ≡ map word_list (map text (range_with_len 1 count)) =
    sym (map-map word_list (bytes_of bytes) (messages_of bytes)) ∙ ap (map word_list) (mailbox-messages count few).1 in
    omega (arith, ap (sum_by length) lists, postings-bound 1 count (omega (arith, few)))
