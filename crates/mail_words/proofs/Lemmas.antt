-- Offered to the crates above: how many words a text can have, and the lists of spans in two parts.
use Rattle.std.proofs.Common.{◌≡◌, ℕ, suc, ◌+◌, ◌≤◌, Bool, true, false, not, cond, List, [], ◌∷◌, ◌++◌, length, map, ap, ◌∙◌, arith}
use Rattle.std.specs.List.{count_by, filter, slice_split}
use Rattle.std.specs.Char.{is_ascii_alphanumeric}
use Rattle.std.specs.Ordering.{is_lt, is_eq}
use Rattle.std.proofs.lemmas.List.{length-map, map-append}
use Rattle.std.proofs.lemmas.List.Sums.{count_by-le-length, length-filter, sum_by-append}
use Rattle.std.proofs.lemmas.List.Splits.{length-slice_split}
use Rattle.mail_words.specs.Key.{KeyNumbers, is_word, key_cmp, key_of, lowered}
use Rattle.mail_words.specs.Words.{rising, with_key, word_list, words_of}
use Rattle.mail_words.specs.Lists.{word_lists, postings_in}
use Rattle.mail_words.proofs.Runs.{words_of-split}
use Rattle.mbox_cut.specs.Mbox.{bytes_of}
use Rattle.mbox_cut.specs.declared.span.Span.{Span}

-- a byte that no word has
abbrev pub parts_words : ℕ → Bool
parts_words byte = not (is_ascii_alphanumeric byte)

length-with_key-le : (key : KeyNumbers) (keys : List KeyNumbers) → length (with_key key keys) ≤ length keys + 1
length-with_key-le key [] = omega arith
length-with_key-le key (other ∷ keys) =
    let shorter = length-with_key-le key keys in
    elim (is_lt (key_cmp key other)) as (λ b. length (cond b (key ∷ other ∷ keys)
    (cond (is_eq (key_cmp key other)) (other ∷ keys) (other ∷ with_key key keys))) ≤ suc (length keys) + 1) [
      | true ↦ omega arith
      | false ↦ elim (is_eq (key_cmp key other)) as (λ b. length (cond b (other ∷ keys) (other ∷ with_key key keys)) ≤ suc (length keys) + 1) [
        | true ↦ omega arith
        | false ↦ omega (arith, shorter)
      ]
    ]

length-rising-le : (keys : List KeyNumbers) → length (rising keys) ≤ length keys
length-rising-le [] = omega arith
length-rising-le (key ∷ keys) = omega (arith, length-with_key-le key (rising keys), length-rising-le keys)

-- no more words than bytes that part them, and one
pub length-word_list-le : (bytes : List ℕ) → length (word_list bytes) ≤ count_by parts_words bytes + 1
length-word_list-le bytes =
    let pieces = slice_split parts_words bytes in
    let words : length (words_of bytes) ≡ length (filter is_word pieces) = ap length (words_of-split bytes) ∙ length-map (filter is_word pieces) lowered in
    omega (
      arith,
      length-rising-le (map key_of (words_of bytes)),
      length-map
          (words_of bytes) key_of,
      words,
      length-filter is_word pieces,
      count_by-le-length is_word pieces,
      length-slice_split parts_words bytes,
    )

-- ---- the lists of spans
pub length-word_lists : (bytes : List ℕ) (spans : List Span) → length (word_lists bytes spans) ≡ length spans
length-word_lists bytes spans = length-map spans (λ span. word_list (bytes_of bytes span))

-- the lists of the first spans, and then those of the others
pub word_lists-append : (bytes : List ℕ) (spans others : List Span) → word_lists bytes (spans ++ others) ≡ word_lists bytes spans ++ word_lists bytes others
word_lists-append bytes spans others = map-append (λ span. word_list (bytes_of bytes span)) spans others

pub postings_in-append : (lists others : List (List KeyNumbers)) → postings_in (lists ++ others) ≡ postings_in lists + postings_in others
postings_in-append lists others = sum_by-append length lists others
