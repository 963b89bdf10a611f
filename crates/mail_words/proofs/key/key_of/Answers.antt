use Rattle.std.proofs.Common.{◌≡◌, ◌+◌, ℕ, List, true, slice_range, rules, ap, ◌∙◌}
use Rattle.std.specs.Int.{w64, from_be_bytes}
use Rattle.mail_words.specs.Key.{numbers, is_word, lowered, key_of, is_key}
use Rattle.mail_words.proofs.Keys.{same_numbers, lowered-word, lowered-lower, is_key-key_of}
use Rattle.mail_words.proofs.key.key_of.Goals as goal

abbrev eight : ℕ → List ℕ → ℕ
eight index bytes = from_be_bytes w64 (slice_range bytes index (index + 8))

is_word_now : (c : goal.After-number_at-4) → is_word c.args.word.now ≡ true
is_word_now c = search rules

key : (c : goal.After-number_at-4)
    → numbers c.number_at.result c.number_at-2.result c.number_at-3.result c.number_at-4.result ≡ key_of (lowered c.args.word.now)
key c =
    let bytes = c.padded_lower-bytes.ensures in
    same_numbers _ _ _ _ _ _ _ _ (c.number_at.ensures ∙ ap (eight 0) bytes) (c.number_at-2.ensures ∙ ap (eight 8) bytes)
    (c.number_at-3.ensures ∙ ap (eight 16) bytes) (c.number_at-4.ensures ∙ ap (eight 24) bytes)

pub invariant_of-result : goal.invariant_of-result
invariant_of-result c =
    let word = c.args.word.now in
    ap is_key (key c) ∙ is_key-key_of (lowered word) (lowered-word word (is_word_now c)) (lowered-lower word)

pub returns : goal.returns
returns c = (is_word_now c, key c)
