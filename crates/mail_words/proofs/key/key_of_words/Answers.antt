use Rattle.std.proofs.Common.{◌≡◌, ℕ, ◌∙◌, ap, List, take, ◌==◌, not}
use Rattle.std.specs.List.{prefix_len}
use Rattle.mail_words.specs.Key.{KeyNumbers, numbers, key_bytes, word_of}
use Rattle.mail_words.proofs.Keys.{key_found, no_key, same_each}
use Rattle.mail_words.proofs.key.key_of_words.Goals as goal

-- the front of the bytes, up to the first zero byte
word_at : (key : KeyNumbers) (bytes : List ℕ) (len : ℕ) → bytes ≡ key_bytes key → len ≡ prefix_len (λ byte. not (byte == 0)) bytes
    → take len bytes ≡ word_of key
word_at key bytes len is at =
    ap (λ n. take n bytes) at ∙ ap (λ bs. take (prefix_len (λ byte. not (byte == 0)) bs) bs) is

pub returns-in_err-key : goal.returns-in_err-key
returns-in_err-key c =
    no_key (numbers c.args.k0 c.args.k1 c.args.k2 c.args.k3) _ _
    (word_at _ _ _ c.number_bytes-bytes.ensures c.word_len-len.ensures) c.from_residual.ensures c.in_err-key.ensures

pub returns : goal.returns
returns c =
    let key = numbers c.args.k0 c.args.k1 c.args.k2 c.args.k3 in
    key_found key c.in_ok-key.key c.eq.result _ _ (word_at key _ _ c.number_bytes-bytes.ensures c.word_len-len.ensures)
    (c.eq.ensures ∙ ap (λ k. same_each k key) c.key.view_is)
    c.then_some.ensures c.in_ok-key.ensures.0 c.in_ok-key.ensures.1
