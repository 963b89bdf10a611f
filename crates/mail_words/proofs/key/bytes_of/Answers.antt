use Rattle.std.proofs.Common.{◌≡◌, ◌≤◌, ◌==◌, IsTrue, length, arith, ◌∙◌, ap, subst, not}
use Rattle.std.specs.List.{prefix_len}
use Rattle.mail_words.specs.Key.{key_bytes, word_of, is_key}
use Rattle.mail_words.proofs.Keys.{key_bytes-padded, length-word_of, IsWord-word_of}
use Rattle.mail_words.proofs.key.bytes_of.Goals as goal

key : (c : goal.After-word_len-len) → IsTrue (is_key c.args.key.now)
key c = subst (λ k. IsTrue (is_key k)) c.key.view_is c.key.invariant

bytes : (c : goal.After-word_len-len) → c.number_bytes-bytes.result ≡ key_bytes c.args.key.now
bytes c = c.number_bytes-bytes.ensures ∙ ap key_bytes c.key.view_is

len : (c : goal.After-word_len-len) → c.word_len-len.result ≡ length (word_of c.args.key.now)
len c =
    c.word_len-len.ensures ∙ ap (prefix_len (λ byte. not (byte == 0))) (bytes c) ∙ length-word_of c.args.key.now

pub returns-clause-len : goal.returns-clause-len
returns-clause-len c = len c

pub returns-clause-bytes : goal.returns-clause-bytes
returns-clause-bytes c = bytes c ∙ key_bytes-padded c.args.key.now (key c)

pub returns-clause-longer : goal.returns-clause-longer
returns-clause-longer c =
    let is = len c in
    let word = IsWord-word_of c.args.key.now (key c) in
    let some : 1 ≤ length (word_of c.args.key.now) = word.longer in
    omega (arith, is)

pub returns-clause-shorter : goal.returns-clause-shorter
returns-clause-shorter c =
    let is = len c in
    let word = IsWord-word_of c.args.key.now (key c) in
    let few : length (word_of c.args.key.now) ≤ 32 = word.shorter in
    omega (arith, is)
