use Rattle.std.proofs.Common.{◌≡◌, true, nat_lt, nat_le, rules, tests, arith, length}
use Rattle.std.specs.List.{list_all}
use Rattle.std.specs.Char.{is_ascii_alphanumeric}
use Rattle.std.proofs.lemmas.Iterator.{YieldsList-from_slice}
use Rattle.std.proofs.lemmas.Iterator.Search.{all_from_yields_List}
use Rattle.std.proofs.lemmas.Bool.{le-leb}
use Rattle.mail_words.proofs.key.is_word.Goals as goal

pub returns-then-word-le-MAX_WORD_LEN : goal.returns-then-word-le-MAX_WORD_LEN
returns-then-word-le-MAX_WORD_LEN c =
    let word = c.args.word.now in
    let all : c.all.result ≡ list_all is_ascii_alphanumeric word =
    all_from_yields_List is_ascii_alphanumeric _ _ _ c.all.ensures.ran (YieldsList-from_slice word cc) (λ x b q k. search (rules, tests)) in
    let longer : nat_lt 0 (length word) ≡ true = grind arith in
    let shorter : nat_le (length word) 32 ≡ true = le-leb (length word) 32 (omega arith) in
    rw (longer, shorter) all

pub returns-else-word-le-MAX_WORD_LEN : goal.returns-else-word-le-MAX_WORD_LEN
returns-else-word-le-MAX_WORD_LEN c = search rules
