use Rattle.std.proofs.Common.{◌≡◌, ◌==◌, length, rules, tests, ◌∙◌}
use Rattle.std.proofs.lemmas.Iterator.{YieldsList-from_slice}
use Rattle.std.proofs.lemmas.Iterator.Search.{position_from_yields_List}
use Rattle.mail_words.proofs.Keys.{first_zero-is}
use Rattle.mail_words.proofs.key.word_len.Goals as goal

pub returns : goal.returns
returns c =
    let bytes = c.args.bytes.now in
    let long : length bytes ≡ 32 = search rules in
    c.unwrap_or.ensures
    ∙ first_zero-is bytes c.position.result long
    (position_from_yields_List (λ byte. byte == 0) _ _ c.position.result c.position.ensures.ran (YieldsList-from_slice bytes cc)
    (λ x b q k. search (rules, tests)))
