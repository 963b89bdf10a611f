use Rattle.std.proofs.Common.{[], ◌∷◌, ◌++◌, codes, ap, ◌∙◌}
use Rattle.std.specs.Fmt.{digits}
use Rattle.mbox_cut.specs.Examples.{three_messages}
use Rattle.mail_words.specs.Key.{key_of}
use Rattle.mail_query.specs.Answers.{answer_line}
use Rattle.mail_query.specs.declared.query.Query.TheVariants.{Word}
use Rattle.mail_search.specs.Answers.{hits_of}
use Rattle.mail_search.proofs.Worked.{word_hits}
use Rattle.mail_search.proofs.laws.answers_over_three_messages.Goals as goal

pub returns : goal.returns
unfolding digits
returns c =
    let word = c.truth_by_cases.ensures.word in
    ap (λ hits. answer_line hits ++ (answer_line (hits_of three_messages (Word (key_of (codes "alice")))) ++ []))
    (word_hits word three_messages (key_of (codes "ring")))
    ∙ ap (λ hits. answer_line (1 ∷ 3 ∷ []) ++ (answer_line hits ++ [])) (word_hits word three_messages (key_of (codes "alice")))
