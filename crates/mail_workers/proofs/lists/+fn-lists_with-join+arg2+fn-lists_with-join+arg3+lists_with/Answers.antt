use Rattle.std.proofs.Common.{arith, ◌≡◌, ◌+◌, ◌++◌, ◌<◌, List, IfOk, rules, subst, sym, ap, ap₂, ◌∙◌}
use Rattle.std.proofs.lemmas.Grind.{common_steps}
use Rattle.std.proofs.lemmas.List.{take-append-drop}
use Rattle.mail_words.specs.Key.{KeyNumbers}
use Rattle.mail_words.specs.Lists.{word_lists, postings_in}
use Rattle.mail_words.specs.declared.lists.ListsError.{ListsError}
use Rattle.mail_words.proofs.Lemmas.{word_lists-append, postings_in-append}
use Rattle.mbox_cut.specs.Exactly.{ComesExactly}
use Rattle.mail_workers.proofs.lists.+fn-lists_with-join+arg2+fn-lists_with-join+arg3+lists_with.Goals as goal

pub returns-clause-lists : goal.returns-clause-lists
returns-clause-lists g t c =
    let bytes = c.args.bytes.now in
    let front = c.split_at.result.0.now in
    let back = c.split_at.result.1.now in
    let lists : c.in_ok-first.field-0 ≡ word_lists bytes front = search rules in
    let more : c.in_ok-second.field-0 ≡ word_lists bytes back = search rules in
    let spans : front ++ back ≡ c.args.spans.now =
    ap₂ ◌++◌ c.split_at.ensures.front c.split_at.ensures.back ∙ take-append-drop c.middle_of.result c.args.spans.now in
    let whole : c.in_ok-first.field-0 ++ c.in_ok-second.field-0 ≡ word_lists bytes c.args.spans.now =
    ap₂ ◌++◌ lists more ∙ sym (word_lists-append bytes front back) ∙ ap (word_lists bytes) spans in
    subst (λ (all : List (List KeyNumbers)). IfOk c.together.result (λ read. read ≡ all)) whole c.together.ensures.lists

pub returns-clause-exactly_too_many : goal.returns-clause-exactly_too_many
returns-clause-exactly_too_many g t c =
    let bytes = c.args.bytes.now in
    let front = c.split_at.result.0.now in
    let back = c.split_at.result.1.now in
    let lists : c.in_ok-first.field-0 ≡ word_lists bytes front = search rules in
    let more : c.in_ok-second.field-0 ≡ word_lists bytes back = search rules in
    let spans : front ++ back ≡ c.args.spans.now =
    ap₂ ◌++◌ c.split_at.ensures.front c.split_at.ensures.back ∙ take-append-drop c.middle_of.result c.args.spans.now in
    let sum : postings_in c.in_ok-first.field-0 + postings_in c.in_ok-second.field-0 ≡ postings_in (word_lists bytes c.args.spans.now) =
    ap₂ ◌+◌ (ap postings_in lists) (ap postings_in more)
    ∙ sym (postings_in-append (word_lists bytes front) (word_lists bytes back))
    ∙ ap postings_in (sym (word_lists-append bytes front back) ∙ ap (word_lists bytes) spans) in
    subst (λ n. ComesExactly c.together.result ListsError.TooMany (c.args.limit < n)) sum c.together.ensures.exactly_too_many

pub returns-in_err-first-clause-exactly_too_many : goal.returns-in_err-first-clause-exactly_too_many
returns-in_err-first-clause-exactly_too_many g t c = grind (arith, common_steps)

pub returns-in_err-second-clause-exactly_too_many : goal.returns-in_err-second-clause-exactly_too_many
returns-in_err-second-clause-exactly_too_many g t c = grind (arith, common_steps)

pub together-requires-clause-few : goal.together-requires-clause-few
together-requires-clause-few g t c = grind (arith, common_steps)
