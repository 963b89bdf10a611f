use Rattle.std.proofs.Common.{◌≡◌, ◌++◌, List, ap, ◌∙◌, subst}
use Rattle.mail_words.specs.Key.{KeyNumbers}
use Rattle.mail_query.specs.Answers.{keys_with}
use Rattle.mail_query.specs.Bits.{Knows}
use Rattle.mail_query.specs.Truth.{satisfies, keys_in}
use Rattle.mail_query.proofs.Hits.{numbers_passing}
use Rattle.mail_query.proofs.evaluation.evaluate.Goals as goal

pub returns-clause-answer : goal.returns-clause-answer
returns-clause-answer g c table fit =
    let told = c.in_ok-known.ensures.answer table fit in
    let q = c.args.q.now in
    let keys : c.deref.result.now ≡ keys_in q = c.deref.ensures.value ∙ c.in_ok-add_keys.ensures ∙ ap (λ l. l ++ keys_in q) c.new-keys.ensures.items in
    let knows = subst (λ (ks : List KeyNumbers). Knows c.args.count c.in_ok-known.known.found ks table) keys told.1 in (
      told.0,
      c.in_ok-numbers.ensures
          ∙ numbers_passing c.args.count c.in_ok-set.set.words.items (λ number. satisfies q (keys_with table number)) (c.in_ok-set.ensures.hits table knows),
    )
