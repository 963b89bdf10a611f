use Rattle.std.proofs.Common.{◌≡◌, ◌++◌, List, sym, ap, ◌∙◌, subst, append_assoc, OnOk, take}
use Rattle.std.specs.List.{flat_map}
use Rattle.mail_words.specs.Key.{KeyNumbers}
use Rattle.mail_query.specs.Truth.{keys_in}
use Rattle.mail_query.proofs.Evaluated.{keys_all, keys_any}
use Rattle.mail_query.proofs.Hits.{keys_more}
use Rattle.mail_answers.proofs.keys.+keys.Goals as goal

pub add_keys-returns-in-All : goal.add_keys-returns-in-All
add_keys-returns-in-All t c =
    subst (λ (keys : List KeyNumbers). OnOk c.add_keys_of.result (c.add_keys_of.new.keys.items ≡ c.args.keys.now.items ++ keys))
    (sym (ap keys_in c.in-All.is ∙ keys_all c.in-All.of.members)) c.add_keys_of.ensures

pub add_keys-returns-in-Any : goal.add_keys-returns-in-Any
add_keys-returns-in-Any t c =
    subst (λ (keys : List KeyNumbers). OnOk c.add_keys_of-in-Any.result (c.add_keys_of-in-Any.new.keys.items ≡ c.args.keys.now.items ++ keys))
    (sym (ap keys_in c.in-Any.is ∙ keys_any c.in-Any.of.members)) c.add_keys_of-in-Any.ensures

pub add_keys_of-loop-index-preserved : goal.add_keys_of-loop-index-preserved
add_keys_of-loop-index-preserved t c =
    let index = c.loop-index.index in
    let members = c.args.queries.now.members in
    let q = c.at.result.now in
    c.in_ok-add_keys.ensures ∙ ap (λ keys. keys ++ keys_in q) c.loop-index.invariant
    ∙ append_assoc c.args.keys.now.items (flat_map keys_in (take index members)) (keys_in q)
    ∙ ap (λ keys. c.args.keys.now.items ++ keys) (sym (keys_more members index q c.at.ensures))
