use Rattle.std.proofs.Common.{◌∙◌}
use Rattle.mail_query.proofs.KeyOrder.{key_order}
use Rattle.mail_query.proofs.Searched.{searched_keys}
use Rattle.mail_query.proofs.truth.has_key.Goals as goal

pub returns : goal.returns
returns c =
    let law = c.keys_are_totally_ordered.ensures in
    c.is_ok.ensures.value ∙ searched_keys (key_order law.total law.ties law.same) c.args.keys.now c.args.key.now c.binary_search.result c.requires
    c.binary_search.ensures.bound c.binary_search.ensures.position
