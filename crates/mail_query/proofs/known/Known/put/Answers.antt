use Rattle.mail_query.specs.Bits.{IsSetOf, IsFoundSized, found_has, has_word}
use Rattle.mail_query.proofs.KeyOrder.{key_order}
use Rattle.mail_query.proofs.Asked.{each_entry, has_more, found_right}
use Rattle.mail_query.proofs.known.Known.put.Goals as goal

pub returns-clause-size : goal.returns-clause-size
returns-clause-size c sized =
    let law = c.keys_are_totally_ordered.ensures in
    each_entry (key_order law.total law.ties law.same) c.args.self.now.found c.insert.new.self c.args.key.now c.in_ok-found.found
    c.in_ok-insert.ensures.updates.0
    (λ key set. IsFoundSized c.args.count set) c.in_ok-found.ensures.size sized

pub returns-clause-right : goal.returns-clause-right
returns-clause-right c table is right =
    let law = c.keys_are_totally_ordered.ensures in
    each_entry (key_order law.total law.ties law.same) c.args.self.now.found c.insert.new.self c.args.key.now c.in_ok-found.found
    c.in_ok-insert.ensures.updates.0
    (λ key set. IsSetOf c.args.count (found_has set) (has_word table key))
    (found_right c.args.count c.in_ok-found.found c.args.messages.items table c.args.key.now c.in_ok-found.ensures.numbers is) right

pub returns-clause-more : goal.returns-clause-more
returns-clause-more c =
    let law = c.keys_are_totally_ordered.ensures in
    has_more (key_order law.total law.ties law.same) c.args.self.now.found c.insert.new.self c.args.key.now c.in_ok-found.found c.in_ok-insert.ensures.updates.0
