-- One list more.
use Rattle.std.proofs.Common.{◌≡◌}
use Rattle.mail_query.specs.Answers.{messages_with}
use Rattle.mail_answers.proofs.Maps.{each_list, has_more}
use Rattle.mail_answers.proofs.lists.ReadLists.put.Goals as goal

pub returns-in-Ok-clause-right : goal.returns-in-Ok-clause-right
returns-in-Ok-clause-right c table is =
    let law = c.keys_are_totally_ordered.ensures in
    each_list (record { total = law.total; ties = law.ties; same = law.same }) c.args.self.now.lists c.insert.new.self c.args.key.now c.args.messages
    c.in-Ok.ensures.updates.0 (λ key list. list.items ≡ messages_with table key) is

pub returns-in-Ok-clause-more : goal.returns-in-Ok-clause-more
returns-in-Ok-clause-more c =
    let law = c.keys_are_totally_ordered.ensures in
    has_more (record { total = law.total; ties = law.ties; same = law.same }) c.args.self.now.lists c.insert.new.self c.args.key.now c.args.messages
    c.in-Ok.ensures.updates.0
