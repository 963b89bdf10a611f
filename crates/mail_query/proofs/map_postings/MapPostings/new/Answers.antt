use Rattle.std.proofs.lemmas.Grind.{common_steps}
use Rattle.std.proofs.Common.{◌+◌, [], ◌∷◌, ◌++◌, refl, ap, ◌∙◌, subst, arith, cond, Some, IsSome}
use Rattle.std.specs.BTreeMap.{get, is_at}
use Rattle.mail_words.specs.Key.{key_cmp}
use Rattle.mail_query.specs.ListTable.{GrewBy, StandsFor, table_of, pairs_of, items_or_none}
use Rattle.mail_query.proofs.KeyOrder.{key_order}
use Rattle.mail_query.proofs.Posted.{grew_by_one, grew_by_key, stands_for, stands_for_one}
use Rattle.mail_query.proofs.map_postings.MapPostings.new.Goals as goal
use Rattle.mail_query.proofs.map_postings.MapPostings.new.Goals.{in-Some+in_ok-push-in-Some, in-None+in_ok-push-in-None+in_ok-insert-in-None+in-Some-1, in-None+in_ok-push-in-None+in_ok-insert-in-None+in-None-1}

pub loop-key-preserved : goal.loop-key-preserved
loop-key-preserved c =
    let law = c.keys_are_totally_ordered.ensures in
    let order = key_order law.total law.ties law.same in
    let key = c.key-item.result in
    let message = c.loop-index.index + 1 in
    let before = c.loop-key.messages in
    let after = c.match-get_mut.messages in
    let one : GrewBy before after (pairs_of (key ∷ []) message) = elim c.match-get_mut.branch [
      | in-Some+in_ok-push-in-Some w ↦
          let found = w.in-Some.ensures.value in
          grew_by_one order before key message w.push.new.self after
          (λ q. ap (λ m. get key_cmp m q) w.messages-is ∙ ((c.get_mut.follows.holds w.push.new.self).3 (subst IsSome found refl)).0 q)
          (w.in_ok-push-in-Some.ensures.items ∙ ap (λ o. items_or_none o ++ message ∷ []) found)
      | in-None+in_ok-push-in-None+in_ok-insert-in-None+in-Some-1 w ↦
          grew_by_one order before key message w.push-in-None.new.self after
          (λ q.
          ap (λ m. get key_cmp m q) w.messages-is ∙ w.in_ok-insert-in-None.ensures.updates.0 q
          ∙ ap (λ m. cond (is_at (key_cmp key) q) (Some w.push-in-None.new.self) (get key_cmp m q)) c.get_mut.follows.holds-at-none)
          (w.in_ok-push-in-None.ensures.items ∙ ap (λ l. l ++ message ∷ []) (w.new-list.ensures.items ∙ ap items_or_none w.in-None.ensures.value))
      | in-None+in_ok-push-in-None+in_ok-insert-in-None+in-None-1 w ↦
          grew_by_one order before key message w.push-in-None.new.self after
          (λ q.
          ap (λ m. get key_cmp m q) w.messages-is ∙ w.in_ok-insert-in-None.ensures.updates.0 q
          ∙ ap (λ m. cond (is_at (key_cmp key) q) (Some w.push-in-None.new.self) (get key_cmp m q)) c.get_mut.follows.holds-at-none)
          (w.in_ok-push-in-None.ensures.items ∙ ap (λ l. l ++ message ∷ []) (w.new-list.ensures.items ∙ ap items_or_none w.in-None.ensures.value))
    ] in
    grew_by_key c.loop-index.messages before after c.list-key-items.result.now c.loop-key.key-index message key key c.loop-key-test.true c.key-item.is
    c.loop-key.invariant one

stands : (c : goal.After-loop-index) → StandsFor c.loop-index.messages (table_of c.args.lists.now)
stands c =
    let law = c.keys_are_totally_ordered.ensures in
    stands_for (key_order law.total law.ties law.same) c.loop-index.index c.args.lists.now c.loop-index.messages
    (omega (arith, c.loop-index-test.false, c.loop-index.auto.index-end, c.messages-index-end.ensures)) c.loop-index.invariant

pub returns-clause-stands : goal.returns-clause-stands
returns-clause-stands c = stands c

pub returns-clause-no_other : goal.returns-clause-no_other
returns-clause-no_other c table other =
    let law = c.keys_are_totally_ordered.ensures in
    stands_for_one (key_order law.total law.ties law.same) c.loop-index.messages table (table_of c.args.lists.now) other (stands c)

pub loop-index-preserved : goal.loop-index-preserved
loop-index-preserved c = grind (arith, common_steps)
