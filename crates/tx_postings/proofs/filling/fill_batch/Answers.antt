-- A batch is looked for, put, and the need lowered.
use Rattle.std.proofs.Common.{◌-◌, List, length, take, drop, sym, ◌∙◌, ap, subst, arith}
use Rattle.std.specs.List.Sorted.{IsStrictlySortedBy}
use Rattle.std.proofs.lemmas.Result.{err_from_is_err_and}
use Rattle.mail_words.specs.Key.{KeyNumbers, key_cmp}
use Rattle.tx_model.specs.declared.view.Attempt.{Attempt}
use Rattle.tx_model.specs.declared.view.PassView.{PassView}
use Rattle.tx_model.specs.Calls.{with_write}
use Rattle.tx_heap.specs.Index.{list_of}
use Rattle.tx_heap.proofs.lemmas.Stops.{stopped_reading}
use Rattle.tx_postings.specs.Filled.{Filled}
use Rattle.tx_postings.proofs.BatchSteps.{may_read_need, may_write_need, need_within, filled_nothing, keys_few, once, not_filled, none_there, put_stopped, put_few_words, filled_some}
use Rattle.tx_postings.proofs.filling.fill_batch.Goals as goal

pub read-requires-clause-rule : goal.read-requires-clause-rule
read-requires-clause-rule g c =
    may_read_need (g.M.TxMemory.attempt c.args.pass.now) c.args.message c.need.result c.made_well.ensures c.requires.to_last c.need.ensures

pub returns-in_err-need-clause-refused : goal.returns-in_err-need-clause-refused
returns-in_err-need-clause-refused g c =
    let p = err_from_is_err_and c.from_residual.result c.from_residual.ensures.1 in
    rw (p.1, p.2) (stopped_reading _ c.pass_knows.ensures c.requires.active c.in_err-need.ensures.ended c.in_err-need.ensures.cause_stop)

pub returns-then-need-eq0-clause-filled : goal.returns-then-need-eq0-clause-filled
returns-then-need-eq0-clause-filled g c =
    filled_nothing c.requires.new c.requires.from_one c.requires.to_last c.need.ensures c.pass_knows.ensures c.requires.active c.in_ok-need.ensures.read
    c.pass_knows-2.ensures c.if-need-eq0.true

pub next_keys-keys-requires-clause-need : goal.next_keys-keys-requires-clause-need
next_keys-keys-requires-clause-need g c =
    let within = need_within c.requires.new c.requires.from_one c.requires.to_last c.need.ensures c.pass_knows.ensures c.requires.active
    c.in_ok-need.ensures.read c.pass_knows-2.ensures in
    omega (arith, within, ap (λ (ls : List (List KeyNumbers)). length (list_of ls c.args.message)) (c.lists.ensures ∙ c.sense-2.ensures))

pub returns-in_err-look_up-clause-refused : goal.returns-in_err-look_up-clause-refused
returns-in_err-look_up-clause-refused g c =
    let lists_are = c.lists.ensures ∙ c.sense-2.ensures in
    let need = c.in_ok-need.need in
    let keys_are = c.next_keys-keys.ensures.keys ∙ ap
    (λ (ls : List (List KeyNumbers)). take 16 (drop (length (list_of ls c.args.message) - need) (list_of ls c.args.message))) lists_are in
    let rises = subst (λ (ls : List (List KeyNumbers)). IsStrictlySortedBy key_cmp (list_of ls c.args.message)) lists_are c.next_keys-keys.ensures.rises in
    let p = err_from_is_err_and c.from_residual-in_err-look_up.result c.from_residual-in_err-look_up.ensures.1 in
    rw (p.1, p.2)
    (not_filled c.requires.new c.requires.from_one c.requires.to_last c.need.ensures c.pass_knows.ensures c.requires.active c.in_ok-need.ensures.read
    c.pass_knows-2.ensures keys_are rises (g.M.TxMemory.shows c.args.mem.now)
    (g.M.TxMemory.view c.look_up.new.pass) c.in_err-look_up.field-0.0 c.in_err-look_up.ensures.refused)

pub put_all-requires-clause-keys : goal.put_all-requires-clause-keys
put_all-requires-clause-keys g c =
    let lists_are = c.lists.ensures ∙ c.sense-2.ensures in
    let need = c.in_ok-need.need in
    let keys_are = c.next_keys-keys.ensures.keys ∙ ap
    (λ (ls : List (List KeyNumbers)). take 16 (drop (length (list_of ls c.args.message) - need) (list_of ls c.args.message))) lists_are in
    let rises = subst (λ (ls : List (List KeyNumbers)). IsStrictlySortedBy key_cmp (list_of ls c.args.message)) lists_are c.next_keys-keys.ensures.rises in
    (keys_few c.requires.new c.requires.from_one c.requires.to_last c.need.ensures c.pass_knows.ensures c.requires.active c.in_ok-need.ensures.read
    c.pass_knows-2.ensures keys_are rises).0

pub put_all-requires-clause-offsets : goal.put_all-requires-clause-offsets
put_all-requires-clause-offsets g c =
    let lists_are = c.lists.ensures ∙ c.sense-2.ensures in
    let need = c.in_ok-need.need in
    let keys_are = c.next_keys-keys.ensures.keys ∙ ap
    (λ (ls : List (List KeyNumbers)). take 16 (drop (length (list_of ls c.args.message) - need) (list_of ls c.args.message))) lists_are in
    let rises = subst (λ (ls : List (List KeyNumbers)). IsStrictlySortedBy key_cmp (list_of ls c.args.message)) lists_are c.next_keys-keys.ensures.rises in
    let few = (keys_few c.requires.new c.requires.from_one c.requires.to_last c.need.ensures c.pass_knows.ensures c.requires.active c.in_ok-need.ensures.read
    c.pass_knows-2.ensures keys_are rises).0 in
    omega (arith, few, c.in_ok-look_up.ensures.many)

pub put_all-requires-clause-once : goal.put_all-requires-clause-once
put_all-requires-clause-once g c =
    let lists_are = c.lists.ensures ∙ c.sense-2.ensures in
    let need = c.in_ok-need.need in
    let keys_are = c.next_keys-keys.ensures.keys ∙ ap
    (λ (ls : List (List KeyNumbers)). take 16 (drop (length (list_of ls c.args.message) - need) (list_of ls c.args.message))) lists_are in
    let rises = subst (λ (ls : List (List KeyNumbers)). IsStrictlySortedBy key_cmp (list_of ls c.args.message)) lists_are c.next_keys-keys.ensures.rises in
    once c.requires.new c.requires.from_one c.requires.to_last c.need.ensures c.pass_knows.ensures c.requires.active c.in_ok-need.ensures.read
    c.pass_knows-2.ensures keys_are rises

pub put_all-requires-clause-new : goal.put_all-requires-clause-new
put_all-requires-clause-new g c =
    let lists_are = c.lists.ensures ∙ c.sense-2.ensures in
    let need = c.in_ok-need.need in
    let keys_are = c.next_keys-keys.ensures.keys ∙ ap
    (λ (ls : List (List KeyNumbers)). take 16 (drop (length (list_of ls c.args.message) - need) (list_of ls c.args.message))) lists_are in
    let rises = subst (λ (ls : List (List KeyNumbers)). IsStrictlySortedBy key_cmp (list_of ls c.args.message)) lists_are c.next_keys-keys.ensures.rises in
    none_there c.requires.new c.requires.from_one c.requires.to_last c.need.ensures c.pass_knows.ensures c.requires.active c.in_ok-need.ensures.read
    c.pass_knows-2.ensures keys_are rises c.in_ok-look_up.ensures.looked

pub returns-in_err-put_all-clause-refused : goal.returns-in_err-put_all-clause-refused
returns-in_err-put_all-clause-refused g c =
    let lists_are = c.lists.ensures ∙ c.sense-2.ensures in
    let need = c.in_ok-need.need in
    let keys_are = c.next_keys-keys.ensures.keys ∙ ap
    (λ (ls : List (List KeyNumbers)). take 16 (drop (length (list_of ls c.args.message) - need) (list_of ls c.args.message))) lists_are in
    let rises = subst (λ (ls : List (List KeyNumbers)). IsStrictlySortedBy key_cmp (list_of ls c.args.message)) lists_are c.next_keys-keys.ensures.rises in
    let p = err_from_is_err_and c.from_residual-in_err-put_all.result c.from_residual-in_err-put_all.ensures.1 in
    rw (p.1, p.2)
    (put_stopped c.requires.new c.requires.from_one c.requires.to_last c.need.ensures c.pass_knows.ensures c.requires.active c.in_ok-need.ensures.read
    c.pass_knows-2.ensures keys_are rises c.in_ok-look_up.ensures.looked c.in_err-put_all.ensures.cause)

pub overflow_sub-left : goal.overflow_sub-left
overflow_sub-left g c =
    let lists_are = c.lists.ensures ∙ c.sense-2.ensures in
    let need = c.in_ok-need.need in
    let keys_are = c.next_keys-keys.ensures.keys ∙ ap
    (λ (ls : List (List KeyNumbers)). take 16 (drop (length (list_of ls c.args.message) - need) (list_of ls c.args.message))) lists_are in
    let rises = subst (λ (ls : List (List KeyNumbers)). IsStrictlySortedBy key_cmp (list_of ls c.args.message)) lists_are c.next_keys-keys.ensures.rises in
    (keys_few c.requires.new c.requires.from_one c.requires.to_last c.need.ensures c.pass_knows.ensures c.requires.active c.in_ok-need.ensures.read
    c.pass_knows-2.ensures keys_are rises).1

pub write_word-requires-clause-rule : goal.write_word-requires-clause-rule
write_word-requires-clause-rule g c =
    may_write_need (g.M.TxMemory.attempt c.put_all.new.pass) c.args.message c.need-2.result
    (c.in_ok-need.need - length c.next_keys-keys.result.now) c.made_well.ensures c.requires.to_last c.need-2.ensures

pub write_word-requires-clause-room : goal.write_word-requires-clause-room
write_word-requires-clause-room g c =
    let lists_are = c.lists.ensures ∙ c.sense-2.ensures in
    let need = c.in_ok-need.need in
    let keys_are = c.next_keys-keys.ensures.keys ∙ ap
    (λ (ls : List (List KeyNumbers)). take 16 (drop (length (list_of ls c.args.message) - need) (list_of ls c.args.message))) lists_are in
    let rises = subst (λ (ls : List (List KeyNumbers)). IsStrictlySortedBy key_cmp (list_of ls c.args.message)) lists_are c.next_keys-keys.ensures.rises in
    let few = put_few_words c.requires.new c.requires.from_one c.requires.to_last c.need.ensures c.pass_knows.ensures c.requires.active
    c.in_ok-need.ensures.read c.pass_knows-2.ensures keys_are rises c.in_ok-look_up.ensures.looked c.if-need-eq0.false c.in_ok-put_all.ensures.put
    c.pass_knows-3.ensures in
    omega (arith, few)

pub returns-clause-filled : goal.returns-clause-filled
returns-clause-filled g c =
    let made = g.M.TxMemory.made c.args.mem.now in
    let lists_are = c.lists.ensures ∙ c.sense-2.ensures in
    let need = c.in_ok-need.need in
    let keys_are = c.next_keys-keys.ensures.keys ∙ ap
    (λ (ls : List (List KeyNumbers)). take 16 (drop (length (list_of ls c.args.message) - need) (list_of ls c.args.message))) lists_are in
    let rises = subst (λ (ls : List (List KeyNumbers)). IsStrictlySortedBy key_cmp (list_of ls c.args.message)) lists_are c.next_keys-keys.ensures.rises in
    let left = need - length c.next_keys-keys.result.now in
    let wrote = c.write_word.ensures.written ∙ ap (λ addr. with_write (g.M.TxMemory.attempt c.put_all.new.pass) addr left)
    (c.need-2.ensures ∙ sym c.need.ensures) in
    subst (λ (view : PassView). Filled made (g.M.TxMemory.view c.args.pass.now) view (g.M.TxMemory.attempt c.args.pass.now)
    (g.M.TxMemory.attempt c.write_word.new.pass) c.args.message left) (sym c.write_word.ensures.same)
    (subst (λ (attempt : Attempt). Filled made (g.M.TxMemory.view c.args.pass.now) (g.M.TxMemory.view c.put_all.new.pass)
    (g.M.TxMemory.attempt c.args.pass.now) attempt c.args.message left) (sym wrote)
    (filled_some c.requires.new c.requires.from_one c.requires.to_last c.need.ensures c.pass_knows.ensures c.requires.active c.in_ok-need.ensures.read
    c.pass_knows-2.ensures keys_are rises c.in_ok-look_up.ensures.looked c.if-need-eq0.false c.in_ok-put_all.ensures.put c.pass_knows-3.ensures))
