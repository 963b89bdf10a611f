-- The first unused segment is put in front of the lane's own one.
use Rattle.std.proofs.Common.{◌+◌, ◌≡◌, List, length, sym, ◌∙◌, ap, subst, arith, inl, inr}
use Rattle.tx_model.specs.declared.word.Word.{Word}
use Rattle.tx_model.specs.declared.view.Attempt.{Attempt}
use Rattle.tx_model.specs.declared.view.PassView.{PassView}
use Rattle.tx_heap.specs.Layout.{Sizes, sizes_of, gate_at, base_at, link_at}
use Rattle.tx_heap.specs.Calls.{MadeFresh}
use Rattle.tx_heap.proofs.FreshWrites.{unused_of_full, may_write_made, may_open_fresh, may_write_fresh, write_few, before_within, five_written, made_fresh}
use Rattle.tx_heap.proofs.segments.fresh_segment.Goals as goal

pub first_unused-requires-clause-index : goal.first_unused-requires-clause-index
first_unused-requires-clause-index g c = λ memory good fits. (c.requires.grows memory good fits).index

pub first_unused-requires-clause-unused : goal.first_unused-requires-clause-unused
first_unused-requires-clause-unused g c =
    unused_of_full (g.M.TxMemory.made c.args.mem.now) (g.M.TxMemory.view c.args.pass.now)
    (g.M.TxMemory.attempt c.args.pass.now) c.args.lane c.args.before c.requires.lane c.requires.grows c.requires.full

-- ---- which words may be written
pub write_word-requires-clause-rule : goal.write_word-requires-clause-rule
write_word-requires-clause-rule g c =
    may_open_fresh c.made_well.ensures c.in_ok-fresh.ensures.found c.gate.result
    (c.gate.ensures ∙ ap (λ (sizes : Sizes). gate_at sizes c.in_ok-fresh.fresh) (c.plan-plan.ensures.plan ∙ ap sizes_of c.sense.ensures))

pub write_word-requires-2-clause-rule : goal.write_word-requires-2-clause-rule
write_word-requires-2-clause-rule g c =
    may_write_fresh c.made_well.ensures c.in_ok-fresh.ensures.found c.gate.result c.base.result 1032 (g.M.TxMemory.attempt c.write_word.new.pass)
    (c.gate.ensures ∙ ap (λ (sizes : Sizes). gate_at sizes c.in_ok-fresh.fresh)
    (c.plan-plan.ensures.plan ∙ ap sizes_of c.sense.ensures)) c.write_word.ensures.written
    (c.base.ensures ∙ ap (λ (sizes : Sizes). base_at sizes c.in_ok-fresh.fresh) (c.plan-plan.ensures.plan ∙ ap sizes_of c.sense.ensures))

pub write_word-requires-3-clause-rule : goal.write_word-requires-3-clause-rule
write_word-requires-3-clause-rule g c =
    let at = (c.link.ensures ∙ ap (λ (sizes : Sizes). link_at sizes c.in_ok-fresh.fresh) (c.plan-plan.ensures.plan ∙ ap sizes_of c.sense.ensures)) in
    let within = c.in_ok-fresh.ensures.found.within in
    may_write_made c.made_well.ensures (g.M.TxMemory.attempt c.write_word-2.new.pass) c.link.result (c.args.before + 1) (omega (arith, at, within))
    (inr (omega (arith, at)))

pub write_word-requires-4-clause-rule : goal.write_word-requires-4-clause-rule
write_word-requires-4-clause-rule g c =
    may_write_made c.made_well.ensures (g.M.TxMemory.attempt c.write_word-3.new.pass) c.lane.result (c.in_ok-fresh.fresh + 1)
    (omega (arith, c.lane.ensures, c.requires.lane)) (inl (omega (arith, c.lane.ensures, c.requires.lane)))

pub write_word-requires-5-clause-rule : goal.write_word-requires-5-clause-rule
write_word-requires-5-clause-rule g c =
    may_write_made c.made_well.ensures (g.M.TxMemory.attempt c.write_word-4.new.pass) 0 (c.in_ok-fresh.fresh + 1) (omega arith) (inl (omega arith))

pub overflow_add-before : goal.overflow_add-before
overflow_add-before g c =
    let within = before_within c.requires.lane c.requires.grows c.requires.full c.in_ok-fresh.ensures.found c.pass_knows-2.ensures in
    let many = ap (λ (sizes : Sizes). sizes.segments) (c.plan-plan.ensures.plan ∙ ap sizes_of c.sense.ensures) in
    omega (arith, within, many, c.plan-plan.ensures.limits.segments)

-- ---- the room for them
pub write_word-requires-2-clause-room : goal.write_word-requires-2-clause-room
write_word-requires-2-clause-room g c =
    let few_1 = write_few (g.M.TxMemory.attempt c.first_unused.new.pass)
    (g.M.TxMemory.attempt c.write_word.new.pass) c.gate.result 1 c.write_word.ensures.written in
    omega (arith, c.requires.room, ap (λ (writes : List Word). length writes) c.in_ok-fresh.ensures.found.goes_on.writes, few_1)

pub write_word-requires-3-clause-room : goal.write_word-requires-3-clause-room
write_word-requires-3-clause-room g c =
    let few_1 = write_few (g.M.TxMemory.attempt c.first_unused.new.pass)
    (g.M.TxMemory.attempt c.write_word.new.pass) c.gate.result 1 c.write_word.ensures.written in
    let few_2 = write_few (g.M.TxMemory.attempt c.write_word.new.pass)
    (g.M.TxMemory.attempt c.write_word-2.new.pass) c.base.result 1032 c.write_word-2.ensures.written in
    omega (arith, c.requires.room, ap (λ (writes : List Word). length writes) c.in_ok-fresh.ensures.found.goes_on.writes, few_1, few_2)

pub write_word-requires-4-clause-room : goal.write_word-requires-4-clause-room
write_word-requires-4-clause-room g c =
    let few_1 = write_few (g.M.TxMemory.attempt c.first_unused.new.pass)
    (g.M.TxMemory.attempt c.write_word.new.pass) c.gate.result 1 c.write_word.ensures.written in
    let few_2 = write_few (g.M.TxMemory.attempt c.write_word.new.pass)
    (g.M.TxMemory.attempt c.write_word-2.new.pass) c.base.result 1032 c.write_word-2.ensures.written in
    let few_3 = write_few (g.M.TxMemory.attempt c.write_word-2.new.pass) (g.M.TxMemory.attempt c.write_word-3.new.pass) c.link.result
    (c.args.before + 1) c.write_word-3.ensures.written in
    omega (arith, c.requires.room, ap (λ (writes : List Word). length writes) c.in_ok-fresh.ensures.found.goes_on.writes, few_1, few_2, few_3)

pub write_word-requires-5-clause-room : goal.write_word-requires-5-clause-room
write_word-requires-5-clause-room g c =
    let few_1 = write_few (g.M.TxMemory.attempt c.first_unused.new.pass)
    (g.M.TxMemory.attempt c.write_word.new.pass) c.gate.result 1 c.write_word.ensures.written in
    let few_2 = write_few (g.M.TxMemory.attempt c.write_word.new.pass)
    (g.M.TxMemory.attempt c.write_word-2.new.pass) c.base.result 1032 c.write_word-2.ensures.written in
    let few_3 = write_few (g.M.TxMemory.attempt c.write_word-2.new.pass) (g.M.TxMemory.attempt c.write_word-3.new.pass) c.link.result
    (c.args.before + 1) c.write_word-3.ensures.written in
    let few_4 = write_few (g.M.TxMemory.attempt c.write_word-3.new.pass) (g.M.TxMemory.attempt c.write_word-4.new.pass) c.lane.result
    (c.in_ok-fresh.fresh + 1) c.write_word-4.ensures.written in
    omega (arith, c.requires.room, ap (λ (writes : List Word). length writes) c.in_ok-fresh.ensures.found.goes_on.writes, few_1, few_2, few_3, few_4)

-- ---- what they leave
pub returns-clause-fresh : goal.returns-clause-fresh
returns-clause-fresh g c =
    let made = g.M.TxMemory.made c.args.mem.now in
    let start = g.M.TxMemory.attempt c.args.pass.now in
    let old = g.M.TxMemory.view c.args.pass.now in
    let is = five_written (sizes_of made.sense) c.args.lane c.args.before c.in_ok-fresh.fresh
    (g.M.TxMemory.attempt c.first_unused.new.pass) (g.M.TxMemory.attempt c.write_word.new.pass) (g.M.TxMemory.attempt c.write_word-2.new.pass)
    (g.M.TxMemory.attempt c.write_word-3.new.pass) (g.M.TxMemory.attempt c.write_word-4.new.pass) (g.M.TxMemory.attempt c.write_word-5.new.pass)
    c.gate.result c.base.result c.link.result c.lane.result
    (c.gate.ensures ∙ ap (λ (sizes : Sizes). gate_at sizes c.in_ok-fresh.fresh) (c.plan-plan.ensures.plan ∙ ap sizes_of c.sense.ensures))
    (c.base.ensures ∙ ap (λ (sizes : Sizes). base_at sizes c.in_ok-fresh.fresh) (c.plan-plan.ensures.plan ∙ ap sizes_of c.sense.ensures))
    (c.link.ensures ∙ ap (λ (sizes : Sizes). link_at sizes c.in_ok-fresh.fresh) (c.plan-plan.ensures.plan ∙ ap sizes_of c.sense.ensures)) c.lane.ensures
    c.write_word.ensures.written c.write_word-2.ensures.written c.write_word-3.ensures.written c.write_word-4.ensures.written c.write_word-5.ensures.written in
    let same : g.M.TxMemory.view c.write_word-5.new.pass ≡ g.M.TxMemory.view c.first_unused.new.pass =
    c.write_word-5.ensures.same ∙ c.write_word-4.ensures.same ∙ c.write_word-3.ensures.same ∙ c.write_word-2.ensures.same ∙ c.write_word.ensures.same in
    subst (λ (view : PassView). MadeFresh made old view start (g.M.TxMemory.attempt c.write_word-5.new.pass) c.args.lane c.args.before c.in_ok-fresh.fresh)
    (sym same)
    (subst (λ (attempt : Attempt). MadeFresh made old (g.M.TxMemory.view c.first_unused.new.pass) start attempt c.args.lane c.args.before c.in_ok-fresh.fresh)
    (sym is)
    (made_fresh c.requires.lane c.requires.grows c.requires.full c.in_ok-fresh.ensures.found c.pass_knows-2.ensures))
