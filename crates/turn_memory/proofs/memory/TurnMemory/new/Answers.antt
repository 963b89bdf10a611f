-- The table opens with the heap, and the first pass knows all.
use Rattle.std.proofs.Common.{◌∙◌, ◌∷◌, ◌++◌, [], Some, sym, ap, subst, refl}
use Rattle.atomic_table.specs.Table.{opening}
use Rattle.tx_model.specs.Made.{Made, IsMade}
use Rattle.turn_memory.specs.declared.table.About.{About}
use Rattle.turn_memory.specs.Heap.{resting}
use Rattle.turn_memory.specs.Lock.{IsTable, made_of, first_known}
use Rattle.turn_memory.proofs.Opens.{new_keeps, new_pass, told_made}
use Rattle.turn_memory.proofs.memory.TurnMemory.new.Goals as goal

pub new-requires-2 : goal.new-requires-2
new-requires-2 g c =
    let about : About g.row.S.Denot = record { sense = c.of.result; opening = c.of-2.result; regions = c.of-3.result; life = c.args.life } in
    let same = told_made about c.args.sense c.args.first c.args.regions c.args.life c.of.ensures c.of-2.ensures c.of-3.ensures refl in
    let made = subst (IsMade g.S.Sense.allows g.S.Sense.good) (sym same) c.requires in
    let slots = c.in-Ok.ensures.items ∙ ap (λ items. items ++ Some c.in_ok-heap.heap ∷ []) c.new-slots.ensures.items in
    let heap = c.in_ok-heap.ensures ∙ ap (λ (m : Made g.row.S.Denot). resting m.opening 0) (sym same) in
    subst (λ items. IsTable g.S.Sense.good g.S.Sense.budget about (opening (0 ∷ []) items (first_known about))) (sym slots)
    (new_keeps g.S.Sense.budget made c.in_ok-heap.heap heap)

pub returns-in-Ok-new-clause-of : goal.returns-in-Ok-new-clause-of
returns-in-Ok-new-clause-of g c =
    let about : About g.row.S.Denot = record { sense = c.of.result; opening = c.of-2.result; regions = c.of-3.result; life = c.args.life } in
    let same = told_made about c.args.sense c.args.first c.args.regions c.args.life c.of.ensures c.of-2.ensures c.of-3.ensures refl in
    let made = subst (IsMade g.S.Sense.allows g.S.Sense.good) (sym same) c.requires in
    let told = c.in-Ok-new.ensures.ok in
    let key = told.5 in
    let first = sym (ap first_known key) in
    new_pass g.S.Sense.budget (subst (λ a. IsMade g.S.Sense.allows g.S.Sense.good (made_of a)) (sym key) made) _ _ told.2 (told.4 ∙ λ i. (first i, [])) refl
