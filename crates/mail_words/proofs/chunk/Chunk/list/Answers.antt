use Rattle.std.proofs.Common.{◌∙◌, ◌≡◌, ◌-◌, ◌∷◌, [], length, get_or, slice_range, sym, ap, arith, subst}
use Rattle.std.specs.List.Sorted.{IsStrictlySortedBy}
use Rattle.std.proofs.lemmas.List.{get_or_read}
use Rattle.mail_words.specs.Key.{key_cmp}
use Rattle.std.proofs.lemmas.List.Elements.{All-get_or}
use Rattle.mail_words.specs.Lists.{AllRise, AreKeys, AllAreKeys}
use Rattle.mail_words.proofs.Flat.{lies_at}
use Rattle.mail_words.proofs.chunk.Chunk.list.Goals as goal

pub start_of-start-requires : goal.start_of-start-requires
start_of-start-requires c =
    let at = lies_at c.self.inside.ends.items c.self.inside.keys.items c.args.self.now c.args.message c.self.invariant.ends c.self.view_is c.requires.from_one
    c.requires.to_last in
    let inside = at.inside in
    let same = ap length c.deref.ensures.value in
    omega arith

pub index-requires : goal.index-requires
index-requires c =
    let at = lies_at c.self.inside.ends.items c.self.inside.keys.items c.args.self.now c.args.message c.self.invariant.ends c.self.view_is c.requires.from_one
    c.requires.to_last in
    let inside = at.inside in
    let same = c.self.inside.ends.ok.0 in
    omega (arith, same)

pub part_of-requires-clause-order : goal.part_of-requires-clause-order
part_of-requires-clause-order c =
    let at = lies_at c.self.inside.ends.items c.self.inside.keys.items c.args.self.now c.args.message c.self.invariant.ends c.self.view_is c.requires.from_one
    c.requires.to_last in
    let order = at.order in
    let end = get_or_read c.self.inside.ends.items (c.args.message - 1) c.index.result.now at.inside c.index.ensures 0 in
    let start = c.start_of-start.ensures ∙ ap (λ ends. get_or (0 ∷ ends) (c.args.message - 1) 0) c.deref.ensures.value in
    omega (arith, end, start)

pub part_of-requires-clause-inside : goal.part_of-requires-clause-inside
part_of-requires-clause-inside c =
    let at = lies_at c.self.inside.ends.items c.self.inside.keys.items c.args.self.now c.args.message c.self.invariant.ends c.self.view_is c.requires.from_one
    c.requires.to_last in
    let fits = at.fits in
    let end = get_or_read c.self.inside.ends.items (c.args.message - 1) c.index.result.now at.inside c.index.ensures 0 in
    let same = ap length c.deref-2.ensures.value in
    omega (arith, end, same)

list : (c : goal.After-part_of) → c.part_of.result.now ≡ get_or c.args.self.now (c.args.message - 1) []
list c =
    let at = lies_at c.self.inside.ends.items c.self.inside.keys.items c.args.self.now c.args.message c.self.invariant.ends c.self.view_is c.requires.from_one
    c.requires.to_last in
    let end = get_or_read c.self.inside.ends.items (c.args.message - 1) c.index.result.now at.inside c.index.ensures 0 in
    let start = c.start_of-start.ensures ∙ ap (λ ends. get_or (0 ∷ ends) (c.args.message - 1) 0) c.deref.ensures.value in
    c.part_of.ensures
    ∙ ap (λ keys. slice_range keys c.start_of-start.result c.index.result.now) c.deref-2.ensures.value
    ∙ ap (λ n. slice_range c.self.inside.keys.items n c.index.result.now) start
    ∙ ap (λ n. slice_range c.self.inside.keys.items (get_or (0 ∷ c.self.inside.ends.items) (c.args.message - 1) 0) n) end
    ∙ at.list

pub returns-clause-list : goal.returns-clause-list
returns-clause-list c = list c

pub returns-clause-rises : goal.returns-clause-rises
returns-clause-rises c =
    let first = c.requires.from_one in
    let last = c.requires.to_last in
    let all : AllRise c.args.self.now = subst AllRise c.self.view_is c.self.invariant.rise in
    subst (IsStrictlySortedBy key_cmp) (sym (list c)) (All-get_or (IsStrictlySortedBy key_cmp) c.args.self.now (c.args.message - 1) [] (omega arith) all)

pub returns-clause-keys : goal.returns-clause-keys
returns-clause-keys c =
    let first = c.requires.from_one in
    let last = c.requires.to_last in
    let all : AllAreKeys c.args.self.now = subst AllAreKeys c.self.view_is c.self.invariant.keys in
    subst AreKeys (sym (list c)) (All-get_or AreKeys c.args.self.now (c.args.message - 1) [] (omega arith) all)
