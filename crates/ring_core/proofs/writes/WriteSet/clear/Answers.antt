use Rattle.std.proofs.Common.{◌≡◌, ◌<◌, length, get_or, refl, sym, ◌∙◌, ap, subst, arith}
use Rattle.std.proofs.lemmas.List.{length-map}
use Rattle.tx_model.specs.declared.word.Word.{Word}
use Rattle.tx_model.specs.Words.{addresses}
use Rattle.ring_core.specs.Chains.{IsIndexed}
use Rattle.ring_core.proofs.Chained.{IsEmptying, place_here, emptying_begins, emptying_goes_on, emptying_ends}
use Rattle.ring_core.proofs.writes.WriteSet.clear.Goals as goal

pub loop-index-init : goal.loop-index-init
loop-index-init c = record { items = refl; older = refl; emptying = emptying_begins _ _ _ c.self.invariant.2.chained }

pub loop-index-preserved : goal.loop-index-preserved
loop-index-preserved c =
    let long = c.self.inside.items.ok.0 in
    let below : c.loop-index.index < length c.self.inside.items.items = omega (arith, c.loop-index-test.true, c.len-index-end.ensures, long) in
    let kept = c.loop-index.invariant.items in
    let here =
    place_here c.self.inside.items.items c.loop-index.index c.index.result.now below
    (c.index.ensures ∙ ap (λ v. get_or v.items c.loop-index.index c.index.result.now) kept) in
    record {
      items = c.loop-index.invariant.items;
      older = c.loop-index.invariant.older;
      emptying = emptying_goes_on _ _ c.loop-index.index c.place-at.result
          (c.place-at.ensures.place ∙ here) c.place-at.ensures.within c.loop-index.invariant.emptying;
    }

pub invariant_of-self : goal.invariant_of-self
invariant_of-self c =
    let long = c.self.inside.items.ok.0 in
    let all : c.loop-index.index ≡ length (addresses c.self.inside.items.items) =
    omega (
      arith,
      c.loop-index-test.false,
      c.loop-index.auto.index-end,
      c.len-index-end.ensures,
      long,
      length-map c.self.inside.items.items
          (λ (w : Word). w.addr),
    ) in
    let room = c.self.invariant.1 in (
      omega (arith, c.clear.ensures.len),
      omega (arith, c.clear.ensures.capacity, ap (λ v. v.cap) c.loop-index.invariant.items, room),
      subst (λ ws. IsIndexed ws c.loop-index.self-inside.newest c.loop-index.self-inside.older) (sym c.clear.ensures.items)
          (emptying_ends (addresses c.self.inside.items.items) _ _ (ap length c.loop-index.invariant.older ∙ c.self.invariant.2.chained.room)
          (subst (λ n. IsEmptying (addresses c.self.inside.items.items) c.loop-index.self-inside.newest n) all c.loop-index.invariant.emptying)),
    )
