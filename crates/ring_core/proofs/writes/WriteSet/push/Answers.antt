use Rattle.std.proofs.Common.{◌≡◌, ◌<◌, None, length, sym, ◌∙◌, ap, subst, arith}
use Rattle.tx_model.specs.Words.{index_of}
use Rattle.ring_core.proofs.Chained.{index_grows}
use Rattle.ring_core.proofs.writes.WriteSet.push.Goals as goal

pub invariant_of-self : goal.invariant_of-self
invariant_of-self c =
    let room = c.self.invariant.1 in
    let long = c.self.inside.items.ok.0 in
    let laws = c.put_addresses.ensures in
    let new : index_of c.self.inside.items.items c.args.write.addr ≡ None = ap (λ ws. index_of ws c.args.write.addr) c.self.view_is ∙ c.requires.new in
    let below : length c.self.inside.items.items < 256 = subst (λ ws. length ws < 256) (sym c.self.view_is) c.requires.room in (
      omega (arith, c.push_reserved.ensures.len, long, below),
      omega (arith, c.push_reserved.ensures.capacity, room),
      index_grows laws.apart laws.addresses _ _ _ c.self.invariant.2 c.args.write c.place-at.result c.len-index.result _ new c.place-at.ensures.within below
          c.place-at.ensures.place (c.len-index.ensures ∙ long) c.push_reserved.ensures.items,
    )
