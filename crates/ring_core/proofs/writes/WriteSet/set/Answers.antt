use Rattle.std.proofs.Common.{◌∙◌, ap, arith, rules}
use Rattle.tx_model.specs.Words.{index_of}
use Rattle.tx_model.proofs.lemmas.WordIndexes.{index_found}
use Rattle.ring_core.proofs.Chained.{index_kept}
use Rattle.ring_core.proofs.writes.WriteSet.set.Goals as goal

pub index_mut-requires : goal.index_mut-requires
index_mut-requires c =
    let long = c.self.inside.items.ok in
    let below = (index_found c.self.inside.items.items c.args.write.addr c.args.index (ap (λ ws. index_of ws c.args.write.addr) c.self.view_is ∙ c.requires)).0
    in
    omega (arith, long, below)

pub invariant_of-self : goal.invariant_of-self
invariant_of-self c = (
  c.self.invariant.0,
  c.self.invariant.1,
  index_kept c.put_addresses.ensures.apart c.put_addresses.ensures.addresses _ _ _ c.self.invariant.2 c.args.write c.args.index
      (ap (λ ws. index_of ws c.args.write.addr) c.self.view_is ∙ c.requires),
)

pub returns : goal.returns
returns c = search rules
