-- The index is that of the word which comes next at this stage.
use Rattle.std.proofs.Common.{◌≡◌, sym, ◌∙◌}
use Rattle.ring_words.specs.Layout.{index_at}
use Rattle.ring_words.proofs.ring.Ring.store_at.Goals as goal

pub store_to-requires-clause-to : goal.store_to-requires-clause-to
store_to-requires-clause-to g c =
    let shape : c.args.pass.now.local.shape ≡ c.args.self.now.shape = c.requires.of.shaped ∙ c.args.self.now.told.1 in
    c.index_of-to.ensures ∙ (λ i. index_at (sym shape i) (c.next_at.ensures i))
