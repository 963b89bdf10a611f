-- A write that joined the empty set, and one that no chain has.
use Rattle.std.proofs.Common.{[], ◌∷◌, replicate, refl, arith}
use Rattle.tx_model.specs.Words.{index_of}
use Rattle.tx_model.specs.WordLaws.{word}
use Rattle.ring_sig.specs.Signature.{place_of}
use Rattle.ring_core.proofs.Chained.{index_opens, index_grows}
use Rattle.ring_core.proofs.laws.chain_examples.Goals as goal

pub returns-clause-found : goal.returns-clause-found
unfolding place_of index_of
returns-clause-found c =
    let laws = c.put_addresses.ensures in
    index_grows laws.apart laws.addresses [] (replicate 512 0) (replicate 256 0) index_opens
    (word 1 5) 316 0 (word 1 5 ∷ []) refl (omega arith) (omega arith) refl refl refl

pub returns-clause-forgotten : goal.returns-clause-forgotten
unfolding place_of
returns-clause-forgotten c indexed = (indexed.chained.heads 316 (omega arith)).others 0 (omega arith) (omega arith) refl
