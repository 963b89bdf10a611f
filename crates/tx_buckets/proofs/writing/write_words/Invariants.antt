-- The first words are written.
use Rattle.std.proofs.Common.{◌≡◌, take}
use Rattle.tx_heap.specs.Calls.{made_sizes}
use Rattle.tx_buckets.specs.Writing.{with_words}
use Rattle.tx_buckets.proofs.writing.write_words.Given as goal

abbrev pub invariant-loop-word : goal.invariant-loop-word
invariant-loop-word g l =
    g.M.TxMemory.of l.mem l.pass
    × (g.M.TxMemory.view l.pass ≡ g.M.TxMemory.view l.fn.pass)
    × (g.M.TxMemory.attempt l.pass ≡ with_words (made_sizes (g.M.TxMemory.made l.mem)) l.segment (g.M.TxMemory.attempt l.fn.pass) (take l.word-index l.words))
