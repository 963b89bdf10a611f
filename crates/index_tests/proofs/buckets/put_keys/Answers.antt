-- The records are found in the segment that they were put into.
use Rattle.std.proofs.Common.{ℕ, List}
use Rattle.tx_heap.proofs.lemmas.Reads.{holds_after_reads}
use Rattle.tx_heap.specs.Layout.{mail_layout}
use Rattle.tx_heap.specs.Index.{IsIndex}
use Rattle.tx_heap.specs.Mail.{IsGoodMail, mail_heap}
use Rattle.index_tests.proofs.buckets.put_keys.Goals as goal

pub find-requires-2-clause-index : goal.find-requires-2-clause-index
find-requires-2-clause-index g c =
    let made = g.M.TxMemory.made c.args.mem.now in
    let in_form : List ℕ → Type 0 = λ memory. IsIndex mail_layout (mail_heap made.sense memory) in
    holds_after_reads c.in_ok-found_one.ensures.found.only (IsGoodMail made.sense made.opening) in_form c.in_ok-other.ensures.ready.index
