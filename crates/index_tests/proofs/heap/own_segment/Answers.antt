-- An attempt that wrote nothing has every good memory before it.
use Rattle.std.proofs.Common.{ap}
use Rattle.tx_model.specs.declared.view.Attempt.{Attempt}
use Rattle.tx_heap.specs.Layout.{mail_layout}
use Rattle.tx_heap.specs.Index.{IsIndex}
use Rattle.tx_heap.specs.Mail.{IsGoodMail, mail_heap}
use Rattle.tx_model.proofs.lemmas.Attempts.{holds_unwritten}
use Rattle.index_tests.proofs.heap.own_segment.Goals as goal

pub open_segment-requires-clause-index : goal.open_segment-requires-clause-index
open_segment-requires-clause-index g c =
    let made = g.M.TxMemory.made c.args.mem.now in
    holds_unwritten (IsGoodMail made.sense made.opening) (λ memory. IsIndex mail_layout (mail_heap made.sense memory)) _ _
    (ap (λ (attempt : Attempt). attempt.writes) c.begin.ensures.began.empty) (λ memory good. good.index.grows.index)
