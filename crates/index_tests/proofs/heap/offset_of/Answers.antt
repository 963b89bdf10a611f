-- An attempt that wrote nothing has every good memory before it, and may read the segment that it opened.
use Rattle.std.specs.Prelude.{◌≡◌, ℕ, ◌+◌, List, [], None, Contains}
use Rattle.std.proofs.Common.{refl, ap, subst, sym, ◌∙◌}
use Rattle.tx_model.specs.declared.gate.TheConstants.{GATE_OPEN}
use Rattle.tx_model.specs.declared.view.Attempt.{Attempt}
use Rattle.tx_model.specs.declared.view.PassView.{PassView}
use Rattle.tx_model.specs.Made.{Made}
use Rattle.tx_model.specs.Words.{HasAddress, index_of, value_of}
use Rattle.tx_model.specs.Attempt.{reads_after, starting_at}
use Rattle.mail_words.specs.Key.{KeyNumbers}
use Rattle.tx_heap.specs.Layout.{mail_layout, gate_at, lane_at, region_of}
use Rattle.tx_heap.specs.Index.{IsIndex}
use Rattle.tx_heap.specs.Mail.{IsGoodMail, mail_heap}
use Rattle.tx_heap.specs.Calls.{made_sizes, OpenedSegment}
use Rattle.tx_buckets.specs.Reading.{IsOpened}
use Rattle.tx_model.proofs.lemmas.Attempts.{holds_unwritten, has_read}
use Rattle.tx_buckets.proofs.lemmas.Opened.{opened_here}
use Rattle.index_tests.proofs.heap.offset_of.Goals as goal

pub open_segment-requires-clause-index : goal.open_segment-requires-clause-index
open_segment-requires-clause-index g c =
    let made = g.M.TxMemory.made c.args.mem.now in
    holds_unwritten (IsGoodMail made.sense made.opening) (λ memory. IsIndex mail_layout (mail_heap made.sense memory)) _ _
    (ap (λ (attempt : Attempt). attempt.writes) c.begin.ensures.began.empty) (λ memory good. good.index.grows.index)

pub find-requires-clause-opened : goal.find-requires-clause-opened
find-requires-clause-opened g c =
    let empty = c.begin.ensures.began.empty in
    opened_here (ap (λ (attempt : Attempt). attempt.writes) empty) (ap (λ (attempt : Attempt). attempt.published) empty) c.in-Ok.ensures.opened

pub find-requires-clause-index : goal.find-requires-clause-index
find-requires-clause-index g c =
    let made = g.M.TxMemory.made c.args.mem.now in
    let unwritten = c.in-Ok.ensures.opened.goes_on.writes ∙ ap (λ (attempt : Attempt). attempt.writes) c.begin.ensures.began.empty in
    holds_unwritten (IsGoodMail made.sense made.opening) (λ memory. IsIndex mail_layout (mail_heap made.sense memory)) _ _ unwritten
    (λ memory good. good.index.grows.index)
