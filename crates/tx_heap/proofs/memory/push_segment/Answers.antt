use Rattle.std.proofs.Common.{ℕ, List, [], ◌∷◌, ◌++◌, replicate, ap, ◌∙◌}
use Rattle.std.proofs.lemmas.Result.{on_ok_weaker}
use Rattle.tx_heap.specs.Layout.{segment_len}
use Rattle.tx_heap.specs.Opening.{opening_free}
use Rattle.tx_heap.proofs.Pushes.{blank_pushed}
use Rattle.tx_heap.proofs.memory.push_segment.Goals as goal

pub returns : goal.returns
returns c =
    let first = c.args.words.now.items in
    on_ok_weaker c.push_copies.result
    (λ pushed.
    pushed
    ∙ ap (λ (words : List ℕ). words ++ replicate 32767 0) (c.in_ok-push.ensures.items ∙ ap (λ (free : ℕ). first ++ free ∷ []) c.opening_free.ensures)
    ∙ blank_pushed first (opening_free c.args.segment) segment_len)
    c.push_copies.ensures
