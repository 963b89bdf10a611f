use Rattle.std.proofs.Common.{◌++◌, sym, ap, ◌∙◌}
use Rattle.std.specs.List.{flat_map, range_with_len}
use Rattle.std.proofs.lemmas.List.{append_assoc}
use Rattle.tx_heap.specs.Opening.{opening_segment}
use Rattle.tx_heap.proofs.Pushes.{flat_map_range_more}
use Rattle.tx_heap.proofs.memory.push_segments.Goals as goal

pub loop-segment-preserved : goal.loop-segment-preserved
loop-segment-preserved c =
    let n = c.loop-segment.segment in
    let first = c.args.words.now.items in
    let so_far = flat_map opening_segment (range_with_len 0 n) in
    c.in_ok-push_segment.ensures
    ∙ ap (λ words. words ++ opening_segment n) c.loop-segment.invariant
    ∙ append_assoc first so_far (opening_segment n)
    ∙ ap (λ words. first ++ words) (sym (flat_map_range_more opening_segment n))
