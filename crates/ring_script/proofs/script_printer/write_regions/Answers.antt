-- The text grows by the next region.
use Rattle.std.proofs.Common.{string_bytes}
use Rattle.ring_script.specs.Written.{region_text}
use Rattle.ring_script.proofs.Texts.{one_more, grown}
use Rattle.ring_script.proofs.script_printer.write_regions.Goals as goal

pub loop-region-preserved : goal.loop-region-preserved
loop-region-preserved c =
    grown (string_bytes c.args.text.now) (string_bytes c.loop-region.text) (string_bytes c.write_region.new.text) _ _ _ c.loop-region.invariant
    c.in_ok-write_region.ensures (one_more region_text c.args.regions.now c.loop-region.region-index _ c.loop-region-test.true)
