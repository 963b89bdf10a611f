-- The text grows by the next line.
use Rattle.std.proofs.Common.{string_bytes}
use Rattle.ring_script.specs.Printed.{line_text}
use Rattle.ring_script.proofs.Texts.{one_more, grown}
use Rattle.ring_script.proofs.printer.write_lines.Goals as goal

pub loop-line-preserved : goal.loop-line-preserved
loop-line-preserved c =
    grown (string_bytes c.args.text.now) (string_bytes c.loop-line.text) (string_bytes c.write_line.new.text) _ _ _ c.loop-line.invariant
    c.in_ok-write_line.ensures (one_more line_text c.args.lines.now c.loop-line.line-index _ c.loop-line-test.true)
