-- The lines so far are written.
use Rattle.std.proofs.Common.{◌≡◌, ◌++◌, take, string_bytes}
use Rattle.ring_script.specs.Printed.{lines_text}
use Rattle.ring_script.proofs.printer.write_lines.Given as goal

abbrev pub invariant-loop-line : goal.invariant-loop-line
invariant-loop-line l = string_bytes l.text ≡ string_bytes l.fn.text ++ lines_text (take l.line-index l.lines)
