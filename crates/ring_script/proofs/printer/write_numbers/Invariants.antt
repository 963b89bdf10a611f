-- The numbers so far are written.
use Rattle.std.proofs.Common.{◌≡◌, ◌++◌, take, string_bytes}
use Rattle.ring_script.specs.Printed.{with_numbers}
use Rattle.ring_script.proofs.printer.write_numbers.Given as goal

abbrev pub invariant-loop-number : goal.invariant-loop-number
invariant-loop-number l = string_bytes l.text ≡ string_bytes l.fn.text ++ with_numbers (take l.number-index l.numbers)
