-- The regions so far are written.
use Rattle.std.proofs.Common.{◌≡◌, ◌++◌, take, string_bytes}
use Rattle.ring_script.specs.Written.{regions_text}
use Rattle.ring_script.proofs.script_printer.write_regions.Given as goal

abbrev pub invariant-loop-region : goal.invariant-loop-region
invariant-loop-region l = string_bytes l.text ≡ string_bytes l.fn.text ++ regions_text (take l.region-index l.regions)
