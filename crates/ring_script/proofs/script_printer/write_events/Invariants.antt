-- What is written, and what the rest asks.
use Rattle.std.proofs.Common.{◌≡◌, ◌++◌, length, string_bytes}
use Rattle.ring_script.specs.Written.{events_text}
use Rattle.ring_script.proofs.script_printer.write_events.Given as goal

abbrev pub invariant-loop-asked : goal.invariant-loop-asked
invariant-loop-asked l = string_bytes l.text ++ events_text l.rest ≡ string_bytes l.fn.text ++ events_text l.fn.events

abbrev pub decreases-loop-asked : goal.decreases-loop-asked
decreases-loop-asked l = length l.rest
