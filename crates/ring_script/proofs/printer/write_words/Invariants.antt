-- The words so far are written.
use Rattle.std.proofs.Common.{◌≡◌, ◌++◌, string_bytes}
use Rattle.ring_script.specs.Printed.{words_text}
use Rattle.ring_script.proofs.printer.write_words.Given as goal

abbrev pub invariant-loop-addr : goal.invariant-loop-addr
invariant-loop-addr l = string_bytes l.text ≡ string_bytes l.fn.text ++ words_text l.words l.addr
