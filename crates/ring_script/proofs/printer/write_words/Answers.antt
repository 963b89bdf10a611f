-- The text grows by the next word.
use Rattle.std.proofs.Common.{add-one, ap, string_bytes, rules}
use Rattle.ring_script.specs.Printed.{words_text}
use Rattle.ring_script.proofs.Texts.{grown}
use Rattle.ring_script.proofs.printer.write_words.Goals as goal

pub loop-addr-preserved : goal.loop-addr-preserved
loop-addr-preserved c =
    grown (string_bytes c.args.text.now) (string_bytes c.loop-addr.text) (string_bytes c.write_word.new.text) _ _ _ c.loop-addr.invariant
    c.in_ok-write_word.ensures (ap (words_text c.args.words.now) (add-one c.loop-addr.addr))

pub returns : goal.returns
returns c = search rules
