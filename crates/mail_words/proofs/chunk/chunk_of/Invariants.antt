-- The lists so far are those of the spans so far, and their keys are within the limit.
use Rattle.std.proofs.Common.{◌≡◌, ◌≤◌, length, take}
use Rattle.mail_words.specs.Lists.{word_lists, lists_from, AreEnds}
use Rattle.mail_words.proofs.chunk.chunk_of.Given as goal

abbrev pub invariant-loop-span : goal.invariant-loop-span
invariant-loop-span l = record {
  lists : lists_from 0 l.ends.items l.keys.items ≡ word_lists l.bytes (take l.span-index l.spans);
  ends : AreEnds 0 l.ends.items (length l.keys.items);
  within : length l.keys.items ≤ l.limit;
}
