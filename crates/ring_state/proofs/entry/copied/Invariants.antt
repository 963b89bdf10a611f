-- The first so many writes are copied, and there is room for all.
use Rattle.std.proofs.Common.{◌≡◌, ◌≤◌, take, vec_len, vec_capacity}
use Rattle.ring_state.proofs.entry.copied.Given as goal

abbrev pub invariant-loop-at : goal.invariant-loop-at
invariant-loop-at l = record {
  copied : l.words.items ≡ take l.at l.writes;
  count : vec_len l.words ≡ l.at;
  room : l.count ≤ vec_capacity l.words;
}
