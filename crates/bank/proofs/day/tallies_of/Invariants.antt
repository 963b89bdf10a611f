-- The tallies so far.
use Rattle.std.proofs.Common.{◌≡◌, ◌≤◌, length, map, take, vec_capacity}
use Rattle.bank.specs.Tellers.{tally_of}
use Rattle.bank.proofs.day.tallies_of.Given as goal

abbrev pub invariant-loop-teller : goal.invariant-loop-teller
invariant-loop-teller g l = record {
  so_far : l.tallies.items ≡ map tally_of (take l.teller-index l.tellers);
  room : length l.tellers ≤ vec_capacity l.tallies;
}
