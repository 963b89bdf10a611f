-- Each entry of the table in turn.
use Rattle.std.proofs.Common.{◌≡◌, IsTrue, refl, arith}
use Rattle.std.specs.List.Sorted.{IsStrictlySortedBy}
use Rattle.std.specs.Ordering.{nat_cmp}
use Rattle.std.proofs.lemmas.List.Elements.{All-from_recursion}
use Rattle.mail_words.specs.Key.{is_key}
use Rattle.tx_heap.specs.Packed.{Entry, table_of, entry_at, messages_of}
use Rattle.tx_heap.specs.Examples.{small, packed, packed_with}
use Rattle.tx_heap.proofs.ExamplesFacts.{zeros_in}
use Rattle.tx_heap.proofs.laws.packed_examples.Goals as goal

pub returns-clause-packed : goal.returns-clause-packed
unfolding IsStrictlySortedBy is_key
returns-clause-packed c = (
  record {
    marked = refl;
    unused = zeros_in packed 4 4 refl;
    filled = refl;
    ends = omega arith;
    keys = All-from_recursion (λ (entry : Entry). IsTrue (is_key entry.key)) (table_of packed) (refl, (refl, tt));
    keys_rise = ((refl, tt), (tt, tt));
    placed = (refl, omega arith, (refl, omega arith, refl));
    messages_rise = All-from_recursion (λ (entry : Entry). IsStrictlySortedBy nat_cmp (messages_of packed entry)) (table_of packed)
        (((refl, tt), (tt, tt)), ((tt, tt), tt));
    cleared = zeros_in packed 23 7 refl;
  },
  All-from_recursion (λ (entry : Entry). small.lane_of entry.key ≡ 0) (table_of packed) (refl, (refl, tt)),
)

pub returns-clause-falling_messages : goal.returns-clause-falling_messages
unfolding IsStrictlySortedBy
returns-clause-falling_messages c form =
    let rises = form.messages_rise 0 (entry_at (packed_with 3 1) 8) (omega arith) in
    let first = rises.0.0 in
    cc
