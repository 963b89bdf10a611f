-- The hits of the members so far.
use Rattle.std.proofs.Common.{take}
use Rattle.std.specs.List.{flat_map}
use Rattle.mail_query.specs.Answers.{Table}
use Rattle.mail_query.specs.Bits.{AreWords, HasBits, Knows}
use Rattle.mail_query.specs.Members.{members_of}
use Rattle.mail_query.specs.Truth.{keys_in}
use Rattle.mail_query.proofs.Hits.{all_of_them, one_of_them}
use Rattle.mail_query.proofs.evaluation.+hits.Given as goal

abbrev pub invariant-hits_of_all-loop-index : goal.invariant-hits_of_all-loop-index
invariant-hits_of_all-loop-index l = record {
  size : AreWords l.count l.set.words.items;
  hits : (table : Table) → Knows l.count l.known.found (flat_map keys_in (members_of l.queries)) table
      → HasBits l.count l.set.words.items (all_of_them (take l.index (members_of l.queries)) table);
}

abbrev pub invariant-hits_of_any-loop-index : goal.invariant-hits_of_any-loop-index
invariant-hits_of_any-loop-index l = record {
  size : AreWords l.count l.set.words.items;
  hits : (table : Table) → Knows l.count l.known.found (flat_map keys_in (members_of l.queries)) table
      → HasBits l.count l.set.words.items (one_of_them (take l.index (members_of l.queries)) table);
}
