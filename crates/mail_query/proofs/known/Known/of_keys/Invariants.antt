-- What is known so far, of the keys so far.
use Rattle.std.proofs.Common.{take}
use Rattle.mail_query.specs.Answers.{Table}
use Rattle.mail_query.specs.Bits.{AreSized, Knows}
use Rattle.mail_query.proofs.known.Known.of_keys.Given as goal

abbrev pub invariant-loop-key : goal.invariant-loop-key
invariant-loop-key g l = record {
  size : AreSized l.count l.known.found;
  answer : (table : Table) → g.P.Postings.fits l.from table → g.P.Postings.fits l.initial.from table
      × Knows l.count l.known.found (take l.key-index l.keys) table;
  stays : g.P.Postings.kept l.initial.from l.from;
}
