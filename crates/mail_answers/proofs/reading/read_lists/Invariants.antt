-- The keys so far were read.
use Rattle.std.proofs.Common.{take}
use Rattle.mail_answers.specs.Reading.{HaveRead}
use Rattle.mail_answers.proofs.reading.read_lists.Given as goal

abbrev pub invariant-loop-key : goal.invariant-loop-key
invariant-loop-key g l = record {
  of : g.M.TxMemory.of l.mem l.pass;
  read : HaveRead (g.M.TxMemory.made l.mem) (g.M.TxMemory.view l.fn.pass) (g.M.TxMemory.view l.pass) (g.M.TxMemory.attempt l.fn.pass)
      (g.M.TxMemory.attempt l.pass)
      (take l.key-index l.keys) l.read.lists;
}
