use Rattle.std.proofs.Common.{rules}
use Rattle.ring_memory.proofs.memory.RingMemoryTxMemory.write.Goals as goal

pub write-requires-clause-rule : goal.write-requires-clause-rule
write-requires-clause-rule g c = search rules

pub returns-clause-written : goal.returns-clause-written
returns-clause-written g c = search rules
