use Rattle.std.proofs.Common.{rules}
use Rattle.ring_memory.proofs.memory.RingMemoryTxMemory.read.Goals as goal

pub read-requires-clause-rule : goal.read-requires-clause-rule
read-requires-clause-rule g c = search rules

pub returns-clause-read : goal.returns-clause-read
returns-clause-read g c = search rules

pub returns-clause-cause_stop : goal.returns-clause-cause_stop
returns-clause-cause_stop g c = search rules
