use Rattle.std.proofs.Common.{rules}
use Rattle.ring_memory.proofs.memory.RingMemoryTxMemory.commit.Goals as goal

pub returns-clause-committed : goal.returns-clause-committed
returns-clause-committed g c = search rules
