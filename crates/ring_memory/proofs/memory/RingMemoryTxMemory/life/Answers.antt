use Rattle.std.proofs.Common.{rules}
use Rattle.ring_memory.proofs.memory.RingMemoryTxMemory.life.Goals as goal

pub returns : goal.returns
returns g c = search rules
