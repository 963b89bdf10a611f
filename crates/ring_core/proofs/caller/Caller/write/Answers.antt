use Rattle.std.proofs.Common.{rules}
use Rattle.ring_core.proofs.caller.Caller.write.Goals as goal

pub returns-then-len-clause-full : goal.returns-then-len-clause-full
returns-then-len-clause-full c = search rules

pub push-requires-clause-room : goal.push-requires-clause-room
push-requires-clause-room c = search rules

pub returns-clause-full : goal.returns-clause-full
returns-clause-full c = search rules
