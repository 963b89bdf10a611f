use Rattle.std.proofs.Common.{rules}
use Rattle.ring_core.proofs.caller.Caller.stamp_swap.Goals as goal

pub returns-then-found-top : goal.returns-then-found-top
returns-then-found-top c = search rules

pub returns : goal.returns
returns c = search rules
