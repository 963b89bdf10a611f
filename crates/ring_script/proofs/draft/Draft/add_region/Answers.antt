-- The regions so far lie in the memory.
use Rattle.std.proofs.Common.{Contains, subst, rules}
use Rattle.ring_script.proofs.draft.Draft.add_region.Goals as goal

pub may_join-requires-clause-within : goal.may_join-requires-clause-within
may_join-requires-clause-within c other among = c.requires.within other (subst (λ l. Contains l other) c.as_slice.ensures.value among)

pub returns-in-Ok : goal.returns-in-Ok
returns-in-Ok c = search rules
