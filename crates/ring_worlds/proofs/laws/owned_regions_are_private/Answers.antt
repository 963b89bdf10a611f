use Rattle.ring_worlds.proofs.worlds.Private.{owned_is_private, others_leave_owned}
use Rattle.ring_worlds.proofs.laws.owned_regions_are_private.Goals as goal

pub returns-clause-private : goal.returns-clause-private
returns-clause-private c = owned_is_private

pub returns-clause-others : goal.returns-clause-others
returns-clause-others c = others_leave_owned c.steps_keep.ensures
