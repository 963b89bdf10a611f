use Rattle.ring_worlds.proofs.worlds.Callers.{join_keeps, spend_keeps, become_keeps}
use Rattle.ring_worlds.proofs.laws.callers_change.Goals as goal

pub returns-clause-join : goal.returns-clause-join
returns-clause-join c = join_keeps c.opening_is_sound.ensures

pub returns-clause-spend : goal.returns-clause-spend
returns-clause-spend c = spend_keeps c.opening_is_sound.ensures

pub returns-clause-becomes : goal.returns-clause-becomes
returns-clause-becomes c = become_keeps
