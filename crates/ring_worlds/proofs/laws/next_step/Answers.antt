use Rattle.ring_worlds.proofs.worlds.Laws.{may_absorb}
use Rattle.ring_worlds.proofs.worlds.Next.{step_exists}
use Rattle.ring_worlds.proofs.worlds.Seen.{told}
use Rattle.ring_worlds.proofs.laws.next_step.Goals as goal

pub returns-clause-absorbs : goal.returns-clause-absorbs
returns-clause-absorbs c = may_absorb c.step_keeps.ensures c.signatures_meet.ensures

pub returns-clause-start : goal.returns-clause-start
returns-clause-start c w who p s here asks busy = (told c.step_keeps.ensures w s who p here asks).later busy

pub returns-clause-exists : goal.returns-clause-exists
returns-clause-exists c = step_exists
