use Rattle.ring_words.specs.Pass.{process_now, staged}
use Rattle.ring_words.proofs.ring.Ring.store_complete.Given as goal

abbrev pub ghosts-store_to : goal.ghosts-store_to
ghosts-store_to g a = record { moved = process_now (staged a.pass.now a.stage) }
