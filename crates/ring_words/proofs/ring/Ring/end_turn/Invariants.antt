use Rattle.ring_words.specs.Pass.{process_now, staged}
use Rattle.ring_words.proofs.ring.Ring.end_turn.Given as goal

abbrev pub ghosts-load_at : goal.ghosts-load_at
ghosts-load_at g a = record { moved = process_now (staged a.pass.now a.stage) }
