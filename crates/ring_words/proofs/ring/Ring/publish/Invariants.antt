use Rattle.std.proofs.Common.{◌≡◌}
use Rattle.ring_core.specs.declared.stage.Stage.TheVariants.{Turn}
use Rattle.ring_core.specs.declared.stage.TurnStage.TheVariants.{Signature}
use Rattle.ring_words.specs.Pass.{IsSeated, process_now, staged}
use Rattle.ring_words.specs.Turns.{IsTurning}
use Rattle.ring_words.proofs.ring.Ring.publish.Given as goal

abbrev pub ghosts-store_to : goal.ghosts-store_to
ghosts-store_to g a = record { moved = process_now (staged a.pass.now a.stage) }

-- so many words of the signature are stored
abbrev pub invariant-loop-word : goal.invariant-loop-word
invariant-loop-word g l =
    IsSeated g.S.Sense.good g.S.Sense.budget l.self.words.shared.key l.self.words.shared.table_id (staged l.pass (Turn (Signature l.word)))
    × IsTurning l.fn.pass (staged l.pass (Turn (Signature l.word)))
    × (l.pass.local ≡ l.fn.pass.local)
