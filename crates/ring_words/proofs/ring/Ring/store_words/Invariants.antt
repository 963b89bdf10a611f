use Rattle.std.proofs.Common.{◌≡◌}
use Rattle.ring_core.specs.declared.stage.Stage.TheVariants.{Turn}
use Rattle.ring_core.specs.declared.stage.TurnStage.TheVariants.{Heap}
use Rattle.ring_words.specs.Pass.{IsSeated, process_now, staged}
use Rattle.ring_words.specs.Turns.{IsTurning}
use Rattle.ring_words.proofs.ring.Ring.store_words.Given as goal

abbrev pub ghosts-store_at : goal.ghosts-store_at
ghosts-store_at g a = record { moved = process_now (staged a.pass.now a.stage) }

-- so many words are stored
abbrev pub invariant-loop-index : goal.invariant-loop-index
invariant-loop-index g l =
    IsSeated g.S.Sense.good g.S.Sense.budget l.self.words.shared.key l.self.words.shared.table_id (staged l.pass (Turn (Heap l.index)))
    × IsTurning (staged l.fn.pass (Turn (Heap 0))) (staged l.pass (Turn (Heap l.index)))
    × (l.pass.local ≡ l.fn.pass.local)
