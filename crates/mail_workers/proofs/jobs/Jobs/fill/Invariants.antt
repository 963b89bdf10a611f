use Rattle.std.proofs.Common.{◌≡◌, [], ◌∷◌, ◌≤◌}
use Rattle.crossbeam_queue.specs.Passes.{view, IsPassOf, ruled_capacity}
use Rattle.mail_workers.proofs.jobs.Jobs.fill.Given as goal

abbrev pub invariant-loop-number : goal.invariant-loop-number
invariant-loop-number g l =
    IsPassOf l.queue l.seat × (view l.seat ≡ record { total = l.number; drawn = []; share = [] ∷ [] }) × (l.number ≤ l.messages)
    × (ruled_capacity l.queue ≡ l.room)
    × (l.messages ≤ l.room)
