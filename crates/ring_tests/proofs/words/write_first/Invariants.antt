-- The writes so far left the pass as it was.
use Rattle.std.proofs.Common.{◌≡◌, ◌≤◌}
use Rattle.ring_words.specs.Pass.{view_of, IsOf}
use Rattle.ring_tests.proofs.words.write_first.Given as goal

abbrev pub invariant-loop-addr : goal.invariant-loop-addr
invariant-loop-addr g l =
    IsOf g.S.Sense.allows g.S.Sense.good g.S.Sense.budget l.ring l.pass × (view_of l.pass ≡ view_of l.fn.pass) × (l.written ≤ l.addr)
