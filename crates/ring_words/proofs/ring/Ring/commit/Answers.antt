-- The attempt became a commit, which is complete.
use Rattle.std.proofs.Common.{arith, ◌∙◌, ap, length}
use Rattle.std.proofs.lemmas.Grind.{common_steps}
use Rattle.ring_words.specs.Pass.{made_by, attempt_now}
use Rattle.ring_words.proofs.Committing.{committed_by, some_by}
use Rattle.ring_words.proofs.ring.Ring.commit.Goals as goal

pub returns-clause-committed : goal.returns-clause-committed
returns-clause-committed g c =
    let (number, became) = c.in_ok-enter.ensures.became in
    let count = c.len.ensures.count ∙ ap length c.writes.ensures in
    committed_by (made_by c.args.self.now).opening number c.finish.result
    (some_by (attempt_now c.args.pass.now).writes c.len.result count c.if-len-eq0.false) became c.finish.ensures.finished

pub commit_read_only-requires-clause-nothing : goal.commit_read_only-requires-clause-nothing
commit_read_only-requires-clause-nothing g c = grind (arith, common_steps)

pub returns-then-len-eq0-clause-committed : goal.returns-then-len-eq0-clause-committed
returns-then-len-eq0-clause-committed g c = grind (arith, common_steps)
