-- The attempt is a commit, or wrote nothing, or there is no commit left for it.
use Rattle.std.proofs.Common.{◌∙◌, sym, refl, arith}
use Rattle.std.proofs.lemmas.Grind.{common_steps}
use Rattle.turn_memory.specs.declared.pass.TurnPass.{TurnPass}
use Rattle.turn_memory.proofs.Known.{works, pass_knows}
use Rattle.turn_memory.proofs.Attempts.{may_release, released_built, may_give, published_built, committed}
use Rattle.turn_memory.proofs.calls.TurnMemoryTxMemory.commit.Goals as goal

pub give_lock-requires-clause-may : goal.give_lock-requires-clause-may
give_lock-requires-clause-may g c =
    let p = c.requires.of.built in
    let w = works p c.requires.active (sym c.take.ensures.value ∙ c.in-Some.is) in
    may_release p w _ c.restore.new.self c.restore.ensures

pub returns-then-wrote-clause-of : goal.returns-then-wrote-clause-of
returns-then-wrote-clause-of g c =
    let p = c.requires.of.built in
    let w = works p c.requires.active (sym c.take.ensures.value ∙ c.in-Some.is) in
    pass_knows (released_built p w (record { seat = c.give_lock.new.seat; heap = c.take.new.self }) c.restore.new.self
    c.give_lock.ensures.gave c.give_lock.ensures.table c.take.ensures.after) c.requires.of.is_made

pub returns-else-wrote-clause-of : goal.returns-else-wrote-clause-of
returns-else-wrote-clause-of g c =
    let p = c.requires.of.built in
    let w = works p c.requires.active (sym c.take.ensures.value ∙ c.in-Some.is) in
    pass_knows (released_built p w (record { seat = c.give_lock.new.seat; heap = c.take.new.self }) c.restore.new.self
    c.give_lock.ensures.gave c.give_lock.ensures.table c.take.ensures.after) c.requires.of.is_made

pub returns-else-wrote-clause-committed : goal.returns-else-wrote-clause-committed
returns-else-wrote-clause-committed g c = grind (arith, common_steps)

pub give_lock-requires-2-clause-may : goal.give_lock-requires-2-clause-may
give_lock-requires-2-clause-may g c =
    let p = c.requires.of.built in
    let w = works p c.requires.active (sym c.take.ensures.value ∙ c.in-Some.is) in
    may_give p w c.requires.of.is_made c.has_written-wrote.ensures c.if-not-wrote.false c.commits-commits.ensures c.args.self.now.told.2
    c.if-commits-self.false c.requires.may _ c.count_commit.new.self c.count_commit.ensures

pub returns : goal.returns
returns g c =
    let p = c.requires.of.built in
    let w = works p c.requires.active (sym c.take.ensures.value ∙ c.in-Some.is) in
    let now : TurnPass g.row.S.Denot = record { seat = c.give_lock-2.new.seat; heap = c.take.new.self } in
    let gave = c.give_lock-2.ensures in
    record {
      of = pass_knows (published_built p w c.requires.of.is_made c.has_written-wrote.ensures c.if-not-wrote.false c.commits-commits.ensures
          c.args.self.now.told.2 c.if-commits-self.false c.requires.may now c.count_commit.new.self c.count_commit.ensures gave.gave gave.table
          c.take.ensures.after) c.requires.of.is_made;
      committed = committed p w c.requires.of.is_made c.has_written-wrote.ensures c.if-not-wrote.false c.commits-commits.ensures
          c.args.self.now.told.2 c.if-commits-self.false c.requires.may now c.count_commit.new.self c.count_commit.ensures gave.gave _ refl refl;
      refused = tt;
    }
