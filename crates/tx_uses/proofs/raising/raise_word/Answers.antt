-- The body that was tried is the one that raises this word.
use Rattle.std.proofs.Common.{◌≡◌, ◌∙◌, ap, subst, slice_index}
use Rattle.std.proofs.lemmas.Result.{IfOk-weaker}
use Rattle.tx_model.specs.Tries.{Done}
use Rattle.tx_uses.specs.Raise.{word_of, DidRaise}
use Rattle.tx_uses.proofs.RaiseOutcome.{raised_of_done, owned_kept}
use Rattle.tx_uses.proofs.raising.raise_word.Goals as goal

pub returns-clause-raised : goal.returns-clause-raised
returns-clause-raised g c =
    let old = g.M.TxMemory.view c.args.pass.now in
    let new = g.M.TxMemory.view c.atomically-done.new.pass in
    let opening = (g.M.TxMemory.made c.args.mem.now).opening in
    let is : word_of c.atomically-done.new.body ≡ c.args.word = ap (λ task. slice_index task 0) c.atomically-done.ensures.task ∙ c.of-body.ensures in
    IfOk-weaker _ _ _
    (λ receipt done. raised_of_done opening c.args.word old new receipt c.requires.other c.pass_knows.ensures.legal
    (subst (λ word. Done (DidRaise word) opening old new receipt) is done))
    c.atomically-done.ensures.done

pub returns-clause-owned : goal.returns-clause-owned
returns-clause-owned g c =
    owned_kept (g.M.TxMemory.made c.args.mem.now).opening (g.M.TxMemory.made c.args.mem.now).life (word_of c.atomically-done.new.body)
    (g.M.TxMemory.view c.args.pass.now) (g.M.TxMemory.view c.atomically-done.new.pass) c.atomically-done.result c.atomically-done.ensures.done
    c.atomically-done.ensures.not_done
