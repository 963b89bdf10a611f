-- What the attempt did, and why it may be committed.
use Rattle.std.proofs.Common.{◌<◌, ◌∙◌, ap, subst, arith}
use Rattle.std.proofs.lemmas.Grind.{common_steps}
use Rattle.std.specs.Prelude.{Contains}
use Rattle.tx_model.specs.declared.view.Attempt.{Attempt}
use Rattle.tx_uses.specs.Raise.{at}
use Rattle.tx_model.proofs.lemmas.Calls.{goes_on_writing}
use Rattle.tx_uses.proofs.RaiseSteps.{both_go_on, both_reads, reads_count, reads_value, raises, raise_may_commit}
use Rattle.tx_uses.proofs.raise.RaiseBodyCountdown.attempt.Goals as goal

pub returns-then-count-eq0-clause-cause : goal.returns-then-count-eq0-clause-cause
returns-then-count-eq0-clause-cause g c =
    let one = c.in_ok-count.ensures.read in
    let two = c.in_ok-value.ensures.read in
    let reads = (g.M.TxMemory.attempt c.read-2.new.pass).reads in (
      both_go_on c.requires.fresh one two,
      subst (λ count. Contains reads (at 0 count)) c.if-count-eq0.true
          (reads_count reads _ _ _ (both_reads c.requires.fresh one two)),
    )

pub returns-then-value-clause-cause : goal.returns-then-value-clause-cause
returns-then-value-clause-cause g c =
    let one = c.in_ok-count.ensures.read in
    let two = c.in_ok-value.ensures.read in
    let reads = (g.M.TxMemory.attempt c.read-2.new.pass).reads in (
      both_go_on c.requires.fresh one two,
      subst (λ value. Contains reads (at c.args.self.now.word value)) c.if-value.true
          (reads_value reads _ _ _ (both_reads c.requires.fresh one two)),
    )

pub returns-clause-ready : goal.returns-clause-ready
returns-clause-ready g c =
    let one = c.in_ok-count.ensures.read in
    let two = c.in_ok-value.ensures.read in
    let other : 0 < c.args.self.now.word = (c.requires.needs 0 0 (omega arith)).0 in
    let raised = raises c.requires.fresh one two other c.if-count-eq0.false c.in-Ok.ensures.written c.in-Ok-write.ensures.written in
    record {
      goes_on =
          goes_on_writing (both_go_on c.requires.fresh one two) (c.in-Ok-write.ensures.same ∙ c.in-Ok.ensures.same)
          (ap (λ (attempt : Attempt). attempt.start) c.in-Ok-write.ensures.written ∙ ap (λ (attempt : Attempt). attempt.start) c.in-Ok.ensures.written);
      may = λ some memory good fits. raise_may_commit _ memory _ _ _ other raised good fits;
    }

pub returns-clause-did : goal.returns-clause-did
returns-clause-did g c =
    let other : 0 < c.args.self.now.word = (c.requires.needs 0 0 (omega arith)).0 in
    raises c.requires.fresh c.in_ok-count.ensures.read c.in_ok-value.ensures.read other c.if-count-eq0.false c.in-Ok.ensures.written
    c.in-Ok-write.ensures.written

pub returns-in_err-value-clause-later : goal.returns-in_err-value-clause-later
returns-in_err-value-clause-later g c = grind (arith, common_steps)

pub returns-in_err-value-clause-cause : goal.returns-in_err-value-clause-cause
returns-in_err-value-clause-cause g c = grind (arith, common_steps)

pub returns-then-count-eq0-clause-later : goal.returns-then-count-eq0-clause-later
returns-then-count-eq0-clause-later g c = grind (arith, common_steps)

pub returns-then-value-clause-later : goal.returns-then-value-clause-later
returns-then-value-clause-later g c = grind (arith, common_steps)

pub returns-clause-later : goal.returns-clause-later
returns-clause-later g c = grind (arith, common_steps)
