-- One more line is read.
use Rattle.std.proofs.Common.{None, sym, subst}
use Rattle.std.proofs.lemmas.Result.{err_from_is_err_and}
use Rattle.ring_script.specs.Lines.{lines_of}
use Rattle.ring_script.specs.Script.{IsScriptWithin}
use Rattle.ring_script.proofs.Ending.{held_if}
use Rattle.ring_script.proofs.Folding.{IsFolding, refused, folded, behind_size, all_read}
use Rattle.ring_script.proofs.script.parse_within.Goals as goal

pub with_piece-requires : goal.with_piece-requires
with_piece-requires c = held_if c.args.limit c.loop-rest.invariant.good c.loop-rest.draft c.loop-rest.invariant.so_far

pub returns-in_err-draft : goal.returns-in_err-draft
returns-in_err-draft c =
    let text = c.args.text.now in
    let fold = subst (λ r. IsFolding c.args.limit text c.loop-rest.number r c.loop-rest.draft) c.in-Some.is c.loop-rest.invariant in
    let p = err_from_is_err_and c.from_residual.result c.from_residual.ensures.1 in
    rw (p.1, p.2)
    (
    refused c.args.limit text c.loop-rest.number c.in-Some.text c.loop-rest.draft c.cut_line.result.0.now c.cut_line.result.1 c.in_err-draft.field-0.0 fold
    c.cut_line.ensures.lines c.in_err-draft.ensures
    )

pub loop-rest-preserved : goal.loop-rest-preserved
loop-rest-preserved c =
    let text = c.args.text.now in
    let fold = subst (λ r. IsFolding c.args.limit text c.loop-rest.number r c.loop-rest.draft) c.in-Some.is c.loop-rest.invariant in
    folded c.args.limit text c.loop-rest.number c.in-Some.text c.loop-rest.draft c.in_ok-draft.draft c.cut_line.result.0.now c.cut_line.result.1 fold
    c.cut_line.ensures.lines (behind_size c.in-Some.text.now c.cut_line.result.1 c.cut_line.ensures.shorter) c.in_ok-draft.ensures

pub returns-in-Some-draft : goal.returns-in-Some-draft
returns-in-Some-draft c =
    let text = c.args.text.now in
    let draft = c.in-Some-draft.draft in
    let ended = subst (λ r. IsFolding c.args.limit text c.loop-rest.number r c.loop-rest.draft) c.in_default.is c.loop-rest.invariant in
    let fold = subst (λ d. IsFolding c.args.limit text c.loop-rest.number None d) c.in-Some-draft.is ended in
    let read = all_read c.args.limit text c.loop-rest.number draft fold in
    let setup = subst (λ s. IsScriptWithin c.args.limit (lines_of text) s draft.events.items) (sym c.finished.ensures.setup) read in
    subst (λ es. IsScriptWithin c.args.limit (lines_of text) c.finished.result.0 es) (sym c.finished.ensures.events) setup
