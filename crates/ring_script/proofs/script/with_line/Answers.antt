-- The line is too long, the first, or a further one.
use Rattle.std.proofs.Common.{◌≡◌, ◌∙◌, ap, subst, refl}
use Rattle.ring_script.specs.Lines.{Line, tokens_of}
use Rattle.ring_script.specs.Draft.{Beginning, Adding, IsSoFar}
use Rattle.ring_script.proofs.Tokens.{texts}
use Rattle.ring_script.proofs.Ending.{too_long, has_first, has_further}
use Rattle.ring_script.proofs.script.with_line.Goals as goal

pub returns-in_default : goal.returns-in_default
returns-in_default c lines so_far =
    (refl, too_long c.args.limit lines (record { number = c.args.number; content = c.args.content.now }) c.args.draft so_far c.in_default.ensures)

pub returns-in-None : goal.returns-in-None
returns-in-None c lines so_far =
    let line : Line = record { number = c.args.number; content = c.args.content.now } in
    let tokens : texts c.as_slice-tokens.result.now ≡ tokens_of c.args.content.now = ap texts c.as_slice-tokens.ensures.value ∙ c.in-Some.ensures in
    has_first c.args.limit lines line c.first_line.result (subst (IsSoFar c.args.limit lines) c.in-None.is so_far)
    (subst (λ ts. Beginning c.args.number ts c.first_line.result) tokens c.first_line.ensures)

pub returns-in-Some-draft : goal.returns-in-Some-draft
returns-in-Some-draft c lines so_far =
    let line : Line = record { number = c.args.number; content = c.args.content.now } in
    let tokens : texts c.as_slice-tokens.result.now ≡ tokens_of c.args.content.now = ap texts c.as_slice-tokens.ensures.value ∙ c.in-Some.ensures in
    let draft = c.in-Some-draft.draft in
    has_further c.args.limit lines line draft c.further_line.result (subst (IsSoFar c.args.limit lines) c.in-Some-draft.is so_far)
    (subst (λ ts. Adding c.args.limit draft c.args.number ts c.further_line.result) tokens c.further_line.ensures)
