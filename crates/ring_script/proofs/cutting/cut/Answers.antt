-- The first separator, or that there is none.
use Rattle.std.proofs.Common.{◌+◌, ◌∷◌, take, drop, ◌∙◌, ap, sym, arith, add-one}
use Rattle.std.proofs.lemmas.List.{take_rest}
use Rattle.ring_script.specs.Lines.{pieces}
use Rattle.ring_script.proofs.Pieces.{whole_piece, first_piece}
use Rattle.ring_script.proofs.cutting.cut.Goals as goal

pub returns-then-bytes-at-clause-pieces : goal.returns-then-bytes-at-clause-pieces
returns-then-bytes-at-clause-pieces c =
    let bytes = c.args.bytes.now in
    let i = c.loop-at.at in
    first_piece c.args.separator bytes i c.loop-at-test.true c.loop-at.invariant c.if-bytes-at.true
    ∙ ap (λ rest. take i bytes ∷ pieces c.args.separator rest) (ap (λ n. drop n bytes) (sym (add-one i)) ∙ sym (take_rest bytes (i + 1)))

pub returns-clause-pieces : goal.returns-clause-pieces
returns-clause-pieces c =
    whole_piece c.args.separator c.args.bytes.now (λ k below. c.loop-at.invariant k (omega (arith, below, c.loop-at-test.false)))
