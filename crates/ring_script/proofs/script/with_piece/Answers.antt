-- The line is read.
use Rattle.std.proofs.Common.{sym, ◌∙◌}
use Rattle.ring_script.specs.Lines.{Line}
use Rattle.ring_script.proofs.Folding.{read_piece, piece_of_line}
use Rattle.ring_script.proofs.script.with_piece.Goals as goal

pub returns-in-Ok : goal.returns-in-Ok
returns-in-Ok c lines so_far =
    let line : Line = record { number = c.args.number; content = c.args.content.now } in
    read_piece c.args.limit lines line c.in-Ok.draft (sym c.is_read.ensures ∙ c.if-not-is_read.false) (c.in-Ok.ensures lines so_far)

pub returns-in-Err : goal.returns-in-Err
returns-in-Err c lines so_far =
    let line : Line = record { number = c.args.number; content = c.args.content.now } in
    piece_of_line c.args.limit lines line c.in-Err.error (sym c.is_read.ensures ∙ c.if-not-is_read.false) (c.in-Err.ensures lines so_far)
