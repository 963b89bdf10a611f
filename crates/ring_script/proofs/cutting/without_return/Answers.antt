-- The last byte is a carriage return or isn't.
use Rattle.std.proofs.Common.{◌-◌, length, sym, arith}
use Rattle.ring_script.proofs.Pieces.{returned, unreturned, unreturned_nil}
use Rattle.ring_script.proofs.cutting.without_return.Goals as goal
use Rattle.ring_script.proofs.cutting.without_return.Goals.{else-count-gt0-via-then-count-gt0+else-line-count-eq13, else-count-gt0-via-else-count-gt0}

pub returns-then-line-count-eq13 : goal.returns-then-line-count-eq13
returns-then-line-count-eq13 c =
    let line = c.args.line.now in
    sym (returned line (length line - 1) (omega (arith, c.if-count-gt0.true)) c.if-line-count-eq13.true)

pub returns-else-count-gt0 : goal.returns-else-count-gt0
returns-else-count-gt0 c =
    let line = c.args.line.now in
    elim c.else-count-gt0.branch [
      | else-count-gt0-via-then-count-gt0+else-line-count-eq13 w ↦
          sym (unreturned line (length line - 1) (omega (arith, w.if-count-gt0.true)) w.if-line-count-eq13.false)
      | else-count-gt0-via-else-count-gt0 w ↦ sym (unreturned_nil line (omega (arith, w.if-count-gt0.false)))
    ]
