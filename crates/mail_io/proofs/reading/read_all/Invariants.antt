use Rattle.std.proofs.Common.{◌<◌, ◌+◌, ◌-◌, vec_len}
use Rattle.mail_io.proofs.Taken.{IsTaken}
use Rattle.mail_io.proofs.reading.read_all.Given as goal

abbrev pub invariant-loop-bytes : goal.invariant-loop-bytes
invariant-loop-bytes g l =
    let before = l.initial.source in
    (0 < vec_len l.piece)
    × IsTaken (g.S.Source.left before) (g.S.Source.left l.source) (g.S.Source.faults before) (g.S.Source.faults l.source) (g.S.Source.calls before)
    (g.S.Source.calls l.source) l.limit l.bytes.items

abbrev pub decreases-loop-bytes : goal.decreases-loop-bytes
decreases-loop-bytes g l = l.limit + 1 - vec_len l.bytes
