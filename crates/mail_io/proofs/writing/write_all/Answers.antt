use Rattle.std.proofs.Common.{◌≡◌, ◌<◌, ◌∙◌, ◌-◌, length, take, drop, arith, rules}
use Rattle.std.proofs.lemmas.Grind.{common_steps}
use Rattle.mail_io.proofs.Moved.{Appends-rest, drop-none}
use Rattle.mail_io.proofs.Sent.{goes_on-more, goes_on-all, goes_on-refused}
use Rattle.mail_io.proofs.writing.write_all.Goals as goal

pub loop-sent-preserved : goal.loop-sent-preserved
loop-sent-preserved g c =
    let rest = drop c.loop-sent.sent c.args.bytes.now in
    let whole : take (length c.args.bytes.now - c.loop-sent.sent) rest ≡ rest = grind (arith, common_steps) in
    let some : 0 < length (take (length c.args.bytes.now - c.loop-sent.sent) rest) = grind (arith, common_steps) in
    let so_far = c.loop-sent.invariant.0 in (
      record {
        within = grind (arith, common_steps, c.in-Ok.ensures.bound);
        told = Appends-rest _ _ _ _ _ _ _ whole so_far.told c.in-Ok.ensures.told;
        no_fault = c.in-Ok.ensures.fault_cause.kept ∙ so_far.no_fault;
        no_want = c.in-Ok.ensures.want_cause.kept ∙ so_far.no_want;
      },
      goes_on-more g.K.Sink.offered _ _ _ _ _ _ _ whole some c.in-Ok.ensures.offered c.loop-sent.invariant.1,
    )

pub returns-in-Err-Failed-clause-offered : goal.returns-in-Err-Failed-clause-offered
returns-in-Err-Failed-clause-offered g c =
    let rest = drop c.loop-sent.sent c.args.bytes.now in
    let whole : take (length c.args.bytes.now - c.loop-sent.sent) rest ≡ rest = grind (arith, common_steps) in
    let some : 0 < length (take (length c.args.bytes.now - c.loop-sent.sent) rest) = grind (arith, common_steps) in
    goes_on-refused g.K.Sink.offered _ _ _ _ _ _ _ whole some c.in-Err-Failed.ensures.offered c.loop-sent.invariant.1

pub returns-in-Err-Memory-clause-offered : goal.returns-in-Err-Memory-clause-offered
returns-in-Err-Memory-clause-offered g c =
    let rest = drop c.loop-sent.sent c.args.bytes.now in
    let whole : take (length c.args.bytes.now - c.loop-sent.sent) rest ≡ rest = grind (arith, common_steps) in
    let some : 0 < length (take (length c.args.bytes.now - c.loop-sent.sent) rest) = grind (arith, common_steps) in
    goes_on-refused g.K.Sink.offered _ _ _ _ _ _ _ whole some c.in-Err-Memory.ensures.offered c.loop-sent.invariant.1

pub returns-clause-offered : goal.returns-clause-offered
returns-clause-offered g c =
    goes_on-all g.K.Sink.offered _ _ _ _ (drop-none c.args.bytes.now c.loop-sent.sent (grind (arith, common_steps))) c.loop-sent.invariant.1

pub returns-in-Err-Failed-clause-bytes : goal.returns-in-Err-Failed-clause-bytes
returns-in-Err-Failed-clause-bytes g c = search rules

pub returns-clause-bytes : goal.returns-clause-bytes
returns-clause-bytes g c = grind (arith, common_steps)
