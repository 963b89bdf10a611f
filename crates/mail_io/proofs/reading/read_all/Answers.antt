use Rattle.std.proofs.Common.{◌≡◌, ◌+◌, ◌<◌, ◌∙◌, length, take, arith}
use Rattle.std.proofs.lemmas.Grind.{common_steps}
use Rattle.std.proofs.lemmas.Result.{err_from_is_err_and}
use Rattle.std.proofs.KnownBytes.{Consumes-trans}
use Rattle.mail_io.proofs.Taken.{TakesAll-refused}
use Rattle.mail_io.proofs.reading.read_all.Goals as goal

pub returns-in_err-keep-clause-bytes : goal.returns-in_err-keep-clause-bytes
returns-in_err-keep-clause-bytes g c =
    let left = c.from_residual-in_err-keep in
    let same = err_from_is_err_and left.result left.ensures.1 in
    let told = c.in_ok-count.ensures in
    rw (same.1, same.2)
    (TakesAll-refused _ _ _ _ _ c.loop-bytes.bytes.items (take c.in_ok-count.count c.take_once.new.into) _ c.loop-bytes.invariant.1.moved told.told.0
    (grind (arith, common_steps)) (grind (arith, common_steps, told.bound)) c.in_err-keep.ensures.exactly_large)

pub loop-bytes-preserved : goal.loop-bytes-preserved
loop-bytes-preserved g c =
    let so_far = c.loop-bytes.invariant.1 in
    let told = c.in_ok-count.ensures in
    let items = c.in_ok-keep.ensures.ok in
    let some : 0 < c.in_ok-count.count = grind arith in
    let longer : length c.keep.new.bytes.items ≡ length c.loop-bytes.bytes.items + c.in_ok-count.count =
    rw items (grind (arith, common_steps, told.bound)) in (
      c.loop-bytes.invariant.0,
      record {
        within = grind (arith, common_steps);
        moved = rw items (Consumes-trans _ _ _ c.loop-bytes.bytes.items _ so_far.moved told.told.0);
        no_fault = told.cause.kept ∙ so_far.no_fault;
        few_calls = grind (arith, common_steps, told.counted);
      },
    )

pub loop-bytes-smaller : goal.loop-bytes-smaller
loop-bytes-smaller g c = grind (arith, common_steps)
