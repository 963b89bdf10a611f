-- The search along the chain of the key's bucket.
use Rattle.std.proofs.Common.{ℕ, ◌+◌, ap, arith}
use Rattle.std.proofs.lemmas.Result.{err_from_is_err_and}
use Rattle.tx_model.proofs.lemmas.Attempts.{only_reads_then}
use Rattle.tx_heap.proofs.lemmas.Stops.{stopped_after}
use Rattle.tx_buckets.proofs.FindSteps.{search_begins, inside_of, found_here, found_none, goes_on_at, falls}
use Rattle.tx_buckets.proofs.finding.find.Goals as goal

pub loop-at-init : goal.loop-at-init
loop-at-init g c = (
  c.in_ok-at.ensures.of,
  search_begins c.args.key.now (8 + c.bucket_of.result) (omega (arith, c.bucket_of.ensures.bucket, c.bucket_of.ensures.below))
      (ap (λ (n : ℕ). 8 + n) c.bucket_of.ensures.bucket) c.pass_knows.ensures c.requires.index c.in_ok-at.ensures.word,
)

pub has_key-requires-clause-inside : goal.has_key-requires-clause-inside
has_key-requires-clause-inside g c =
    let inside = inside_of (omega (arith, c.bucket_of.ensures.bucket, c.bucket_of.ensures.below)) c.loop-at.invariant.1 c.loop-at-test.true in omega
    (arith, inside)

pub returns-in_err-has_key-clause-cause : goal.returns-in_err-has_key-clause-cause
returns-in_err-has_key-clause-cause g c =
    let p = err_from_is_err_and c.from_residual-in_err-has_key.result c.from_residual-in_err-has_key.ensures.1 in
    rw (p.1, p.2) (stopped_after c.loop-at.invariant.1.only c.in_err-has_key.ensures.cause)

pub returns-then-branch-clause-found : goal.returns-then-branch-clause-found
returns-then-branch-clause-found g c =
    found_here (omega (arith, c.bucket_of.ensures.bucket, c.bucket_of.ensures.below)) c.loop-at.invariant.1 c.loop-at-test.true c.if-branch.true
    c.in_ok-has_key.ensures.key

pub overflow_add-at : goal.overflow_add-at
overflow_add-at g c =
    let inside = inside_of (omega (arith, c.bucket_of.ensures.bucket, c.bucket_of.ensures.below)) c.loop-at.invariant.1 c.loop-at-test.true in omega
    (arith, inside)

pub read_word-requires-in-loop-at-clause-inside : goal.read_word-requires-in-loop-at-clause-inside
read_word-requires-in-loop-at-clause-inside g c =
    let inside = inside_of (omega (arith, c.bucket_of.ensures.bucket, c.bucket_of.ensures.below)) c.loop-at.invariant.1 c.loop-at-test.true in omega
    (arith, inside)

pub returns-in_err-at-2-clause-cause : goal.returns-in_err-at-2-clause-cause
returns-in_err-at-2-clause-cause g c =
    let p = err_from_is_err_and c.from_residual-in_err-at-2.result c.from_residual-in_err-at-2.ensures.1 in
    rw (p.1, p.2) (stopped_after (only_reads_then c.loop-at.invariant.1.only c.in_ok-has_key.ensures.key.only) c.in_err-at-2.ensures.cause)

pub loop-at-smaller : goal.loop-at-smaller
loop-at-smaller g c =
    falls (omega (arith, c.bucket_of.ensures.bucket, c.bucket_of.ensures.below)) c.loop-at.invariant.1 c.loop-at-test.true c.if-branch.false
    c.in_ok-has_key.ensures.key c.in_ok-at-2.ensures.word c.pass_knows-in-loop-at.ensures

pub loop-at-preserved : goal.loop-at-preserved
loop-at-preserved g c = (
  c.in_ok-at-2.ensures.of,
  goes_on_at (omega (
    arith,
    c.bucket_of.ensures.bucket,
    c.bucket_of.ensures.below,
  )) c.loop-at.invariant.1 c.loop-at-test.true c.if-branch.false c.in_ok-has_key.ensures.key c.in_ok-at-2.ensures.word c.pass_knows-in-loop-at.ensures,
)

pub returns-clause-found : goal.returns-clause-found
returns-clause-found g c =
    found_none (omega (arith, c.bucket_of.ensures.bucket, c.bucket_of.ensures.below)) c.loop-at.invariant.1 c.loop-at-test.false
