-- The keys, one after the other.
use Rattle.std.proofs.Common.{◌∙◌, refl, subst, arith}
use Rattle.std.proofs.lemmas.List.{length-set}
use Rattle.std.proofs.lemmas.Result.{err_from_is_err_and}
use Rattle.mail_words.specs.Key.{KeyNumbers}
use Rattle.tx_heap.proofs.lemmas.Stops.{stopped_after}
use Rattle.tx_postings.specs.Looking.{LookedAt}
use Rattle.tx_postings.proofs.LookSteps.{looking_none, looking_more, have_free, looked_up, lacked}
use Rattle.tx_postings.proofs.looking.look_up.Goals as goal

pub loop-k-init : goal.loop-k-init
loop-k-init g c = (
  c.requires.of,
  c.pass_knows.ensures,
  looking_none (g.M.TxMemory.made c.args.mem.now) (g.M.TxMemory.view c.args.pass.now) (g.M.TxMemory.attempt c.args.pass.now) c.args.keys.now c.args.offsets.now
      c.args.heads.now c.requires.active c.requires.many c.requires.empty,
  refl,
)

pub returns-in_err-offsets-clause-refused : goal.returns-in_err-offsets-clause-refused
returns-in_err-offsets-clause-refused g c =
    let p = err_from_is_err_and c.from_residual.result c.from_residual.ensures.1 in
    rw (p.1, p.2) (stopped_after c.loop-k.invariant.2.only c.in_err-offsets.ensures.cause)

pub loop-k-preserved : goal.loop-k-preserved
loop-k-preserved g c =
    let looked = subst (λ (key : KeyNumbers).
    LookedAt (g.M.TxMemory.made c.args.mem.now) (g.M.TxMemory.view c.loop-k.pass) (g.M.TxMemory.view c.look_at.new.pass)
    (g.M.TxMemory.attempt c.loop-k.pass) (g.M.TxMemory.attempt c.look_at.new.pass) key c.loop-k.heads c.look_at.new.heads c.in_ok-offsets.field-0)
    c.index-keys-k.is c.in_ok-offsets.ensures.looked in (
      c.in_ok-offsets.ensures.of,
      c.pass_knows-in-loop-k.ensures,
      looking_more c.loop-k.invariant.2 c.loop-k-test.true
          (omega (arith, c.loop-k-test.true, c.requires.offsets, c.loop-k.invariant.3)) c.index-keys-k.result looked,
      length-set c.loop-k.offsets c.loop-k.k c.in_ok-offsets.field-0 ∙ c.loop-k.invariant.3,
    )

pub lowest_that_lacks-requires-clause-free : goal.lowest_that_lacks-requires-clause-free
lowest_that_lacks-requires-clause-free g c lane head is = have_free c.loop-k.invariant.2 c.requires.none.0 c.loop-k.invariant.1 lane head is

pub returns-in_default-clause-looked : goal.returns-in_default-clause-looked
returns-in_default-clause-looked g c =
    looked_up c.loop-k.invariant.2 c.requires.none.0 c.loop-k.invariant.1 c.loop-k-test.false c.in_default.ensures

pub free_words-requires : goal.free_words-requires
free_words-requires g c = record {
  free = have_free c.loop-k.invariant.2 c.requires.none.0 c.loop-k.invariant.1 c.in-Some.lane c.in-Some.head c.in-Some.ensures.1;
}

pub returns-clause-refused : goal.returns-clause-refused
returns-clause-refused g c =
    lacked c.loop-k.invariant.2 c.requires.none.0 c.loop-k.invariant.1 c.loop-k-test.false c.give_up.ensures.ended c.in-Some.ensures c.free_words.ensures
