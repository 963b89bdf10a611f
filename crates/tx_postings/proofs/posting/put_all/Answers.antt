-- The keys of a batch, one after the other, and then the first words of the segments.
use Rattle.std.proofs.Common.{◌+◌, Some, None, get_or, set, sym, ◌∙◌, ap, subst, rules}
use Rattle.std.proofs.lemmas.List.{get_or_default}
use Rattle.std.proofs.lemmas.Result.{err_from_is_err_and}
use Rattle.mail_words.specs.Key.{KeyNumbers}
use Rattle.mail_words.specs.Hash as hash
use Rattle.tx_model.specs.declared.view.Attempt.{Attempt}
use Rattle.tx_model.specs.declared.view.PassView.{PassView}
use Rattle.tx_postings.specs.Filling.{PutPosting, PutAll}
use Rattle.tx_postings.proofs.AllSteps.{IsPutting, putting_none, opened_now, fits_here, putting_more, all_put}
use Rattle.tx_heap.proofs.lemmas.Stops.{stopped_later}
use Rattle.tx_postings.proofs.posting.put_all.Goals as goal

pub loop-k-init : goal.loop-k-init
loop-k-init g c =
    let made = g.M.TxMemory.made c.args.mem.now in
    let old = g.M.TxMemory.view c.args.pass.now in
    let before = g.M.TxMemory.attempt c.args.pass.now in (
      c.requires.of,
      putting_none made old before c.args.message c.requires.none c.requires.can c.pass_knows.ensures c.requires.active c.requires.heads,
    )

-- the lane of the key has a head
pub unreachable-requires : goal.unreachable-requires
unreachable-requires g c =
    let path = c.lane_of-lane.ensures.lane ∙ ap hash.lane_of c.index-keys-k.is in
    let (head, is) = c.loop-k.invariant.1.met c.loop-k.k c.index-keys-k.result c.loop-k-test.true in
    c.in_default.not-Some head (ap (λ lane. get_or c.loop-k.heads lane None) path ∙ is)

pub put_posting-requires-clause-opened : goal.put_posting-requires-clause-opened
put_posting-requires-clause-opened g c =
    opened_now (g.M.TxMemory.made c.args.mem.now) (g.M.TxMemory.view c.args.pass.now) (g.M.TxMemory.attempt c.args.pass.now) c.args.message
    c.requires.none c.requires.can c.loop-k.invariant.1 c.lane_of-lane.result c.in-Some.head c.in-Some.is

pub put_posting-requires-clause-fits : goal.put_posting-requires-clause-fits
put_posting-requires-clause-fits g c =
    let path = c.lane_of-lane.ensures.lane ∙ ap hash.lane_of c.index-keys-k.is in
    fits_here (g.M.TxMemory.made c.args.mem.now) (g.M.TxMemory.view c.args.pass.now) (g.M.TxMemory.attempt c.args.pass.now) c.args.message
    c.requires.none c.requires.can c.loop-k.invariant.1 c.loop-k-test.true c.index-keys-k.result c.in-Some.head
    (ap (λ lane. get_or c.loop-k.heads lane None) (sym path) ∙ c.in-Some.is)

pub returns-in_err-then-clause-cause : goal.returns-in_err-then-clause-cause
returns-in_err-then-clause-cause g c =
    let p = err_from_is_err_and c.from_residual.result c.from_residual.ensures.1 in
    rw (p.1, p.2) (stopped_later c.loop-k.invariant.1.more.goes_on c.in_err-then.ensures.cause)

pub loop-k-preserved : goal.loop-k-preserved
loop-k-preserved g c =
    let made = g.M.TxMemory.made c.args.mem.now in
    let old = g.M.TxMemory.view c.args.pass.now in
    let new = g.M.TxMemory.view c.loop-k.pass in
    let last = g.M.TxMemory.view c.put_posting.new.pass in
    let before = g.M.TxMemory.attempt c.args.pass.now in
    let now = g.M.TxMemory.attempt c.loop-k.pass in
    let after_put = g.M.TxMemory.attempt c.put_posting.new.pass in
    let keys = c.args.keys.now in
    let k = c.loop-k.k in
    let d = c.index-keys-k.result in
    let path = c.lane_of-lane.ensures.lane ∙ ap hash.lane_of c.index-keys-k.is in
    let key_is = c.index-keys-k-in-loop-k.is ∙ get_or_default keys k c.index-keys-k-in-loop-k.result d c.loop-k-test.true in
    let put = subst (λ (key : KeyNumbers).
    PutPosting made new last now after_put key c.args.message (get_or c.args.offsets.now k None) c.in-Some.head c.in_ok-then.then) key_is
    c.in_ok-then.ensures.put in
    let more = putting_more made old before c.args.message c.requires.none c.requires.can c.loop-k.invariant.1 c.loop-k-test.true d c.in-Some.head
    (ap (λ lane. get_or c.loop-k.heads lane None) (sym path) ∙ c.in-Some.is) c.requires.once c.requires.new put c.pass_knows-in-loop-k.ensures in (
      c.in_ok-then.ensures.of,
      subst (λ lane. IsPutting made old last before after_put c.args.message keys c.args.offsets.now (k + 1)
          (set c.loop-k.heads lane (Some c.in_ok-then.then))) (sym path) more,
    )

pub write_heads-requires-clause-opened : goal.write_heads-requires-clause-opened
write_heads-requires-clause-opened g c lane head is =
    opened_now (g.M.TxMemory.made c.args.mem.now) (g.M.TxMemory.view c.args.pass.now) (g.M.TxMemory.attempt c.args.pass.now) c.args.message
    c.requires.none c.requires.can c.loop-k.invariant.1 lane head is

pub returns-clause-put : goal.returns-clause-put
returns-clause-put g c =
    let made = g.M.TxMemory.made c.args.mem.now in
    let old = g.M.TxMemory.view c.args.pass.now in
    let new = g.M.TxMemory.view c.loop-k.pass in
    let before = g.M.TxMemory.attempt c.args.pass.now in
    subst (λ (view : PassView). PutAll made old view before (g.M.TxMemory.attempt c.write_heads.new.pass) c.args.keys.now c.args.message)
    (sym c.write_heads.ensures.same)
    (subst (λ (attempt : Attempt). PutAll made old new before attempt c.args.keys.now c.args.message) (sym c.write_heads.ensures.written)
    (all_put made old before c.args.message c.requires.none c.requires.can c.loop-k.invariant.1 c.loop-k-test.false c.loop-k.auto.k-end))

pub write_heads-requires-clause-room : goal.write_heads-requires-clause-room
write_heads-requires-clause-room g c = search rules
