-- The lane's head, and the key's record.
use Rattle.std.proofs.Common.{◌+◌, Some, None, get_or, set, sym, subst}
use Rattle.std.proofs.lemmas.Result.{err_from_is_err_and}
use Rattle.mail_words.specs.Hash as hash
use Rattle.tx_heap.proofs.lemmas.Stops.{stopped_after}
use Rattle.tx_postings.specs.Looking.{HasHead, LookedAt}
use Rattle.tx_postings.proofs.LookSteps.{key_looked}
use Rattle.tx_postings.proofs.looking.look_at.Goals as goal

pub head_of-requires-clause-known : goal.head_of-requires-clause-known
head_of-requires-clause-known g c head is = c.requires.heads c.lane_of-lane.result head is

pub returns-in_err-offset-clause-cause : goal.returns-in_err-offset-clause-cause
returns-in_err-offset-clause-cause g c =
    let p = err_from_is_err_and c.from_residual-in_err-offset.result c.from_residual-in_err-offset.ensures.1 in
    rw (p.1, p.2) (stopped_after c.in_ok-head.ensures.head.only c.in_err-offset.ensures.cause)

pub returns-clause-looked : goal.returns-clause-looked
returns-clause-looked g c =
    let made = g.M.TxMemory.made c.args.mem.now in
    let old = g.M.TxMemory.view c.args.pass.now in
    let mid = g.M.TxMemory.view c.head_of.new.pass in
    let new = g.M.TxMemory.view c.find.new.pass in
    let before = g.M.TxMemory.attempt c.args.pass.now in
    let between = g.M.TxMemory.attempt c.head_of.new.pass in
    let now = g.M.TxMemory.attempt c.find.new.pass in
    let heads = c.args.heads.now in
    let head = c.in_ok-head.head in
    let same = c.lane_of-lane.ensures.lane in
    let has = subst (λ lane. HasHead made old mid before between lane (get_or heads lane None) head) same c.in_ok-head.ensures.head in
    subst (λ lane. LookedAt made old new before now c.args.key.now heads
    (set heads lane
    (Some (record { segment = head.segment; free = head.free; keys = head.keys; cells = head.cells; needs = head.needs + c.words_for.result })))
    c.in_ok-offset.offset) (sym same)
    (subst (λ words. LookedAt made old new before now c.args.key.now heads
    (set heads (hash.lane_of c.args.key.now)
    (Some (record { segment = head.segment; free = head.free; keys = head.keys; cells = head.cells; needs = head.needs + words })))
    c.in_ok-offset.offset) (sym c.words_for.ensures)
    (key_looked c.args.key.now c.in_ok-offset.offset has c.in_ok-offset.ensures.found))
