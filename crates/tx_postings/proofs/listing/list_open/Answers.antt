-- The cells of the key's record, one after the other.
use Rattle.std.proofs.lemmas.Grind.{common_steps}
use Rattle.std.proofs.Common.{sym, subst, arith}
use Rattle.std.proofs.lemmas.Result.{err_from_is_err_and}
use Rattle.tx_model.proofs.lemmas.Attempts.{only_reads_then}
use Rattle.tx_buckets.specs.Reading.{FoundKey}
use Rattle.tx_heap.proofs.lemmas.Stops.{stopped_after}
use Rattle.tx_postings.proofs.CellSteps.{IsListing, listed_none, offset_inside, listing_begins, listed_all, cell_inside, falls, lists_on}
use Rattle.tx_postings.proofs.listing.list_open.Goals as goal

pub returns-in_default-clause-listed : goal.returns-in_default-clause-listed
returns-in_default-clause-listed g c =
    let found = subst
    (FoundKey (g.M.TxMemory.made c.args.mem.now) (g.M.TxMemory.view c.args.pass.now) (g.M.TxMemory.view c.find.new.pass)
    (g.M.TxMemory.attempt c.args.pass.now) (g.M.TxMemory.attempt c.find.new.pass) c.args.segment c.args.key.now)
    c.in_default.is c.in_ok-offset.ensures.found in
    listed_none c.args.into.now.items found

pub overflow_add-offset : goal.overflow_add-offset
overflow_add-offset g c =
    let found = subst
    (FoundKey (g.M.TxMemory.made c.args.mem.now) (g.M.TxMemory.view c.args.pass.now) (g.M.TxMemory.view c.find.new.pass)
    (g.M.TxMemory.attempt c.args.pass.now) (g.M.TxMemory.attempt c.find.new.pass) c.args.segment c.args.key.now)
    c.in-Some.is c.in_ok-offset.ensures.found in
    let inside = offset_inside c.requires.index found c.pass_knows.ensures in
    omega (arith, inside)

pub read_word-requires-clause-inside : goal.read_word-requires-clause-inside
read_word-requires-clause-inside g c =
    let found = subst
    (FoundKey (g.M.TxMemory.made c.args.mem.now) (g.M.TxMemory.view c.args.pass.now) (g.M.TxMemory.view c.find.new.pass)
    (g.M.TxMemory.attempt c.args.pass.now) (g.M.TxMemory.attempt c.find.new.pass) c.args.segment c.args.key.now)
    c.in-Some.is c.in_ok-offset.ensures.found in
    let inside = offset_inside c.requires.index found c.pass_knows.ensures in
    omega (arith, inside)

pub returns-in_err-cell-clause-refused : goal.returns-in_err-cell-clause-refused
returns-in_err-cell-clause-refused g c =
    let p = err_from_is_err_and c.from_residual-in_err-cell.result c.from_residual-in_err-cell.ensures.1 in
    rw (p.1, p.2) (stopped_after c.in_ok-offset.ensures.found.only c.in_err-cell.ensures.cause)

pub loop-cell-init : goal.loop-cell-init
loop-cell-init g c =
    let found = subst
    (FoundKey (g.M.TxMemory.made c.args.mem.now) (g.M.TxMemory.view c.args.pass.now) (g.M.TxMemory.view c.find.new.pass)
    (g.M.TxMemory.attempt c.args.pass.now) (g.M.TxMemory.attempt c.find.new.pass) c.args.segment c.args.key.now)
    c.in-Some.is c.in_ok-offset.ensures.found in
    (c.in_ok-cell.ensures.of, listing_begins c.requires.index found c.pass_knows.ensures c.args.into.now.items c.in_ok-cell.ensures.word c.pass_knows-2.ensures)

pub read_word-requires-in-loop-cell-clause-inside : goal.read_word-requires-in-loop-cell-clause-inside
read_word-requires-in-loop-cell-clause-inside g c = let inside = cell_inside c.loop-cell.invariant.1 c.loop-cell-test.true in omega (arith, inside)

pub returns-in_err-message-clause-refused : goal.returns-in_err-message-clause-refused
returns-in_err-message-clause-refused g c =
    let p = err_from_is_err_and c.from_residual-in_err-message.result c.from_residual-in_err-message.ensures.1 in
    rw (p.1, p.2) (stopped_after c.loop-cell.invariant.1.only c.in_err-message.ensures.cause)

pub returns-in_default-push-clause-refused : goal.returns-in_default-push-clause-refused
returns-in_default-push-clause-refused g c = only_reads_then c.loop-cell.invariant.1.only c.in_ok-message.ensures.word.only

pub overflow_add-cell : goal.overflow_add-cell
overflow_add-cell g c = let inside = cell_inside c.loop-cell.invariant.1 c.loop-cell-test.true in omega (arith, inside)

pub read_word-requires-in-loop-cell-2-clause-inside : goal.read_word-requires-in-loop-cell-2-clause-inside
read_word-requires-in-loop-cell-2-clause-inside g c = let inside = cell_inside c.loop-cell.invariant.1 c.loop-cell-test.true in omega (arith, inside)

pub returns-in_err-cell-2-clause-refused : goal.returns-in_err-cell-2-clause-refused
returns-in_err-cell-2-clause-refused g c =
    let p = err_from_is_err_and c.from_residual-in_err-cell-2.result c.from_residual-in_err-cell-2.ensures.1 in
    rw (p.1, p.2) (stopped_after (only_reads_then c.loop-cell.invariant.1.only c.in_ok-message.ensures.word.only) c.in_err-cell-2.ensures.cause)

pub loop-cell-smaller : goal.loop-cell-smaller
loop-cell-smaller g c =
    falls c.loop-cell.invariant.1 c.loop-cell-test.true c.in_ok-message.ensures.word c.in_ok-cell-2.ensures.word c.pass_knows-in-loop-cell.ensures

pub loop-cell-preserved : goal.loop-cell-preserved
loop-cell-preserved g c =
    let made = g.M.TxMemory.made c.args.mem.now in
    let last = c.read_word-in-loop-cell-2.new.pass in
    let on = lists_on c.loop-cell.invariant.1 c.loop-cell-test.true c.in_ok-message.ensures.word c.in_ok-cell-2.ensures.word
    c.pass_knows-in-loop-cell.ensures in (
      c.in_ok-cell-2.ensures.of,
      subst (IsListing made (g.M.TxMemory.view c.args.pass.now) (g.M.TxMemory.view last) (g.M.TxMemory.attempt c.args.pass.now)
          (g.M.TxMemory.attempt last) c.args.segment c.args.key.now c.in-Some.offset c.in_ok-cell-2.cell c.args.into.now.items)
          (sym c.in-Ok.ensures.items) on,
    )

pub returns-clause-listed : goal.returns-clause-listed
returns-clause-listed g c = listed_all c.loop-cell.invariant.1 c.loop-cell-test.false

pub returns-in_err-cell-2-clause-old_part : goal.returns-in_err-cell-2-clause-old_part
returns-in_err-cell-2-clause-old_part g c = grind (arith, common_steps)
