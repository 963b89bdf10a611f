-- A cell goes where the free words begin.
use Rattle.std.proofs.Common.{◌<◌, sym, ◌∙◌, ap, subst, arith}
use Rattle.std.specs.List.{All}
use Rattle.std.proofs.lemmas.Result.{err_from_is_err_and}
use Rattle.tx_model.specs.declared.word.Word.{Word}
use Rattle.tx_model.specs.declared.view.Attempt.{Attempt}
use Rattle.tx_model.specs.declared.view.PassView.{PassView}
use Rattle.tx_heap.specs.Layout.{segment_len}
use Rattle.tx_heap.specs.Calls.{made_sizes}
use Rattle.tx_model.proofs.lemmas.Attempts.{only_reads_then}
use Rattle.tx_buckets.specs.Writing.{with_words, AddedCell}
use Rattle.tx_heap.proofs.lemmas.Stops.{stopped_after}
use Rattle.tx_buckets.proofs.AddSteps.{offset_inside, looked_at, cell_bounds, cell_inside, added}
use Rattle.tx_buckets.proofs.adding.add_cell.Goals as goal

pub overflow_add-offset : goal.overflow_add-offset
overflow_add-offset g c =
    let inside = offset_inside c.pass_knows.ensures c.requires.active c.requires.opened c.requires.index c.args.offset c.requires.there c.requires.free in
    omega (arith, inside)

pub read_word-requires-clause-inside : goal.read_word-requires-clause-inside
read_word-requires-clause-inside g c =
    let inside = offset_inside c.pass_knows.ensures c.requires.active c.requires.opened c.requires.index c.args.offset c.requires.there c.requires.free in
    omega (arith, inside)

pub returns-in_err-at-clause-cause : goal.returns-in_err-at-clause-cause
returns-in_err-at-clause-cause g c =
    let p = err_from_is_err_and c.from_residual-in_err-at.result c.from_residual-in_err-at.ensures.1 in
    rw (p.1, p.2) (stopped_after c.in_ok-newest.ensures.word.only c.in_err-at.ensures.cause)

pub returns-in_err-cells-clause-cause : goal.returns-in_err-cells-clause-cause
returns-in_err-cells-clause-cause g c =
    let p = err_from_is_err_and c.from_residual-in_err-cells.result c.from_residual-in_err-cells.ensures.1 in
    rw (p.1, p.2) (stopped_after (only_reads_then c.in_ok-newest.ensures.word.only c.in_ok-at.ensures.word.only) c.in_err-cells.ensures.cause)

pub cell_words-words-requires-clause-at : goal.cell_words-words-requires-clause-at
cell_words-words-requires-clause-at g c =
    (cell_bounds c.args.message (looked_at c.args.offset c.in_ok-newest.ensures.word c.in_ok-at.ensures.word c.in_ok-cells.ensures.word) c.pass_knows-2.ensures
    c.requires.index c.requires.there c.requires.free).1

pub cell_words-words-requires-clause-offset : goal.cell_words-words-requires-clause-offset
cell_words-words-requires-clause-offset g c =
    offset_inside c.pass_knows.ensures c.requires.active c.requires.opened c.requires.index c.args.offset c.requires.there c.requires.free

pub cell_words-words-requires-clause-cells : goal.cell_words-words-requires-clause-cells
cell_words-words-requires-clause-cells g c =
    (cell_bounds c.args.message (looked_at c.args.offset c.in_ok-newest.ensures.word c.in_ok-at.ensures.word c.in_ok-cells.ensures.word) c.pass_knows-2.ensures
    c.requires.index c.requires.there c.requires.free).2

pub write_words-requires-clause-inside : goal.write_words-requires-clause-inside
write_words-requires-clause-inside g c =
    subst (All (λ (word : Word). word.addr < segment_len)) (sym c.cell_words-words.ensures)
    (cell_inside c.args.message (looked_at c.args.offset c.in_ok-newest.ensures.word c.in_ok-at.ensures.word c.in_ok-cells.ensures.word) c.pass_knows-2.ensures
    c.requires.index c.requires.there c.requires.free)

pub returns-clause-added : goal.returns-clause-added
returns-clause-added g c =
    let made = g.M.TxMemory.made c.args.mem.now in
    let wrote = c.write_words.ensures.written
    ∙ ap (with_words (made_sizes made) c.args.segment (g.M.TxMemory.attempt c.read_word-3.new.pass)) c.cell_words-words.ensures in
    subst (λ (view : PassView). AddedCell made (g.M.TxMemory.view c.args.pass.now) view (g.M.TxMemory.attempt c.args.pass.now)
    (g.M.TxMemory.attempt c.write_words.new.pass) c.args.segment c.args.offset c.args.message)
    (sym c.write_words.ensures.same)
    (subst (λ (attempt : Attempt). AddedCell made (g.M.TxMemory.view c.args.pass.now) (g.M.TxMemory.view c.read_word-3.new.pass)
    (g.M.TxMemory.attempt c.args.pass.now) attempt c.args.segment c.args.offset c.args.message) (sym wrote)
    (added c.args.message (looked_at c.args.offset c.in_ok-newest.ensures.word c.in_ok-at.ensures.word c.in_ok-cells.ensures.word) c.pass_knows-2.ensures
    c.requires.index c.requires.there c.requires.free))
