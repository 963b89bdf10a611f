-- Each write is one of the segment's words.
use Rattle.std.proofs.lemmas.Grind.{common_steps}
use Rattle.std.proofs.Common.{ℕ, ◌+◌, ◌<◌, length, get_or, take, sym, ◌∙◌, ap, subst, arith}
use Rattle.std.proofs.lemmas.List.{length-take}
use Rattle.std.proofs.lemmas.List.Elements.{All-get_or}
use Rattle.tx_model.specs.declared.word.Word.{Word}
use Rattle.tx_model.specs.declared.view.Attempt.{Attempt}
use Rattle.tx_model.specs.Words.{no_word}
use Rattle.tx_model.specs.Calls.{with_write}
use Rattle.tx_heap.specs.Layout.{Sizes, sizes_of, base_at, segment_len}
use Rattle.tx_heap.specs.Calls.{made_sizes}
use Rattle.tx_buckets.specs.Reading.{IsOpened}
use Rattle.tx_buckets.proofs.lemmas.Writes.{words_stay, words_few, words_more, opened_with_words, may_write_word}
use Rattle.tx_buckets.proofs.writing.write_words.Goals as goal

pub write_word-requires-clause-within : goal.write_word-requires-clause-within
write_word-requires-clause-within g c =
    let at = c.base-base.ensures ∙ ap (λ (sizes : Sizes). base_at sizes c.args.segment) (c.plan-plan.ensures.plan ∙ ap sizes_of c.sense.ensures) in
    let inside = All-get_or (λ (w : Word). w.addr < segment_len) c.args.words.now c.loop-word.word-index no_word c.loop-word-test.true c.requires.inside in
    omega (arith, at, inside, c.requires.opened.within, c.made_well.ensures.opening_good.size)

pub write_word-requires-clause-rule : goal.write_word-requires-clause-rule
write_word-requires-clause-rule g c =
    let made = g.M.TxMemory.made c.args.mem.now in
    let at = c.base-base.ensures ∙ ap (λ (sizes : Sizes). base_at sizes c.args.segment) (c.plan-plan.ensures.plan ∙ ap sizes_of c.sense.ensures) in
    let inside = All-get_or (λ (w : Word). w.addr < segment_len) c.args.words.now c.loop-word.word-index no_word c.loop-word-test.true c.requires.inside in
    let start = g.M.TxMemory.attempt c.args.pass.now in
    let opened = subst (λ (attempt : Attempt). IsOpened (made_sizes made) attempt c.args.segment) (sym c.loop-word.invariant.2)
    (opened_with_words c.args.segment (words_stay (made_sizes made) c.args.segment start (take c.loop-word.word-index c.args.words.now)) c.requires.opened) in
    may_write_word (get_or c.args.words.now c.loop-word.word-index no_word).addr _ _ c.made_well.ensures opened inside
    (ap (λ (base : ℕ). base + (get_or c.args.words.now c.loop-word.word-index no_word).addr) at)

pub write_word-requires-clause-room : goal.write_word-requires-clause-room
write_word-requires-clause-room g c =
    let made = g.M.TxMemory.made c.args.mem.now in
    let start = g.M.TxMemory.attempt c.args.pass.now in
    let few = words_few (made_sizes made) c.args.segment start (take c.loop-word.word-index c.args.words.now) in
    omega (
      arith,
      c.requires.room,
      few,
      length-take c.loop-word.word-index c.args.words.now,
      c.loop-word-test.true,
      ap
          (λ (attempt : Attempt). length attempt.writes) c.loop-word.invariant.2,
    )

pub loop-word-preserved : goal.loop-word-preserved
loop-word-preserved g c =
    let made = g.M.TxMemory.made c.args.mem.now in
    let start = g.M.TxMemory.attempt c.args.pass.now in
    let word = get_or c.args.words.now c.loop-word.word-index no_word in
    let at = c.base-base.ensures ∙ ap (λ (sizes : Sizes). base_at sizes c.args.segment) (c.plan-plan.ensures.plan ∙ ap sizes_of c.sense.ensures) in (
      c.write_word.ensures.of,
      c.write_word.ensures.same ∙ c.loop-word.invariant.1,
      c.write_word.ensures.written
          ∙ ap (λ (base : ℕ). with_write (g.M.TxMemory.attempt c.loop-word.pass) (base + word.addr) word.value) at
          ∙ ap (λ (attempt : Attempt). with_write attempt (base_at (made_sizes made) c.args.segment + word.addr) word.value) c.loop-word.invariant.2
          ∙ sym (words_more (made_sizes made) c.args.segment start c.args.words.now c.loop-word.word-index no_word c.loop-word-test.true),
    )

pub returns-clause-written : goal.returns-clause-written
returns-clause-written g c = grind (arith, common_steps)
