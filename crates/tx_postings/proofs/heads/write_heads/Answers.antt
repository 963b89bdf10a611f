-- The first words of the segments, lane by lane.
use Rattle.std.proofs.lemmas.Grind.{common_steps}
use Rattle.std.proofs.Common.{◌≡◌, ◌+◌, None, List, length, take, sym, ◌∙◌, ap, subst, arith}
use Rattle.std.proofs.lemmas.List.{length-take-le}
use Rattle.tx_model.specs.declared.word.Word.{Word}
use Rattle.tx_model.specs.declared.view.Attempt.{Attempt}
use Rattle.tx_heap.specs.Calls.{made_sizes}
use Rattle.tx_buckets.specs.Reading.{IsOpened}
use Rattle.tx_buckets.specs.Writing.{with_words}
use Rattle.tx_postings.specs.Heads.{head_words, with_heads}
use Rattle.tx_postings.proofs.PutSteps.{heads_more, heads_next, heads_next_none}
use Rattle.tx_postings.proofs.heads.write_heads.Goals.{in-Some, in_default}
use Rattle.tx_postings.proofs.heads.write_heads.Goals as goal

pub write_words-requires-clause-opened : goal.write_words-requires-clause-opened
write_words-requires-clause-opened g c =
    let sizes = made_sizes (g.M.TxMemory.made c.args.mem.now) in
    let before = g.M.TxMemory.attempt c.args.pass.now in
    let more = heads_more sizes (g.M.TxMemory.view c.args.pass.now) (take c.loop-lane.lane c.args.heads.now) before c.requires.active in
    subst (λ (a : Attempt). IsOpened sizes a c.in-Some.head.segment) (sym c.loop-lane.invariant.2)
    (more.opened c.in-Some.head.segment (c.requires.opened c.loop-lane.lane c.in-Some.head c.in-Some.is))

pub write_words-requires-clause-room : goal.write_words-requires-clause-room
write_words-requires-clause-room g c =
    let sizes = made_sizes (g.M.TxMemory.made c.args.mem.now) in
    let before = g.M.TxMemory.attempt c.args.pass.now in
    let more = heads_more sizes (g.M.TxMemory.view c.args.pass.now) (take c.loop-lane.lane c.args.heads.now) before c.requires.active in
    omega (
      arith,
      more.few,
      ap (λ (a : Attempt). length a.writes) c.loop-lane.invariant.2,
      ap (λ (ws : List Word). length ws) c.head_words.ensures,
      length-take-le c.loop-lane.lane c.args.heads.now c.loop-lane.auto.lane-end,
      c.loop-lane-test.true,
      c.requires.many,
      c.requires.room,
    )

pub loop-lane-preserved : goal.loop-lane-preserved
loop-lane-preserved g c =
    let sizes = made_sizes (g.M.TxMemory.made c.args.mem.now) in
    let before = g.M.TxMemory.attempt c.args.pass.now in
    elim c.match-heads-lane.branch [
      | in-Some w ↦
          let lane = c.loop-lane.lane in
          let heads = c.args.heads.now in
          let head = w.in-Some.head in
          let written = w.write_words.ensures.written
          ∙ ap (with_words sizes head.segment (g.M.TxMemory.attempt c.loop-lane.pass)) w.head_words.ensures
          ∙ ap (λ (a : Attempt). with_words sizes head.segment a (head_words head)) c.loop-lane.invariant.2
          ∙ sym (heads_next sizes heads before lane None head c.loop-lane-test.true w.in-Some.is) in
          subst (λ pass.
          g.M.TxMemory.of c.args.mem.now pass × (g.M.TxMemory.view pass ≡ g.M.TxMemory.view c.args.pass.now)
          × (g.M.TxMemory.attempt pass ≡ with_heads sizes before (take (lane + 1) heads))) (sym w.pass-is)
          (w.write_words.ensures.of, w.write_words.ensures.same ∙ c.loop-lane.invariant.1, written)
      | in_default w ↦
          let lane = c.loop-lane.lane in
          let heads = c.args.heads.now in
          subst (λ pass.
          g.M.TxMemory.of c.args.mem.now pass × (g.M.TxMemory.view pass ≡ g.M.TxMemory.view c.args.pass.now)
          × (g.M.TxMemory.attempt pass ≡ with_heads sizes before (take (lane + 1) heads))) (sym w.pass-is) (
            c.loop-lane.invariant.0,
            c.loop-lane.invariant.1,
            c.loop-lane.invariant.2 ∙ sym (heads_next_none sizes heads before lane None c.loop-lane-test.true w.in_default.is),
          )
    ]

pub returns-clause-written : goal.returns-clause-written
returns-clause-written g c = grind (arith, common_steps)
