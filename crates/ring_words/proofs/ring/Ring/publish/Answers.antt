-- The entry is published: each store leads to the next.
use Rattle.std.proofs.lemmas.Grind.{common_steps}
use Rattle.std.proofs.Common.{◌≡◌, ℕ, ◌-◌, ◌≤◌, ◌∙◌, ap, subst, arith}
use Rattle.ring_core.specs.declared.shape.Shape.{Shape}
use Rattle.ring_core.specs.declared.stage.Stage.TheVariants.{Turn}
use Rattle.ring_core.specs.declared.stage.TurnStage.TheVariants.{Filling, Signature}
use Rattle.ring_words.specs.Pass.{IsSeated, staged}
use Rattle.ring_words.specs.Turns.{IsTurning}
use Rattle.ring_words.proofs.TurnStores.{some_words, seated_at, filled_seated, filled_turning, word_seated, word_turning, signed_seated, signed_turning}
use Rattle.ring_words.proofs.ring.Ring.publish.Goals as goal

pub store_to-requires-clause-of : goal.store_to-requires-clause-of
store_to-requires-clause-of g c =
    let ring = c.args.self.now in
    seated_at g.S.Sense.good g.S.Sense.budget ring.words.shared.key ring.words.shared.table_id c.args.pass.now (Turn Filling) c.requires.begins c.requires.of

pub loop-word-init : goal.loop-word-init
loop-word-init g c =
    let ring = c.args.self.now in (
      filled_seated g.S.Sense.good g.S.Sense.budget ring.words.shared.key ring.words.shared.table_id c.args.pass.now c.requires.of c.requires.stamped
          c.requires.begins
          c.store_to.new.pass c.store_to.ensures.local c.store_to.ensures.found,
      filled_turning g.S.Sense.good g.S.Sense.budget ring.words.shared.key ring.words.shared.table_id c.args.pass.now c.requires.of
          c.requires.stamped c.requires.begins
          c.store_to.new.pass c.store_to.ensures.local c.store_to.ensures.found,
      c.store_to.ensures.local,
    )

pub loop-word-preserved : goal.loop-word-preserved
loop-word-preserved g c =
    let ring = c.args.self.now in
    let words : c.args.pass.now.local.shape.sig_words ≡ ring.shape.sig_words = ap (λ (s : Shape). s.sig_words) (c.requires.of.shaped ∙ ring.told.1) in
    let (seated, turning, kept) = c.loop-word.invariant in (
      word_seated g.S.Sense.good g.S.Sense.budget ring.words.shared.key ring.words.shared.table_id c.args.pass.now c.loop-word.pass kept
          c.loop-word.word seated turning
          c.store_to-in-loop-word.new.pass c.store_to-in-loop-word.ensures.local c.store_to-in-loop-word.ensures.found (omega (
            arith,
            words,
            c.loop-word-test.true,
          )),
      word_turning g.S.Sense.good g.S.Sense.budget ring.words.shared.key ring.words.shared.table_id c.args.pass.now c.loop-word.pass kept
          c.loop-word.word seated turning
          c.store_to-in-loop-word.new.pass c.store_to-in-loop-word.ensures.local c.store_to-in-loop-word.ensures.found (omega (
            arith,
            words,
            c.loop-word-test.true,
          )),
      c.store_to-in-loop-word.ensures.local ∙ kept,
    )

pub store_to-requires-2-clause-of : goal.store_to-requires-2-clause-of
store_to-requires-2-clause-of g c =
    let ring = c.args.self.now in
    let words : c.args.pass.now.local.shape.sig_words ≡ ring.shape.sig_words = ap (λ (s : Shape). s.sig_words) (c.requires.of.shaped ∙ ring.told.1) in
    let (seated, turning, kept) = c.loop-word.invariant in
    let some : 1 ≤ ring.shape.sig_words = some_words ring.shape ring.limits in
    let last : ℕ = ring.shape.sig_words - 1 in
    let word_is : c.loop-word.word ≡ last = omega (arith, c.loop-word-test.false, c.loop-word.auto.word-end) in
    let here = subst (λ w. IsSeated g.S.Sense.good g.S.Sense.budget ring.words.shared.key ring.words.shared.table_id
    (staged c.loop-word.pass (Turn (Signature w)))) word_is seated in
    here

pub returns-clause-of : goal.returns-clause-of
returns-clause-of g c =
    let ring = c.args.self.now in
    let words : c.args.pass.now.local.shape.sig_words ≡ ring.shape.sig_words = ap (λ (s : Shape). s.sig_words) (c.requires.of.shaped ∙ ring.told.1) in
    let (seated, turning, kept) = c.loop-word.invariant in
    let some : 1 ≤ ring.shape.sig_words = some_words ring.shape ring.limits in
    let last : ℕ = ring.shape.sig_words - 1 in
    let word_is : c.loop-word.word ≡ last = omega (arith, c.loop-word-test.false, c.loop-word.auto.word-end) in
    let here = subst (λ w. IsSeated g.S.Sense.good g.S.Sense.budget ring.words.shared.key ring.words.shared.table_id
    (staged c.loop-word.pass (Turn (Signature w)))) word_is seated in
    let goes = subst (λ w. IsTurning c.args.pass.now (staged c.loop-word.pass (Turn (Signature w)))) word_is turning in
    signed_seated g.S.Sense.good g.S.Sense.budget ring.words.shared.key ring.words.shared.table_id c.args.pass.now c.loop-word.pass kept last here goes
    c.store_to-2.new.pass c.store_to-2.ensures.local c.store_to-2.ensures.found (omega (arith, words, some))

pub returns-clause-turning : goal.returns-clause-turning
returns-clause-turning g c =
    let ring = c.args.self.now in
    let words : c.args.pass.now.local.shape.sig_words ≡ ring.shape.sig_words = ap (λ (s : Shape). s.sig_words) (c.requires.of.shaped ∙ ring.told.1) in
    let (seated, turning, kept) = c.loop-word.invariant in
    let some : 1 ≤ ring.shape.sig_words = some_words ring.shape ring.limits in
    let last : ℕ = ring.shape.sig_words - 1 in
    let word_is : c.loop-word.word ≡ last = omega (arith, c.loop-word-test.false, c.loop-word.auto.word-end) in
    let here = subst (λ w. IsSeated g.S.Sense.good g.S.Sense.budget ring.words.shared.key ring.words.shared.table_id
    (staged c.loop-word.pass (Turn (Signature w)))) word_is seated in
    let goes = subst (λ w. IsTurning c.args.pass.now (staged c.loop-word.pass (Turn (Signature w)))) word_is turning in
    signed_turning g.S.Sense.good g.S.Sense.budget ring.words.shared.key ring.words.shared.table_id c.args.pass.now c.loop-word.pass kept last here goes
    c.store_to-2.new.pass c.store_to-2.ensures.local c.store_to-2.ensures.found (omega (arith, words, some))

pub overflow_add-first : goal.overflow_add-first
overflow_add-first g c = grind (arith, common_steps)

pub overflow_add-first-2 : goal.overflow_add-first-2
overflow_add-first-2 g c = grind (arith, common_steps)
