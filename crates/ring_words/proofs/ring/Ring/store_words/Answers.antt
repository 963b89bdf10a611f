-- The words are stored one after the other.
use Rattle.std.proofs.Common.{◌≡◌, ℕ, ◌+◌, ◌-◌, ◌<◌, ◌≤◌, List, length, refl, ◌∙◌, ap, subst, arith}
use Rattle.tx_model.specs.declared.word.Word.{Word}
use Rattle.ring_core.specs.declared.stage.Stage.TheVariants.{Turn}
use Rattle.ring_core.specs.declared.stage.TurnStage.TheVariants.{Heap}
use Rattle.ring_core.specs.Machine.{Machine}
use Rattle.ring_words.specs.Pass.{IsSeated, staged}
use Rattle.ring_words.specs.Turns.{IsTurning, after_words}
use Rattle.ring_words.proofs.Turning.{turning_itself}
use Rattle.ring_words.proofs.TurnStores.{write_seated, write_turning, written_seated, written_turning}
use Rattle.ring_words.proofs.ring.Ring.store_words.Goals as goal

pub loop-index-init : goal.loop-index-init
loop-index-init g c =
    (c.requires.of, turning_itself (staged c.args.pass.now (Turn (Heap 0))) c.requires.stamped tt, refl)

pub loop-index-preserved : goal.loop-index-preserved
loop-index-preserved g c =
    let ring = c.args.self.now in
    let first = staged c.args.pass.now (Turn (Heap 0)) in
    let wrote : 1 ≤ length c.args.pass.now.local.caller.writes = c.requires.of.moved.machine.stage.0.wrote in
    let count : c.len-last.result ≡ length c.args.pass.now.local.caller.writes =
    c.len-last.ensures.count ∙ ap (λ (ws : List Word). length ws) c.writes.ensures in
    let (seated, turning, kept) = c.loop-index.invariant in
    let as_many : length c.store_at.new.pass.local.caller.writes ≡ length c.args.pass.now.local.caller.writes =
    ap (λ (m : Machine). length m.caller.writes) (c.store_at.ensures.local ∙ kept) in
    let more : c.loop-index.index + 1 < length c.store_at.new.pass.local.caller.writes = omega (arith, count, as_many, c.loop-index-test.true) in (
      write_seated g.S.Sense.good g.S.Sense.budget ring.words.shared.key ring.words.shared.table_id first c.loop-index.pass c.loop-index.index seated turning
          c.store_at.new.pass c.store_at.ensures.local c.store_at.ensures.found more,
      write_turning g.S.Sense.good g.S.Sense.budget ring.words.shared.key ring.words.shared.table_id first c.loop-index.pass c.loop-index.index seated turning
          c.store_at.new.pass c.store_at.ensures.local c.store_at.ensures.found more,
      c.store_at.ensures.local ∙ kept,
    )

pub store_at-requires-2-clause-of : goal.store_at-requires-2-clause-of
store_at-requires-2-clause-of g c =
    let ring = c.args.self.now in
    let first = staged c.args.pass.now (Turn (Heap 0)) in
    let wrote : 1 ≤ length c.args.pass.now.local.caller.writes = c.requires.of.moved.machine.stage.0.wrote in
    let count : c.len-last.result ≡ length c.args.pass.now.local.caller.writes =
    c.len-last.ensures.count ∙ ap (λ (ws : List Word). length ws) c.writes.ensures in
    let (seated, turning, kept) = c.loop-index.invariant in
    let last : ℕ = c.len-last.result - 1 in
    let index_is : c.loop-index.index ≡ last = omega (arith, c.loop-index-test.false, c.loop-index.auto.index-end) in
    let here = subst (λ i. IsSeated g.S.Sense.good g.S.Sense.budget ring.words.shared.key ring.words.shared.table_id
    (staged c.loop-index.pass (Turn (Heap i)))) index_is seated in
    here

pub returns-clause-of : goal.returns-clause-of
returns-clause-of g c =
    let ring = c.args.self.now in
    let first = staged c.args.pass.now (Turn (Heap 0)) in
    let wrote : 1 ≤ length c.args.pass.now.local.caller.writes = c.requires.of.moved.machine.stage.0.wrote in
    let count : c.len-last.result ≡ length c.args.pass.now.local.caller.writes =
    c.len-last.ensures.count ∙ ap (λ (ws : List Word). length ws) c.writes.ensures in
    let (seated, turning, kept) = c.loop-index.invariant in
    let last : ℕ = c.len-last.result - 1 in
    let index_is : c.loop-index.index ≡ last = omega (arith, c.loop-index-test.false, c.loop-index.auto.index-end) in
    let here = subst (λ i. IsSeated g.S.Sense.good g.S.Sense.budget ring.words.shared.key ring.words.shared.table_id
    (staged c.loop-index.pass (Turn (Heap i)))) index_is seated in
    let goes = subst (λ i. IsTurning first (staged c.loop-index.pass (Turn (Heap i)))) index_is turning in
    let same = c.store_at-2.ensures.local ∙ kept in
    let all : last + 1 ≡ length c.store_at-2.new.pass.local.caller.writes =
    omega (arith, wrote, count, ap (λ (m : Machine). length m.caller.writes) same) in
    subst (λ (m : Machine). IsSeated g.S.Sense.good g.S.Sense.budget ring.words.shared.key ring.words.shared.table_id
    (staged c.store_at-2.new.pass (Turn (after_words m.caller.stamp)))) same
    (written_seated g.S.Sense.good g.S.Sense.budget ring.words.shared.key ring.words.shared.table_id first c.loop-index.pass last here goes
    c.store_at-2.new.pass c.store_at-2.ensures.local c.store_at-2.ensures.found all)

pub returns-clause-turning : goal.returns-clause-turning
returns-clause-turning g c =
    let ring = c.args.self.now in
    let first = staged c.args.pass.now (Turn (Heap 0)) in
    let wrote : 1 ≤ length c.args.pass.now.local.caller.writes = c.requires.of.moved.machine.stage.0.wrote in
    let count : c.len-last.result ≡ length c.args.pass.now.local.caller.writes =
    c.len-last.ensures.count ∙ ap (λ (ws : List Word). length ws) c.writes.ensures in
    let (seated, turning, kept) = c.loop-index.invariant in
    let last : ℕ = c.len-last.result - 1 in
    let index_is : c.loop-index.index ≡ last = omega (arith, c.loop-index-test.false, c.loop-index.auto.index-end) in
    let here = subst (λ i. IsSeated g.S.Sense.good g.S.Sense.budget ring.words.shared.key ring.words.shared.table_id
    (staged c.loop-index.pass (Turn (Heap i)))) index_is seated in
    let goes = subst (λ i. IsTurning first (staged c.loop-index.pass (Turn (Heap i)))) index_is turning in
    let same = c.store_at-2.ensures.local ∙ kept in
    let all : last + 1 ≡ length c.store_at-2.new.pass.local.caller.writes =
    omega (arith, wrote, count, ap (λ (m : Machine). length m.caller.writes) same) in
    subst (λ (m : Machine). IsTurning first (staged c.store_at-2.new.pass (Turn (after_words m.caller.stamp)))) same
    (written_turning g.S.Sense.good g.S.Sense.budget ring.words.shared.key ring.words.shared.table_id first c.loop-index.pass last here goes
    c.store_at-2.new.pass c.store_at-2.ensures.local c.store_at-2.ensures.found all)
