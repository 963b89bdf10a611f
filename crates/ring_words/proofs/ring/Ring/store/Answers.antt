-- The seat stores the word that the machine names, and the machine takes in 0.
use Rattle.std.proofs.Common.{◌≡◌, ℕ, refl, sym, ◌∙◌, ap, subst, arith}
use mathlib.Core.Option.{none}
use Rattle.atomic_table.specs.Table.{step}
use Rattle.ring_core.specs.Request.{next_action}
use Rattle.ring_worlds.specs.declared.process.Process.{Process}
use Rattle.ring_words.specs.declared.pass.RingPass.{RingPass}
use Rattle.ring_words.specs.Layout.{index_at, table_size}
use Rattle.ring_words.specs.Told.{Loaded}
use Rattle.ring_words.proofs.Words.{next_inside, index_below}
use Rattle.ring_words.proofs.Seated.{seated_after}
use Rattle.ring_words.proofs.Storing.{store_allowed}
use Rattle.ring_words.proofs.ring.Ring.store.Goals as goal

pub store-requires : goal.store-requires
store-requires g c =
    let p = c.requires.of in
    let ring = c.args.self.now in
    let pass = c.args.pass.now in
    let shape : pass.local.shape ≡ ring.shape = p.shaped ∙ ring.told.1 in
    let kept = c.next.ensures.sound in
    let index : ℕ = index_at pass.local.shape (next_action pass.local.shape pass.local.caller) in
    let at : c.index_of-index.result ≡ index = c.index_of-index.ensures ∙ (λ i. index_at (sym shape i) (c.next.ensures.action i)) in
    let below = index_below pass.local.shape kept.limits (next_action pass.local.shape pass.local.caller)
    (next_inside pass.local.shape kept.limits pass.local.caller kept.sound) in
    let sized : ring.words.shared.table_id.words ≡ table_size pass.local.shape = ring.sized.0 ∙ ap table_size (sym shape) in
    let laws = c.next_step.ensures in (
      p.at_table,
      omega (arith, at, below, sized),
      store_allowed g.S.Sense.good g.S.Sense.budget ring.words.shared.key ring.words.shared.table_id pass p c.steps_keep.ensures laws.absorbs laws.exists
          g.M.Moving.moved c.requires.moved c.requires.stores ring.words.shared.table_id.slots c.index_of-index.result at
          c.args.word c.requires.word
          (step ring.words.shared.table_id.slots c.index_of-index.result c.args.word 0 none),
    )

pub returns-clause-of : goal.returns-clause-of
returns-clause-of g c =
    let ring = c.args.self.now in
    let old = c.args.pass.now in
    let new : RingPass g.row.S.Denot = record { local = c.absorb.new.self; seat = c.store.new.seat; seals = old.seals } in
    seated_after g.S.Sense.good g.S.Sense.budget ring.words.shared.key ring.words.shared.table_id old c.requires.of new c.absorb.result
    (record {
      word = 0;
      seat = subst (λ (q : Process). Loaded g.S.Sense.good g.S.Sense.budget q 0 old.seat.me new.seat.me) c.requires.moved c.store.ensures.2;
      outcome = c.absorb.ensures.step;
      same_table = c.store.ensures.0;
      shape = c.absorb.ensures.shape;
      seals = refl;
    })
