-- The seat loads the word that the machine names, and the machine takes it in.
use Rattle.std.proofs.Common.{◌≡◌, ℕ, refl, sym, ◌∙◌, ap, subst, arith, rules}
use mathlib.Core.Option.{none}
use Rattle.atomic_table.specs.Table.{step}
use Rattle.ring_core.specs.Request.{next_action}
use Rattle.ring_worlds.specs.declared.process.Process.{Process}
use Rattle.ring_words.specs.declared.pass.RingPass.{RingPass}
use Rattle.ring_words.specs.Layout.{index_at, table_size}
use Rattle.ring_words.specs.Told.{Loaded}
use Rattle.ring_words.proofs.Words.{next_inside, index_below}
use Rattle.ring_words.proofs.Seated.{load_allowed, seated_after}
use Rattle.ring_words.proofs.ring.Ring.step.Goals as goal

pub load-word-requires : goal.load-word-requires
load-word-requires g c =
    let p = c.requires.of in
    let ring = c.args.self.now in
    let pass = c.args.pass.now in
    let shape : pass.local.shape ≡ ring.shape = p.shaped ∙ ring.told.1 in
    let kept = c.next.ensures.sound in
    let index : ℕ = index_at pass.local.shape (next_action pass.local.shape pass.local.caller) in
    let at : c.index_of-index.result ≡ index = c.index_of-index.ensures ∙ (λ i. index_at (sym shape i) (c.next.ensures.action i)) in
    let below = index_below pass.local.shape kept.limits (next_action pass.local.shape pass.local.caller)
    (next_inside pass.local.shape kept.limits pass.local.caller kept.sound) in
    let sized : ring.words.shared.table_id.words ≡ table_size pass.local.shape = ring.sized.0 ∙ ap table_size (sym shape) in
    let laws = c.next_step.ensures in (
      p.at_table,
      omega (arith, at, below, sized),
      load_allowed g.S.Sense.good g.S.Sense.budget ring.words.shared.key ring.words.shared.table_id pass p c.steps_keep.ensures laws.absorbs
          laws.start laws.exists
          g.M.Moving.moved c.requires.moved c.requires.loads ring.words.shared.table_id.slots c.index_of-index.result at
          (step ring.words.shared.table_id.slots c.index_of-index.result 0 0 none),
    )

pub returns-clause-of : goal.returns-clause-of
returns-clause-of g c =
    let ring = c.args.self.now in
    let old = c.args.pass.now in
    let new : RingPass g.row.S.Denot = record { local = c.absorb.new.self; seat = c.load-word.new.seat; seals = old.seals } in
    seated_after g.S.Sense.good g.S.Sense.budget ring.words.shared.key ring.words.shared.table_id old c.requires.of new c.absorb.result
    (record {
      word = c.load-word.result;
      seat = subst (λ (q : Process). Loaded g.S.Sense.good g.S.Sense.budget q c.load-word.result old.seat.me new.seat.me) c.requires.moved
          c.load-word.ensures.2;
      outcome = c.absorb.ensures.step;
      same_table = c.load-word.ensures.0;
      shape = c.absorb.ensures.shape;
      seals = refl;
    })

pub absorb-requires : goal.absorb-requires
absorb-requires g c = search rules

pub returns-clause-step : goal.returns-clause-step
returns-clause-step g c = search rules
