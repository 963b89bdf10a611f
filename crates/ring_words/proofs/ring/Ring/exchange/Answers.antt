-- The seat swaps the index that the machine names, and the machine takes in what it found.
use Rattle.std.proofs.Common.{◌+◌, ◌<◌, refl, sym, ◌∙◌, ap, subst, arith}
use mathlib.Core.Option.{none}
use Rattle.atomic_table.specs.Table.{step}
use Rattle.ring_core.specs.declared.stage.Stage.TheVariants.{StampSwap}
use Rattle.ring_core.specs.Machine.{at_stage, steps_of}
use Rattle.ring_core.specs.Outcomes.{absorbed}
use Rattle.ring_core.specs.Words.{CanAbsorb}
use Rattle.ring_worlds.specs.declared.process.Process.{Process}
use Rattle.ring_words.specs.declared.pass.RingPass.{RingPass}
use Rattle.ring_words.specs.Told.{Swapped}
use Rattle.ring_words.proofs.Staged.{sound_at}
use Rattle.ring_words.proofs.SwapSeated.{swap_allowed, swap_can, swap_seated, swap_closed, swap_over}
use Rattle.ring_words.proofs.TurnStores.{at_itself, seated_at}
use Rattle.ring_words.proofs.ring.Ring.exchange.Goals as goal

pub compare_exchange-found-requires : goal.compare_exchange-found-requires
compare_exchange-found-requires g c =
    let p = c.requires.of in
    let ring = c.args.self.now in
    let pass = c.args.pass.now in
    let laws = c.next_step.ensures in (
      p.at_table,
      omega (arith, ring.sized.0),
      swap_allowed g.S.Sense.good g.S.Sense.budget ring.words.shared.key ring.words.shared.table_id pass p c.steps_keep.ensures laws.absorbs laws.start
          laws.exists g.M.Moving.moved c.requires.moved c.args.from c.requires.stage c.requires.active c.requires.may ring.words.shared.table_id.slots
          (step ring.words.shared.table_id.slots 0 c.args.from (c.args.from + 1) none) refl,
    )

pub take_at-requires-clause-sound : goal.take_at-requires-clause-sound
take_at-requires-clause-sound g c =
    let ring = c.args.self.now in
    sound_at g.S.Sense.good g.S.Sense.budget ring.words.shared.key ring.words.shared.table_id c.args.pass.now (StampSwap c.args.from)
    (seated_at g.S.Sense.good g.S.Sense.budget ring.words.shared.key ring.words.shared.table_id c.args.pass.now (StampSwap c.args.from)
    c.requires.stage c.requires.of)

pub take_at-requires-clause-fits : goal.take_at-requires-clause-fits
take_at-requires-clause-fits g c =
    let ring = c.args.self.now in
    let pass = c.args.pass.now in
    subst (λ (p : RingPass g.row.S.Denot). CanAbsorb p.local.shape p.local.caller c.compare_exchange-found.result)
    (at_itself pass (StampSwap c.args.from) c.requires.stage)
    (swap_can g.S.Sense.good g.S.Sense.budget ring.words.shared.key ring.words.shared.table_id pass c.requires.of c.args.from
    c.compare_exchange-found.result c.compare_exchange-found.new.seat.me
    (subst (λ (q : Process). Swapped g.S.Sense.good g.S.Sense.budget q c.args.from c.compare_exchange-found.result pass.seat.me
    c.compare_exchange-found.new.seat.me) c.requires.moved c.compare_exchange-found.ensures.2))

pub returns-clause-of : goal.returns-clause-of
returns-clause-of g c =
    let ring = c.args.self.now in
    let old = c.args.pass.now in
    let new : RingPass g.row.S.Denot = record { local = c.take_at.new.self; seat = c.compare_exchange-found.new.seat; seals = old.seals } in
    swap_seated g.S.Sense.good g.S.Sense.budget ring.words.shared.key ring.words.shared.table_id old c.requires.of new c.take_at.result
    (record {
      from = c.args.from;
      stage = c.requires.stage;
      word = c.compare_exchange-found.result;
      seat = subst (λ (q : Process). Swapped g.S.Sense.good g.S.Sense.budget q c.args.from c.compare_exchange-found.result old.seat.me
          c.compare_exchange-found.new.seat.me) c.requires.moved c.compare_exchange-found.ensures.2;
      outcome = c.take_at.ensures.step
          ∙ ap (λ (p : RingPass g.row.S.Denot). absorbed p.local.shape p.local.caller c.compare_exchange-found.result)
          (sym (at_itself old (StampSwap c.args.from) c.requires.stage));
      same_table = c.compare_exchange-found.ensures.0;
      shape = c.take_at.ensures.shape;
      seals = refl;
    })

pub returns-clause-swapped : goal.returns-clause-swapped
returns-clause-swapped g c =
    let old = c.args.pass.now in
    record {
      from = c.args.from;
      stage = c.requires.stage;
      word = c.compare_exchange-found.result;
      seat = subst (λ (q : Process). Swapped g.S.Sense.good g.S.Sense.budget q c.args.from c.compare_exchange-found.result old.seat.me
          c.compare_exchange-found.new.seat.me) c.requires.moved c.compare_exchange-found.ensures.2;
      outcome = c.take_at.ensures.step
          ∙ ap (λ (p : RingPass g.row.S.Denot). absorbed p.local.shape p.local.caller c.compare_exchange-found.result)
          (sym (at_itself old (StampSwap c.args.from) c.requires.stage));
      same_table = c.compare_exchange-found.ensures.0;
      shape = c.take_at.ensures.shape;
      seals = refl;
    }

pub returns-clause-steps : goal.returns-clause-steps
returns-clause-steps g c =
    subst (λ (p : RingPass g.row.S.Denot). steps_of c.take_at.new.self < steps_of p.local)
    (sym (at_itself c.args.pass.now (StampSwap c.args.from) c.requires.stage)) c.take_at.ensures.steps

pub returns-clause-over : goal.returns-clause-over
returns-clause-over g c =
    let old = c.args.pass.now in
    swap_over old.local.shape (at_stage old.local (StampSwap c.args.from)).caller c.take_at.new.self.caller c.take_at.result c.args.from
    c.compare_exchange-found.result refl c.take_at.ensures.step

pub returns-clause-closed : goal.returns-clause-closed
returns-clause-closed g c =
    let old = c.args.pass.now in
    swap_closed old.local.shape (at_stage old.local (StampSwap c.args.from)).caller c.take_at.new.self.caller c.take_at.result c.args.from
    c.compare_exchange-found.result refl c.take_at.ensures.step
