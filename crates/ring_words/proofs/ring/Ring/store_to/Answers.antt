-- The seat stores the word that comes next at this stage.
use Rattle.std.proofs.Common.{◌≡◌, sym, ◌∙◌, ap, subst, arith}
use mathlib.Core.Option.{none}
use Rattle.atomic_table.specs.Table.{step}
use Rattle.ring_core.specs.declared.action.Action.{Action}
use Rattle.ring_core.specs.Machine.{at_stage}
use Rattle.ring_core.specs.Shape.{IsShape}
use Rattle.ring_core.specs.Request.{next_action}
use Rattle.ring_words.specs.Layout.{index_at, table_size}
use Rattle.ring_words.specs.Stores.{word_stored}
use Rattle.ring_words.specs.Pass.{staged}
use Rattle.ring_words.proofs.Words.{next_inside, index_below}
use Rattle.ring_words.proofs.Storing.{store_allowed}
use Rattle.ring_words.proofs.Staged.{sound_at}
use Rattle.ring_words.proofs.ring.Ring.store_to.Goals as goal

pub store-requires : goal.store-requires
store-requires g c =
    let p = c.requires.of in
    let ring = c.args.self.now in
    let pass = c.args.pass.now in
    let shape : pass.local.shape ≡ ring.shape = p.shaped ∙ ring.told.1 in
    let limits = subst IsShape (sym shape) ring.limits in
    let action : Action = next_action pass.local.shape (at_stage pass.local c.args.stage).caller in
    let at : c.args.to ≡ index_at pass.local.shape action = c.requires.to in
    let below = index_below pass.local.shape limits action
    (next_inside pass.local.shape limits (at_stage pass.local c.args.stage).caller
    (sound_at g.S.Sense.good g.S.Sense.budget ring.words.shared.key ring.words.shared.table_id pass c.args.stage p)) in
    let sized : ring.words.shared.table_id.words ≡ table_size pass.local.shape = ring.sized.0 ∙ ap table_size (sym shape) in
    let laws = c.next_step.ensures in (
      p.at_table,
      omega (arith, at, below, sized),
      store_allowed g.S.Sense.good g.S.Sense.budget ring.words.shared.key ring.words.shared.table_id (staged pass c.args.stage) p c.steps_keep.ensures
          laws.absorbs laws.exists
          g.M.Moving.moved c.requires.moved c.requires.stores ring.words.shared.table_id.slots c.args.to at
          c.word_of-word.result (c.word_of-word.ensures ∙ ap word_stored c.next_at.ensures)
          (step ring.words.shared.table_id.slots c.args.to c.word_of-word.result 0 none),
    )
