-- The seat loads the word that comes next at this stage.
use Rattle.std.proofs.Common.{◌≡◌, ℕ, sym, ◌∙◌, ap, subst, arith}
use mathlib.Core.Option.{none}
use Rattle.atomic_table.specs.Table.{step}
use Rattle.ring_core.specs.declared.action.Action.{Action}
use Rattle.ring_core.specs.Machine.{at_stage}
use Rattle.ring_core.specs.Shape.{IsShape}
use Rattle.ring_core.specs.Request.{next_action}
use Rattle.ring_words.specs.Layout.{index_at, table_size}
use Rattle.ring_words.specs.Pass.{staged}
use Rattle.ring_words.proofs.Words.{next_inside, index_below}
use Rattle.ring_words.proofs.Seated.{load_allowed}
use Rattle.ring_words.proofs.Staged.{sound_at}
use Rattle.ring_words.proofs.ring.Ring.load_at.Goals as goal

pub load-requires : goal.load-requires
load-requires g c =
    let p = c.requires.of in
    let ring = c.args.self.now in
    let pass = c.args.pass.now in
    let shape : pass.local.shape ≡ ring.shape = p.shaped ∙ ring.told.1 in
    let limits = subst IsShape (sym shape) ring.limits in
    let action : Action = next_action pass.local.shape (at_stage pass.local c.args.stage).caller in
    let index : ℕ = index_at pass.local.shape action in
    let at : c.index_of-index.result ≡ index = c.index_of-index.ensures ∙ (λ i. index_at (sym shape i) (c.next_at.ensures i)) in
    let below = index_below pass.local.shape limits action
    (next_inside pass.local.shape limits (at_stage pass.local c.args.stage).caller
    (sound_at g.S.Sense.good g.S.Sense.budget ring.words.shared.key ring.words.shared.table_id pass c.args.stage p)) in
    let sized : ring.words.shared.table_id.words ≡ table_size pass.local.shape = ring.sized.0 ∙ ap table_size (sym shape) in
    let laws = c.next_step.ensures in (
      p.at_table,
      omega (arith, at, below, sized),
      load_allowed g.S.Sense.good g.S.Sense.budget ring.words.shared.key ring.words.shared.table_id (staged pass c.args.stage) p c.steps_keep.ensures
          laws.absorbs laws.start laws.exists
          g.M.Moving.moved c.requires.moved c.requires.loads ring.words.shared.table_id.slots c.index_of-index.result at
          (step ring.words.shared.table_id.slots c.index_of-index.result 0 0 none),
    )
