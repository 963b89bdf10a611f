-- The further pass has a machine that has done nothing, on the further seat.
use Rattle.std.proofs.Common.{◌∙◌, sym, ap}
use Rattle.ring_core.specs.declared.shape.Shape.{Shape}
use Rattle.ring_core.specs.Machine.{Machine}
use Rattle.ring_core.specs.Outcomes.{opening}
use Rattle.tx_model.specs.declared.view.PassView.{PassView}
use Rattle.ring_words.specs.Pass.{view_known}
use Rattle.ring_words.proofs.Cut.{fresh_pass}
use Rattle.ring_words.proofs.ring.Ring.split.Goals as goal

pub returns-clause-given : goal.returns-clause-given
returns-clause-given g c =
    let ring = c.args.self.now in
    let cut = c.cut-seat.ensures in
    let local = c.in_ok-local.ensures ∙ ap (λ (s : Shape). record { shape = s; caller = opening s }) (sym ring.told.1) in (
      fresh_pass g.S.Sense.allows g.S.Sense.good g.S.Sense.budget ring.words.shared.key ring.words.shared.table_id c.requires.of.is_made
          c.cut-seat.result cut.given.0 cut.rests (ap (λ (v : PassView). v.mine) cut.given.1) c.in_ok-local.local local,
      ap (λ (m : Machine). view_known m.caller.state c.cut-seat.result.me.0) local ∙ cut.given.1,
    )
