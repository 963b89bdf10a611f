-- Where the index is the one expected, the caller's commit joins the history; else it only takes in the index.
use Rattle.std.proofs.Common.{◌∷◌, [], ◌++◌, ◌+◌, ◌∙◌, ap, subst}
use Rattle.tx_model.specs.declared.history.Commit.{Commit}
use Rattle.ring_state.specs.declared.plain.Plain.{Plain}
use Rattle.ring_worlds.specs.World.{World}
use Rattle.ring_state.specs.Kept.{HasStepped}
use Rattle.ring_state.proofs.lemmas.Stepping.{loses, reserved, reserved_ready, swaps}
use Rattle.ring_state.proofs.plain.Plain.swap_index.Goals as goal

pub load-requires : goal.load-requires
load-requires c = loses c.args.self.now c.args.who c.args.from c.requires c.if-index-from.true

pub returns-clause-stepped : goal.returns-clause-stepped
returns-clause-stepped c =
    let d = c.args.self.now in
    let history = c.make_room.new.items in
    let roomy : Plain = record d { history = history } in
    let joined = c.push_reserved.ensures.items ∙ ap (λ (entry : Commit). c.take_in.new.self.history.items ++ entry ∷ []) c.in_ok-entry.ensures in
    subst (λ (w : World). HasStepped w c.args.who c.in_ok-progress.progress
    (record c.take_in.new.self { history = c.push_reserved.new.self; index = roomy.index + 1 })) (reserved d history c.in_ok-make_room.ensures.kept)
    (swaps roomy c.args.who c.args.from c.in_ok-progress.progress c.take_in.new.self c.push_reserved.new.self
    (reserved_ready d history c.args.who c.args.from c.requires) c.if-index-from.false
    c.in_ok-progress.ensures.taken joined)
