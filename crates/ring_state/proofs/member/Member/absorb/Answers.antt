-- The machine's step, with what is noted of its answer.
use Rattle.std.proofs.Common.{refl, sym, ◌∙◌, ap}
use Rattle.ring_state.specs.Plain.{MemberView, process_of, read_address, reads_with, after_word}
use Rattle.ring_state.proofs.Answered.{fits_after, asked_after, view_after}
use Rattle.ring_state.proofs.member.Member.absorb.Goals as goal

pub invariant_of-self-2 : goal.invariant_of-self-2
invariant_of-self-2 c =
    let m = c.self.inside in
    let step = c.absorb-progress.ensures in
    let fit = fits_after m.local.shape m.local.caller c.absorb-progress.new.self.caller c.args.word c.absorb-progress.result step.step in
    let asked = asked_after m.asked m.local.caller.stage c.absorb-progress.new.self.caller c.absorb-progress.result fit c.self.invariant.0 step.ends.0 in
    (c.still_asked-self-inside.ensures ∙ asked, c.note.ensures.gates)

pub returns-clause-step : goal.returns-clause-step
returns-clause-step c =
    let m : MemberView = record { machine = c.self.inside.local; front = c.self.inside.front; reads = c.self.inside.reads.items } in
    let progress = c.absorb-progress.result in
    let stage = m.machine.caller.stage in
    let noted =
    c.note.ensures.reads ∙ ap (λ asked. reads_with asked c.make_room_for.new.reads.items progress) c.self.invariant.0
    ∙ ap (λ reads. reads_with (read_address stage) reads progress) c.in_ok-make_room_for.ensures.kept in
    view_after m c.absorb-progress.new.self progress c.front_after-self-inside.result c.note.new.reads.items c.args.word c.absorb-progress.ensures.shape
    c.absorb-progress.ensures.step (c.front_after-self-inside.ensures (process_of m) refl (sym c.start-start.ensures)) noted
    ∙ ap (λ m. after_word m c.args.word) c.self.view_is
