-- The caller's machine absorbs the word, and no other caller changes.
use Rattle.std.proofs.Common.{◌≡◌, ◌∙◌, sym, subst}
use Rattle.ring_core.specs.Words.{CanAbsorb}
use Rattle.ring_state.specs.Plain.{MemberView, resting_member}
use Rattle.ring_state.specs.Kept.{member_at}
use Rattle.ring_worlds.proofs.lemmas.Elements.{get_either}
use Rattle.ring_state.proofs.lemmas.Stepping.{fits_here, took, unchanged}
use Rattle.ring_state.proofs.plain.Plain.take_in.Goals as goal

pub absorb-requires : goal.absorb-requires
absorb-requires c =
    let d = c.args.self.now in
    let old = c.index_mut-member.result.now in
    let same : old ≡ member_at d c.args.who =
    c.index_mut-member.ensures.value ∙ get_either d.members.items c.args.who old (resting_member d.shape) c.requires.here in
    subst (λ (m : MemberView). CanAbsorb m.machine.shape m.machine.caller c.args.word) (sym same)
    (fits_here d c.args.who c.requires.shapes c.requires.here c.args.word c.requires.fits)

pub returns-clause-taken : goal.returns-clause-taken
returns-clause-taken c =
    took c.args.self.now c.args.who c.requires.shapes c.requires.here c.args.word c.index_mut-member.result.now c.absorb.new.self c.absorb.result
    c.index_mut-member.ensures.value
    c.absorb.ensures.step c.absorb.ensures.answer

pub returns-clause-same : goal.returns-clause-same
returns-clause-same c =
    unchanged c.args.self.now c.args.who c.requires.shapes c.requires.here c.index_mut-member.result.now c.absorb.new.self c.absorb.result
    c.index_mut-member.ensures.value c.absorb.ensures.kept
