-- The value is that of the write set, or that of the answer.
use Rattle.std.proofs.Common.{◌≡◌, List, None, ◌∙◌, sym, ap, subst}
use Rattle.tx_model.specs.declared.word.Word.{Word}
use Rattle.tx_model.specs.Words.{value_of}
use Rattle.ring_core.specs.declared.shape.Shape.{Shape}
use Rattle.ring_core.specs.Shape.{IsShape}
use Rattle.ring_words.proofs.Knows.{pass_knows}
use Rattle.ring_words.proofs.ReadCalls.{read_seated, read_counted, read_few, read_value, read_stopped, read_only}
use Rattle.ring_words.proofs.Staged.{closed_stage}
use Rattle.ring_words.proofs.ring.Ring.read.Goals as goal

pub read_word-requires-clause-of : goal.read_word-requires-clause-of
read_word-requires-clause-of g c =
    let ring = c.args.self.now in
    let none : value_of c.args.pass.now.local.caller.writes c.args.addr ≡ None =
    ap (λ (writes : List Word). value_of writes c.args.addr) (sym c.writes.ensures) ∙ sym c.in_default.ensures in
    read_seated g.S.Sense.good g.S.Sense.budget ring.words.shared.key ring.words.shared.table_id c.args.pass.now c.requires.of.seated
    c.requires.of.closed c.requires.active c.move_keeps.ensures (subst IsShape (sym ring.told.1) ring.limits)
    c.moves_keep.ensures (ring.told.2 ∙ ap (λ (s : Shape). s.heap) (sym ring.told.1)) c.args.addr c.requires.within c.requires.rule none

pub read_word-requires-clause-closed : goal.read_word-requires-clause-closed
read_word-requires-clause-closed g c =
    closed_stage c.args.self.now.words.shared.key.shape c.args.pass.now.local.caller c.requires.active c.requires.of.closed
    c.requires.of.seated.moved.machine

pub unreachable-requires : goal.unreachable-requires
unreachable-requires g c =
    let ring = c.args.self.now in
    let none : value_of c.args.pass.now.local.caller.writes c.args.addr ≡ None =
    ap (λ (writes : List Word). value_of writes c.args.addr) (sym c.writes.ensures) ∙ sym c.in_default.ensures in
    read_only g.S.Sense.good g.S.Sense.budget ring.words.shared.key ring.words.shared.table_id c.args.pass.now c.requires.of.seated
    c.requires.of.closed c.requires.active c.move_keeps.ensures (subst IsShape (sym ring.told.1) ring.limits)
    c.moves_keep.ensures (ring.told.2 ∙ ap (λ (s : Shape). s.heap) (sym ring.told.1)) c.args.addr c.requires.within c.requires.rule none
    c.read_word.new.pass c.read_word.result c.read_word.ensures.answered c.in_default-read_word.not-Value c.in_default-read_word.not-Stopped

pub returns-in-Value-clause-of : goal.returns-in-Value-clause-of
returns-in-Value-clause-of g c =
    let ring = c.args.self.now in
    let none : value_of c.args.pass.now.local.caller.writes c.args.addr ≡ None =
    ap (λ (writes : List Word). value_of writes c.args.addr) (sym c.writes.ensures) ∙ sym c.in_default.ensures in
    pass_knows g.S.Sense.allows g.S.Sense.good g.S.Sense.budget ring.words.shared.key ring.words.shared.table_id c.read_word.new.pass
    c.requires.of.is_made c.read_word.ensures.of c.read_word.ensures.closed
    (read_counted g.S.Sense.good g.S.Sense.budget ring.words.shared.key ring.words.shared.table_id c.args.pass.now c.requires.of.seated
    c.requires.of.closed c.requires.active c.move_keeps.ensures (subst IsShape (sym ring.told.1) ring.limits)
    c.moves_keep.ensures (ring.told.2 ∙ ap (λ (s : Shape). s.heap) (sym ring.told.1)) c.args.addr c.requires.within c.requires.rule none
    c.read_word.new.pass c.read_word.result c.read_word.ensures.answered c.requires.of.is_pass.mine c.requires.of.counted)

pub returns-in-Value-clause-few : goal.returns-in-Value-clause-few
returns-in-Value-clause-few g c =
    let ring = c.args.self.now in
    let none : value_of c.args.pass.now.local.caller.writes c.args.addr ≡ None =
    ap (λ (writes : List Word). value_of writes c.args.addr) (sym c.writes.ensures) ∙ sym c.in_default.ensures in
    read_few g.S.Sense.good g.S.Sense.budget ring.words.shared.key ring.words.shared.table_id c.args.pass.now c.requires.of.seated
    c.requires.of.closed c.requires.active c.move_keeps.ensures (subst IsShape (sym ring.told.1) ring.limits)
    c.moves_keep.ensures (ring.told.2 ∙ ap (λ (s : Shape). s.heap) (sym ring.told.1)) c.args.addr c.requires.within c.requires.rule none
    c.read_word.new.pass c.read_word.result c.read_word.ensures.answered

pub returns-in-Stopped-clause-of : goal.returns-in-Stopped-clause-of
returns-in-Stopped-clause-of g c =
    let ring = c.args.self.now in
    let none : value_of c.args.pass.now.local.caller.writes c.args.addr ≡ None =
    ap (λ (writes : List Word). value_of writes c.args.addr) (sym c.writes.ensures) ∙ sym c.in_default.ensures in
    pass_knows g.S.Sense.allows g.S.Sense.good g.S.Sense.budget ring.words.shared.key ring.words.shared.table_id c.read_word.new.pass
    c.requires.of.is_made c.read_word.ensures.of c.read_word.ensures.closed
    (read_counted g.S.Sense.good g.S.Sense.budget ring.words.shared.key ring.words.shared.table_id c.args.pass.now c.requires.of.seated
    c.requires.of.closed c.requires.active c.move_keeps.ensures (subst IsShape (sym ring.told.1) ring.limits)
    c.moves_keep.ensures (ring.told.2 ∙ ap (λ (s : Shape). s.heap) (sym ring.told.1)) c.args.addr c.requires.within c.requires.rule none
    c.read_word.new.pass c.read_word.result c.read_word.ensures.answered c.requires.of.is_pass.mine c.requires.of.counted)

pub returns-in-Stopped-clause-few : goal.returns-in-Stopped-clause-few
returns-in-Stopped-clause-few g c =
    let ring = c.args.self.now in
    let none : value_of c.args.pass.now.local.caller.writes c.args.addr ≡ None =
    ap (λ (writes : List Word). value_of writes c.args.addr) (sym c.writes.ensures) ∙ sym c.in_default.ensures in
    read_few g.S.Sense.good g.S.Sense.budget ring.words.shared.key ring.words.shared.table_id c.args.pass.now c.requires.of.seated
    c.requires.of.closed c.requires.active c.move_keeps.ensures (subst IsShape (sym ring.told.1) ring.limits)
    c.moves_keep.ensures (ring.told.2 ∙ ap (λ (s : Shape). s.heap) (sym ring.told.1)) c.args.addr c.requires.within c.requires.rule none
    c.read_word.new.pass c.read_word.result c.read_word.ensures.answered

pub returns-in-Value-clause-read : goal.returns-in-Value-clause-read
returns-in-Value-clause-read g c =
    let ring = c.args.self.now in
    let none : value_of c.args.pass.now.local.caller.writes c.args.addr ≡ None =
    ap (λ (writes : List Word). value_of writes c.args.addr) (sym c.writes.ensures) ∙ sym c.in_default.ensures in
    read_value g.S.Sense.good g.S.Sense.budget ring.words.shared.key ring.words.shared.table_id c.args.pass.now c.requires.of.seated
    c.requires.of.closed c.requires.active c.move_keeps.ensures (subst IsShape (sym ring.told.1) ring.limits)
    c.moves_keep.ensures (ring.told.2 ∙ ap (λ (s : Shape). s.heap) (sym ring.told.1)) c.args.addr c.requires.within c.requires.rule none
    c.read_word.new.pass c.read_word.result c.read_word.ensures.answered c.in-Value.value c.in-Value.is

pub returns-in-Stopped-clause-ended : goal.returns-in-Stopped-clause-ended
returns-in-Stopped-clause-ended g c =
    let ring = c.args.self.now in
    let none : value_of c.args.pass.now.local.caller.writes c.args.addr ≡ None =
    ap (λ (writes : List Word). value_of writes c.args.addr) (sym c.writes.ensures) ∙ sym c.in_default.ensures in
    (read_stopped g.S.Sense.good g.S.Sense.budget ring.words.shared.key ring.words.shared.table_id c.args.pass.now c.requires.of.seated
    c.requires.of.closed c.requires.active c.move_keeps.ensures (subst IsShape (sym ring.told.1) ring.limits)
    c.moves_keep.ensures (ring.told.2 ∙ ap (λ (s : Shape). s.heap) (sym ring.told.1)) c.args.addr c.requires.within c.requires.rule none
    c.read_word.new.pass c.read_word.result c.read_word.ensures.answered c.in-Stopped.stop c.in-Stopped.is).0

pub returns-in-Stopped-clause-cause_stop : goal.returns-in-Stopped-clause-cause_stop
returns-in-Stopped-clause-cause_stop g c =
    let ring = c.args.self.now in
    let none : value_of c.args.pass.now.local.caller.writes c.args.addr ≡ None =
    ap (λ (writes : List Word). value_of writes c.args.addr) (sym c.writes.ensures) ∙ sym c.in_default.ensures in
    (read_stopped g.S.Sense.good g.S.Sense.budget ring.words.shared.key ring.words.shared.table_id c.args.pass.now c.requires.of.seated
    c.requires.of.closed c.requires.active c.move_keeps.ensures (subst IsShape (sym ring.told.1) ring.limits)
    c.moves_keep.ensures (ring.told.2 ∙ ap (λ (s : Shape). s.heap) (sym ring.told.1)) c.args.addr c.requires.within c.requires.rule none
    c.read_word.new.pass c.read_word.result c.read_word.ensures.answered c.in-Stopped.stop c.in-Stopped.is).1
