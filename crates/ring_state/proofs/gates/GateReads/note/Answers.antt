-- A read at a gate that wasn't read before joins both.
use Rattle.std.proofs.Common.{◌≡◌, ◌++◌, List, [], ◌∷◌, not, inl, inr, sym, ◌∙◌, ap, subst}
use Rattle.std.specs.Option.{is_some}
use Rattle.std.proofs.lemmas.Bool.{false≢true}
use Rattle.tx_model.specs.declared.word.Word.{Word}
use Rattle.tx_model.specs.Words.{value_of}
use Rattle.tx_model.proofs.lemmas.Values.{value_cases}
use Rattle.ring_state.proofs.GateFacts.{Agree, joins_both, joins_reads, joins_known}
use Rattle.ring_state.proofs.gates.GateReads.note.Goals as goal
use Rattle.ring_state.proofs.gates.GateReads.note.Goals.{else-has-via-then-has+else-is_none, else-has-via-else-has}

pub returns-then-is_none : goal.returns-then-is_none
returns-then-is_none c reads known =
    let gates = c.args.self.now.gates.items in
    let seen = c.args.self.now.reads.items in
    subst (λ (after : List Word). Agree gates after (reads ++ c.args.read ∷ [])) (sym c.push_reserved.ensures.items)
    (joins_both gates seen reads known c.args.read)

pub returns-else-has : goal.returns-else-has
returns-else-has c reads known =
    let gates = c.args.self.now.gates.items in
    let seen = c.args.self.now.reads.items in
    elim c.else-has.branch [
      | else-has-via-then-has+else-is_none w ↦
          let found : w.first_value.result ≡ value_of seen c.args.read.addr =
          w.first_value.ensures ∙ ap (λ (words : List Word). value_of words c.args.read.addr) w.deref.ensures.value in
          elim (value_cases seen c.args.read.addr) [
            | inl (value, is) ↦ joins_known gates seen reads known c.args.read value (c.has.ensures.0 w.if-has.true) is
            | inr none ↦ absurd (false≢true (ap is_some (sym none ∙ sym found) ∙ w.is_none.ensures ∙ ap not w.if-is_none.false))
          ]
      | else-has-via-else-has w ↦ joins_reads gates seen reads known c.args.read (λ among. false≢true (sym w.if-has.false ∙ c.has.ensures.1 among))
    ]
