use Rattle.std.proofs.Common.{Bool, ◌≡◌, ◌&&◌, true, false, not, ℕ, None, Some, Option, sym, ap, ◌∙◌, refl, arith, length}
use Rattle.std.specs.Option.{is_some}
use Rattle.std.proofs.lemmas.Bool.{and_parts, not-true}
use Rattle.std.proofs.lemmas.Result.{err_from_is_err_and}
use Rattle.mbox_cut.specs.Mbox.{begins_with_from, bytes_of}
use Rattle.mbox_cut.specs.declared.cutter.Cutter.{Cutter}
use Rattle.mbox_cut.specs.declared.span.Span.{Span}
use Rattle.mbox_cut.proofs.InOrder.{closed-in_order, in_order-same, later-in_order, opened-in_order}
use Rattle.mbox_cut.proofs.Steps.{HasCut-other, HasCut-separator, HasTooMany-separator, begins_as_mbox-refused}
use Rattle.mbox_cut.proofs.cutter.Cutter.take_line.Goals as goal
use Rattle.mbox_cut.proofs.cutter.Cutter.take_line.Goals.{then-separates+in_ok-begin, else-separates+else-refuses}

none_from : (start : Option ℕ) → is_some start ≡ false → start ≡ None
none_from None is = refl
none_from (Some start) is = cc

empty_from : (start : Option ℕ) (is_empty : Bool) → start ≡ None → (not (is_some start) && not is_empty) ≡ false → is_empty ≡ true
empty_from None true none is = refl
empty_from None false none is = sym is
empty_from (Some start) is_empty none is = cc

pub returns-in_err-begin-clause-too_many : goal.returns-in_err-begin-clause-too_many
returns-in_err-begin-clause-too_many c = λ is lines later had.
    let line : Span = record { from = c.args.start; to = c.args.end } in
    let begins = begins_with_from (bytes_of c.args.bytes.now line) in
    let same = err_from_is_err_and c.from_residual.result c.from_residual.ensures.1 in
    HasTooMany-separator c.args.bytes.now lines line c.args.self.now had
    (ap (λ b. begins && b) (sym had.after_empty) ∙ sym c.separates.ensures ∙ c.if-separates.true)
    (c.in_err-begin.ensures.no_room (cc))
    later

pub returns-then-refuses-clause-not_mbox : goal.returns-then-refuses-clause-not_mbox
returns-then-refuses-clause-not_mbox c = λ _ lines later had.
    let line : Span = record { from = c.args.start; to = c.args.end } in
    let begins = begins_with_from (bytes_of c.args.bytes.now line) in
    let start = c.args.self.now.message_start in
    let both = and_parts (not (is_some start)) (not c.is_empty_line-is_empty.result) (sym c.refuses.ensures ∙ c.if-refuses.true) in
    begins_as_mbox-refused c.args.bytes.now lines line later c.args.self.now had
    (none_from start (not-true (is_some start) both.0))
    (sym c.is_empty_line-is_empty.ensures ∙ not-true c.is_empty_line-is_empty.result both.1)
    (ap (λ b. begins && b) (sym had.after_empty) ∙ sym c.separates.ensures ∙ c.if-separates.false)

pub returns-clause-ok : goal.returns-clause-ok
returns-clause-ok c = λ lines had.
    let line : Span = record { from = c.args.start; to = c.args.end } in
    let begins = begins_with_from (bytes_of c.args.bytes.now line) in
    let separator = ap (λ b. begins && b) (sym had.after_empty) ∙ sym c.separates.ensures in
    elim c.if-separates.branch [
      | then-separates+in_ok-begin w ↦
          HasCut-separator c.args.bytes.now lines line c.args.self.now _ had (separator ∙ w.if-separates.true)
          (ap (λ (cutter : Cutter). cutter.messages.items) w.self-is ∙ w.in_ok-begin.ensures.closed)
          (ap (λ (cutter : Cutter). cutter.message_start) w.self-is ∙ w.in_ok-begin.ensures.begun)
          c.is_empty_line-is_empty.ensures
          (ap (λ (cutter : Cutter). cutter.limit) w.self-is ∙ w.in_ok-begin.ensures.limit)
          (omega (arith, ap (λ (cutter : Cutter). length cutter.messages.items) w.self-is, w.in_ok-begin.ensures.room))
      | else-separates+else-refuses w ↦
          HasCut-other c.args.bytes.now lines line c.args.self.now _ had (separator ∙ w.if-separates.false)
          (ap (λ (cutter : Cutter). cutter.messages.items) w.self-is)
          (ap (λ (cutter : Cutter). cutter.message_start) w.self-is)
          c.is_empty_line-is_empty.ensures
          (ap (λ (cutter : Cutter). cutter.limit) w.self-is)
          (λ none. sym c.is_empty_line-is_empty.ensures
          ∙ empty_from c.args.self.now.message_start c.is_empty_line-is_empty.result none (sym w.refuses.ensures ∙ w.if-refuses.false))
    ]

pub returns-clause-in_order : goal.returns-clause-in_order
returns-clause-in_order c = λ had.
    elim c.if-separates.branch [
      | then-separates+in_ok-begin w ↦
          in_order-same c.if-separates.self _ (Some c.args.end) c.args.end
          (ap (λ (cutter : Cutter). cutter.messages.items) w.self-is ∙ w.in_ok-begin.ensures.closed)
          (ap (λ (cutter : Cutter). cutter.message_start) w.self-is ∙ w.in_ok-begin.ensures.begun)
          (opened-in_order _ c.args.start c.args.end c.requires.ordered (closed-in_order _ _ _ had))
      | else-separates+else-refuses w ↦
          in_order-same c.if-separates.self c.args.self.now.messages.items c.args.self.now.message_start c.args.end
          (ap (λ (cutter : Cutter). cutter.messages.items) w.self-is)
          (ap (λ (cutter : Cutter). cutter.message_start) w.self-is)
          (later-in_order _ _ c.args.start c.args.end (omega arith) had)
    ]
