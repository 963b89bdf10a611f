use Rattle.std.proofs.lemmas.Grind.{common_steps}
use Rattle.std.proofs.Common.{◌≡◌, ◌++◌, ℕ, inl, inr, arith, Vec, sym, ◌∙◌, ap, subst, OnOk}
use Rattle.std.specs.List.{list_all}
use Rattle.mail_query.specs.Printed.Context.{Alone, InAny, InAll}
use Rattle.mail_query.specs.InForm.{has_words}
use Rattle.mail_query.specs.Printed.{printed, joined}
use Rattle.mail_query.specs.View.{context_of}
use Rattle.mail_query.proofs.Printed.{texts_at, printed-all, printed-any, words-all, words-any, on_ok, member_printed, member_words}
use Rattle.std.specs.declared.alloc.Global.{Global}
use Rattle.mail_query.proofs.printer.+print.Goals as goal
use Rattle.mail_query.proofs.printer.+print.Goals.{print_members-then-at-gt0+in_ok-put, print_members-else-at-gt0}

pub print_bare-returns-in-All-clause-printed : goal.print_bare-returns-in-All-clause-printed
print_bare-returns-in-All-clause-printed t c =
    subst (λ text. OnOk c.print_members.result (c.print_members.new.text.items ≡ c.args.text.now.items ++ text))
    (ap (λ members. joined 32 (texts_at InAll members)) c.as_slice.ensures ∙ sym (printed-all c.in-All.of.members Alone) ∙ ap printed (sym c.in-All.is))
    c.print_members.ensures.printed

pub print_bare-returns-in-All-clause-words : goal.print_bare-returns-in-All-clause-words
print_bare-returns-in-All-clause-words t c =
    on_ok c.print_members.result (λ words. ap has_words c.in-All.is
    ∙ words-all c.in-All.of.members (ap (λ members. list_all has_words members) (sym c.as_slice.ensures) ∙ words)) c.print_members.ensures.words

pub print_bare-returns-in-Any-clause-printed : goal.print_bare-returns-in-Any-clause-printed
print_bare-returns-in-Any-clause-printed t c =
    subst (λ text. OnOk c.print_members-in-Any.result (c.print_members-in-Any.new.text.items ≡ c.args.text.now.items ++ text))
    (ap (λ members. joined 124 (texts_at InAny members)) c.as_slice-in-Any.ensures ∙ sym (printed-any c.in-Any.of.members Alone) ∙ ap printed (sym c.in-Any.is))
    c.print_members-in-Any.ensures.printed

pub print_bare-returns-in-Any-clause-words : goal.print_bare-returns-in-Any-clause-words
print_bare-returns-in-Any-clause-words t c =
    on_ok c.print_members-in-Any.result (λ words. ap has_words c.in-Any.is
    ∙ words-any c.in-Any.of.members (ap (λ members. list_all has_words members) (sym c.as_slice-in-Any.ensures) ∙ words))
    c.print_members-in-Any.ensures.words

pub print_members-loop-at-preserved : goal.print_members-loop-at-preserved
print_members-loop-at-preserved t c = (
  member_printed c.args.text.now.items c.loop-at.text.items c.if-at-gt0.text.items c.print_at.new.text.items c.args.between
      (context_of c.args.context) c.args.members.now c.loop-at.at
      c.index-members-at.result c.loop-at-test.true c.index-members-at.is c.loop-at.invariant.0
      (elim c.if-at-gt0.branch [
        | print_members-then-at-gt0+in_ok-put w ↦ inl (w.if-at-gt0.true, ap (λ (v : Vec ℕ Global). v.items) w.text-is ∙ w.in_ok-put.ensures)
        | print_members-else-at-gt0 w ↦ inr (omega arith, ap (λ (v : Vec ℕ Global). v.items) w.text-is)
      ])
      c.in_ok-print_at.ensures.printed,
  member_words c.args.members.now c.loop-at.at c.index-members-at.result c.loop-at-test.true c.index-members-at.is c.loop-at.invariant.1
      c.in_ok-print_at.ensures.words,
)

pub print_members-returns-clause-printed : goal.print_members-returns-clause-printed
print_members-returns-clause-printed t c = grind (arith, common_steps)

pub print_members-returns-clause-words : goal.print_members-returns-clause-words
print_members-returns-clause-words t c = grind (arith, common_steps)
