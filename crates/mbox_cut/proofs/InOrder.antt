-- Spans stay in order while messages begin and end.
use Rattle.std.proofs.Common.{◌≡◌, ℕ, ◌<◌, ◌≤◌, List, ◌++◌, Option, None, Some, sym, subst, arith}
use Rattle.std.proofs.lemmas.List.{append-nil}
use Rattle.std.proofs.lemmas.List.Elements.{All-push, All-weaker, All-get_or}
use Rattle.std.proofs.lemmas.List.Quantifiers.{all_pairs_push}
use Rattle.mbox_cut.specs.Cutting.{IsInOrder, open_message}
use Rattle.mbox_cut.specs.Spans.{EndsBefore, LiesIn}
use Rattle.mbox_cut.specs.declared.cutter.Cutter.{Cutter}
use Rattle.mbox_cut.specs.declared.span.Span.{Span}

-- the open message ends here
pub closed-in_order : (messages : List Span) (start : Option ℕ) (end : ℕ) → IsInOrder messages start end
    → IsInOrder (messages ++ open_message start end) None end
closed-in_order messages None end had = subst (λ items. IsInOrder items None end) (sym (append-nil messages)) had
closed-in_order messages (Some start) end had =
    let message : Span = record { from = start; to = end } in
    record {
      within = All-push (LiesIn end) messages message had.within (had.next.0, omega arith);
      rising = all_pairs_push EndsBefore messages message had.rising (λ k d below. All-get_or (λ span. span.to < start) messages k d below had.next.1);
      next = tt;
    }

-- time goes on
pub later-in_order : (messages : List Span) (start : Option ℕ) (end later : ℕ) → end ≤ later → IsInOrder messages start end → IsInOrder messages start later
later-in_order messages None end later after had = record {
  within = All-weaker (LiesIn end) (LiesIn later) (λ span lies. (lies.0, omega (arith, lies.1))) messages had.within;
  rising = had.rising;
  next = tt;
}
later-in_order messages (Some start) end later after had = record {
  within = All-weaker (LiesIn end) (LiesIn later) (λ span lies. (lies.0, omega (arith, lies.1))) messages had.within;
  rising = had.rising;
  next = (omega (arith, had.next.0), had.next.1);
}

-- a message begins after a separator
pub opened-in_order : (messages : List Span) (end position : ℕ) → end < position → IsInOrder messages None end → IsInOrder messages (Some position) position
opened-in_order messages end position after had = record {
  within = All-weaker (LiesIn end) (LiesIn position) (λ span lies. (lies.0, omega (arith, lies.1))) messages had.within;
  rising = had.rising;
  next = (omega arith, All-weaker (LiesIn end) (λ span. span.to < position) (λ span lies. omega (arith, lies.1)) messages had.within);
}

-- the same of a cutter that has these messages
pub in_order-same : (cutter : Cutter) (messages : List Span) (start : Option ℕ) (end : ℕ) → cutter.messages.items ≡ messages → cutter.message_start ≡ start
    → IsInOrder messages start end → IsInOrder cutter.messages.items cutter.message_start end
in_order-same cutter messages start end same_messages same_start had =
    subst (λ items. IsInOrder items cutter.message_start end) (sym same_messages) (subst (λ position. IsInOrder messages position end) (sym same_start) had)
