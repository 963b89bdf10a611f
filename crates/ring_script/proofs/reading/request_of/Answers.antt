-- The first token is the caller's number, and the others ask for something.
use Rattle.std.proofs.Common.{◌≡◌, ◌<◌, [], length, drop, get_or, sym, ◌∙◌, subst, arith}
use borrow.Author.Tests.{eqb-false}
use Rattle.ring_script.specs.Lines.{IsNumber}
use Rattle.ring_script.specs.Grammar.{AsksFor, IsEventLine}
use Rattle.ring_script.specs.declared.reading.Request.{Request}
use Rattle.ring_script.proofs.Tokens.{texts, text_at, texts_rest, texts_length}
use Rattle.ring_script.proofs.Said.{event_first, first_event, some_request, some_same}
use Rattle.ring_script.proofs.reading.request_of.Goals as goal

pub returns-in_err-who : goal.returns-in_err-who
returns-in_err-who c request =
    let tokens = c.args.tokens.now in (
      λ e. absurd (cc (e, c.from_residual.ensures)),
      λ line.
          let first = event_first (texts tokens) request.who request.act line in
          let count = texts_length tokens in
          let some : 0 < length tokens = omega (arith, count, first.0) in
          let found = (c.number_of.ensures request.who).1 (subst (λ t. IsNumber t request.who) (text_at tokens 0 _ some) first.1) in
          absurd (cc (found, c.in_err-who.was)),
    )

pub returns : goal.returns
returns c request =
    let tokens = c.args.tokens.now in
    let count = texts_length tokens in
    let none : length tokens ≡ 0 → ⊥ = eqb-false (length tokens) 0 (sym c.is_empty.ensures ∙ c.if-is_empty.false) in
    let some : 0 < length tokens = omega (arith, none) in
    let read = text_at tokens 0 _ some in
    let who = c.in_ok-who.who in
    let act = c.in_ok-act.act in
    let asked : Request = record { who = who; act = act } in (
      λ e.
          let same : asked ≡ request = some_same asked request e in
          let number : IsNumber (get_or (texts tokens) 0 []) who = subst (λ t. IsNumber t who) (sym read) ((c.number_of.ensures who).0 c.in_ok-who.was) in
          let asks : AsksFor (drop 1 (texts tokens)) act = subst (λ ts. AsksFor ts act) (texts_rest tokens) ((c.act_of.ensures act).0 c.in_ok-act.was) in
          subst (λ (r : Request). IsEventLine (texts tokens) r.who r.act) same (first_event (texts tokens) who act (omega (arith, count, some)) number asks),
      λ line.
          let first = event_first (texts tokens) request.who request.act line in
          let found = (c.number_of.ensures request.who).1 (subst (λ t. IsNumber t request.who) read first.1) in
          let did = (c.act_of.ensures request.act).1 (subst (λ ts. AsksFor ts request.act) (sym (texts_rest tokens)) first.2) in
          let same_who : who ≡ request.who = cc (found, c.in_ok-who.was) in
          let same_act : act ≡ request.act = cc (did, c.in_ok-act.was) in
          some_request who act request same_who same_act,
    )
