-- The tokens ask for an act exactly where they have its name and its numbers.
use Rattle.std.proofs.Common.{◌≡◌, ◌<◌, [], length, drop, get_or, sym, ◌∙◌, ap, subst, arith}
use borrow.Author.Tests.{eqb-false}
use Rattle.ring_script.specs.Grammar.{AreNumbers}
use Rattle.ring_script.specs.Names.{text_of, act_named}
use Rattle.ring_script.proofs.Tokens.{texts, text_at, texts_rest, texts_length, named_first, first_named, numbers_same}
use Rattle.ring_script.proofs.Asking.{name_for, numbers_for, asks_named, named_asks}
use Rattle.ring_script.proofs.name.act_of.Goals as goal

pub returns-in_err-name : goal.returns-in_err-name
returns-in_err-name c a =
    let tokens = c.args.tokens.now in (
      λ e. absurd (cc (e, c.from_residual.ensures)),
      λ asks.
          let act = asks_named (texts tokens) a asks in
          let first = named_first (texts tokens) (text_of (name_for a)) (numbers_for a) act.line in
          let count = texts_length tokens in
          let some : 0 < length tokens = omega (arith, count, first.0) in
          let found = (c.name_of.ensures (name_for a)).1 (sym (text_at tokens 0 _ some) ∙ first.1) in
          absurd (cc (found, c.in_err-name.was)),
    )

pub returns : goal.returns
returns c a =
    let tokens = c.args.tokens.now in
    let count = texts_length tokens in
    let name = c.in_ok-name.name in
    let items = c.in_ok-numbers.numbers.items in
    let result : c.act_named.result ≡ act_named name items = c.act_named.ensures ∙ ap (act_named name) c.as_slice.ensures.value in
    let are : AreNumbers (drop 1 (texts tokens)) items = subst (λ ts. AreNumbers ts items) (texts_rest tokens) c.in_ok-numbers.ensures in (
      λ e.
          let none : length tokens ≡ 0 → ⊥ = eqb-false (length tokens) 0 (sym c.is_empty.ensures ∙ c.if-is_empty.false) in
          let some : 0 < length tokens = omega (arith, none) in
          let some' : 0 < length (texts tokens) = omega (arith, count, some) in
          let first : get_or (texts tokens) 0 [] ≡ text_of name = text_at tokens 0 _ some ∙ (c.name_of.ensures name).0 c.in_ok-name.was in
          named_asks (texts tokens) name items a (sym result ∙ e) (first_named (texts tokens) (text_of name) items some' first are),
      λ asks.
          let act = asks_named (texts tokens) a asks in
          let first = named_first (texts tokens) (text_of (name_for a)) (numbers_for a) act.line in
          let some : 0 < length tokens = omega (arith, count, first.0) in
          let found = (c.name_of.ensures (name_for a)).1 (sym (text_at tokens 0 _ some) ∙ first.1) in
          let same_name : name ≡ name_for a = cc (found, c.in_ok-name.was) in
          let same_numbers : items ≡ numbers_for a = numbers_same (drop 1 (texts tokens)) items (numbers_for a) are first.2 in
          result ∙ ap (λ n. act_named n items) same_name ∙ ap (act_named (name_for a)) same_numbers ∙ act.named,
    )
