use Rattle.std.proofs.Common.{ℕ, Vec, Global, ◌+◌, ◌∷◌, [], ◌++◌, true, false, sym, ap, ◌∙◌, append-nil, rules}
use Rattle.std.specs.List.{range_with_len, filter}
use Rattle.mail_query.specs.Bits.{has_bit}
use Rattle.mail_query.proofs.BitWords.{passed_more}
use Rattle.mail_query.proofs.bits.Bits.numbers.Goals as goal
use Rattle.mail_query.proofs.bits.Bits.numbers.Goals.{then-has+in_ok-push, else-has}

pub loop-index-preserved : goal.loop-index-preserved
loop-index-preserved c =
    let test = has_bit c.args.self.now.words.items in
    let l = c.loop-index in
    elim c.if-has.branch [
      | then-has+in_ok-push w ↦
          ap (λ (v : Vec ℕ Global). v.items) w.numbers-is ∙ w.in_ok-push.ensures.items ∙ ap (λ ns. ns ++ (l.index + 1) ∷ []) l.invariant
          ∙ sym (passed_more test l.index true (sym w.if-has.ensures))
      | else-has w ↦
          ap (λ (v : Vec ℕ Global). v.items) w.numbers-is ∙ l.invariant ∙ sym (append-nil (filter test (range_with_len 1 l.index)))
          ∙ sym (passed_more test l.index false (sym w.if-has.ensures))
    ]

pub returns : goal.returns
returns c = search rules
