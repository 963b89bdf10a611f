-- One call of `put` each.
use Rattle.std.proofs.Common.{◌≡◌, ℕ, length, take, codes, false, refl, ap, subst, arith}
use Rattle.mail_io.specs.Writing.Offers.{all_taken, next_piece, some_taken, call_refused}
use Rattle.mail_io.specs.declared.errors.PutError.TheVariants as put
use Rattle.mail_answers.proofs.laws.sent_examples.Goals as goal

pub returns-clause-all : goal.returns-clause-all
returns-clause-all c = record {
  grown = refl;
  calls = some_taken _ tt _ _ _ 3 _ (omega arith) tt (next_piece _ _ _ _ (all_taken _));
  no_fault = refl;
  no_want = refl;
}

pub returns-clause-part : goal.returns-clause-part
returns-clause-part c = (
  record {
    sent = 2;
    grown = refl;
    calls = some_taken _ tt _ _ _ 2 _ (omega arith) tt (call_refused _ _ _ _ put.Failed (omega arith) tt);
  },
  refl,
  omega arith,
)

pub returns-clause-some : goal.returns-clause-some
returns-clause-some c = (record { sent = 0; grown = refl; whole = 0; refused = false; calls = all_taken _ }, refl, refl)

pub returns-clause-miscounted : goal.returns-clause-miscounted
returns-clause-miscounted c (part, is, rose) =
    let grown = subst (λ (n : ℕ). codes "0:" ≡ take n (codes "0:\n")) is part.grown in
    let short : 2 ≡ 1 = ap length grown in
    omega (arith, short)
