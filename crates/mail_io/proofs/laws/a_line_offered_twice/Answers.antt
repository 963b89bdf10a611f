use Rattle.std.proofs.Common.{[], ◌∷◌, ◌≤◌, codes, refl, lit<, arith, false}
use Rattle.mail_io.specs.Writing.Offers.{all_taken, next_piece, some_taken, call_refused}
use Rattle.mail_io.specs.declared.errors.PutError.TheVariants.{Failed}
use Rattle.mail_io.proofs.Offered.{few_calls}
use Rattle.mail_io.proofs.laws.a_line_offered_twice.Goals as goal

pub returns-clause-whole : goal.returns-clause-whole
returns-clause-whole c =
    some_taken 0 1 2 (codes "2: 1 3\n") [] 4 false (lit< tt) (record { counted = refl; taken = refl })
    (some_taken 1 2 2 (codes " 3\n") [] 3 false (lit< tt) (record { counted = refl; taken = refl })
    (next_piece 2 2 [] false (all_taken 2)))

pub returns-clause-not_byte_by_byte : goal.returns-clause-not_byte_by_byte
returns-clause-not_byte_by_byte c offers =
    let few : 7 ≤ 2 = few_calls 0 7 (codes "2: 1 3\n" ∷ []) false offers in
    absurd (omega (arith, few))

pub returns-clause-nothing : goal.returns-clause-nothing
returns-clause-nothing c = next_piece 0 0 [] false (all_taken 0)

pub returns-clause-refused : goal.returns-clause-refused
returns-clause-refused c = call_refused 0 1 (codes "2: 1 3\n") [] Failed (lit< tt) (record { counted = refl; taken = tt })
