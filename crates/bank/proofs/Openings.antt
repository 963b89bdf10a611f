-- What a bank opens with, and that no pass of it owns a region.
use Rattle.std.proofs.Common.{◌≡◌, ℕ, ◌*◌, ◌++◌, List, [], ◌∷◌, length, sum, take, replicate, refl, ◌∙◌, ap, subst, arith, Contains}
use Rattle.std.proofs.lemmas.List.{length-replicate, take-append-le, take_all}
use Rattle.std.proofs.lemmas.List.Folds.{sum_by-replicate}
use Rattle.tx_model.specs.declared.gate.Region.{Region}
use Rattle.tx_model.specs.declared.view.Owned.{Owned}
use Rattle.tx_model.specs.Pass.{IsOwnable}
use Rattle.tx_model.specs.declared.view.PassView.{PassView}
use Rattle.tx_model.specs.Made.{Made}
use Rattle.tx_model.specs.Memory.{after}
use Rattle.ring_words.specs.Closing.{Ending, ending, contents_of, last_words}
use Rattle.bank.specs.Bank.{money_in}
use Rattle.bank.specs.Day.{last_state}

-- each account has the balance
pub opening_money : (accounts balance : ℕ) (counts : List ℕ) → money_in accounts (replicate accounts balance ++ counts) ≡ accounts * balance
opening_money accounts balance counts =
    ap sum (take-append-le accounts (replicate accounts balance) counts (omega (arith, length-replicate accounts balance))
    ∙ take_all accounts (replicate accounts balance) (omega (arith, length-replicate accounts balance)))
    ∙ sum_by-replicate (λ (n : ℕ). n) accounts balance

-- what a closed ring without regions has is the last state
pub closed_money : {S : Type 0} (accounts money : ℕ) (made : Made S) (view : PassView) (e : Ending S) → e ≡ ending made view → view.owned ≡ []
    → money_in accounts (last_state made.opening view) ≡ money → money_in accounts (last_words e) ≡ money
closed_money accounts money made view e is none has =
    ap (λ (x : Ending _). money_in accounts (last_words x)) is
    ∙ ap (λ (owned : List Owned). money_in accounts (after (last_state made.opening view) (contents_of owned))) none ∙ has

-- without regions none is owned
pub none_owned : (regions : List Region) (owned : List Owned) → regions ≡ [] → ((o : Owned) → Contains owned o → IsOwnable regions o) → owned ≡ []
none_owned regions [] none each = refl
none_owned regions (o ∷ owned) none each =
    absurd (let among = subst (λ (rs : List Region). Contains rs o.region) none (each o (0, omega arith, refl)).region in omega (arith, among.1))
