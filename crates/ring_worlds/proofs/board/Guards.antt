-- What a commit that follows the region rule writes: the gates of the regions that it seals, and of those whose words it carries.
use Rattle.std.proofs.Common.{◌≡◌, ℕ, zero, suc, List, [], ◌∷◌, Contains, refl, sym, subst, arith}
use Rattle.tx_model.specs.declared.word.Word.{Word}
use Rattle.tx_model.specs.declared.gate.Region.{Region}
use Rattle.tx_model.specs.declared.history.Commit.{Commit}
use Rattle.tx_model.specs.Words.{addresses, HasAddress}
use Rattle.tx_model.specs.Made.{IsIn}
use Rattle.tx_model.specs.Rule.{FollowsRule}
use Rattle.tx_model.proofs.lemmas.Values.{value_has}

pub has_contains : (words : List Word) (addr : ℕ) → HasAddress words addr → Contains (addresses words) addr
has_contains [] addr (k, word, below, at, is) = absurd (omega (arith, below))
has_contains (first ∷ words) addr (zero, word, below, at, is) = (0, omega arith, subst (λ (w : Word). w.addr ≡ addr) (sym at) is)
has_contains (first ∷ words) addr (suc k, word, below, at, is) =
    let (j, within, here) = has_contains words addr (k, word, omega (arith, below), at, is) in (suc j, omega (arith, within), here)

pub contains_has : (words : List Word) (addr : ℕ) → Contains (addresses words) addr → HasAddress words addr
contains_has [] addr (k, below, at) = absurd (omega (arith, below))
contains_has (word ∷ words) addr (zero, below, at) = (0, word, omega arith, refl, at)
contains_has (word ∷ words) addr (suc k, below, at) =
    let (j, there, within, here, is) = contains_has words addr (k, omega (arith, below), at) in (suc j, there, omega (arith, within), here, is)

pub record GuardsItsRegions (regions : List Region) (commit : Commit) : Type 0 where
  pub seals : (region : Region) → Contains commit.sealed region → Contains regions region × Contains (addresses commit.writes) region.gate
  pub carries : (addr : ℕ) → Contains (addresses commit.carry) addr
      → (region : Region) × Contains regions region × IsIn addr region × Contains (addresses commit.writes) region.gate

pub guards : (opening : List ℕ) (regions : List Region) (commit : Commit) → FollowsRule opening regions commit → GuardsItsRegions regions commit
guards opening regions commit rule =
    record {
      seals = λ region sealed. let (known, sealing) = rule.uses.seals region sealed in
          (known, has_contains commit.writes region.gate (value_has commit.writes region.gate _ sealing.wrote));
      carries = λ addr among.
          let (region, published, inside) = rule.carried addr (contains_has commit.carry addr among) in
          let (known, publishing) = rule.uses.publishes region published in
          (region, known, inside, has_contains commit.writes region.gate (value_has commit.writes region.gate _ publishing.wrote));
    }
