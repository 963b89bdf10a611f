-- Lists of owned regions of which no two have a word in common.
use Rattle.std.proofs.Common.{◌≡◌, ℕ, zero, suc, ◌++◌, Bool, List, [], ◌∷◌, slice_get, Some, Contains, refl, sym, ap, subst, arith, inl, inr}
use Rattle.std.specs.List.{filter}
use Rattle.std.proofs.lemmas.Bool.{cond_both}
use Rattle.std.proofs.lemmas.List.Elements.{Contains-append_cases}
use Rattle.tx_model.specs.declared.view.Owned.{Owned}
use Rattle.tx_model.specs.Made.{IsIn}
use Rattle.ring_worlds.proofs.lemmas.Members.{contains_more, filter_from, index_in, among_at}

abbrev pub AreOwnedApart : List Owned → Type 0
AreOwnedApart owned = (k l : ℕ) (o other : Owned) (addr : ℕ) → slice_get owned k ≡ Some o → slice_get owned l ≡ Some other → IsIn addr o.region
    → IsIn addr other.region → k ≡ l

apart_rest : (first : Owned) (owned : List Owned) → AreOwnedApart (first ∷ owned) → AreOwnedApart owned
apart_rest first owned apart k l o other addr at at' inside inside' = let e = apart (suc k) (suc l) o other addr at at' inside inside' in omega (arith, e)

-- the first one has no word in common with the rest
abbrev AreClear : Owned → List Owned → Type 0
AreClear first owned = (o : Owned) (addr : ℕ) → Contains owned o → IsIn addr first.region → IsIn addr o.region → ⊥

clear_of : (first : Owned) (owned : List Owned) → AreOwnedApart (first ∷ owned) → AreClear first owned
clear_of first owned apart o addr among inside inside' = let (k, at) = index_in owned o among in let e =
    apart 0 (suc k) first o addr refl at inside inside' in omega (arith, e)

apart_more : (first : Owned) (owned : List Owned) → AreClear first owned → AreOwnedApart owned → AreOwnedApart (first ∷ owned)
apart_more first owned clear apart zero zero o other addr at at' inside inside' = refl
apart_more first owned clear apart zero (suc l) o other addr at at' inside inside' =
    let is : first ≡ o = cc in absurd (clear other addr (among_at owned l other at') (subst (λ (x : Owned). IsIn addr x.region) (sym is) inside) inside')
apart_more first owned clear apart (suc k) zero o other addr at at' inside inside' =
    let is : first ≡ other = cc in absurd (clear o addr (among_at owned k o at) (subst (λ (x : Owned). IsIn addr x.region) (sym is) inside') inside)
apart_more first owned clear apart (suc k) (suc l) o other addr at at' inside inside' = ap suc (apart k l o other addr at at' inside inside')

pub apart_filter : (f : Owned → Bool) (owned : List Owned) → AreOwnedApart owned → AreOwnedApart (filter f owned)
apart_filter f [] apart = apart
apart_filter f (first ∷ owned) apart =
    cond_both (f first) (first ∷ filter f owned) (filter f owned) AreOwnedApart
    (λ is. apart_more first (filter f owned) (clear_filter (clear_of first owned apart)) (apart_filter f owned (apart_rest first owned apart)))
    (λ is. apart_filter f owned (apart_rest first owned apart))
  where
    clear_filter : AreClear first owned → AreClear first (filter f owned)
    clear_filter clear o addr among inside inside' = clear o addr (filter_from f owned o among) inside inside'

-- two lists joined
pub apart_append : (owned more : List Owned) → AreOwnedApart owned → AreOwnedApart more
    → ((o other : Owned) (addr : ℕ) → Contains owned o → Contains more other → IsIn addr o.region → IsIn addr other.region → ⊥)
    → AreOwnedApart (owned ++ more)
apart_append [] more apart apart' cross = apart'
apart_append (first ∷ owned) more apart apart' cross =
    apart_more first (owned ++ more) clear (apart_append owned more (apart_rest first owned apart) apart'
    (λ o other addr among among' inside inside'. cross o other addr (contains_more first owned o among) among' inside inside'))
  where
    clear : AreClear first (owned ++ more)
    clear o addr among inside inside' =
        elim (Contains-append_cases owned more o among) [
          | inl old ↦ clear_of first owned apart o addr old inside inside'
          | inr new ↦ cross first o addr (0, omega arith, refl) new inside inside'
        ]
