-- The states of a history, word by word.
use Rattle.std.proofs.Common.{◌≡◌, ◌≢◌, ℕ, ◌+◌, List, [], ◌∷◌, ◌++◌, zero, suc, length, take, set, slice_get, Some, Contains, refl, sym, ◌∙◌, ap, subst, arith, inl, inr}
use Rattle.tx_model.specs.declared.word.Word.{Word}
use Rattle.tx_model.specs.declared.history.Commit.{Commit}
use Rattle.tx_model.specs.Words.{addresses}
use Rattle.tx_model.specs.Memory.{after, Agrees}
use Rattle.tx_model.specs.History.{after_commit, replay, state_at, IsLegal}
use Rattle.tx_model.proofs.lemmas.Histories.{state_stays}
use Rattle.ring_worlds.specs.Reader.{Touches}
use Rattle.ring_worlds.proofs.lemmas.Lists.{at_last}

get_set_other : (memory : List ℕ) (at addr value : ℕ) → addr ≢ at → slice_get (set memory at value) addr ≡ slice_get memory addr
get_set_other [] at addr value apart = refl
get_set_other (first ∷ memory) zero zero value apart = absurd (apart refl)
get_set_other (first ∷ memory) zero (suc addr) value apart = refl
get_set_other (first ∷ memory) (suc at) zero value apart = refl
get_set_other (first ∷ memory) (suc at) (suc addr) value apart =
    get_set_other memory at addr value (λ e. apart (ap suc e))

pub contains_head : (x : ℕ) (xs : List ℕ) → Contains (x ∷ xs) x
contains_head x xs = (0, omega arith, refl)

pub contains_tail : (x : ℕ) (xs : List ℕ) (q : ℕ) → Contains xs q → Contains (x ∷ xs) q
contains_tail x xs q (k, below, at) = (suc k, omega (arith, below), at)

pub after_other : (memory : List ℕ) (words : List Word) (addr : ℕ) → (Contains (addresses words) addr → ⊥)
    → slice_get (after memory words) addr ≡ slice_get memory addr
after_other memory [] addr apart = refl
after_other memory (word ∷ words) addr apart =
    after_other (set memory word.addr word.value) words addr (λ among. apart (contains_tail word.addr (addresses words) addr among))
    ∙ get_set_other memory word.addr addr word.value (λ e. apart
    (subst (λ a. Contains (word.addr ∷ addresses words) a) (sym e) (contains_head word.addr (addresses words))))

state_next : (memory : List ℕ) (history : List Commit) (k : ℕ) (commit : Commit) → slice_get history k ≡ Some commit
    → replay memory (take (suc k) history) ≡ after_commit (replay memory (take k history)) commit
state_next memory [] zero commit e = absurd cc
state_next memory [] (suc k) commit e = absurd cc
state_next memory (first ∷ history) zero commit e = let same : first ≡ commit = cc in ap (after_commit memory) same
state_next memory (first ∷ history) (suc k) commit e = state_next (after_commit memory first) history k commit e

pub untouched : (opening : List ℕ) (history : List Commit) (j : ℕ) (commit : Commit) → slice_get history j ≡ Some commit → (addr : ℕ)
    → (Touches commit addr → ⊥)
    → slice_get (state_at opening history (j + 1)) addr ≡ slice_get (state_at opening history j) addr
untouched opening history j commit there addr apart =
    ap (λ n. slice_get (state_at opening history n) addr) (let e : j + 1 ≡ suc j = omega arith in e)
    ∙ ap (λ memory. slice_get memory addr) (state_next opening history j commit there)
    ∙ after_other _ commit.carry addr (λ among. apart (inr among))
    ∙ after_other (state_at opening history j) commit.writes addr (λ among. apart (inl among))

pub legal_grows : (opening : List ℕ) (history : List Commit) (commit : Commit) → IsLegal opening history
    → Agrees commit.reads (state_at opening history (length history)) → IsLegal opening (history ++ commit ∷ [])
legal_grows opening history commit legal agrees k other there =
    elim (at_last history commit other k there) [
      | inl (below, was) ↦ subst (Agrees other.reads) (sym (state_stays opening history (history ++ commit ∷ []) k (commit ∷ [], refl)
          (omega (arith, below)))) (legal k other was)
      | inr (at, same) ↦
          subst (λ n. Agrees other.reads (state_at opening (history ++ commit ∷ []) n)) (sym at)
          (subst (Agrees other.reads) (sym (state_stays opening history (history ++ commit ∷ []) (length history) (commit ∷ [], refl) (omega arith)))
          (subst (λ (c : Commit). Agrees c.reads (state_at opening history (length history))) same agrees))
    ]
