-- The states of a history, one after another, and how long memories and histories are.
use Rattle.std.proofs.Common.{◌≡◌, ◌⊎◌, ℕ, zero, suc, ◌+◌, ◌<◌, ◌≤◌, Option, Some, None, List, [], ◌∷◌, ◌++◌, length, set, take, drop, slice_get, refl, sym, ◌∙◌, ap, subst, arith, add-one, inl, inr}
use Rattle.std.proofs.lemmas.List.{length-set, length_push}
use Rattle.tx_model.specs.declared.gate.Region.{Region}
use Rattle.tx_model.specs.declared.history.Commit.{Commit}
use Rattle.tx_model.specs.Memory.{words_in}
use Rattle.tx_model.specs.Made.{IsIn}
use Rattle.tx_model.specs.History.{after_commit, replay, state_at, IsGoodHistory}
use Rattle.tx_model.specs.Laws.{AfterLength, StateLength, StateAfter, StateStays, BudgetBounds}
use Rattle.tx_model.proofs.lemmas.Histories.{state_stays, state_more}

-- ---- from one state to the next
option_cases : {X : Type 0} (o : Option X) → ((x : X) × (o ≡ Some x)) ⊎ (o ≡ None)
option_cases None = inr refl
option_cases (Some x) = inl (x, refl)

-- there is a commit at this index, or none
pub entry_cases : {X : Type 0} (xs : List X) (k : ℕ) → ((x : X) × (slice_get xs k ≡ Some x)) ⊎ (slice_get xs k ≡ None)
entry_cases xs k = option_cases (slice_get xs k)

next_state : (memory : List ℕ) (history : List Commit) (k : ℕ) (commit : Commit) → slice_get history k ≡ Some commit
    → state_at memory history (suc k) ≡ after_commit (state_at memory history k) commit
next_state memory [] k commit there = absurd cc
next_state memory (first ∷ history) zero commit there = let same : first ≡ commit = cc in ap (after_commit memory) same
next_state memory (first ∷ history) (suc k) commit there = next_state (after_commit memory first) history k commit there

pub state_next : (opening : List ℕ) (history : List Commit) (k : ℕ) (commit : Commit) → slice_get history k ≡ Some commit
    → state_at opening history (k + 1) ≡ after_commit (state_at opening history k) commit
state_next opening history k commit there = ap (state_at opening history) (add-one k) ∙ next_state opening history k commit there

-- past the end nothing changes
same_past : (memory : List ℕ) (history : List Commit) (k : ℕ) → slice_get history k ≡ None → state_at memory history (suc k) ≡ state_at memory history k
same_past memory [] zero none = refl
same_past memory [] (suc k) none = refl
same_past memory (first ∷ history) zero none = absurd cc
same_past memory (first ∷ history) (suc k) none = same_past (after_commit memory first) history k none

pub state_past : (opening : List ℕ) (history : List Commit) (k : ℕ) → slice_get history k ≡ None → state_at opening history (k + 1) ≡ state_at opening history k
state_past opening history k none = ap (state_at opening history) (add-one k) ∙ same_past opening history k none

-- ---- the words of a region, from the words of the memory
take_same : (len : ℕ) (xs ys : List ℕ) → ((k : ℕ) → k < len → slice_get xs k ≡ slice_get ys k) → take len xs ≡ take len ys
take_same zero xs ys same = refl
take_same (suc len) [] [] same = refl
take_same (suc len) [] (y ∷ ys) same = absurd (let e = same 0 (omega arith) in cc)
take_same (suc len) (x ∷ xs) [] same = absurd (let e = same 0 (omega arith) in cc)
take_same (suc len) (x ∷ xs) (y ∷ ys) same =
    let first : x ≡ y = (let e = same 0 (omega arith) in cc) in
    ap (λ (z : ℕ). z ∷ take len xs) first ∙ ap (λ (l : List ℕ). y ∷ l) (take_same len xs ys (λ k below. same (suc k) (omega (arith, below))))

drop_at : (base k : ℕ) (xs : List ℕ) → slice_get (drop base xs) k ≡ slice_get xs (base + k)
drop_at zero k xs = ap (slice_get xs) (omega arith)
drop_at (suc base) k [] = none (suc base + k)
  where
    none : (i : ℕ) → slice_get {X = ℕ} (drop (suc base) []) k ≡ slice_get {X = ℕ} [] i
    none zero = refl
    none (suc i) = refl
drop_at (suc base) k (x ∷ xs) = drop_at base k xs ∙ ap (slice_get (x ∷ xs)) next
  where
    next : suc (base + k) ≡ suc base + k
    next = omega arith

-- where two memories have the same words inside a region, it has the same words
pub words_same : (one other : List ℕ) (region : Region) → ((addr : ℕ) → IsIn addr region → slice_get one addr ≡ slice_get other addr)
    → words_in one region ≡ words_in other region
words_same one other region same =
    take_same region.len (drop region.base one) (drop region.base other)
    (λ k below. drop_at region.base k one ∙ same (region.base + k) (omega arith, omega (arith, below)) ∙ sym (drop_at region.base k other))

-- ---- how long memories are, and how long a good history may be
pub after_length : AfterLength
after_length memory [] = refl
after_length memory (word ∷ words) =
    after_length (set memory word.addr word.value) words ∙ length-set memory word.addr word.value

replay_length : (memory : List ℕ) (history : List Commit) → length (replay memory history) ≡ length memory
replay_length memory [] = refl
replay_length memory (commit ∷ history) =
    replay_length (after_commit memory commit) history ∙ after_length _ commit.carry ∙ after_length memory commit.writes

pub state_length : StateLength
state_length opening history k = replay_length opening (take k history)

pub state_after : StateAfter
state_after opening history commit =
    ap (state_at opening (history ++ commit ∷ [])) (length_push history commit) ∙ state_more opening history commit

pub stays : StateStays
stays = state_stays

module _ (good : List ℕ → Type 0) (budget : List ℕ → ℕ) (opening : List ℕ) (history : List Commit) (ok : IsGoodHistory good budget opening history) where
  -- each commit takes at least one of the budget
  pub budget_at : (k : ℕ) → k ≤ length history → budget (state_at opening history k) + k ≤ budget opening
  budget_at zero within = omega arith
  budget_at (suc k) within =
      let fell = subst (λ n. budget (state_at opening history n) < budget (state_at opening history k)) (add-one k) (ok.falls k (omega arith)) in
      omega (arith, fell, budget_at k (omega arith))

pub budget_bounds : (good : List ℕ → Type 0) (budget : List ℕ → ℕ) (opening : List ℕ) → BudgetBounds good budget opening
budget_bounds good budget opening history ok =
    let last = budget_at good budget opening history ok (length history) (omega arith) in (last, omega (arith, last))
