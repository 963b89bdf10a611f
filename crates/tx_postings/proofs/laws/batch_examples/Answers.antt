-- The rows before and behind the batch.
use Rattle.std.proofs.Common.{◌≡◌, ◌≢◌, ◌⊎◌, ℕ, zero, suc, ◌<◌, List, [], ◌∷◌, refl, sym, ◌∙◌, ap, arith, inl, inr}
use Rattle.std.specs.Prelude.{Contains}
use Rattle.tx_heap.specs.Segment.{Row}
use Rattle.tx_heap.specs.Heap.{own_of, segment_of}
use Rattle.tx_heap.specs.Examples.{a, c, all_added}
use Rattle.tx_heap.proofs.lemmas.Lanes.{only_one}
use Rattle.tx_postings.specs.Examples.{to_come}
use Rattle.tx_postings.proofs.laws.batch_examples.Goals as goal

abbrev old_rows : List Row
old_rows = (c, 2) ∷ (a, 1) ∷ []

abbrev new_rows : List Row
new_rows = (c, 2) ∷ (a, 3) ∷ (a, 1) ∷ []

came : (row : Row) → Contains new_rows row → Contains old_rows row ⊎ ((row.1 ≡ 3) × Contains (a ∷ []) row.0)
came row (zero, below, at) = inl (0, omega arith, at)
came row (suc zero, below, at) = inr (sym (ap (λ (r : Row). r.1) at), (0, omega arith, ap (λ (r : Row). r.0) at))
came row (suc (suc zero), below, at) = inl (1, omega arith, at)
came row (suc (suc (suc k)), below, at) = absurd (omega (arith, below))

is_there : (row : Row) → Contains old_rows row ⊎ ((row.1 ≡ 3) × Contains (a ∷ []) row.0) → Contains new_rows row
is_there row (inl (zero, below, at)) = (0, omega arith, at)
is_there row (inl (suc zero, below, at)) = (2, omega arith, at)
is_there row (inl (suc (suc k), below, at)) = absurd (omega (arith, below))
is_there (key, message) (inr (three, among)) = (1, omega arith, same_row (only_one a key among) (sym three))
  where
    same_row : a ≡ key → 3 ≡ message → ◌≡◌ {A = Row} (a, 3) (key, message)
    same_row p q = ap (λ k. (k, 3)) p ∙ ap (λ m. (key, m)) q

others : (segment : ℕ) → ((lane : ℕ) → lane < 1 → own_of to_come lane ≢ segment) → segment_of all_added segment ≡ segment_of to_come segment
others zero no_own = absurd (no_own 0 (omega arith) refl)
others (suc zero) no_own = refl
others (suc (suc segment)) no_own = refl

pub returns-clause-adds : goal.returns-clause-adds
returns-clause-adds g = record { pool = refl; lanes = refl; gates = refl; links = refl; needs = refl; rows = λ row. (came row, is_there row); others = others }

-- the row that the batch brings isn't there
no_row : Contains old_rows (a, 3) → ⊥
no_row (zero, below, at) = omega (arith, ap (λ (r : Row). r.1) at)
no_row (suc zero, below, at) = omega (arith, ap (λ (r : Row). r.1) at)
no_row (suc (suc k), below, at) = omega (arith, below)

pub returns-clause-lost_row : goal.returns-clause-lost_row
returns-clause-lost_row g adds = no_row ((adds.rows (a, 3)).1 (inr (refl, (0, omega arith, refl))))
