-- One lane, one segment in use, three rows.
use Rattle.std.proofs.Common.{◌≡◌, ◌≢◌, ℕ, zero, suc, ◌-◌, ◌<◌, ◌≤◌, List, [], ◌∷◌, get_or, refl, ap, subst, arith, inl}
use Rattle.std.specs.Prelude.{Contains}
use Rattle.std.proofs.lemmas.List.Elements.{All-from_recursion, All-nil, All-replicate}
use Rattle.mail_words.specs.Key.{KeyNumbers}
use Rattle.tx_heap.specs.Pairwise.{Pairwise}
use Rattle.tx_heap.specs.Segment.{Row, HaveCells}
use Rattle.tx_heap.specs.Heap.{own_of, gate_of, segment_of, lane_segments}
use Rattle.tx_heap.specs.Index.{IsUnused, HasLanes, IsSegment, HasSegments, HasCells, IsAdded, HasRows}
use Rattle.tx_heap.specs.Examples.{small, lists, all_added, a, c}
use Rattle.tx_heap.proofs.lemmas.Lanes.{only_one}
use Rattle.tx_heap.proofs.ExamplesFacts.{two_keys_in_form, two_keys_have_cells}
use Rattle.tx_heap.proofs.laws.index_examples.Goals as goal

-- ---- a number below 1
at_zero : (P : ℕ → Type 0) → P 0 → (n : ℕ) → n < 1 → P n
at_zero P here zero below = here
at_zero P here (suc n) below = absurd (omega (arith, below))

among_zero : (P : ℕ → Type 0) → P 0 → (n : ℕ) → Contains (0 ∷ []) n → P n
among_zero P here n among = subst P (only_one 0 n among) here

-- ---- lanes and segments
unused : (segment : ℕ) → 1 ≤ segment → segment < 2 → IsUnused all_added segment
unused zero from below = absurd (omega (arith, from))
unused (suc zero) from below = record { gate = refl; link = refl; words = All-replicate (λ (word : ℕ). word ≡ 0) 30 0 refl }
unused (suc (suc segment)) from below = absurd (omega (arith, below))

lanes : HasLanes all_added
lanes = record {
  gates = refl;
  links = refl;
  pool = omega arith;
  own = at_zero (λ lane. (1 ≤ get_or all_added.lanes lane 0) × (get_or all_added.lanes lane 0 ≤ 1)) (omega arith, omega arith);
  own_open = at_zero (λ lane. gate_of all_added (own_of all_added lane) ≡ 1) refl;
  fall = at_zero (λ segment. get_or all_added.links segment 0 ≤ segment) (omega arith);
  reached = at_zero (λ segment. (lane : ℕ) × (lane < 1) × Contains (lane_segments all_added lane) segment) (0, omega arith, (0, omega arith, refl));
  one_lane = λ segment lane other below other_below among among_other. omega (arith, below, other_below);
  unused = unused;
}

segments : HasSegments small all_added
segments zero segment below among =
    among_zero (λ s. IsSegment small 0 (gate_of all_added s) (segment_of all_added s)) (inl (inl refl, two_keys_in_form)) segment among
segments (suc lane) segment below among = absurd (omega (arith, below))

cells : HasCells small all_added
cells segment below open_or_sealed =
    at_zero (λ s. HaveCells small (segment_of all_added s)) two_keys_have_cells segment below

-- ---- rows
abbrev rows : List Row
rows = (c, 2) ∷ (a, 3) ∷ (a, 1) ∷ []

to_come : (message : ℕ) → get_or all_added.needs (message - 1) 0 ≡ 0
to_come message = none (message - 1)
  where
    none : (k : ℕ) → get_or all_added.needs k 0 ≡ 0
    none zero = refl
    none (suc zero) = refl
    none (suc (suc zero)) = refl
    none (suc (suc (suc k))) = refl

once : Pairwise ◌≢◌ rows
once = (
  All-from_recursion (λ (row : Row). (c, 2) ≢ row) ((a, 3) ∷ (a, 1) ∷ [])
      (λ same. omega (arith, ap (λ (row : Row). row.1) same), (λ same. omega (arith, ap (λ (row : Row). row.1) same), tt)),
  (
    All-from_recursion (λ (row : Row). (a, 3) ≢ row) ((a, 1) ∷ []) (λ same. omega (arith, ap (λ (row : Row). row.1) same), tt),
    (All-nil (λ (row : Row). (a, 1) ≢ row), tt),
  ),
)

added : (row : Row) → Contains rows row → IsAdded lists all_added row
added row (zero, below, at) = subst (IsAdded lists all_added) at (omega arith, omega arith, (0, omega arith, refl))
added row (suc zero, below, at) = subst (IsAdded lists all_added) at (omega arith, omega arith, (0, omega arith, refl))
added row (suc (suc zero), below, at) = subst (IsAdded lists all_added) at (omega arith, omega arith, (0, omega arith, refl))
added row (suc (suc (suc k)), below, at) = absurd (omega (arith, below))

is_row : (key : KeyNumbers) (message : ℕ) → IsAdded lists all_added (key, message) → Contains rows (key, message)
is_row key zero (from, to, among) = absurd (omega (arith, from))
is_row key (suc zero) (from, to, among) = subst (λ k. Contains rows (k, 1)) (only_one a key among) (2, omega arith, refl)
is_row key (suc (suc zero)) (from, to, among) = subst (λ k. Contains rows (k, 2)) (only_one c key among) (0, omega arith, refl)
is_row key (suc (suc (suc zero))) (from, to, among) = subst (λ k. Contains rows (k, 3)) (only_one a key among) (1, omega arith, refl)
is_row key (suc (suc (suc (suc message)))) (from, to, among) = absurd (omega (arith, to))

rows_are_added : HasRows small lists all_added
rows_are_added = record {
  needs = refl;
  to_come = λ message from to. omega (arith, to_come message);
  once = once;
  exactly = λ row. (added row, is_row row.0 row.1);
}

pub returns-clause-good : goal.returns-clause-good
returns-clause-good c = record {
  grows = record { index = record { lanes = lanes; segments = segments }; cells = cells; room = omega arith };
  rows = rows_are_added;
}

-- ---- the row of message 3 would be one that is still to come
pub returns-clause-need_too_high : goal.returns-clause-need_too_high
returns-clause-need_too_high c good =
    let (place, below, at) = ((good.rows.exactly (a, 3)).0 (1, omega arith, refl)).2 in
    omega (arith, below)
