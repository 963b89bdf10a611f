-- The two records of the segment.
use Rattle.std.proofs.Common.{◌≡◌, ℕ, zero, suc, ap, refl, arith}
use Rattle.std.specs.Prelude.{Contains}
use Rattle.mail_words.specs.Key.{KeyNumbers}
use Rattle.tx_heap.specs.Segment.{KeyRecord, record_at, records_of, key_at}
use Rattle.tx_heap.specs.Examples.{small, two_keys, letter}
use Rattle.tx_buckets.proofs.laws.record_examples.Goals as goal

pub returns-clause-found : goal.returns-clause-found
returns-clause-found c = record { among = (1, omega arith, refl); has_key = refl }

pub returns-clause-not_there : goal.returns-clause-not_there
returns-clause-not_there c is = omega (arith, ap (λ (key : KeyNumbers). key.k0) is.has_key)

not_b : (at : ℕ) → Contains (records_of small two_keys) (record_at two_keys at) → key_at two_keys at ≡ letter 98 → ⊥
not_b at (zero, below, is) has = omega (arith, ap (λ (r : KeyRecord). r.key.k0) is, ap (λ (key : KeyNumbers). key.k0) has)
not_b at (suc zero, below, is) has = omega (arith, ap (λ (r : KeyRecord). r.key.k0) is, ap (λ (key : KeyNumbers). key.k0) has)
not_b at (suc (suc k), below, is) has = omega (arith, below)

pub returns-clause-none : goal.returns-clause-none
returns-clause-none c at is = not_b at is.among is.has_key

not_at_16 : Contains (records_of small two_keys) (record_at two_keys 16) → ⊥
not_at_16 (zero, below, is) = omega (arith, ap (λ (r : KeyRecord). r.at) is)
not_at_16 (suc zero, below, is) = omega (arith, ap (λ (r : KeyRecord). r.at) is)
not_at_16 (suc (suc k), below, is) = omega (arith, below)

pub returns-clause-record_at : goal.returns-clause-record_at
returns-clause-record_at c = ((1, omega arith, refl), not_at_16)
