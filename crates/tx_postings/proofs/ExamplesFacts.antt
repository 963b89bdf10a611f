-- Which records the segments of the examples have.
use Rattle.std.proofs.Common.{◌≡◌, ℕ, zero, suc, List, [], ◌∷◌, map, refl, sym, ◌∙◌, ap, arith}
use Rattle.std.specs.Prelude.{Contains}
use Rattle.mail_words.specs.Key.{KeyNumbers}
use Rattle.tx_heap.specs.Segment.{Cell, KeyRecord, key_at, record_at, records_of}
use Rattle.tx_heap.specs.Heap.{segment_of}
use Rattle.tx_heap.specs.Examples.{a, small, two_keys}
use Rattle.tx_buckets.specs.Records.{IsRecordOf}
use Rattle.tx_postings.specs.Examples.{e, one_short, two_segments, with_free}

abbrev messages_at : List ℕ → ℕ → List ℕ
messages_at words at = map (λ (m : Cell). m.message) (record_at words at).cells

first_number : {key other : KeyNumbers} → key ≡ other → key.k0 ≡ other.k0
first_number same = ap (λ (key : KeyNumbers). key.k0) same

same_key : {r other : KeyRecord} → r ≡ other → r.key ≡ other.key
same_key same = ap (λ (r : KeyRecord). r.key) same

-- ---- one segment
pub a_is_there : IsRecordOf small one_short a 10
a_is_there = record { among = (1, omega arith, refl); has_key = refl }

pub e_is_not : (at : ℕ) → ¬ IsRecordOf small one_short e at
e_is_not at is = by_offset is.among is.has_key
  where
    by_offset : Contains (records_of small one_short) (record_at one_short at) → key_at one_short at ≡ e → ⊥
    by_offset (zero, below, same) has = omega (arith, first_number (same_key same ∙ has))
    by_offset (suc zero, below, same) has = omega (arith, first_number (same_key same ∙ has))
    by_offset (suc (suc k), below, same) has = omega (arith, below)

pub none_in : (free at : ℕ) → ¬ IsRecordOf small (segment_of (with_free free) 0) e at
none_in free at is = by_offset is.among
  where
    by_offset : Contains (records_of small (segment_of (with_free free) 0)) (record_at (segment_of (with_free free) 0) at) → ⊥
    by_offset (k, below, same) = omega (arith, below)

-- ---- two segments
pub a_in_old : IsRecordOf small two_keys a 10
a_in_old = record { among = (1, omega arith, refl); has_key = refl }

pub a_in_new : IsRecordOf small (segment_of (two_segments 1) 1) a 10
a_in_new = record { among = (0, omega arith, refl); has_key = refl }

-- the one record of `a` has these messages
pub a_has : (at : ℕ) → IsRecordOf small two_keys a at → messages_at two_keys at ≡ 3 ∷ 1 ∷ []
a_has at is = by_offset is.among is.has_key
  where
    by_offset : Contains (records_of small two_keys) (record_at two_keys at) → key_at two_keys at ≡ a → messages_at two_keys at ≡ 3 ∷ 1 ∷ []
    by_offset (zero, below, same) has = absurd (omega (arith, first_number (same_key same ∙ has)))
    by_offset (suc zero, below, same) has = sym (ap (λ (r : KeyRecord). map (λ (m : Cell). m.message) r.cells) same)
    by_offset (suc (suc k), below, same) has = absurd (omega (arith, below))
