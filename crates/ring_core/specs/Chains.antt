-- How a write set finds an address. Each of 512 places has a chain of the writes whose addresses have this place, the newest first.
-- Writes are named by their numbers, from 1 on, and 0 ends a chain: so the newest of the first n writes is at most n.
use Rattle.std.specs.Prelude.{◌≡◌, ◌≢◌, ℕ, ◌-◌, ◌<◌, ◌≤◌, List, [], ◌∷◌, length, slice_index, slice_set, replicate}
use Rattle.tx_model.specs.declared.pass.TheConstants.{MAX_WRITES}
use Rattle.tx_model.specs.declared.word.Word.{Word}
use Rattle.tx_model.specs.Words.{addresses, AreApart}
use Rattle.tx_model.specs.WordLaws.{word}
use Rattle.ring_sig.specs.Signature.{place_of}
use Rattle.ring_core.specs.declared.writes.TheConstants.{PLACES}

abbrev pub place_at : List ℕ → ℕ → ℕ
place_at addrs index = place_of (slice_index addrs index) PLACES

-- the newest of the first `limit` writes whose address has this place
pub record IsNewest (addrs : List ℕ) (place limit number : ℕ) : Type 0 where
  pub within : number ≤ limit
  pub itself : 0 < number → place_at addrs (number - 1) ≡ place
  pub others : (index : ℕ) → number ≤ index → index < limit → place_at addrs index ≢ place

-- each chain begins with the newest write of its place, and goes on from each with the newest one before
pub record IsChained (addrs newest older : List ℕ) : Type 0 where
  pub places : length newest ≡ PLACES
  pub room : length older ≡ MAX_WRITES
  pub heads : (place : ℕ) → place < PLACES → IsNewest addrs place (length addrs) (slice_index newest place)
  pub nexts : (index : ℕ) → index < length addrs → IsNewest addrs (place_at addrs index) index (slice_index older index)

pub record IsIndexed (writes : List Word) (newest older : List ℕ) : Type 0 where
  pub apart : AreApart writes
  pub chained : IsChained (addresses writes) newest older

-- address 1 has place 316
abbrev pub OneWriteExample : Type 0
OneWriteExample =
    IsIndexed (word 1 5 ∷ []) (slice_set (replicate 512 0) 316 1) (replicate 256 0)

-- a write that no chain has
abbrev pub ForgottenWriteExample : Type 0
ForgottenWriteExample = ¬ IsIndexed (word 1 5 ∷ []) (replicate 512 0) (replicate 256 0)
