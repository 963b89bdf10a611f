-- The place of an address, and signatures: sets of places, as the list of their words.
-- Bit b of word j is place 64 * j + b.
use Rattle.std.specs.Prelude.{◌≡◌, ◌↔◌, ◌⊎◌, ℕ, ◌*◌, ◌/◌, ◌%◌, ◌^◌, Bool, ◌&&◌, ◌||◌, ◌==◌, IsTrue, List, [], ◌∷◌, map, length, slice_index, slice_set, replicate, bit_or, Contains}
use Rattle.std.specs.Int.{bit_at}
use Rattle.std.specs.List.{list_any, range_with_len}

abbrev pub IsWordCount : ℕ → Type 0
IsWordCount words = IsTrue (words == 1 || (words == 2 || (words == 4 || (words == 8 || words == 16))))

abbrev pub IsBitCount : ℕ → Type 0
IsBitCount bits = IsTrue (bits == 64 || (bits == 128 || (bits == 256 || (bits == 512 || bits == 1024))))

-- the top log2(bits) bits of the product: its quotient by 2 ^ 64 / bits
unfoldable pub place_of : ℕ → ℕ → ℕ
place_of addr bits = addr * 0x9E3779B97F4A7C15 % 2 ^ 64 / (2 ^ 64 / bits)

abbrev pub bits_of : List ℕ → ℕ
bits_of sig = 64 * length sig

-- the place is in the set
abbrev pub HasPlace : List ℕ → ℕ → Type 0
HasPlace sig place = bit_at (slice_index sig (place / 64)) (place % 64) ≡ 1

abbrev pub has_place : List ℕ → ℕ → Bool
has_place sig place = bit_at (slice_index sig (place / 64)) (place % 64) == 1

-- some place is in both sets
abbrev pub SharesPlace : List ℕ → List ℕ → Type 0
SharesPlace s t = (place : ℕ) × HasPlace s place × HasPlace t place

-- the same as a test
unfoldable pub meets : List ℕ → List ℕ → Bool
meets s t = list_any (λ place. has_place s place && has_place t place) (range_with_len 0 (bits_of s))

-- the set with one more place
unfoldable pub with_place : List ℕ → ℕ → List ℕ
with_place sig place = slice_set sig (place / 64) (bit_or (slice_index sig (place / 64)) (2 ^ (place % 64)))

-- the new set has this place, those of the old one, and no other
pub record AddsPlace (old new : List ℕ) (place : ℕ) : Type 0 where
  pub size : length new ≡ length old
  pub places : (q : ℕ) → HasPlace new q ↔ ((q ≡ place) ⊎ HasPlace old q)

-- the places of a set of addresses
abbrev pub places_of : List ℕ → ℕ → List ℕ
places_of addrs bits = map (λ addr. place_of addr bits) addrs

-- a signature of a set of addresses: it has their places and no other
pub record IsSignatureOf (addrs : List ℕ) (sig : List ℕ) : Type 0 where
  pub places : (q : ℕ) → HasPlace sig q ↔ Contains (places_of addrs (bits_of sig)) q

-- two sets of addresses meet where some place is that of an address in each
abbrev pub Meet : ℕ → List ℕ → List ℕ → Type 0
Meet bits xs ys = (place : ℕ) × Contains (places_of xs bits) place × Contains (places_of ys bits) place

-- the signature of a set of addresses, in so many words
abbrev pub signature_of : ℕ → List ℕ → List ℕ
signature_of words [] = replicate words 0
signature_of words (addr ∷ addrs) = with_place (signature_of words addrs) (place_of addr (64 * words))
