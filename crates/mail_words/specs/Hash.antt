-- The hash of a key, and the bucket and the lane that it chooses.
use Rattle.std.specs.Prelude.{ℕ, ◌*◌, ◌/◌, ◌%◌, ◌^◌, bit_xor}
use Rattle.mail_words.specs.Key.{KeyNumbers}

-- 2 ^ 64 over the golden ratio, made odd
abbrev pub multiplier : ℕ
multiplier = 0x9E3779B97F4A7C15

-- the product with the multiplier, and its high half put into its low half
abbrev pub folded : ℕ → ℕ
folded product = bit_xor product (product / 2 ^ 32)

-- the hash with one more number
unfoldable pub mixed : ℕ → ℕ → ℕ
mixed hash number = folded (bit_xor hash number * multiplier % 2 ^ 64)

abbrev pub hash_of : KeyNumbers → ℕ
hash_of key = mixed (mixed (mixed (mixed 0 key.k0) key.k1) key.k2) key.k3

-- its highest ten bits
abbrev pub bucket_of : KeyNumbers → ℕ
bucket_of key = hash_of key / 2 ^ 54

-- the three bits below those
abbrev pub lane_of : KeyNumbers → ℕ
lane_of key = hash_of key / 2 ^ 51 % 8
