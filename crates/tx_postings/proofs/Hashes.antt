-- The bucket of a key is one of 1,024.
use Rattle.std.proofs.Common.{ℕ, ◌*◌, ◌/◌, ◌%◌, ◌^◌, ◌<◌, arith}
use Rattle.std.specs.Int.Bits.{bit_xor}
use Rattle.std.proofs.lemmas.Nat.{xor_lt}
use Rattle.mail_words.specs.Key.{KeyNumbers}
use Rattle.mail_words.specs.Hash as hash
use Rattle.mail_words.specs.Hash.{multiplier, mixed}

mixed_below : (before number : ℕ) → mixed before number < 2 ^ 64
unfolding mixed
mixed_below before number =
    let product = bit_xor before number * multiplier % 2 ^ 64 in
    let small : product < 2 ^ 64 = omega arith in
    xor_lt 64 product (product / 2 ^ 32) small (omega (arith, small))

pub bucket_below : (key : KeyNumbers) → hash.bucket_of key < 1024
bucket_below key = omega (arith, mixed_below (mixed (mixed (mixed 0 key.k0) key.k1) key.k2) key.k3)
