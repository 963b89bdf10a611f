-- laws of signatures
use Rattle.std.specs.Prelude.{◌≡◌, ◌↔◌, ℕ, false, IsTrue, List, [], ◌∷◌, ◌++◌, length, replicate, Contains}
use Rattle.ring_sig.specs.Signature.{IsWordCount, place_of, bits_of, SharesPlace, meets, with_place, IsSignatureOf, Meet, signature_of}

-- sets with a common address have signatures that share a place
abbrev pub CommonAddressMeets : Type 0
CommonAddressMeets =
    (xs ys s t : List ℕ) → IsSignatureOf xs s → IsSignatureOf ys t → length s ≡ length t → (addr : ℕ) → Contains xs addr → Contains ys addr → SharesPlace s t

-- the test on signatures is true exactly where the sets meet
abbrev pub SignaturesMeet : Type 0
SignaturesMeet =
    (xs ys s t : List ℕ) → IsSignatureOf xs s → IsSignatureOf ys t → length s ≡ length t → IsTrue (meets s t) ↔ Meet (bits_of s) xs ys

-- sets with a common address meet
abbrev pub CommonAddressMeet : Type 0
CommonAddressMeet = (bits : ℕ) (xs ys : List ℕ) (addr : ℕ) → Contains xs addr → Contains ys addr → Meet bits xs ys

-- sets whose signatures share no place have no common address
abbrev pub NoCommonAddress : Type 0
NoCommonAddress =
    (xs ys s t : List ℕ) → IsSignatureOf xs s → IsSignatureOf ys t → length s ≡ length t → meets s t ≡ false → (addr : ℕ) → Contains xs addr
    → Contains ys addr → ⊥

abbrev pub EmptySignature : Type 0
EmptySignature = (words : ℕ) → IsSignatureOf [] (replicate words 0)

abbrev pub SignatureGains : Type 0
SignatureGains =
    (xs s : List ℕ) (addr : ℕ) → IsWordCount (length s) → IsSignatureOf xs s → IsSignatureOf (addr ∷ xs) (with_place s (place_of addr (bits_of s)))

abbrev pub SignatureGainsLast : Type 0
SignatureGainsLast =
    (xs s : List ℕ) (addr : ℕ) → IsWordCount (length s) → IsSignatureOf xs s → IsSignatureOf (xs ++ addr ∷ []) (with_place s (place_of addr (bits_of s)))

-- `signature_of` is a signature of its set
abbrev pub SignatureExists : Type 0
SignatureExists = (words : ℕ) (xs : List ℕ) → IsWordCount words → IsSignatureOf xs (signature_of words xs)
