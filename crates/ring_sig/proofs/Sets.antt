-- Signatures of sets of addresses.
use Rattle.std.proofs.Common.{◌≡◌, ◌⊎◌, ℕ, ◌*◌, ◌/◌, ◌%◌, ◌<◌, List, [], ◌∷◌, ◌++◌, length, get_or, replicate, Contains, refl, sym, ◌∙◌, ap, subst, arith, inl, inr, suc, zero}
use Rattle.std.specs.Int.{bit_at}
use Rattle.std.proofs.lemmas.List.{get_or_past, get_or-replicate, length-replicate, length-map, get_or-map, map-append}
use Rattle.std.proofs.lemmas.List.Elements.{Contains-append_cases, Contains-append_left, Contains-push}
use Rattle.std.proofs.lemmas.Bool.{both_ways, cases_lt}
use Rattle.std.proofs.lemmas.Nat.Bits.{bit_at-zero}
use Rattle.ring_sig.specs.Signature.{IsWordCount, place_of, bits_of, with_place, meets, places_of, IsSignatureOf, signature_of}
use Rattle.ring_sig.specs.Laws.{CommonAddressMeets, SignaturesMeet, CommonAddressMeet, NoCommonAddress, EmptySignature, SignatureGains, SignatureGainsLast, SignatureExists}
use Rattle.ring_sig.proofs.Places.{adds_place, place_within}
use Rattle.ring_sig.proofs.Shared.{shares_from_meets, meets_from_shares}

-- ---- what a list with one more element has
Contains-head : (x : ℕ) (xs : List ℕ) → Contains (x ∷ xs) x
Contains-head x xs = (0, omega arith, refl)

Contains-more : (x : ℕ) (xs : List ℕ) (q : ℕ) → Contains xs q → Contains (x ∷ xs) q
Contains-more x xs q (k, below, at) = (suc k, omega (arith, below), at)

Contains-cons_cases : (x : ℕ) (xs : List ℕ) (q : ℕ) → Contains (x ∷ xs) q → (q ≡ x) ⊎ Contains xs q
Contains-cons_cases x xs q (zero, below, at) = inl (sym at)
Contains-cons_cases x xs q (suc k, below, at) = inr (k, omega (arith, below), at)

-- a place of an address of the set
Contains-place : (xs : List ℕ) (bits addr : ℕ) → Contains xs addr → Contains (places_of xs bits) (place_of addr bits)
Contains-place xs bits addr (k, below, at) =
    (k, rw length-map below, get_or-map (λ a. place_of a bits) xs k addr _ below ∙ ap (λ a. place_of a bits) at)

-- ---- the laws
pub common_address : CommonAddressMeets
common_address xs ys s t of_s of_t same addr in_xs in_ys = (
  place_of addr (bits_of s),
  (of_s.places _).1 (Contains-place xs (bits_of s) addr in_xs),
  (of_t.places _).1 (subst (λ n. Contains (places_of ys (64 * n)) (place_of addr (64 * length s))) same (Contains-place ys (bits_of s) addr in_ys)),
)

pub sets_meet : SignaturesMeet
sets_meet xs ys s t of_s of_t same = (
  λ yes.
      let shared = shares_from_meets s t yes in
      (shared.0, (of_s.places _).0 shared.1, subst (λ n. Contains (places_of ys (64 * n)) shared.0) (sym same) ((of_t.places _).0 shared.2)),
  λ both.
      meets_from_shares s t
      (both.0, (of_s.places _).1 both.1, (of_t.places _).1 (subst (λ n. Contains (places_of ys (64 * n)) both.0) same both.2)),
)

pub common_address_meet : CommonAddressMeet
common_address_meet bits xs ys addr in_xs in_ys =
    (place_of addr bits, Contains-place xs bits addr in_xs, Contains-place ys bits addr in_ys)

pub no_common_address : NoCommonAddress
no_common_address xs ys s t of_s of_t same apart addr in_xs in_ys =
    both_ways (meets s t) apart (meets_from_shares s t (common_address xs ys s t of_s of_t same addr in_xs in_ys))

pub empty_signature : EmptySignature
empty_signature words = record {
  places = λ q. (
    λ has.
        let none : get_or (replicate words 0) (q / 64) 0 ≡ 0 = elim (cases_lt (q / 64) words) [
          | inl below ↦ get_or-replicate words (q / 64) 0 0 below
          | inr past ↦ get_or_past (replicate words 0) (q / 64) 0 (rw length-replicate past)
        ] in
        let bit : bit_at (get_or (replicate words 0) (q / 64) 0) (q % 64) ≡ 0 = ap (λ w. bit_at w (q % 64)) none ∙ bit_at-zero (q % 64) in
        absurd (omega (arith, bit, has)),
    λ among. let below : among.0 < 0 = among.1 in absurd (omega (arith, below)),
  );
}

-- a signature of the old set, with the place of one more address, is one of any list that has just these
gained : (xs ys s : List ℕ) (addr : ℕ) → IsWordCount (length s) → IsSignatureOf xs s
    → ((bits q : ℕ) → Contains (places_of ys bits) q → (q ≡ place_of addr bits) ⊎ Contains (places_of xs bits) q)
    → ((bits q : ℕ) → (q ≡ place_of addr bits) ⊎ Contains (places_of xs bits) q → Contains (places_of ys bits) q)
    → IsSignatureOf ys (with_place s (place_of addr (bits_of s)))
gained xs ys s addr counted of_s back forth =
    let add = adds_place s (place_of addr (bits_of s)) (place_within addr s counted) in
    record {
      places = λ q. (
        λ has. subst (λ n. Contains (places_of ys (64 * n)) q) (sym add.size)
            (forth (bits_of s) q (elim ((add.places q).0 has) [ inl e ↦ inl e | inr had ↦ inr ((of_s.places q).0 had) ])),
        λ among. (add.places q).1
            (elim (back (bits_of s) q (subst (λ n. Contains (places_of ys (64 * n)) q) add.size among)) [
              | inl e ↦ inl e
              | inr old ↦
                  inr ((of_s.places q).1 old)
            ]),
      );
    }

pub gains_front : SignatureGains
gains_front xs s addr counted of_s =
    gained xs (addr ∷ xs) s addr counted of_s
    (λ bits q among. Contains-cons_cases (place_of addr bits) (places_of xs bits) q among)
    (λ bits q either. elim either [
      | inl e ↦ subst (λ p. Contains (places_of (addr ∷ xs) bits) p) (sym e) (Contains-head (place_of addr bits) (places_of xs bits))
      | inr old ↦ Contains-more (place_of addr bits) (places_of xs bits) q old
    ])

pub gains_last : SignatureGainsLast
gains_last xs s addr counted of_s =
    gained xs (xs ++ addr ∷ []) s addr counted of_s
    (λ bits q among. elim (Contains-append_cases (places_of xs bits) (place_of addr bits ∷ []) q (rw map-append at among)) [
      | inl old ↦ inr old
      | inr last ↦ elim (Contains-cons_cases (place_of addr bits) [] q last) [
        | inl e ↦ inl e
        | inr none ↦ absurd (let below : none.0 < 0 = none.1 in omega (arith, below))
      ]
    ])
    (λ bits q either. rw map-append (elim either [
      | inl e ↦ subst (λ p. Contains (places_of xs bits ++ place_of addr bits ∷ []) p) (sym e) (Contains-push (places_of xs bits) (place_of addr bits))
      | inr old ↦ Contains-append_left (places_of xs bits) (place_of addr bits ∷ []) q old
    ]))

signature_length : (words : ℕ) (xs : List ℕ) → IsWordCount words → length (signature_of words xs) ≡ words
signature_length words [] h = length-replicate words 0
signature_length words (x ∷ xs) h =
    let rest = signature_length words xs h in
    let counted : IsWordCount (length (signature_of words xs)) = subst (λ n. IsWordCount n) (sym rest) h in
    subst (λ n. length (with_place (signature_of words xs) (place_of x (64 * n))) ≡ words) rest
    ((adds_place (signature_of words xs) _ (place_within x (signature_of words xs) counted)).size ∙ rest)

pub signature_exists : SignatureExists
signature_exists words [] h = empty_signature words
signature_exists words (x ∷ xs) h =
    let rest = signature_length words xs h in
    let counted : IsWordCount (length (signature_of words xs)) = subst (λ n. IsWordCount n) (sym rest) h in
    subst (λ n. IsSignatureOf (x ∷ xs) (with_place (signature_of words xs) (place_of x (64 * n)))) rest
    (gains_front xs (signature_of words xs) x counted (signature_exists words xs h))
