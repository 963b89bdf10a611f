-- How a signature lies in its array, and that the array comes back from the list of its used words.
use Rattle.std.specs.Prelude.{◌≡◌, ℕ, ◌+◌, ◌-◌, ◌≤◌, ◌<◌, List, ◌++◌, length, take, replicate, slice_index}
use Rattle.std.proofs.Common.{sym, ◌∙◌, ap, arith, inl, inr, get_or}
use Rattle.std.proofs.lemmas.List.{length-take, length-append, get_or-take, get_or_append_left, get_or-append_right, get_or-replicate, ext_get_or}
use Rattle.std.proofs.lemmas.Bool.{cases_lt}
use Rattle.ring_sig.specs.Signature.{IsWordCount}
use Rattle.ring_sig.specs.declared.sig.Sig.TheInside.{Inside}

-- sixteen words, of which the first `count` are used and the others are 0
pub record IsPadded (words : List ℕ) (count : ℕ) : Type 0 where
  pub whole : length words ≡ 16
  pub counted : IsWordCount count
  pub within : count ≤ 16
  pub rest : (k : ℕ) → count ≤ k → slice_index words k ≡ 0

module _ (words : List ℕ) (count : ℕ) (ok : IsPadded words count) where
  pub used_length : length (take count words) ≡ count
  used_length = rw length-take (omega (arith, ok.whole, ok.within))

  padded_at : (k : ℕ) → k < 16 → get_or (take 16 (take count words ++ replicate 16 0)) k 0 ≡ get_or words k 0
  padded_at k h =
      rw get_or-take
      (elim (cases_lt k count) [
        | inl below ↦
            let small : k < length (take count words) = rw used_length below in
            get_or_append_left (take count words) (replicate 16 0) 0 k small ∙ get_or-take count words k 0 below
        | inr past ↦
            get_or-append_right (take count words) (replicate 16 0) count k 0 used_length past ∙ get_or-replicate 16 (k - count) 0 0 (omega arith)
            ∙ sym (ok.rest k past)
      ])

  padded_length : length (take 16 (take count words ++ replicate 16 0)) ≡ 16
  padded_length =
      length-take 16 (take count words ++ replicate 16 0)
      ∙ (let e : length (take count words ++ replicate 16 0) ≡ count + 16 = length-append (take count words) (replicate 16 0) ∙ ap (λ n. n + 16) used_length in
      omega (arith, e))

  padded : take 16 (take count words ++ replicate 16 0) ≡ words
  padded =
      ext_get_or 0 _ words (padded_length ∙ sym ok.whole) (λ k h. padded_at k (omega (arith, padded_length)))

abbrev pub inside_of : List ℕ → ℕ → Inside
inside_of words count = record { words = words; count = count }

-- the array with these used words
abbrev pub unpadded : List ℕ → Inside
unpadded used = inside_of (take 16 (used ++ replicate 16 0)) (length used)

-- an array is known by its used words
pub take-pad : (s : Inside) → IsPadded s.words s.count → unpadded (take s.count s.words) ≡ s
take-pad s h =
    ap (λ (ws : List ℕ). inside_of ws (length (take s.count s.words))) (padded s.words s.count h)
    ∙ ap (λ (n : ℕ). inside_of s.words n) (used_length s.words s.count h)
