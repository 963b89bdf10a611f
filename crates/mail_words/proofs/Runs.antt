-- The runs of the definition, which are said by positions, are the pieces that aren't empty of the bytes split at each other byte.
use Rattle.std.proofs.Common.{◌≡◌, ℕ, ◌+◌, ◌-◌, ◌==◌, ◌&&◌, ◌||◌, Bool, true, false, not, cond, nat_lt, nat_le, List, [], ◌∷◌, ◌++◌, length, map, drop, slice_index, get_or, refl, sym, ap, ◌∙◌, arith, inl, inr, add-zero}
use Rattle.std.specs.List.{list_all, take_while, filter, slice_split, onto_first, range_with_len}
use Rattle.std.specs.Char.{is_ascii_alphanumeric}
use Rattle.mail_words.specs.Key.{is_word, lowered, key_of, KeyNumbers}
use Rattle.mail_words.specs.Words.{runs_of, words_of}
use Rattle.std.proofs.lemmas.Bool.{and_from, and_parts, ne_eqb, lt-ltb, cases_Bool, cond-true, cond-false}
use Rattle.std.proofs.lemmas.List.{get_or-drop, drop-drop, map-append, append-nil}
use Rattle.std.proofs.lemmas.List.Elements.{filter-append}
use Rattle.std.proofs.lemmas.List.Splits.{slice_split-cons_yes, slice_split-cons_no}
use Rattle.std.proofs.lemmas.List.Sums.{take_while-cons}

-- one more of a list, where the test is known
keep_step : {X Y : Type 0} (f : X → Y) (s t : Bool) (x : X) (xs : List X) (y : Y) (ys : List Y)
    → s ≡ t → f x ≡ y → map f xs ≡ ys → map f (cond s (x ∷ xs) xs) ≡ cond t (y ∷ ys) ys
keep_step f s t x xs y ys same is more =
    ap (λ b. map f (cond b (x ∷ xs) xs)) same ∙ elim t as (λ b. map f (cond b (x ∷ xs) xs) ≡ cond b (y ∷ ys) ys) [
      | true ↦ ap (λ z. z ∷ map f xs) is ∙ ap (λ zs. y ∷ zs) more
      | false ↦ more
    ]

abbrev pub is_some_piece : List ℕ → Bool
is_some_piece piece = nat_lt 0 (length piece)

abbrev pub is_short : List ℕ → Bool
is_short piece = nat_le (length piece) 32

some_first : (x : ℕ) (w : List ℕ) (ws : List (List ℕ)) → filter is_some_piece ((x ∷ w) ∷ ws) ≡ (x ∷ w) ∷ filter is_some_piece ws
some_first x w ws =
    cond-true (is_some_piece (x ∷ w)) ((x ∷ w) ∷ filter is_some_piece ws) (filter is_some_piece ws) (lt-ltb 0 (length (x ∷ w)) (omega arith))

and_true : (b : Bool) (x : List ℕ) (xs : List (List ℕ)) → cond (b && true) (x ∷ xs) xs ≡ cond b (x ∷ xs) xs
and_true true x xs = refl
and_true false x xs = refl

module _ (p : ℕ → Bool) where
  -- the runs that start in the bytes, where it is said whether a byte of a run stands before them
  abbrev runs : Bool → List ℕ → List (List ℕ)
  runs before [] = []
  runs before (x ∷ xs) = cond (p x && not before) (take_while p (x ∷ xs) ∷ runs (p x) xs) (runs (p x) xs)

  -- the pieces after the first
  abbrev later : List ℕ → List (List ℕ)
  later [] = []
  later (x ∷ xs) = cond (p x) (later xs) (take_while p xs ∷ later xs)

  -- ---- by positions

  abbrev starts : List ℕ → ℕ → Bool
  starts bytes position = p (slice_index bytes position) && (position == 0 || not (p (slice_index bytes (position - 1))))

  abbrev run : List ℕ → ℕ → List ℕ
  run bytes position = take_while p (drop position bytes)

  at_positions : (bytes rest : List ℕ) (position : ℕ) (before : Bool) → drop position bytes ≡ rest
      → (position == 0 || not (p (slice_index bytes (position - 1)))) ≡ not before
      → map (run bytes) (filter (starts bytes) (range_with_len position (length rest))) ≡ runs before rest
  at_positions bytes [] position before at is = refl
  at_positions bytes (x ∷ rest) position before at is =
      let here : slice_index bytes position ≡ x = ap (λ n. get_or bytes n 0) (sym (add-zero position)) ∙ sym (get_or-drop position bytes 0 0)
      ∙ ap (λ xs. get_or xs 0 0) at in
      let next : drop (position + 1) bytes ≡ rest = sym (drop-drop 1 position bytes) ∙ ap (λ xs. drop 1 xs) at in
      let not_first : ((position + 1) == 0) ≡ false = ne_eqb (position + 1) 0 (λ e. omega (arith, e)) in
      let back : position + 1 - 1 ≡ position = omega arith in
      let after : ((position + 1) == 0 || not (p (slice_index bytes (position + 1 - 1)))) ≡ not (p x) =
      ap (λ b. b || not (p (slice_index bytes (position + 1 - 1)))) not_first ∙ ap (λ n. not (p (slice_index bytes n))) back ∙ ap (λ y. not (p y)) here in
      let start : starts bytes position ≡ (p x && not before) = ap (λ y. p y && (position == 0 || not (p (slice_index bytes (position - 1))))) here
      ∙ ap (λ b. p x && b) is in
      keep_step (run bytes) _ _ position _ _ _ start (ap (take_while p) at) (at_positions bytes rest (position + 1) (p x) next after)

  -- ---- by pieces

  slice_split-is : (bytes : List ℕ) → slice_split (λ x. not (p x)) bytes ≡ take_while p bytes ∷ later bytes
  slice_split-is [] = refl
  slice_split-is (x ∷ xs) =
      elim (cases_Bool (p x)) [
        | inl passes ↦
            slice_split-cons_no (λ y. not (p y)) x xs (ap not passes)
            ∙ ap (onto_first x) (slice_split-is xs)
            ∙ sym (ap (λ b. cond b (x ∷ take_while p xs) [] ∷ cond b (later xs) (take_while p xs ∷ later xs)) passes)
            ∙ ap (λ w. w ∷ later (x ∷ xs)) (sym (take_while-cons p x xs))
        | inr fails ↦
            slice_split-cons_yes (λ y. not (p y)) x xs (ap not fails)
            ∙ ap (λ s. [] ∷ s) (slice_split-is xs)
            ∙ sym (ap (λ b. cond b (x ∷ take_while p xs) [] ∷ cond b (later xs) (take_while p xs ∷ later xs)) fails)
            ∙ ap (λ w. w ∷ later (x ∷ xs)) (sym (take_while-cons p x xs))
      ]

  take_while_first : (x : ℕ) (xs : List ℕ) → p x ≡ true → take_while p (x ∷ xs) ≡ x ∷ take_while p xs
  take_while_first x xs passes = take_while-cons p x xs ∙ cond-true (p x) (x ∷ take_while p xs) [] passes

  take_while_none : (x : ℕ) (xs : List ℕ) → p x ≡ false → take_while p (x ∷ xs) ≡ []
  take_while_none x xs fails = take_while-cons p x xs ∙ cond-false (p x) (x ∷ take_while p xs) [] fails

  later-passes : (x : ℕ) (xs : List ℕ) → p x ≡ true → later (x ∷ xs) ≡ later xs
  later-passes x xs passes = cond-true (p x) (later xs) (take_while p xs ∷ later xs) passes

  later-fails : (x : ℕ) (xs : List ℕ) → p x ≡ false → later (x ∷ xs) ≡ take_while p xs ∷ later xs
  later-fails x xs fails = cond-false (p x) (later xs) (take_while p xs ∷ later xs) fails

  runs-pieces : (bytes : List ℕ) → (runs true bytes ≡ filter is_some_piece (later bytes))
      × (runs false bytes ≡ filter is_some_piece (take_while p bytes ∷ later bytes))
  runs-pieces [] = (refl, refl)
  runs-pieces (x ∷ xs) =
      let rest = runs-pieces xs in
      let at : Bool → Bool → List (List ℕ) = λ before b. cond (b && not before) (take_while p (x ∷ xs) ∷ runs b xs) (runs b xs) in
      elim (cases_Bool (p x)) [
        | inl passes ↦ (
          ap (at true) passes ∙ rest.0 ∙ ap (filter is_some_piece) (sym (later-passes x xs passes)),
          ap (at false) passes
              ∙ ap (λ w. w ∷ runs true xs) (take_while_first x xs passes)
              ∙ ap (λ rs. (x ∷ take_while p xs) ∷ rs) (rest.0 ∙ ap (filter is_some_piece) (sym (later-passes x xs passes)))
              ∙ sym (some_first x (take_while p xs) (later (x ∷ xs)))
              ∙ ap (λ w. filter is_some_piece (w ∷ later (x ∷ xs))) (sym (take_while_first x xs passes)),
        )
        | inr fails ↦ (
          ap (at true) fails ∙ rest.1 ∙ ap (filter is_some_piece) (sym (later-fails x xs fails)),
          ap (at false) fails ∙ rest.1 ∙ ap (filter is_some_piece) (sym (later-fails x xs fails))
              ∙ ap (λ w. filter is_some_piece (w ∷ later (x ∷ xs))) (sym (take_while_none x xs fails)),
        )
      ]

  runs-split : (bytes : List ℕ) → runs false bytes ≡ filter is_some_piece (slice_split (λ x. not (p x)) bytes)
  runs-split bytes = (runs-pieces bytes).1 ∙ ap (filter is_some_piece) (sym (slice_split-is bytes))

  -- ---- each byte of a piece passes

  take_while_passes : (bytes : List ℕ) → list_all p (take_while p bytes) ≡ true
  take_while_passes [] = refl
  take_while_passes (x ∷ xs) =
      elim (cases_Bool (p x)) [
        | inl passes ↦ ap (list_all p) (take_while_first x xs passes) ∙ and_from _ _ passes (take_while_passes xs)
        | inr fails ↦ ap (list_all p) (take_while_none x xs fails)
      ]

  later_pass : (bytes : List ℕ) → list_all (list_all p) (later bytes) ≡ true
  later_pass [] = refl
  later_pass (x ∷ xs) =
      elim (cases_Bool (p x)) [
        | inl passes ↦ ap (list_all (list_all p)) (later-passes x xs passes) ∙ later_pass xs
        | inr fails ↦ ap (list_all (list_all p)) (later-fails x xs fails) ∙ and_from _ _ (take_while_passes xs) (later_pass xs)
      ]

  pieces_pass : (bytes : List ℕ) → list_all (list_all p) (slice_split (λ x. not (p x)) bytes) ≡ true
  pieces_pass bytes = ap (list_all (list_all p)) (slice_split-is bytes) ∙ and_from _ _ (take_while_passes bytes) (later_pass bytes)

  -- ---- the pieces that are words are those that aren't empty and are short

  keep_both : (a b c : Bool) (x : List ℕ) (xs ys : List (List ℕ)) → c ≡ true → b ≡ is_short x → xs ≡ filter is_short ys
      → cond (a && b && c) (x ∷ xs) xs ≡ filter is_short (cond a (x ∷ ys) ys)
  keep_both true b c x xs ys all short more =
      ap (λ t. cond (b && t) (x ∷ xs) xs) all ∙ and_true b x xs ∙ ap (λ t. cond t (x ∷ xs) xs) short ∙ ap (λ zs. cond (is_short x) (x ∷ zs) zs) more
  keep_both false b c x xs ys all short more = more

  both_tests : (pieces : List (List ℕ)) → list_all (list_all p) pieces ≡ true
      → filter (λ piece. is_some_piece piece && is_short piece && list_all p piece) pieces ≡ filter is_short (filter is_some_piece pieces)
  both_tests [] all = refl
  both_tests (piece ∷ pieces) all =
      let parts = and_parts (list_all p piece) (list_all (list_all p) pieces) all in
      keep_both (is_some_piece piece) (is_short piece) (list_all p piece) piece _ _ parts.0 refl (both_tests pieces parts.1)

-- the words of the definition, from the pieces
pub words_of-split : (bytes : List ℕ) → words_of bytes ≡ map lowered (filter is_word (slice_split (λ byte. not (is_ascii_alphanumeric byte)) bytes))
words_of-split bytes =
    let by_positions : runs_of bytes ≡ runs is_ascii_alphanumeric false bytes = at_positions is_ascii_alphanumeric bytes bytes 0 false refl refl in
    let by_pieces = runs-split is_ascii_alphanumeric bytes in
    let tests = both_tests is_ascii_alphanumeric (slice_split (λ byte. not (is_ascii_alphanumeric byte)) bytes) (pieces_pass is_ascii_alphanumeric bytes) in
    ap (λ rs. map lowered (filter is_short rs)) (by_positions ∙ by_pieces) ∙ ap (map lowered) (sym tests)

-- ---- a loop over the pieces that pushes the keys of words

-- the keys of those pieces that are words, in order
pub keys_in : List (List ℕ) → List KeyNumbers
keys_in pieces = map key_of (map lowered (filter is_word pieces))

pub keys_in-none : keys_in [] ≡ []
unfolding keys_in
keys_in-none = refl

keys_in-push : (pieces : List (List ℕ)) (piece : List ℕ) → keys_in (pieces ++ piece ∷ []) ≡ keys_in pieces ++ keys_in (piece ∷ [])
unfolding keys_in
keys_in-push pieces piece =
    ap (λ ps. map key_of (map lowered ps)) (filter-append is_word pieces (piece ∷ []))
    ∙ ap (map key_of) (map-append lowered (filter is_word pieces) (filter is_word (piece ∷ [])))
    ∙ map-append key_of (map lowered (filter is_word pieces)) (map lowered (filter is_word (piece ∷ [])))

keys_in-one : (b : Bool) (piece : List ℕ) → is_word piece ≡ b → keys_in (piece ∷ []) ≡ cond b (key_of (lowered piece) ∷ []) []
unfolding keys_in
keys_in-one true piece is = ap (λ b. map key_of (map lowered (cond b (piece ∷ []) []))) is
keys_in-one false piece is = ap (λ b. map key_of (map lowered (cond b (piece ∷ []) []))) is

pub keys_in-more : (pieces : List (List ℕ)) (piece : List ℕ) → is_word piece ≡ true
    → keys_in (pieces ++ piece ∷ []) ≡ keys_in pieces ++ key_of (lowered piece) ∷ []
keys_in-more pieces piece is = keys_in-push pieces piece ∙ ap (λ ks. keys_in pieces ++ ks) (keys_in-one true piece is)

pub keys_in-same : (pieces : List (List ℕ)) (piece : List ℕ) → is_word piece ≡ false → keys_in (pieces ++ piece ∷ []) ≡ keys_in pieces
keys_in-same pieces piece is =
    keys_in-push pieces piece ∙ ap (λ ks. keys_in pieces ++ ks) (keys_in-one false piece is) ∙ append-nil (keys_in pieces)

pub keys_in-all : (bytes : List ℕ) → keys_in (slice_split (λ byte. not (is_ascii_alphanumeric byte)) bytes) ≡ map key_of (words_of bytes)
unfolding keys_in
keys_in-all bytes = ap (map key_of) (sym (words_of-split bytes))
