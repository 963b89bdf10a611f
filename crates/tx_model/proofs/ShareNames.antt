-- Endings of names, names that are apart, and the names that a share has.
use Rattle.std.proofs.Common.{◌≡◌, ◌≢◌, ◌⊎◌, Bool, true, false, List, [], ◌∷◌, ◌++◌, length, refl, sym, ◌∙◌, ap, subst, arith, inl, inr}
use Rattle.std.specs.Prelude.{Contains, filter, not}
use Rattle.std.proofs.lemmas.Bool.{false≢true, and_parts, or_cases, or_left, or_right, cond_both, not-true, false_from_ne_true}
use Rattle.std.proofs.lemmas.List.{append_assoc, length-append}
use Rattle.std.proofs.lemmas.List.Elements.{Contains-append_left, Contains-append_right, Contains-append_cases, Contains-push, Contains-push_cases}
use Rattle.tx_model.specs.Shares.{Name, same_letter, same_name, has_name, without, sibling, IsEnding, AreNamesApart, AreApartWithin}

-- ---- what a list contains
pub contains_none : {X : Type 0} (x : X) → Contains [] x → ⊥
contains_none x (k, below, is) = omega arith

pub contains_first : {X : Type 0} (x : X) (xs : List X) → Contains (x ∷ xs) x
contains_first x xs = Contains-append_left (x ∷ []) xs x (Contains-push [] x)

pub contains_more : {X : Type 0} (x : X) (xs : List X) (y : X) → Contains xs y → Contains (x ∷ xs) y
contains_more x xs y has = Contains-append_right (x ∷ []) xs y has

pub contains_cases : {X : Type 0} (x : X) (xs : List X) (y : X) → Contains (x ∷ xs) y → (x ≡ y) ⊎ Contains xs y
contains_cases x xs y has =
    elim (Contains-append_cases (x ∷ []) xs y has) [
      | inl one ↦ elim (Contains-push_cases [] x y one) [ inl none ↦ absurd (contains_none y none) | inr same ↦ inl same ]
      | inr more ↦ inr more
    ]

-- what a filter keeps was there and passed
pub contains_kept : {X : Type 0} (test : X → Bool) (xs : List X) (y : X) → Contains (filter test xs) y → Contains xs y × (test y ≡ true)
contains_kept test [] y has = absurd (contains_none y has)
contains_kept test (x ∷ xs) y has =
    cond_both (test x) (x ∷ filter test xs) (filter test xs) (λ list. Contains list y → Contains (x ∷ xs) y × (test y ≡ true))
    (λ passes kept. elim (contains_cases x (filter test xs) y kept) [
      | inl same ↦ (subst (Contains (x ∷ xs)) same (contains_first x xs), subst (λ z. test z ≡ true) same passes)
      | inr more ↦ let inner = contains_kept test xs y more in (contains_more x xs y inner.0, inner.1)
    ])
    (λ fails more. let inner = contains_kept test xs y more in (contains_more x xs y inner.0, inner.1))
    has

-- ---- tests on names
same_letter_itself : (letter : Bool) → same_letter letter letter ≡ true
same_letter_itself true = refl
same_letter_itself false = refl

same_letter_equal : (letter other : Bool) → same_letter letter other ≡ true → letter ≡ other
same_letter_equal true other is = sym is
same_letter_equal false other is = sym (not-true other is)

pub same_name_itself : (name : Name) → same_name name name ≡ true
same_name_itself [] = refl
same_name_itself (true ∷ name) = same_name_itself name
same_name_itself (false ∷ name) = same_name_itself name

pub same_name_equal : (name other : Name) → same_name name other ≡ true → name ≡ other
same_name_equal [] [] is = refl
same_name_equal [] (letter ∷ rest) is = absurd (false≢true is)
same_name_equal (letter ∷ name) [] is = absurd (false≢true is)
same_name_equal (letter ∷ name) (other ∷ rest) is =
    let both = and_parts (same_letter letter other) (same_name name rest) is in
    let first = same_letter_equal letter other both.0 in
    let further = same_name_equal name rest both.1 in
    cc

pub has_name_contains : (share : List Name) (name : Name) → has_name share name ≡ true → Contains share name
has_name_contains [] name has = absurd (false≢true has)
has_name_contains (first ∷ share) name has =
    elim (or_cases (same_name name first) (has_name share name) has) [
      | inl same ↦ subst (Contains (first ∷ share)) (sym (same_name_equal name first same)) (contains_first first share)
      | inr more ↦ contains_more first share name (has_name_contains share name more)
    ]

pub contains_has_name : (share : List Name) (name : Name) → Contains share name → has_name share name ≡ true
contains_has_name [] name has = absurd (contains_none name has)
contains_has_name (first ∷ share) name has =
    elim (contains_cases first share name has) [
      | inl same ↦
          or_left (same_name name first) (has_name share name) (subst (λ other. same_name name other ≡ true) (sym same) (same_name_itself name))
      | inr more ↦ or_right (same_name name first) (has_name share name) (contains_has_name share name more)
    ]

pub has_no_name : (share : List Name) (name : Name) → has_name share name ≡ false → Contains share name → ⊥
has_no_name share name none has = false≢true (sym none ∙ contains_has_name share name has)

pub has_not_name : (share : List Name) (name : Name) → (Contains share name → ⊥) → has_name share name ≡ false
has_not_name share name none = false_from_ne_true (has_name share name) (λ has. none (has_name_contains share name has))

-- what is left without a name was there, and is another one
pub without_contains : (share : List Name) (name other : Name) → Contains (without share name) other → Contains share other × (name ≢ other)
without_contains share name other has =
    let kept = contains_kept (λ next. not (same_name name next)) share other has in
    let differs = not-true (same_name name other) kept.1 in
    (kept.0, λ same. false≢true (sym differs ∙ subst (λ next. same_name name next ≡ true) same (same_name_itself name)))

-- a share stays as it is without a name that it doesn't have
pub without_none : (share : List Name) (name : Name) → (Contains share name → ⊥) → without share name ≡ share
without_none [] name none = refl
without_none (first ∷ share) name none =
    let differs : same_name name first ≡ false =
    false_from_ne_true (same_name name first)
    (λ same. none (subst (Contains (first ∷ share)) (sym (same_name_equal name first same)) (contains_first first share))) in
    rw differs (ap (λ rest. first ∷ rest) (without_none share name (λ has. none (contains_more first share name has))))

pub without_first : (share : List Name) (name : Name) → (Contains share name → ⊥) → without (name ∷ share) name ≡ share
without_first share name none = rw (same_name_itself name) (without_none share name none)

-- ---- letters and siblings
pub not_not : (letter : Bool) → not (not letter) ≡ letter
not_not true = refl
not_not false = refl

pub not_itself : (letter : Bool) → not letter ≢ letter
not_itself true is = false≢true is
not_itself false is = false≢true (sym is)

pub sibling_differs : (letter : Bool) (name : Name) → sibling letter name ≢ letter ∷ name
sibling_differs letter name is = let first : not letter ≡ letter = cc in not_itself letter first

-- ---- endings
pub ending_itself : (name : Name) → IsEnding name name
ending_itself name = ([], refl)

pub ending_more : (letter : Bool) (name : Name) → IsEnding name (letter ∷ name)
ending_more letter name = (letter ∷ [], refl)

pub ending_then : (name middle other : Name) → IsEnding name middle → IsEnding middle other → IsEnding name other
ending_then name middle other (newer, p) (more, q) =
    (more ++ newer, q ∙ ap (λ list. more ++ list) p ∙ sym (append_assoc more newer name))

pub ending_cases : (name other : Name) (letter : Bool) → IsEnding name (letter ∷ other) → (name ≡ letter ∷ other) ⊎ IsEnding name other
ending_cases name other letter ([], p) = inl (sym p)
ending_cases name other letter (first ∷ newer, p) = inr (newer, cc)

-- a name that has an ending is it, or has one longer ending
pub longer_ending : (newer name : Name) → (newer ++ name ≡ name) ⊎ ((letter : Bool) × IsEnding (letter ∷ name) (newer ++ name))
longer_ending [] name = inl refl
longer_ending (first ∷ newer) name =
    elim (longer_ending newer name) [
      | inl same ↦ inr (first, ([], ap (λ list. first ∷ list) same))
      | inr (letter, (more, p)) ↦ inr (letter, (first ∷ more, ap (λ list. first ∷ list) p))
    ]

-- a longer name is no ending
pub half_no_ending : (letter : Bool) (name : Name) → IsEnding (letter ∷ name) name → ⊥
half_no_ending letter name (newer, p) = omega (arith, ap length p, length-append newer (letter ∷ name))

-- ---- names that are apart
pub apart_other_way : (name other : Name) → AreNamesApart name other → AreNamesApart other name
apart_other_way name other (left, right) = (right, left)

-- a half is apart from what the whole is apart from
pub apart_half : (letter : Bool) (name other : Name) → AreNamesApart name other → AreNamesApart (letter ∷ name) other
apart_half letter name other (left, right) = (
  λ ending. left (ending_then name (letter ∷ name) other (ending_more letter name) ending),
  λ ending. elim (ending_cases other name letter ending) [
    | inl same ↦ left (subst (IsEnding name) (sym same) (ending_more letter name))
    | inr more ↦ right more
  ],
)

no_half_ending : (letter other : Bool) (name : Name) → letter ≢ other → IsEnding (letter ∷ name) (other ∷ name) → ⊥
no_half_ending letter other name differ ending =
    elim (ending_cases (letter ∷ name) name other ending) [
      | inl same ↦ let first : letter ≡ other = cc in differ first
      | inr more ↦ half_no_ending letter name more
    ]

-- two halves are apart
pub halves_apart : (letter other : Bool) (name : Name) → letter ≢ other → AreNamesApart (letter ∷ name) (other ∷ name)
halves_apart letter other name differ =
    (no_half_ending letter other name differ, no_half_ending other letter name (λ same. differ (sym same)))

half_no_longer : (letter first : Bool) (name other : Name) → AreNamesApart (letter ∷ name) other → AreNamesApart (sibling letter name) other
    → IsEnding (first ∷ name) other → ⊥
half_no_longer true true name other one two ending = one.0 ending
half_no_longer true false name other one two ending = two.0 ending
half_no_longer false true name other one two ending = two.0 ending
half_no_longer false false name other one two ending = one.0 ending

-- what is apart from both halves is apart from the whole
pub apart_whole : (letter : Bool) (name other : Name) → AreNamesApart (letter ∷ name) other → AreNamesApart (sibling letter name) other
    → AreNamesApart name other
apart_whole letter name other one two =
    (no_ending, λ ending. one.1 (ending_then other name (letter ∷ name) ending (ending_more letter name)))
  where
    no_ending : IsEnding name other → ⊥
    no_ending (newer, p) =
        elim (longer_ending newer name) [
          | inl same ↦
              one.1 (subst (λ next. IsEnding next (letter ∷ name)) (sym (p ∙ same)) (ending_more letter name))
          | inr (first, (more, q)) ↦ half_no_longer letter first name other one two (more, p ∙ q)
        ]

-- ---- names of shares that are apart
pub apart_within_pair : (share : List Name) (name other : Name) → AreApartWithin share → Contains share name → Contains share other → name ≢ other
    → AreNamesApart name other
apart_within_pair [] name other apart has also differ = absurd (contains_none name has)
apart_within_pair (first ∷ share) name other apart has also differ =
    elim (contains_cases first share name has) [
      | inl same ↦
          elim (contains_cases first share other also) [
            | inl too ↦ absurd (differ (sym same ∙ too))
            | inr more ↦ subst (λ next. AreNamesApart next other) same (apart.0 other more)
          ]
      | inr more ↦
          elim (contains_cases first share other also) [
            | inl same ↦ subst (AreNamesApart name) same (apart_other_way first name (apart.0 name more))
            | inr too ↦ apart_within_pair share name other apart.1 more too differ
          ]
    ]

-- what is left of a share is apart within
pub apart_kept : (test : Name → Bool) (share : List Name) → AreApartWithin share → AreApartWithin (filter test share)
apart_kept test [] apart = tt
apart_kept test (first ∷ share) apart =
    cond_both (test first) (first ∷ filter test share) (filter test share) AreApartWithin
    (λ passes. (λ other kept. apart.0 other (contains_kept test share other kept).0, apart_kept test share apart.1))
    (λ fails. apart_kept test share apart.1)
