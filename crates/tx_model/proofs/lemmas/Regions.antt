-- Regions of a memory: what tells one from the others, and the words that are carried of them.
use Rattle.std.proofs.Common.{◌≡◌, ◌≢◌, ℕ, ◌+◌, ◌<◌, ◌≤◌, ◌==◌, true, zero, suc, List, [], ◌∷◌, ◌++◌, length, get_or, map, if◌then◌else◌, refl, sym, ◌∙◌, ap, subst, arith, inl, inr, Contains}
use Rattle.std.specs.List.{list_any}
use Rattle.std.proofs.lemmas.Bool.{cases_eq, cases_lt, cond_both, eqb-true, eq-eqb, or_cases, or_left, or_right, false≢true}
use Rattle.std.proofs.lemmas.List.{get_or_default, get_or_push, get_or_append_left, length-append}
use Rattle.std.proofs.lemmas.List.Elements.{Contains-get_or, Contains-append_left, Contains-append_right}
use Rattle.tx_model.specs.declared.gate.Region.{Region}
use Rattle.tx_model.specs.declared.word.Word.{Word}
use Rattle.tx_model.specs.declared.view.Owned.{Owned}
use Rattle.tx_model.specs.Words.{HasAddress, AreApart}
use Rattle.tx_model.specs.Memory.{words_from}
use Rattle.tx_model.specs.Made.{IsIn, LieApart, no_region, region_at, AreWellFormed}
use Rattle.tx_model.specs.Attempt.{has_region, carry_of}
use Rattle.tx_model.specs.Pass.{IsOwnable}
use Rattle.tx_model.specs.Rule.{HaveOwnGates, IsCarried}
use Rattle.tx_model.proofs.ShareNames.{contains_none, contains_first, contains_more, contains_cases}
use Rattle.tx_model.proofs.lemmas.WordIndexes.{addr_at}
use Rattle.tx_model.proofs.lemmas.Values.{has_cases, none_missing, no_value, apart_append}

-- ---- regions by their gates and by their words
pub region_at_is : (regions : List Region) (region : Region) (k : ℕ) → k < length regions → get_or regions k region ≡ region → region_at regions k ≡ region
region_at_is regions region k below is = sym (get_or_default regions k region no_region below) ∙ is

pub same_gate : (regions : List Region) (one other : Region) → HaveOwnGates regions → Contains regions one → Contains regions other → one.gate ≡ other.gate
    → one ≡ other
same_gate regions one other own (i, below, at) (j, below', at') same =
    let here = region_at_is regions one i below at in
    let there = region_at_is regions other j below' at' in
    elim (cases_eq i j) [
      | inl e ↦ sym here ∙ ap (region_at regions) e ∙ there
      | inr ne ↦
          elim (cases_lt i j) [
            | inl before ↦
                absurd (own i j before below' (ap (λ (r : Region). r.gate) here ∙ same ∙ sym (ap (λ (r : Region). r.gate) there)))
            | inr after ↦
                absurd (own j i (omega (arith, after, ne)) below (ap (λ (r : Region). r.gate) there ∙ sym same ∙ sym (ap (λ (r : Region). r.gate) here)))
          ]
    ]

not_both : (addr : ℕ) (one other : Region) → LieApart one other → IsIn addr one → IsIn addr other → ⊥
not_both addr one other (inl before) (from, below) (from', below') = omega (arith, before, below, from')
not_both addr one other (inr before) (from, below) (from', below') = omega (arith, before, below', from)

-- a word lies in one region at most
pub same_word : (opening : List ℕ) (regions : List Region) (one other : Region) (addr : ℕ) → AreWellFormed opening regions → Contains regions one
    → Contains regions other → IsIn addr one → IsIn addr other → one ≡ other
same_word opening regions one other addr ok (i, below, at) (j, below', at') inside inside' =
    let here = region_at_is regions one i below at in
    let there = region_at_is regions other j below' at' in
    let in_one = subst (IsIn addr) (sym here) inside in
    let in_other = subst (IsIn addr) (sym there) inside' in
    elim (cases_eq i j) [
      | inl e ↦ sym here ∙ ap (region_at regions) e ∙ there
      | inr ne ↦
          elim (cases_lt i j) [
            | inl before ↦
                absurd (not_both addr (region_at regions i) (region_at regions j) (ok.lie_apart i j before below') in_one in_other)
            | inr after ↦
                absurd (not_both addr (region_at regions j) (region_at regions i) (ok.lie_apart j i (omega (arith, after, ne)) below) in_other in_one)
          ]
    ]

-- the region that has this gate
pub has_region_found : (regions : List Region) (region : Region) → has_region regions region ≡ true
    → (other : Region) × Contains regions other × (other.gate ≡ region.gate)
has_region_found [] region has = absurd cc
has_region_found (first ∷ regions) region has =
    elim (or_cases (first.gate == region.gate) (list_any (λ (other : Region). other.gate == region.gate) regions) has) [
      | inl here ↦ (first, contains_first first regions, eqb-true first.gate region.gate here)
      | inr later ↦
          let (other, among, same) = has_region_found regions region later in
          (other, contains_more first regions other among, same)
    ]

pub no_gates : HaveOwnGates []
no_gates i j before below = omega (arith, below)

pub own_gates_push : (regions : List Region) (region : Region) → HaveOwnGates regions
    → ((other : Region) → Contains regions other → other.gate ≢ region.gate) → HaveOwnGates (regions ++ region ∷ [])
own_gates_push regions region own new i j before below same =
    elim (cases_lt j (length regions)) [
      | inl early ↦ own i j before early (sym (old i (omega (arith, before, early))) ∙ same ∙ old j early)
      | inr late ↦
          let long = length-append regions (region ∷ []) in
          let last : j ≡ length regions = omega (arith, below, late, long) in
          let first : i < length regions = omega (arith, before, last) in
          new (region_at regions i) (Contains-get_or regions i no_region first)
          (sym (old i first) ∙ same ∙ ap (λ (r : Region). r.gate) (get_or_push regions region no_region j (sym last)))
    ]
  where
    old : (k : ℕ) → k < length regions → (region_at (regions ++ region ∷ []) k).gate ≡ (region_at regions k).gate
    old k early = ap (λ (r : Region). r.gate) (get_or_append_left regions (region ∷ []) no_region k early)

-- ---- words in a row
pub from_length : (base : ℕ) (values : List ℕ) → length (words_from base values) ≡ length values
from_length base [] = refl
from_length base (value ∷ values) = ap suc (from_length (base + 1) values)

pub from_at : (base : ℕ) (values : List ℕ) (k : ℕ) → k < length values → addr_at (words_from base values) k ≡ base + k
from_at base [] k below = absurd (omega (arith, below))
from_at base (value ∷ values) zero below = omega arith
from_at base (value ∷ values) (suc k) below =
    let rest = from_at (base + 1) values k (omega (arith, below)) in
    rest ∙ omega arith

pub from_apart : (base : ℕ) (values : List ℕ) → AreApart (words_from base values)
from_apart base values i j before below same =
    let long = from_length base values in
    let one = from_at base values i (omega (arith, before, below, long)) in
    let other = from_at base values j (omega (arith, below, long)) in
    omega (arith, before, one, other, same)

pub from_inside : (base : ℕ) (values : List ℕ) (addr : ℕ) → HasAddress (words_from base values) addr → (base ≤ addr) × (addr < base + length values)
from_inside base values addr (k, word, below, at, is) =
    let long = from_length base values in
    let here = from_at base values k (omega (arith, below, long)) in
    let same : addr_at (words_from base values) k ≡ addr = ap (λ (w : Word). w.addr) (get_or_default (words_from base values) k _ word below ∙ at) ∙ is in
    (omega (arith, here, same), omega (arith, here, same, below, long))

-- ---- what is carried
-- an owned region that is published has the word
pub record IsCarriedOf (owned : List Owned) (published : List Region) (addr : ℕ) : Type 0 where
  pub owner : Owned
  pub among : Contains owned owner
  pub is_published : has_region published owner.region ≡ true
  pub from : owner.region.base ≤ addr
  pub below : addr < owner.region.base + length owner.now

carried_more : (o : Owned) (owned : List Owned) (published : List Region) (addr : ℕ) → IsCarriedOf owned published addr → IsCarriedOf (o ∷ owned) published addr
carried_more o owned published addr c =
    record {
      owner = c.owner;
      among = contains_more o owned c.owner c.among;
      is_published = c.is_published;
      from = c.from;
      below = c.below;
    }

pub carry_found : (owned : List Owned) (published : List Region) (addr : ℕ) → HasAddress (carry_of owned published) addr → IsCarriedOf owned published addr
carry_found [] published addr has = absurd (none_missing [] addr (no_value addr) has)
carry_found (o ∷ owned) published addr has =
    cond_both (has_region published o.region) (words_from o.region.base o.now) [] (λ (list : List Word). HasAddress (list ++ carry_of owned published) addr
    → IsCarriedOf (o ∷ owned) published addr)
    (λ is there. elim (has_cases (words_from o.region.base o.now) (carry_of owned published) addr there) [
      | inl mine ↦
          let inside = from_inside o.region.base o.now addr mine in
          record { owner = o; among = contains_first o owned; is_published = is; from = inside.0; below = inside.1 }
      | inr rest ↦ carried_more o owned published addr (carry_found owned published addr rest)
    ])
    (λ is there. carried_more o owned published addr (carry_found owned published addr there))
    has

abbrev pub regions_of : List Owned → List Region
regions_of owned = map (λ (o : Owned). o.region) owned

pub owns_contains : (owned : List Owned) (o : Owned) → Contains owned o → Contains (regions_of owned) o.region
owns_contains [] o among = absurd (contains_none o among)
owns_contains (first ∷ owned) o among =
    elim (contains_cases first owned o among) [
      | inl same ↦ subst (λ (x : Owned). Contains (regions_of (first ∷ owned)) x.region) same (contains_first first.region (regions_of owned))
      | inr rest ↦ contains_more first.region (regions_of owned) o.region (owns_contains owned o rest)
    ]

-- no region of the rest has the gate of the first
pub own_gate_first : (region : Region) (regions : List Region) (other : Region) → HaveOwnGates (region ∷ regions) → Contains regions other
    → other.gate ≢ region.gate
own_gate_first region regions other own (k, below, at) same =
    own 0 (suc k) (omega arith) (omega (arith, below)) (sym same ∙ sym (ap (λ (r : Region). r.gate) (region_at_is regions other k below at)))

pub own_gates_rest : (region : Region) (regions : List Region) → HaveOwnGates (region ∷ regions) → HaveOwnGates regions
own_gates_rest region regions own i j before below = own (suc i) (suc j) (omega (arith, before)) (omega (arith, below))

nothing_apart : AreApart []
nothing_apart i j before below = omega (arith, below)

module _ (opening : List ℕ) (regions : List Region) (ok : AreWellFormed opening regions) (published : List Region) where
  -- words of different regions
  pub carry_apart : (owned : List Owned) → ((o : Owned) → Contains owned o → IsOwnable regions o) → HaveOwnGates (regions_of owned)
      → AreApart (carry_of owned published)
  carry_apart [] ownable own = nothing_apart
  carry_apart (o ∷ owned) ownable own =
      let rest = carry_apart owned (λ x among. ownable x (contains_more o owned x among)) (own_gates_rest o.region (regions_of owned) own) in
      cond_both (has_region published o.region) (words_from o.region.base o.now) [] (λ (list : List Word). AreApart (list ++ carry_of owned published))
      (λ is. apart_append (words_from o.region.base o.now) (carry_of owned published) (from_apart o.region.base o.now) rest across)
      (λ is. rest)
    where
      across : (addr : ℕ) → HasAddress (words_from o.region.base o.now) addr → HasAddress (carry_of owned published) addr → ⊥
      across addr mine others =
          let first = ownable o (contains_first o owned) in
          let inside = from_inside o.region.base o.now addr mine in
          let c = carry_found owned published addr others in
          let other = ownable c.owner (contains_more o owned c.owner c.among) in
          let same = same_word opening regions c.owner.region o.region addr ok other.region first.region (c.from, omega (arith, c.below, other.words))
          (inside.0, omega (arith, inside.1, first.words)) in
          own_gate_first o.region (regions_of owned) c.owner.region own (owns_contains owned c.owner c.among) (ap (λ (r : Region). r.gate) same)

pub has_region_of : (published : List Region) (region : Region) → Contains published region → has_region published region ≡ true
has_region_of [] region among = absurd (contains_none region among)
has_region_of (first ∷ published) region among =
    elim (contains_cases first published region among) [
      | inl same ↦
          or_left (first.gate == region.gate) (has_region published region) (eq-eqb first.gate region.gate (ap (λ (r : Region). r.gate) same))
      | inr more ↦ or_right (first.gate == region.gate) (has_region published region) (has_region_of published region more)
    ]

carry_has : (owned : List Owned) (published : List Region) (o : Owned) (word : Word) → Contains owned o → has_region published o.region ≡ true
    → Contains (words_from o.region.base o.now) word → Contains (carry_of owned published) word
carry_has [] published o word among is has = absurd (contains_none o among)
carry_has (first ∷ owned) published o word among is has =
    elim (contains_cases first owned o among) [
      | inl same ↦
          let is' = subst (λ (x : Owned). has_region published x.region ≡ true) (sym same) is in
          let has' = subst (λ (x : Owned). Contains (words_from x.region.base x.now) word) (sym same) has in
          cond_both (has_region published first.region) (words_from first.region.base first.now) []
          (λ (list : List Word). Contains (list ++ carry_of owned published) word)
          (λ yes. Contains-append_left (words_from first.region.base first.now) (carry_of owned published) word has')
          (λ no. absurd (false≢true (sym no ∙ is')))
      | inr more ↦
          Contains-append_right (if has_region published first.region then words_from first.region.base first.now else []) (carry_of owned published) word
          (carry_has owned published o word more is has)
    ]

-- the carry has the whole region that is owned and published
pub carry_whole : (owned : List Owned) (published : List Region) (o : Owned) → Contains owned o → Contains published o.region → length o.now ≡ o.region.len
    → IsCarried (carry_of owned published) o.region
carry_whole owned published o among there whole =
    record {
      contents = o.now;
      whole = whole;
      all = λ word has. carry_has owned published o word among (has_region_of published o.region there) has;
    }
