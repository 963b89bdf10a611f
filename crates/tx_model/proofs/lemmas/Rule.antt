-- What an attempt does keeps the region rule, and its commit follows it.
use Rattle.std.proofs.Common.{◌≡◌, ◌≢◌, ◌⊎◌, ℕ, ◌<◌, ◌++◌, Option, Some, None, List, [], ◌∷◌, length, refl, sym, ◌∙◌, ap, subst, arith, inl, inr, Contains}
use Rattle.std.proofs.lemmas.Bool.{cases_eq}
use Rattle.std.proofs.lemmas.List.Elements.{Contains-append_left, Contains-push, Contains-push_cases}
use Rattle.tx_model.specs.declared.gate.Region.{Region}
use Rattle.tx_model.specs.declared.gate.TheConstants.{GATE_UNUSED, GATE_OPEN, GATE_SEALED, GATE_PACKED}
use Rattle.tx_model.specs.declared.word.Word.{Word}
use Rattle.tx_model.specs.declared.view.Attempt.{Attempt}
use Rattle.tx_model.specs.declared.view.Owned.{Owned}
use Rattle.tx_model.specs.Words.{value_of, put, HasAddress}
use Rattle.tx_model.specs.Made.{IsIn, AreWellFormed}
use Rattle.tx_model.specs.Attempt.{first_of, gate_value, reads_with, MayRead, carry_of}
use Rattle.tx_model.specs.Pass.{IsOwnable}
use Rattle.tx_model.specs.Rule.{HaveOwnGates, WasOpen, IsGateWrite, UsesRegions, ArePlaced, IsCarried, AttemptFollows}
use Rattle.tx_model.specs.RuleLaws.{StartFollows, LaterStartFollows, ReadFollows, WriteFollows, SealFollows, PublishFollows, CommitFollows}
use Rattle.tx_model.proofs.ShareNames.{contains_none}
use Rattle.tx_model.proofs.PutLaws.{put_last, put_other, put_apart}
use Rattle.tx_model.proofs.lemmas.Values.{value_cases, value_has, none_missing, no_value, value_stays, has_cases, has_one, has_put, put_has, apart_append}
use Rattle.tx_model.proofs.lemmas.Regions.{same_gate, has_region_found, regions_of, IsCarriedOf, carry_found, carry_apart, carry_whole, no_gates, own_gates_push}

-- a word has one value
pub one_value : {o : Option ℕ} (m n : ℕ) → o ≡ Some m → o ≡ Some n → m ≡ n
one_value m n p q = cc

-- ---- the value of a gate in an attempt
pub gate_cases : (attempt : Attempt) (gate value : ℕ) → gate_value attempt gate ≡ Some value
    → (value_of attempt.writes gate ≡ Some value) ⊎ ((value_of attempt.writes gate ≡ None) × (value_of attempt.reads gate ≡ Some value))
gate_cases attempt gate value is =
    elim (value_cases attempt.writes gate) [
      | inl (written, e) ↦
          inl (e ∙ sym (ap (λ (o : Option ℕ). first_of o (value_of attempt.reads gate)) e) ∙ is)
      | inr none ↦ inr (none, sym (ap (λ (o : Option ℕ). first_of o (value_of attempt.reads gate)) none) ∙ is)
    ]

pub gate_written : (attempt : Attempt) (gate value : ℕ) → value_of attempt.writes gate ≡ Some value → gate_value attempt gate ≡ Some value
gate_written attempt gate value is = ap (λ (o : Option ℕ). first_of o (value_of attempt.reads gate)) is

module _ (regions : List Region) (attempt : Attempt) (uses : UsesRegions regions attempt.reads attempt.writes attempt.sealed attempt.published)
    (region : Region) (among : Contains regions region) where
  pub open_was : gate_value attempt region.gate ≡ Some GATE_OPEN → WasOpen attempt.reads attempt.writes region
  open_was is =
      elim (gate_cases attempt region.gate GATE_OPEN is) [
        | inl written ↦ opened written (uses.gates region GATE_OPEN among written)
        | inr (none, read) ↦ inl read
      ]
    where
      opened : value_of attempt.writes region.gate ≡ Some GATE_OPEN → IsGateWrite attempt.reads attempt.sealed attempt.published region GATE_OPEN
          → WasOpen attempt.reads attempt.writes region
      opened written (inl (is, read)) = inr (read, value_has attempt.writes region.gate GATE_OPEN written)
      opened written (inr (inl (is, there))) = absurd (omega (arith, is))
      opened written (inr (inr (is, there))) = absurd (omega (arith, is))

  pub packed_was : (Contains attempt.published region → ⊥) → gate_value attempt region.gate ≡ Some GATE_PACKED
      → value_of attempt.reads region.gate ≡ Some GATE_PACKED
  packed_was not is =
      elim (gate_cases attempt region.gate GATE_PACKED is) [
        | inl written ↦ absurd (none written (uses.gates region GATE_PACKED among written))
        | inr (none, read) ↦ read
      ]
    where
      none : value_of attempt.writes region.gate ≡ Some GATE_PACKED → IsGateWrite attempt.reads attempt.sealed attempt.published region GATE_PACKED → ⊥
      none written (inl (is, read)) = omega (arith, is)
      none written (inr (inl (is, there))) = omega (arith, is)
      none written (inr (inr (is, there))) = not there

  pub unused_was : gate_value attempt region.gate ≡ Some GATE_UNUSED → value_of attempt.reads region.gate ≡ Some GATE_UNUSED
  unused_was is =
      elim (gate_cases attempt region.gate GATE_UNUSED is) [
        | inl written ↦ absurd (none written (uses.gates region GATE_UNUSED among written))
        | inr (none, read) ↦ read
      ]
    where
      none : value_of attempt.writes region.gate ≡ Some GATE_UNUSED → IsGateWrite attempt.reads attempt.sealed attempt.published region GATE_UNUSED → ⊥
      none written (inl (is, read)) = omega (arith, is)
      none written (inr (inl (is, there))) = omega (arith, is)
      none written (inr (inr (is, there))) = omega (arith, is)

-- a region that was open in it is neither packed nor sealed before
pub open_low : (reads writes : List Word) (region : Region) (value : ℕ) → WasOpen reads writes region → value_of reads region.gate ≡ Some value
    → value < GATE_SEALED
open_low reads writes region value (inl read) is = let e = one_value value GATE_OPEN is read in omega (arith, e)
open_low reads writes region value (inr (read, has)) is = let e = one_value value GATE_UNUSED is read in omega (arith, e)

-- ---- one more read
open_more : (reads more writes : List Word) (region : Region) → WasOpen reads writes region → WasOpen (reads ++ more) writes region
open_more reads more writes region (inl read) = inl (value_stays reads more region.gate GATE_OPEN read)
open_more reads more writes region (inr (read, has)) = inr (value_stays reads more region.gate GATE_UNUSED read, has)

read_uses : (regions : List Region) (attempt : Attempt) (addr value : ℕ) → MayRead regions attempt addr
    → UsesRegions regions attempt.reads attempt.writes attempt.sealed attempt.published
    → UsesRegions regions (attempt.reads ++ record { addr = addr; value = value } ∷ []) attempt.writes attempt.sealed attempt.published
read_uses regions attempt addr value may uses =
    record {
      reads_inside = inside;
      writes_inside = λ region at among in' has. open_more attempt.reads more attempt.writes region (uses.writes_inside region at among in' has);
      gates = λ region value' among is. gate region value' (uses.gates region value' among is);
      seals = λ region among. let old = uses.seals region among in
          (old.0, record { was_open = open_more attempt.reads more attempt.writes region old.1.was_open; wrote = old.1.wrote });
      publishes = λ region among. let old = uses.publishes region among in
          (old.0, record { was_sealed = value_stays attempt.reads more region.gate GATE_SEALED old.1.was_sealed; wrote = old.1.wrote });
      sealed_once = uses.sealed_once;
      published_once = uses.published_once;
    }
  where
    more : List Word
    more = record { addr = addr; value = value } ∷ []

    stays : (region : Region) → WasOpen attempt.reads attempt.writes region ⊎ (value_of attempt.reads region.gate ≡ Some GATE_PACKED)
        → WasOpen (attempt.reads ++ more) attempt.writes region ⊎ (value_of (attempt.reads ++ more) region.gate ≡ Some GATE_PACKED)
    stays region (inl open') = inl (open_more attempt.reads more attempt.writes region open')
    stays region (inr packed) = inr (value_stays attempt.reads more region.gate GATE_PACKED packed)

    now : (region : Region) → Contains regions region → IsIn addr region
        → WasOpen attempt.reads attempt.writes region ⊎ (value_of attempt.reads region.gate ≡ Some GATE_PACKED)
    now region among in' =
        elim (may.readable region among in') [
          | inl is ↦ inl (open_was regions attempt uses region among is)
          | inr is ↦ inr (packed_was regions attempt uses region among (may.not_published region among in') is)
        ]

    inside : (region : Region) (at : ℕ) → Contains regions region → IsIn at region → HasAddress (attempt.reads ++ more) at
        → WasOpen (attempt.reads ++ more) attempt.writes region ⊎ (value_of (attempt.reads ++ more) region.gate ≡ Some GATE_PACKED)
    inside region at among in' has =
        elim (has_cases attempt.reads more at has) [
          | inl old ↦ stays region (uses.reads_inside region at among in' old)
          | inr new ↦ stays region (now region among (subst (λ a. IsIn a region) (sym (has_one (record { addr = addr; value = value }) at new)) in'))
        ]

    gate : (region : Region) (value' : ℕ) → IsGateWrite attempt.reads attempt.sealed attempt.published region value'
        → IsGateWrite (attempt.reads ++ more) attempt.sealed attempt.published region value'
    gate region value' (inl (is, read)) = inl (is, value_stays attempt.reads more region.gate GATE_UNUSED read)
    gate region value' (inr rest) = inr rest

-- ---- one more write
open_put : (reads writes : List Word) (addr value : ℕ) (region : Region) → WasOpen reads writes region → WasOpen reads (put writes addr value) region
open_put reads writes addr value region (inl read) = inl read
open_put reads writes addr value region (inr (read, has)) = inr (read, put_has writes addr value region.gate has)

pub put_placed : (opening : List ℕ) (writes : List Word) (addr value : ℕ) → addr < length opening → ArePlaced opening writes
    → ArePlaced opening (put writes addr value)
put_placed opening writes addr value below placed =
    record {
      apart = put_apart writes addr value placed.apart;
      within = λ other has. elim (has_put writes addr value other has) [
        | inl same ↦ omega (arith, same, below)
        | inr old ↦ placed.within other old
      ];
    }

module _ (regions : List Region) (reads writes : List Word) (sealed published more_sealed more_published : List Region) (addr value : ℕ)
    (uses : UsesRegions regions reads writes sealed published)
    (seals_stay : (region : Region) → Contains sealed region → Contains more_sealed region)
    (publishes_stay : (region : Region) → Contains published region → Contains more_published region)
    (inside : (region : Region) → Contains regions region → IsIn addr region → WasOpen reads writes region)
    (gate : (region : Region) → Contains regions region → region.gate ≡ addr → IsGateWrite reads more_sealed more_published region value)
    (seals : (region : Region) → Contains more_sealed region → Contains regions region × WasOpen reads writes region
    × (value_of (put writes addr value) region.gate ≡ Some GATE_SEALED))
    (publishes : (region : Region) → Contains more_published region
    → Contains regions region × (value_of reads region.gate ≡ Some GATE_SEALED) × (value_of (put writes addr value) region.gate ≡ Some GATE_PACKED))
    (sealed_once : HaveOwnGates more_sealed) (published_once : HaveOwnGates more_published) where
  grows : (region : Region) (value' : ℕ) → IsGateWrite reads sealed published region value' → IsGateWrite reads more_sealed more_published region value'
  grows region value' (inl opens) = inl opens
  grows region value' (inr (inl (is, among))) = inr (inl (is, seals_stay region among))
  grows region value' (inr (inr (is, among))) = inr (inr (is, publishes_stay region among))

  put_uses : UsesRegions regions reads (put writes addr value) more_sealed more_published
  put_uses =
      record {
        reads_inside = λ region at among in' has. elim (uses.reads_inside region at among in' has) [
          | inl open' ↦ inl (open_put reads writes addr value region open')
          | inr packed ↦ inr packed
        ];
        writes_inside = λ region at among in' has. open_put reads writes addr value region (elim (has_put writes addr value at has) [
          | inl same ↦ inside region among (subst (λ a. IsIn a region) same in')
          | inr old ↦ uses.writes_inside region at among in' old
        ]);
        gates = λ region value' among is. elim (cases_eq region.gate addr) [
          | inl same ↦
              let last : value_of (put writes addr value) region.gate ≡ Some value =
              subst (λ a. value_of (put writes addr value) a ≡ Some value) (sym same) (put_last writes addr value) in
              subst (IsGateWrite reads more_sealed more_published region) (one_value value value' last is) (gate region among same)
          | inr other ↦ grows region value' (uses.gates region value' among (sym (put_other writes addr value region.gate other) ∙ is))
        ];
        seals = λ region among. let (of_memory, open', wrote) = seals region among in
            (of_memory, record { was_open = open_put reads writes addr value region open'; wrote = wrote });
        publishes = λ region among. let (of_memory, read, wrote) = publishes region among in (of_memory, record { was_sealed = read; wrote = wrote });
        sealed_once = sealed_once;
        published_once = published_once;
      }

-- ---- the moves
pub start_follows : StartFollows
start_follows opening regions start =
    record {
      uses = record {
        reads_inside = λ region addr among inside has. absurd (none_missing [] addr (no_value addr) has);
        writes_inside = λ region addr among inside has. absurd (none_missing [] addr (no_value addr) has);
        gates = λ region value among is. absurd (let none = no_value region.gate in cc);
        seals = λ region among. absurd (contains_none region among);
        publishes = λ region among. absurd (contains_none region among);
        sealed_once = no_gates;
        published_once = no_gates;
      };
      placed = record {
        apart = λ i j before below. absurd (omega (arith, below));
        within = λ addr has. absurd (none_missing [] addr (no_value addr) has);
      };
    }

pub later_start_follows : LaterStartFollows
later_start_follows opening regions attempt start follows = record { uses = follows.uses; placed = follows.placed }

pub read_follows : ReadFollows
read_follows opening regions attempt addr value may follows = record { uses = go (value_of attempt.writes addr); placed = follows.placed }
  where
    go : (o : Option ℕ) → UsesRegions regions (reads_with o attempt.reads addr value) attempt.writes attempt.sealed attempt.published
    go None = read_uses regions attempt addr value may follows.uses
    go (Some written) = follows.uses

pub write_follows : WriteFollows
write_follows opening regions attempt addr value below may follows =
    record {
      uses = put_uses regions attempt.reads attempt.writes attempt.sealed attempt.published attempt.sealed attempt.published addr value follows.uses
          (λ region among. among) (λ region among. among)
          (λ region among in'. open_was regions attempt follows.uses region among (may.writable region among in'))
          (λ region among same. opens region among same)
          (λ region among. let old = follows.uses.seals region among in (old.0, old.1.was_open, kept region old.0 GATE_SEALED (omega arith) old.1.wrote))
          (λ region among. let old = follows.uses.publishes region among in (old.0, old.1.was_sealed, kept region old.0 GATE_PACKED (omega arith) old.1.wrote))
          follows.uses.sealed_once follows.uses.published_once;
      placed = put_placed opening attempt.writes addr value below follows.placed;
    }
  where
    opens : (region : Region) → Contains regions region → region.gate ≡ addr → IsGateWrite attempt.reads attempt.sealed attempt.published region value
    opens region among same =
        let (is, one) = may.opens region among (sym same) in
        inl (one, unused_was regions attempt follows.uses region among (subst (λ a. gate_value attempt a ≡ Some GATE_UNUSED) (sym same) is))

    kept : (region : Region) → Contains regions region → (there : ℕ) → 0 < there → value_of attempt.writes region.gate ≡ Some there
        → value_of (put attempt.writes addr value) region.gate ≡ Some there
    kept region among there some' is =
        put_other attempt.writes addr value region.gate
        (λ same.
        let unused = subst (λ a. gate_value attempt a ≡ Some GATE_UNUSED) (sym same) (may.opens region among (sym same)).0 in
        let e = one_value there GATE_UNUSED (gate_written attempt region.gate there is) unused in
        omega (arith, e, some'))
        ∙ is

pub seal_follows : SealFollows
seal_follows opening regions attempt region ok may follows =
    record {
      uses = put_uses regions attempt.reads attempt.writes attempt.sealed attempt.published
          (attempt.sealed ++ region ∷ []) attempt.published region.gate GATE_SEALED follows.uses
          (λ other among. Contains-append_left attempt.sealed (region ∷ []) other among) (λ other among. among)
          (λ other among in'. absurd (ok.gates_outside region other may.of_memory among in'))
          (λ other among same.
          inr (inl (
            refl,
            subst (Contains (attempt.sealed ++ region ∷ [])) (sym (same_gate regions other region ok.gates_apart among may.of_memory same))
                (Contains-push attempt.sealed region),
          )))
          seals
          (λ other among. let old = follows.uses.publishes other among in (old.0, old.1.was_sealed, kept other GATE_PACKED (omega arith) old.1.wrote))
          (own_gates_push attempt.sealed region follows.uses.sealed_once
          (λ other among. differs other GATE_SEALED (omega arith) (follows.uses.seals other among).1.wrote))
          follows.uses.published_once;
      placed = put_placed opening attempt.writes region.gate GATE_SEALED (ok.lie_in region may.of_memory).2 follows.placed;
    }
  where
    differs : (other : Region) (there : ℕ) → 1 < there → value_of attempt.writes other.gate ≡ Some there → other.gate ≢ region.gate
    differs other there more is same =
        let e = one_value there GATE_OPEN (subst (λ a. gate_value attempt a ≡ Some there) same (gate_written attempt other.gate there is)) may.is_open in
        omega (arith, e, more)

    kept : (other : Region) (there : ℕ) → 1 < there → value_of attempt.writes other.gate ≡ Some there
        → value_of (put attempt.writes region.gate GATE_SEALED) other.gate ≡ Some there
    kept other there more is = put_other attempt.writes region.gate GATE_SEALED other.gate (differs other there more is) ∙ is

    seals : (other : Region) → Contains (attempt.sealed ++ region ∷ []) other
        → Contains regions other × WasOpen attempt.reads attempt.writes other
        × (value_of (put attempt.writes region.gate GATE_SEALED) other.gate ≡ Some GATE_SEALED)
    seals other among =
        elim (Contains-push_cases attempt.sealed region other among) [
          | inl old ↦
              let was = follows.uses.seals other old in
              (was.0, was.1.was_open, kept other GATE_SEALED (omega arith) was.1.wrote)
          | inr same ↦
              subst (λ (r : Region). Contains regions r × WasOpen attempt.reads attempt.writes r
              × (value_of (put attempt.writes region.gate GATE_SEALED) r.gate ≡ Some GATE_SEALED)) same
              (may.of_memory, open_was regions attempt follows.uses region may.of_memory may.is_open, put_last attempt.writes region.gate GATE_SEALED)
        ]

pub publish_follows : PublishFollows
publish_follows opening regions attempt region ok may follows =
    record {
      uses = put_uses regions attempt.reads attempt.writes attempt.sealed attempt.published attempt.sealed
          (attempt.published ++ region ∷ []) region.gate GATE_PACKED follows.uses
          (λ other among. among) (λ other among. Contains-append_left attempt.published (region ∷ []) other among)
          (λ other among in'. absurd (ok.gates_outside region other may.of_memory among in'))
          (λ other among same.
          inr (inr (
            refl,
            subst (Contains (attempt.published ++ region ∷ [])) (sym (same_gate regions other region ok.gates_apart among may.of_memory same))
                (Contains-push attempt.published region),
          )))
          (λ other among. let old = follows.uses.seals other among in
          (old.0, old.1.was_open, put_other attempt.writes region.gate GATE_PACKED other.gate (never_open other old.1.was_open) ∙ old.1.wrote))
          publishes
          follows.uses.sealed_once
          (own_gates_push attempt.published region follows.uses.published_once differs);
      placed = put_placed opening attempt.writes region.gate GATE_PACKED (ok.lie_in region may.of_memory).2 follows.placed;
    }
  where
    never_open : (other : Region) → WasOpen attempt.reads attempt.writes other → other.gate ≢ region.gate
    never_open other open' same =
        let low = open_low attempt.reads attempt.writes other GATE_SEALED open'
        (subst (λ a. value_of attempt.reads a ≡ Some GATE_SEALED) (sym same) may.gate_read) in
        omega (arith, low)

    differs : (other : Region) → Contains attempt.published other → other.gate ≢ region.gate
    differs other among same =
        may.once (subst (Contains attempt.published) (same_gate regions other region ok.gates_apart (follows.uses.publishes other among).0 may.of_memory same)
        among)

    publishes : (other : Region) → Contains (attempt.published ++ region ∷ []) other
        → Contains regions other × (value_of attempt.reads other.gate ≡ Some GATE_SEALED)
        × (value_of (put attempt.writes region.gate GATE_PACKED) other.gate ≡ Some GATE_PACKED)
    publishes other among =
        elim (Contains-push_cases attempt.published region other among) [
          | inl old ↦
              let was = follows.uses.publishes other old in
              (was.0, was.1.was_sealed, put_other attempt.writes region.gate GATE_PACKED other.gate (differs other old) ∙ was.1.wrote)
          | inr same ↦
              subst (λ (r : Region). Contains regions r × (value_of attempt.reads r.gate ≡ Some GATE_SEALED)
              × (value_of (put attempt.writes region.gate GATE_PACKED) r.gate ≡ Some GATE_PACKED)) same
              (may.of_memory, may.gate_read, put_last attempt.writes region.gate GATE_PACKED)
        ]

-- ---- the commit
module _ (opening : List ℕ) (regions : List Region) (attempt : Attempt) (owned : List Owned) (ok : AreWellFormed opening regions)
    (follows : AttemptFollows opening regions attempt)
    (ownable : (o : Owned) → Contains owned o → IsOwnable regions o) (own : HaveOwnGates (regions_of owned)) where
  -- a word that is carried is one of a published region
  published_of : (addr : ℕ) (c : IsCarriedOf owned attempt.published addr) → Contains attempt.published c.owner.region × IsIn addr c.owner.region
  published_of addr c =
      let (region, among, same) = has_region_found attempt.published c.owner.region c.is_published in
      let mine = ownable c.owner c.among in (
        subst (Contains attempt.published) (same_gate regions region c.owner.region ok.gates_apart (follows.uses.publishes region among).0 mine.region same)
            among,
        (c.from, omega (arith, c.below, mine.words)),
      )

  across : (addr : ℕ) → HasAddress attempt.writes addr → HasAddress (carry_of owned attempt.published) addr → ⊥
  across addr written has =
      let c = carry_found owned attempt.published addr has in
      let (among, inside) = published_of addr c in
      let was = follows.uses.publishes c.owner.region among in
      let low = open_low attempt.reads attempt.writes c.owner.region GATE_SEALED
      (follows.uses.writes_inside c.owner.region addr was.0 inside written) was.1.was_sealed in
      omega (arith, low)

  carry_within : (addr : ℕ) → HasAddress (carry_of owned attempt.published) addr → addr < length opening
  carry_within addr has =
      let c = carry_found owned attempt.published addr has in
      let (among, inside) = published_of addr c in
      let lies = ok.lie_in c.owner.region (follows.uses.publishes c.owner.region among).0 in
      omega (arith, inside.1, lies.1)

  commit_placed : ArePlaced opening (attempt.writes ++ carry_of owned attempt.published)
  commit_placed =
      record {
        apart = apart_append attempt.writes (carry_of owned attempt.published) follows.placed.apart
            (carry_apart opening regions ok attempt.published owned ownable own) across;
        within = λ addr has. elim (has_cases attempt.writes (carry_of owned attempt.published) addr has) [
          | inl written ↦ follows.placed.within addr written
          | inr carried ↦ carry_within addr carried
        ];
      }

pub commit_follows : CommitFollows
commit_follows opening regions attempt owned ok follows ownable own owns =
    record {
      uses = follows.uses;
      carries = λ region among. let (k, o, below, at, is) = owns region among in
          let mine : Contains owned o = (k, below, at) in
          subst (IsCarried (carry_of owned attempt.published)) is
          (carry_whole owned attempt.published o mine (subst (Contains attempt.published) (sym is) among) (ownable o mine).words);
      carried = λ addr has. let c = carry_found owned attempt.published addr has in
          let (among, inside) = published_of opening regions attempt owned ok follows ownable own addr c in (c.owner.region, among, inside);
      placed = commit_placed opening regions attempt owned ok follows ownable own;
    }
