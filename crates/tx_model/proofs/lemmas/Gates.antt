-- The values of gates along a history of commits that follow the region rule.
use Rattle.std.proofs.Common.{◌≡◌, ◌⊎◌, ℕ, zero, suc, ◌+◌, ◌-◌, ◌<◌, ◌≤◌, ◌++◌, Option, Some, None, List, length, get_or, slice_get, refl, sym, ◌∙◌, ap, subst, arith, inl, inr, Contains}
use Rattle.std.proofs.lemmas.Option.{slice_get-get_or, get_or_from_slice_get}
use Rattle.tx_model.specs.declared.gate.Region.{Region}
use Rattle.tx_model.specs.declared.gate.TheConstants.{GATE_UNUSED, GATE_OPEN, GATE_SEALED, GATE_PACKED}
use Rattle.tx_model.specs.declared.history.Commit.{Commit}
use Rattle.tx_model.specs.Words.{value_of, HasAddress}
use Rattle.tx_model.specs.Made.{IsIn}
use Rattle.tx_model.specs.Memory.{words_in}
use Rattle.tx_model.specs.History.{state_at}
use Rattle.tx_model.specs.Attempt.{first_of}
use Rattle.tx_model.specs.Rule.{gate_at, WasOpen, IsGateWrite}
use Rattle.tx_model.specs.RuleLaws.{GateRises, WritesBelow, EndsAbove, CarriesNoGate, IsRuled, GatesRise, WrittenGateRises, ClosedAfter, WordsStay, PackedStays}
use Rattle.tx_model.proofs.lemmas.States.{state_length}
use Rattle.tx_model.proofs.lemmas.Values.{value_cases, has_value, missing_none, value_append, value_agrees, left_word, has_cases}
use Rattle.tx_model.proofs.lemmas.Regions.{same_word}
use Rattle.tx_model.proofs.lemmas.States.{entry_cases, state_next, state_past, words_same}

-- ---- one commit
pub gate_rises : GateRises
gate_rises opening regions commit region value follows among is = go (follows.uses.gates region value among is)
  where
    sealing : value ≡ GATE_SEALED → WasOpen commit.reads commit.writes region
        → (was : ℕ) × (value_of commit.reads region.gate ≡ Some was) × (was < value) × (value ≤ GATE_PACKED)
    sealing sealed (inl read) = (GATE_OPEN, read, omega (arith, sealed), omega (arith, sealed))
    sealing sealed (inr (read, has)) = (GATE_UNUSED, read, omega (arith, sealed), omega (arith, sealed))

    go : IsGateWrite commit.reads commit.sealed commit.published region value
        → (was : ℕ) × (value_of commit.reads region.gate ≡ Some was) × (was < value) × (value ≤ GATE_PACKED)
    go (inl (open', read)) = (GATE_UNUSED, read, omega (arith, open'), omega (arith, open'))
    go (inr (inl (sealed, there))) = sealing sealed (follows.uses.seals region there).1.was_open
    go (inr (inr (packed, there))) =
        (GATE_SEALED, (follows.uses.publishes region there).1.was_sealed, omega (arith, packed), omega (arith, packed))

pub writes_below : WritesBelow
writes_below opening regions commit region addr follows among has inside = go (follows.uses.writes_inside region addr among inside has)
  where
    go : WasOpen commit.reads commit.writes region → (was : ℕ) × (value_of commit.reads region.gate ≡ Some was) × (was ≤ GATE_OPEN)
    go (inl read) = (GATE_OPEN, read, omega arith)
    go (inr (read, wrote)) = (GATE_UNUSED, read, omega arith)

pub ends_above : EndsAbove
ends_above opening regions commit region follows (inl sealed) = (GATE_SEALED, (follows.uses.seals region sealed).1.wrote, omega arith)
ends_above opening regions commit region follows (inr published) = (GATE_PACKED, (follows.uses.publishes region published).1.wrote, omega arith)

pub carries_no_gate : CarriesNoGate
carries_no_gate opening regions commit region ok follows among has =
    let (other, there, inside) = follows.carried region.gate has in
    ok.gates_outside region other among (follows.uses.publishes other there).0 inside

-- ---- histories
module _ (opening : List ℕ) (regions : List Region) (history : List Commit) (ruled : IsRuled opening regions history) where
  -- what a commit read of a word is its value in the state before
  pub was_read : (k : ℕ) (commit : Commit) (addr value : ℕ) → slice_get history k ≡ Some commit → value_of commit.reads addr ≡ Some value
      → get_or (state_at opening history k) addr 0 ≡ value
  was_read k commit addr value there is =
      get_or_from_slice_get (state_at opening history k) addr value 0
      (value_agrees commit.reads (state_at opening history k) addr value (ruled.legal k commit there) is)

  -- a word is the one that the commit left there, else what it was
  pub word_next : (k : ℕ) (commit : Commit) (addr : ℕ) → slice_get history k ≡ Some commit → addr < length opening
      → slice_get (state_at opening history (k + 1)) addr ≡ first_of (value_of (commit.writes ++ commit.carry) addr)
      (slice_get (state_at opening history k) addr)
  word_next k commit addr there below =
      ap (λ (m : List ℕ). slice_get m addr) (state_next opening history k commit there)
      ∙ left_word (state_at opening history k) commit addr (ruled.rules k commit there).placed.apart (omega (arith, below, state_length opening history k))

  module _ (region : Region) (among : Contains regions region) where
    below_end : region.gate < length opening
    below_end = (ruled.well_formed.lie_in region among).2

    pub gate_next : (k : ℕ) (commit : Commit) → slice_get history k ≡ Some commit
        → slice_get (state_at opening history (k + 1)) region.gate ≡ first_of (value_of commit.writes region.gate)
        (slice_get (state_at opening history k) region.gate)
    gate_next k commit there =
        let none = missing_none commit.carry region.gate (carries_no_gate opening regions commit region ruled.well_formed (ruled.rules k commit there) among) in
        word_next k commit region.gate there below_end
        ∙ ap (λ (o : Option ℕ). first_of o (slice_get (state_at opening history k) region.gate))
        (value_append commit.writes commit.carry region.gate ∙ ap (first_of (value_of commit.writes region.gate)) none
        ∙ nothing_more (value_of commit.writes region.gate))
      where
        nothing_more : (o : Option ℕ) → first_of o None ≡ o
        nothing_more None = refl
        nothing_more (Some value) = refl

    -- a gate that a commit writes has that value after it
    gate_written : (k : ℕ) (commit : Commit) (value : ℕ) → slice_get history k ≡ Some commit → value_of commit.writes region.gate ≡ Some value
        → gate_at opening history (k + 1) region ≡ value
    gate_written k commit value there is =
        get_or_from_slice_get (state_at opening history (k + 1)) region.gate value 0
        (gate_next k commit there ∙ ap (λ (o : Option ℕ). first_of o (slice_get (state_at opening history k) region.gate)) is)

    gate_kept : (k : ℕ) (commit : Commit) → slice_get history k ≡ Some commit → value_of commit.writes region.gate ≡ None
        → gate_at opening history (k + 1) region ≡ gate_at opening history k region
    gate_kept k commit there none =
        let below : region.gate < length (state_at opening history k) = omega (arith, below_end, state_length opening history k) in
        let is = slice_get-get_or (state_at opening history k) region.gate 0 below in
        get_or_from_slice_get (state_at opening history (k + 1)) region.gate (gate_at opening history k region) 0
        (gate_next k commit there ∙ ap (λ (o : Option ℕ). first_of o (slice_get (state_at opening history k) region.gate)) none ∙ is)

    -- a commit that writes the gate raises it
    raised : (k : ℕ) (commit : Commit) (value : ℕ) → slice_get history k ≡ Some commit → value_of commit.writes region.gate ≡ Some value
        → (gate_at opening history k region < gate_at opening history (k + 1) region) × (gate_at opening history (k + 1) region ≤ GATE_PACKED)
    raised k commit value there is =
        let (was, read, more, most) = gate_rises opening regions commit region value (ruled.rules k commit there) among is in
        let before = was_read k commit region.gate was there read in
        let after' = gate_written k commit value there is in
        (omega (arith, before, after', more), omega (arith, after', most))

    one_rises : (k : ℕ) → gate_at opening history k region ≤ gate_at opening history (k + 1) region
    one_rises k =
        elim (entry_cases history k) [
          | inl (commit, there) ↦
              elim (value_cases commit.writes region.gate) [
                | inl (value, is) ↦ let more = (raised k commit value there is).0 in omega (arith, more)
                | inr none ↦ omega (arith, gate_kept k commit there none)
              ]
          | inr none ↦ omega (arith, ap (λ (m : List ℕ). get_or m region.gate 0) (state_past opening history k none))
        ]

    rises : (i more : ℕ) → gate_at opening history i region ≤ gate_at opening history (i + more) region
    rises i zero = let same : i + zero ≡ i = omega arith in omega (arith, ap (λ k. gate_at opening history k region) same)
    rises i (suc more) =
        let next : (i + more) + 1 ≡ i + suc more = omega arith in
        omega (arith, rises i more, one_rises (i + more), ap (λ k. gate_at opening history k region) next)

    pub up_to : (i k : ℕ) → i ≤ k → gate_at opening history i region ≤ gate_at opening history k region
    up_to i k before =
        let to : i + (k - i) ≡ k = omega (arith, before) in
        omega (arith, rises i (k - i), ap (λ n. gate_at opening history n region) to)

    -- a commit that leaves the gate as it was, sealed or packed, leaves the region's words
    untouched : (k : ℕ) (commit : Commit) (addr : ℕ) → slice_get history k ≡ Some commit → GATE_SEALED ≤ gate_at opening history k region
        → gate_at opening history (k + 1) region ≡ gate_at opening history k region
        → IsIn addr region → ¬ HasAddress (commit.writes ++ commit.carry) addr
    untouched k commit addr there high same inside has =
        elim (has_cases commit.writes commit.carry addr has) [
          | inl written ↦
              let (was, read, low) = writes_below opening regions commit region addr (ruled.rules k commit there) among written inside in
              omega (arith, was_read k commit region.gate was there read, low, high)
          | inr carried ↦
              let (other, published, inside') = (ruled.rules k commit there).carried addr carried in
              let did = (ruled.rules k commit there).uses.publishes other published in
              let is = same_word opening regions other region addr ruled.well_formed did.0 among inside' inside in
              let more = (raised k commit GATE_PACKED there (subst (λ (r : Region). value_of commit.writes r.gate ≡ Some GATE_PACKED) is did.1.wrote)).0 in
              omega (arith, more, same)
        ]

    one_stays : (k : ℕ) → GATE_SEALED ≤ gate_at opening history k region → gate_at opening history (k + 1) region ≡ gate_at opening history k region
        → words_in (state_at opening history (k + 1)) region ≡ words_in (state_at opening history k) region
    one_stays k high same =
        elim (entry_cases history k) [
          | inl (commit, there) ↦
              words_same (state_at opening history (k + 1)) (state_at opening history k) region
              (λ addr inside.
              let within : addr < length opening = omega (arith, inside.1, (ruled.well_formed.lie_in region among).1) in
              word_next k commit addr there within
              ∙ ap (λ (o : Option ℕ). first_of o (slice_get (state_at opening history k) addr))
              (missing_none (commit.writes ++ commit.carry) addr (untouched k commit addr there high same inside)))
          | inr none ↦ ap (λ (m : List ℕ). words_in m region) (state_past opening history k none)
        ]

    stays : (i more : ℕ) → GATE_SEALED ≤ gate_at opening history i region → gate_at opening history (i + more) region ≡ gate_at opening history i region
        → words_in (state_at opening history (i + more)) region ≡ words_in (state_at opening history i) region
    stays i zero high same = let to : i + zero ≡ i = omega arith in ap (λ k. words_in (state_at opening history k) region) to
    stays i (suc more) high same =
        let next : i + suc more ≡ (i + more) + 1 = omega arith in
        let last : gate_at opening history ((i + more) + 1) region ≡ gate_at opening history i region =
        ap (λ k. gate_at opening history k region) (sym next) ∙ same in
        let first = rises i more in
        let second = one_rises (i + more) in
        ap (λ k. words_in (state_at opening history k) region) next
        ∙ one_stays (i + more) (omega (arith, high, first)) (omega (arith, last, first, second))
        ∙ stays i more high (omega (arith, last, first, second))

    pub words_kept : (i k : ℕ) → i ≤ k → GATE_SEALED ≤ gate_at opening history i region → gate_at opening history k region ≡ gate_at opening history i region
        → words_in (state_at opening history k) region ≡ words_in (state_at opening history i) region
    words_kept i k before high same =
        let to : i + (k - i) ≡ k = omega (arith, before) in
        ap (λ n. words_in (state_at opening history n) region) (sym to)
        ∙ stays i (k - i) high (ap (λ n. gate_at opening history n region) to ∙ same)

    one_packed : (k : ℕ) → gate_at opening history k region ≡ GATE_PACKED → gate_at opening history (k + 1) region ≡ GATE_PACKED
    one_packed k is =
        elim (entry_cases history k) [
          | inl (commit, there) ↦
              elim (value_cases commit.writes region.gate) [
                | inl (value, wrote) ↦ let (more, most) = raised k commit value there wrote in absurd (omega (arith, is, more, most))
                | inr none ↦ gate_kept k commit there none ∙ is
              ]
          | inr none ↦ ap (λ (m : List ℕ). get_or m region.gate 0) (state_past opening history k none) ∙ is
        ]

    packed : (i more : ℕ) → gate_at opening history i region ≡ GATE_PACKED → gate_at opening history (i + more) region ≡ GATE_PACKED
    packed i zero is = let to : i + zero ≡ i = omega arith in ap (λ k. gate_at opening history k region) to ∙ is
    packed i (suc more) is =
        let next : i + suc more ≡ (i + more) + 1 = omega arith in
        ap (λ k. gate_at opening history k region) next ∙ one_packed (i + more) (packed i more is)

pub gates_rise : GatesRise
gates_rise opening regions history region i k ruled among before = up_to opening regions history ruled region among i k before

pub written_gate_rises : WrittenGateRises
written_gate_rises opening regions history region k commit ruled among there has =
    let (value, is) = has_value commit.writes region.gate has in (raised opening regions history ruled region among k commit value there is).0

pub closed_after : ClosedAfter
closed_after opening regions history region i k one other addr ruled before there there' ends has inside =
    let among : Contains regions region = of_memory ends in
    let (value, wrote, high) = ends_above opening regions one region (ruled.rules i one there) ends in
    let (was, read, low) = writes_below opening regions other region addr (ruled.rules k other there') among has inside in
    let after' = gate_written opening regions history ruled region among i one value there wrote in
    let later = up_to opening regions history ruled region among (i + 1) k (omega (arith, before)) in
    let now = was_read opening regions history ruled k other region.gate was there' read in
    omega (arith, after', high, later, now, low)
  where
    of_memory : Contains one.sealed region ⊎ Contains one.published region → Contains regions region
    of_memory (inl sealed) = ((ruled.rules i one there).uses.seals region sealed).0
    of_memory (inr published) = ((ruled.rules i one there).uses.publishes region published).0

pub words_stay : WordsStay
words_stay opening regions history region i k ruled among before high same = words_kept opening regions history ruled region among i k before high same

pub packed_stays : PackedStays
packed_stays opening regions history region i k ruled among before is =
    let to : i + (k - i) ≡ k = omega (arith, before) in
    ap (λ n. gate_at opening history n region) (sym to) ∙ packed opening regions history ruled region among i (k - i) is
