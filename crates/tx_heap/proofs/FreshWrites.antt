-- What the writes of `fresh_segment` may do, and what they leave of the index.
use Rattle.std.proofs.Common.{◌≡◌, ℕ, ◌+◌, ◌<◌, ◌≤◌, ◌⊎◌, Option, Some, List, [], length, set, refl, sym, ◌∙◌, ap, subst, arith}
use Rattle.std.proofs.lemmas.List.{length-set}
use Rattle.mail_words.specs.Key.{KeyNumbers}
use Rattle.tx_model.specs.declared.gate.Region.{Region}
use Rattle.tx_model.specs.declared.word.Word.{Word}
use Rattle.tx_model.specs.declared.view.Attempt.{Attempt}
use Rattle.tx_model.specs.declared.view.PassView.{PassView}
use Rattle.tx_model.specs.History.{state_at}
use Rattle.tx_model.specs.Memory.{after, Agrees}
use Rattle.tx_model.specs.Words.{value_of, put}
use Rattle.tx_model.specs.Made.{Made, IsMade}
use Rattle.tx_model.specs.Pass.{IsPass}
use Rattle.tx_model.specs.Attempt.{Fits, MayWrite, gate_value, reads_after, first_of}
use Rattle.tx_model.specs.Calls.{with_write}
use Rattle.tx_model.proofs.lemmas.Values.{put_apart, put_last, put_other}
use Rattle.tx_heap.specs.Layout.{Sizes, mail_layout, sizes_of, pool_at, lane_at, gate_at, link_at, base_at, regions_of}
use Rattle.tx_heap.specs.Segment.{first_at}
use Rattle.tx_heap.specs.Heap.{Heap, heap_of, segment_of}
use Rattle.tx_heap.specs.Index.{MayGrow}
use Rattle.tx_heap.specs.Mail.{AllowsRegions, IsGoodMail, mail_heap, mail_budget}
use Rattle.tx_heap.specs.Fresh.{IsOwnFull, HasUnused, with_fresh}
use Rattle.tx_heap.specs.BudgetLaw.{own_below}
use Rattle.tx_heap.specs.Calls.{HoldsOverIndex, FoundUnused, MadeFresh, reads_with_gate, writes_of_fresh}
use Rattle.tx_heap.proofs.OpenSteps.{over_many}
use Rattle.tx_heap.proofs.lemmas.Addresses.{may_write_plain, may_open, may_write_open}
use Rattle.tx_model.proofs.lemmas.Attempts.{reads_agree, put_few, writes_apart, state_good}
use Rattle.tx_heap.proofs.lemmas.Reads.{state_fits}
use Rattle.tx_model.proofs.lemmas.Memories.{after_put}
use Rattle.tx_model.proofs.lemmas.States.{after_length}
use Rattle.tx_heap.proofs.lemmas.FreshSegment.{some_unused, fresh_grows}
use Rattle.tx_heap.proofs.lemmas.HeapWords.{segments_many, lanes_many, segment_many, heap_with_pool, heap_with_lane, heap_with_gate, heap_with_link, heap_with_word}

-- a full segment leaves an unused one to be taken
pub unused_of_full : (made : Made (List (List KeyNumbers))) (view : PassView) (attempt : Attempt) (lane before : ℕ) → lane < 8
    → HoldsOverIndex made attempt (MayGrow mail_layout) → HoldsOverIndex made attempt (IsOwnFull lane before)
    → HoldsOverIndex made attempt HasUnused
unused_of_full made view attempt lane before below grows full memory good fits =
    let sizes = sizes_of made.sense in
    let words = after memory attempt.writes in
    let many = over_many made attempt memory good in
    some_unused (heap_of sizes words) (grows memory good fits) lane before (omega (arith, below, lanes_many sizes words many)) (full memory good fits).own
    (λ segment inside. segment_many sizes words many segment (omega (arith, inside, segments_many sizes words))) (full memory good fits).full

-- ---- what may be written
module _ {made : Made (List (List KeyNumbers))} (is_made : IsMade AllowsRegions IsGoodMail made) where
  to_made : (attempt : Attempt) (addr value : ℕ) → MayWrite (regions_of (sizes_of made.sense)) attempt addr value → MayWrite made.regions attempt addr value
  to_made attempt addr value = subst (λ (regions : List Region). MayWrite regions attempt addr value) (sym is_made.allowed)

  pub may_write_made : (attempt : Attempt) (addr value : ℕ) → addr < base_at (sizes_of made.sense) 0
      → (addr < gate_at (sizes_of made.sense) 0) ⊎ (link_at (sizes_of made.sense) 0 ≤ addr) → MayWrite made.regions attempt addr value
  may_write_made attempt addr value below plain = to_made attempt addr value (may_write_plain (sizes_of made.sense) attempt addr value below plain)

  module _ {old mid : PassView} {start now : Attempt} {fresh : ℕ} (found : FoundUnused made old mid start now fresh) where
    pub may_open_fresh : (gate : ℕ) → gate ≡ gate_at (sizes_of made.sense) fresh → MayWrite made.regions now gate 1
    may_open_fresh gate at =
        subst (λ a. MayWrite made.regions now a 1) (sym at) (to_made now (gate_at (sizes_of made.sense) fresh) 1
        (may_open (sizes_of made.sense) now fresh found.within found.is_unused))

    pub may_write_fresh : (gate base value : ℕ) (opened : Attempt) → gate ≡ gate_at (sizes_of made.sense) fresh → opened ≡ with_write now gate 1 → base
        ≡ base_at (sizes_of made.sense) fresh → MayWrite made.regions opened base value
    may_write_fresh gate base value opened at is at_base =
        let sizes = sizes_of made.sense in
        let its_gate = gate_at sizes fresh in
        let is_open : gate_value (with_write now its_gate 1) its_gate
        ≡ Some 1 = ap (λ (v : Option ℕ). first_of v (value_of now.reads its_gate)) (put_last now.writes its_gate 1) in
        let may = may_write_open sizes (with_write now its_gate 1) fresh 0 value found.within (omega arith) found.gate_read is_open in
        subst (λ (attempt : Attempt). MayWrite made.regions attempt base value) (sym (is ∙ ap (λ a. with_write now a 1) at))
        (subst (λ a. MayWrite made.regions (with_write now its_gate 1) a value) (omega (arith, at_base))
        (to_made (with_write now its_gate 1) (base_at sizes fresh + 0) value may))

-- a write adds one word at most
pub write_few : (attempt next : Attempt) (addr value : ℕ) → next ≡ with_write attempt addr value → length next.writes ≤ length attempt.writes + 1
write_few attempt next addr value is = omega (arith, put_few attempt.writes addr value, ap (λ (a : Attempt). length a.writes) is)

-- ---- what the writes leave
module _ (sizes : Sizes) (lane before fresh : ℕ) (memory : List ℕ) where
  abbrev opened : List ℕ
  opened = set memory (gate_at sizes fresh) 1

  abbrev blank : List ℕ
  blank = set opened (base_at sizes fresh) (first_at mail_layout)

  abbrev linked : List ℕ
  linked = set blank (link_at sizes fresh) (before + 1)

  abbrev owned : List ℕ
  owned = set linked (lane_at lane) (fresh + 1)

  pub five_writes : lane < 8 → fresh < sizes.segments → 0 < length memory → (heap_of sizes memory).pool ≡ fresh → heap_of sizes (set owned pool_at (fresh + 1))
      ≡ with_fresh mail_layout lane before (heap_of sizes memory)
  five_writes lane_below below some pool =
      let heap = heap_of sizes memory in
      let offset : base_at sizes fresh ≡ base_at sizes fresh + 0 = omega arith in
      let left : 0 < length owned = omega (
        arith,
        some,
        length-set memory (gate_at sizes fresh) 1,
        length-set opened (base_at sizes fresh)
            (first_at mail_layout),
        length-set blank (link_at sizes fresh) (before + 1),
        length-set linked (lane_at lane) (fresh + 1),
      ) in
      heap_with_pool sizes owned pool_at (fresh + 1) refl left
      ∙ ap (λ (h : Heap). record h { pool = fresh + 1 })
      (heap_with_lane sizes linked (lane_at lane) (fresh + 1) lane refl lane_below
      ∙ ap (λ (h : Heap). record h { lanes = set h.lanes lane (fresh + 1) })
      (heap_with_link sizes blank (link_at sizes fresh) (before + 1) fresh refl below
      ∙ ap (λ (h : Heap). record h { links = set h.links fresh (before + 1) })
      (heap_with_word sizes opened (base_at sizes fresh) (first_at mail_layout) fresh 0 offset below (omega arith)
      ∙ ap (λ (h : Heap). record h { segments = set h.segments fresh (set (segment_of h fresh) 0 (first_at mail_layout)) })
      (heap_with_gate sizes memory (gate_at sizes fresh) 1 fresh refl below))))
      ∙ ap (λ n. record {
        pool = n + 1;
        lanes = set heap.lanes lane (n + 1);
        needs = heap.needs;
        gates = set heap.gates n 1;
        links = set heap.links n
            (before + 1);
        segments = set heap.segments n (set (segment_of heap n) 0 (first_at mail_layout));
      }) (sym pool)

module _ (sizes : Sizes) (lane before fresh : ℕ) where
  -- the attempt with the five writes
  abbrev pub with_five : Attempt → Attempt
  with_five attempt =
      let is_opened = with_write attempt (gate_at sizes fresh) 1 in
      let is_blank = with_write is_opened (base_at sizes fresh) (first_at mail_layout) in
      let is_linked = with_write is_blank (link_at sizes fresh) (before + 1) in
      with_write (with_write is_linked (lane_at lane) (fresh + 1)) pool_at (fresh + 1)

  pub five_written : (a0 a1 a2 a3 a4 a5 : Attempt) (gate base link own : ℕ) → gate ≡ gate_at sizes fresh → base ≡ base_at sizes fresh → link
      ≡ link_at sizes fresh → own ≡ lane_at lane
      → a1 ≡ with_write a0 gate 1 → a2 ≡ with_write a1 base (first_at mail_layout) → a3 ≡ with_write a2 link (before + 1) → a4 ≡ with_write a3 own (fresh + 1)
      → a5 ≡ with_write a4 pool_at (fresh + 1)
      → a5 ≡ with_five a0
  five_written a0 a1 a2 a3 a4 a5 gate base link own at_gate at_base at_link at_own e1 e2 e3 e4 e5 =
      e5
      ∙ ap (λ (a : Attempt). with_write a pool_at (fresh + 1))
      (e4
      ∙ ap (λ at. with_write a3 at (fresh + 1)) at_own
      ∙ ap (λ (a : Attempt). with_write a (lane_at lane) (fresh + 1))
      (e3
      ∙ ap (λ at. with_write a2 at (before + 1)) at_link
      ∙ ap (λ (a : Attempt). with_write a (link_at sizes fresh) (before + 1))
      (e2
      ∙ ap (λ at. with_write a1 at (first_at mail_layout)) at_base
      ∙ ap (λ (a : Attempt). with_write a (base_at sizes fresh) (first_at mail_layout)) (e1 ∙ ap (λ at. with_write a0 at 1) at_gate))))

module _ {made : Made (List (List KeyNumbers))} {old mid : PassView} {start now : Attempt} {lane before fresh : ℕ} (lane_below : lane < 8)
    (grows : HoldsOverIndex made start (MayGrow mail_layout)) (full : HoldsOverIndex made start (IsOwnFull lane before))
    (found : FoundUnused made old mid start now fresh) (knows : IsPass IsGoodMail mail_budget made mid now) where
  abbrev sizes : Sizes
  sizes = sizes_of made.sense

  -- what fits the attempt after the reads fitted it before
  fits_then : (memory : List ℕ) → Fits memory now [] → Fits memory start []
  fits_then memory fits =
      let gate = gate_at sizes fresh in
      let reads : Agrees (reads_with_gate made start pool_at fresh fresh 0) memory = subst (λ reads. Agrees reads memory) found.goes_on.reads fits.reads in
      record {
        reads = reads_agree start.writes start.reads pool_at fresh memory (reads_agree start.writes (reads_after start pool_at fresh) gate 0 memory reads);
        contents = fits.contents;
      }

  -- the full segment is one of the memory's
  pub before_within : before < sizes.segments
  before_within =
      let state = state_at made.opening mid.history now.start in
      let good = state_good knows found.goes_on.goes_on.active in
      let fits = fits_then state (state_fits knows found.goes_on.goes_on.active) in
      let words = after state start.writes in
      let many = over_many made start state good in
      let lanes = (grows state good fits).index.lanes in
      let own = own_below (heap_of sizes words) lanes lane (omega (arith, lane_below, lanes_many sizes words many)) in
      omega (arith, own, (full state good fits).own, lanes.pool, segments_many sizes words)

  abbrev wrote : Attempt
  wrote = with_five sizes lane before fresh now

  words_after : (memory : List ℕ) → after memory wrote.writes ≡ set (owned sizes lane before fresh (after memory now.writes)) pool_at (fresh + 1)
  words_after memory =
      let gate = gate_at sizes fresh in
      let base = base_at sizes fresh in
      let link = link_at sizes fresh in
      let w1 = put now.writes gate 1 in
      let w2 = put w1 base (first_at mail_layout) in
      let w3 = put w2 link (before + 1) in
      let w4 = put w3 (lane_at lane) (fresh + 1) in
      let apart0 = writes_apart knows found.goes_on.goes_on.active in
      let apart1 = put_apart now.writes gate 1 apart0 in
      let apart2 = put_apart w1 base (first_at mail_layout) apart1 in
      let apart3 = put_apart w2 link (before + 1) apart2 in
      let apart4 = put_apart w3 (lane_at lane) (fresh + 1) apart3 in
      after_put memory w4 pool_at (fresh + 1) apart4
      ∙ ap (λ m. set m pool_at (fresh + 1))
      (after_put memory w3 (lane_at lane) (fresh + 1) apart3
      ∙ ap (λ m. set m (lane_at lane) (fresh + 1))
      (after_put memory w2 link (before + 1) apart2
      ∙ ap (λ m. set m link (before + 1))
      (after_put memory w1 base (first_at mail_layout) apart1
      ∙ ap (λ m. set m base (first_at mail_layout)) (after_put memory now.writes gate 1 apart0))))

  -- over each memory the index has the fresh segment
  changed : (memory : List ℕ) → IsGoodMail made.sense made.opening memory → Fits memory wrote []
      → ((mail_heap made.sense (after memory start.writes)).pool ≡ fresh)
      × (mail_heap made.sense (after memory wrote.writes) ≡ with_fresh mail_layout lane before (mail_heap made.sense (after memory start.writes)))
  changed memory good fits =
      let pool = found.pool memory good (record { reads = fits.reads; contents = fits.contents }) in
      let some : 0 < length (after memory now.writes) = omega (arith, after_length memory now.writes, good.size) in (
        ap (λ (writes : List Word). (mail_heap made.sense (after memory writes)).pool) (sym found.goes_on.writes) ∙ pool,
        ap (mail_heap made.sense) (words_after memory)
            ∙ five_writes sizes lane before fresh (after memory now.writes) lane_below found.within some pool
            ∙ ap (λ (writes : List Word). with_fresh mail_layout lane before (mail_heap made.sense (after memory writes))) found.goes_on.writes,
      )

  still_grows : HoldsOverIndex made wrote (MayGrow mail_layout)
  still_grows memory good fits =
      let then_fits = fits_then memory (record { reads = fits.reads; contents = fits.contents }) in
      let words = after memory start.writes in
      let many = over_many made start memory good in
      let is_full = full memory good then_fits in
      subst (MayGrow mail_layout) (sym (changed memory good fits).1)
      (fresh_grows (heap_of sizes words) (grows memory good then_fits) lane before (omega (arith, lane_below, lanes_many sizes words many)) is_full.own
      (λ segment inside. segment_many sizes words many segment (omega (arith, inside, segments_many sizes words))) is_full.full)

  -- the gate stays open under the other writes
  gate_open : gate_value wrote (gate_at sizes fresh) ≡ Some 1
  gate_open =
      let gate = gate_at sizes fresh in
      let base = base_at sizes fresh in
      let link = link_at sizes fresh in
      let w1 = put now.writes gate 1 in
      let w2 = put w1 base (first_at mail_layout) in
      let w3 = put w2 link (before + 1) in
      let w4 = put w3 (lane_at lane) (fresh + 1) in
      ap (λ (v : Option ℕ). first_of v (value_of now.reads gate))
      (put_other w4 pool_at (fresh + 1) gate (λ e. omega (arith, e))
      ∙ put_other w3 (lane_at lane) (fresh + 1) gate (λ e. omega (arith, e, lane_below))
      ∙ put_other w2 link (before + 1) gate (λ e. omega (arith, e, found.within))
      ∙ put_other w1 base (first_at mail_layout) gate (λ e. omega (arith, e, found.within))
      ∙ put_last now.writes gate 1)

  pub made_fresh : MadeFresh made old mid start wrote lane before fresh
  made_fresh = record {
    goes_on = record {
      goes_on = record { active = found.goes_on.goes_on.active; later = found.goes_on.goes_on.later; start = found.goes_on.goes_on.start };
      reads = found.goes_on.reads;
      writes = ap (λ (writes : List Word). writes_of_fresh made writes lane before fresh) found.goes_on.writes;
      sealed = found.goes_on.sealed;
      published = found.goes_on.published;
    };
    within = found.within;
    changed = changed;
    grows = still_grows;
    is_open = gate_open;
  }
