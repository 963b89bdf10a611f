-- What the two reads of `open_segment` find.
use Rattle.std.proofs.Common.{◌≡◌, ℕ, ◌+◌, ◌-◌, ◌<◌, ◌≤◌, Some, List, [], length, get_or, sym, ◌∙◌, ap, subst, arith}
use Rattle.mail_words.specs.Key.{KeyNumbers}
use Rattle.tx_model.specs.declared.pass.PassState.TheVariants.{Active}
use Rattle.tx_model.specs.declared.gate.Region.{Region}
use Rattle.tx_model.specs.declared.word.Word.{Word}
use Rattle.tx_model.specs.History.{state_at}
use Rattle.tx_model.specs.declared.view.Attempt.{Attempt}
use Rattle.tx_model.specs.declared.view.PassView.{PassView}
use Rattle.tx_model.specs.Memory.{after}
use Rattle.tx_model.specs.Words.{value_of}
use Rattle.tx_model.specs.Made.{Made, IsMade}
use Rattle.tx_model.specs.Pass.{IsPass}
use Rattle.tx_model.specs.Attempt.{Fits, MayRead, gate_value, reads_with, reads_after}
use Rattle.tx_model.specs.Calls.{Read}
use Rattle.tx_heap.specs.Layout.{mail_layout, sizes_of, words_of, lane_at, gate_at, base_at}
use Rattle.tx_heap.specs.Heap.{own_of, gate_of}
use Rattle.tx_heap.specs.Index.{IsIndex}
use Rattle.tx_heap.specs.Mail.{AllowsRegions, IsGoodMail, mail_heap, mail_budget}
use Rattle.tx_heap.specs.Calls.{HoldsOverIndex, OpenedSegment}
use Rattle.tx_heap.proofs.lemmas.Addresses.{may_read_below}
use Rattle.tx_model.proofs.lemmas.Attempts.{gate_value_read, writes_apart, state_good}
use Rattle.tx_heap.proofs.lemmas.Reads.{holds_after_read, value_read_over, state_fits}
use Rattle.tx_model.proofs.lemmas.Calls.{goes_on_then}
use Rattle.tx_model.proofs.lemmas.States.{after_length}
use Rattle.tx_heap.proofs.lemmas.HeapWords.{lane_word, gate_word, segments_many, lanes_many}

module _ {made : Made (List (List KeyNumbers))} (is_made : IsMade AllowsRegions IsGoodMail made) where
  -- the memory has the words of its sizes
  pub made_many : length made.opening ≡ words_of (sizes_of made.sense)
  made_many = is_made.opening_good.size

  -- a word below the segments may be read
  pub may_read_plain : (attempt : Attempt) (addr : ℕ) → addr < base_at (sizes_of made.sense) 0 → MayRead made.regions attempt addr
  may_read_plain attempt addr below =
      subst (λ (regions : List Region). MayRead regions attempt addr) (sym is_made.allowed) (may_read_below (sizes_of made.sense) attempt addr below)

-- the words of a good memory, with writes over them
pub over_many : (made : Made (List (List KeyNumbers))) (attempt : Attempt) (memory : List ℕ) → IsGoodMail made.sense made.opening memory
    → length (after memory attempt.writes) ≡ words_of (sizes_of made.sense)
over_many made attempt memory good = after_length memory attempt.writes ∙ good.size

module _ {made : Made (List (List KeyNumbers))} {old mid : PassView} {before between : Attempt} {lane number addr : ℕ}
    (below : lane < 8) (index : HoldsOverIndex made before (IsIndex mail_layout))
    (knew : IsPass IsGoodMail mail_budget made old before) (active : old.state ≡ Active)
    (at_lane : addr ≡ lane_at lane) (one : Read made.opening old mid before between addr number) (knows : IsPass IsGoodMail mail_budget made mid between) where
  index_then : HoldsOverIndex made between (IsIndex mail_layout)
  index_then = holds_after_read one (IsGoodMail made.sense made.opening) (λ memory. IsIndex mail_layout (mail_heap made.sense memory)) index

  -- the lane word names a segment that is in use
  lane_is : (memory : List ℕ) → IsGoodMail made.sense made.opening memory → Fits memory between []
      → get_or (mail_heap made.sense (after memory between.writes)).lanes lane 0 ≡ number
  lane_is memory good fits =
      lane_word (sizes_of made.sense) (after memory between.writes) lane below
      ∙ ap (λ at. get_or (after memory between.writes) at 0) (sym at_lane)
      ∙ value_read_over one (writes_apart knew active) memory (omega (arith, at_lane, below, good.size)) fits

  pub number_within : (1 ≤ number) × (number ≤ (sizes_of made.sense).segments)
  number_within =
      let state = state_at made.opening mid.history between.start in
      let good = state_good knows one.goes_on.active in
      let fits = state_fits knows one.goes_on.active in
      let words = after state between.writes in
      let lanes = (index_then state good fits).lanes in
      let many = over_many made between state good in
      let own = lanes.own lane (omega (arith, lanes_many (sizes_of made.sense) words many, below)) in
      let is = lane_is state good fits in
      (omega (arith, own.0, is), omega (arith, own.1, is, lanes.pool, segments_many (sizes_of made.sense) words))

  module _ {new : PassView} {now : Attempt} {gate gate_addr : ℕ} (at_gate : gate_addr ≡ gate_at (sizes_of made.sense) (number - 1))
      (two : Read made.opening mid new between now gate_addr gate) (know : IsPass IsGoodMail mail_budget made new now) where
    own_is : HoldsOverIndex made now (λ heap. own_of heap lane ≡ number - 1)
    own_is =
        holds_after_read two (IsGoodMail made.sense made.opening) (λ memory. own_of (mail_heap made.sense memory) lane ≡ number - 1)
        (λ memory good fits. ap (λ n. n - 1) (lane_is memory good fits))

    -- its gate is open
    gate_is : gate ≡ 1
    gate_is =
        let state = state_at made.opening new.history now.start in
        let good = state_good know two.goes_on.active in
        let fits = state_fits know two.goes_on.active in
        let words = after state now.writes in
        let index_now = holds_after_read two (IsGoodMail made.sense made.opening) (λ memory. IsIndex mail_layout (mail_heap made.sense memory)) index_then in
        let lanes = (index_now state good fits).lanes in
        let many = over_many made now state good in
        let opens = lanes.own_open lane (omega (arith, lanes_many (sizes_of made.sense) words many, below)) in
        let within = number_within in
        let word = gate_word (sizes_of made.sense) words (number - 1) (omega (arith, within.0, within.1)) in
        let value = value_read_over two (writes_apart knows one.goes_on.active) state (omega (arith, at_gate, within.0, within.1, good.size)) fits in
        sym value ∙ ap (λ at. get_or words at 0) at_gate ∙ sym word ∙ ap (gate_of (mail_heap made.sense words)) (sym (own_is state good fits)) ∙ opens

    pub opened : OpenedSegment made old new before now lane (number - 1)
    opened =
        let at = gate_at (sizes_of made.sense) (number - 1) in
        let within = number_within in
        let back : number ≡ number - 1 + 1 = omega (arith, within.0) in
        record {
          goes_on = record {
            goes_on = goes_on_then one.goes_on two.goes_on;
            reads =
                two.reads
                ∙ ap (λ at. reads_after between at gate) at_gate
                ∙ ap (λ (writes : List Word). reads_with (value_of writes at) between.reads at gate) one.writes
                ∙ ap (λ (reads : List Word). reads_with (value_of before.writes at) reads at gate) (one.reads ∙ ap (λ a. reads_after before a number) at_lane)
                ∙ ap (λ n. reads_with (value_of before.writes at) (reads_after before (lane_at lane) n) at gate) back
                ∙ ap (reads_with (value_of before.writes at) (reads_after before (lane_at lane) (number - 1 + 1)) at) gate_is;
            writes = two.writes ∙ one.writes;
            sealed = two.sealed ∙ one.sealed;
            published = two.published ∙ one.published;
          };
          within = omega (arith, within.0, within.1);
          own = own_is;
          is_open = ap (gate_value now) (sym at_gate) ∙ gate_value_read two ∙ ap (λ (v : ℕ). Some v) gate_is;
        }
