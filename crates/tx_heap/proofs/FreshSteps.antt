-- What the reads of `fresh_segment` find, and what its writes leave.
use Rattle.std.proofs.Common.{◌≡◌, ℕ, ◌<◌, Some, None, List, get_or, Contains, sym, ◌∙◌, ap, subst, arith, inl, inr}
use Rattle.mail_words.specs.Key.{KeyNumbers}
use Rattle.tx_model.specs.declared.pass.PassState.TheVariants.{Active}
use Rattle.tx_model.specs.declared.word.Word.{Word}
use Rattle.tx_model.specs.declared.view.Attempt.{Attempt}
use Rattle.tx_model.specs.declared.view.PassView.{PassView}
use Rattle.tx_model.specs.History.{state_at}
use Rattle.tx_model.specs.Memory.{after}
use Rattle.tx_model.specs.Words.{value_of, HasAddress}
use Rattle.tx_model.specs.declared.gate.Region.{Region}
use Rattle.tx_model.specs.Made.{Made, IsMade}
use Rattle.tx_model.specs.Rule.{IsGateWrite}
use Rattle.tx_model.proofs.lemmas.Values.{value_cases}
use Rattle.tx_model.specs.Pass.{IsPass}
use Rattle.tx_model.specs.Attempt.{gate_value, reads_with, reads_after}
use Rattle.tx_model.specs.Calls.{Read}
use Rattle.tx_heap.specs.Layout.{mail_layout, sizes_of, pool_at, gate_at, region_of}
use Rattle.tx_heap.specs.Heap.{Heap, gate_of}
use Rattle.tx_heap.specs.Index.{IsIndex}
use Rattle.tx_heap.specs.Mail.{AllowsRegions, IsGoodMail, mail_heap, mail_budget}
use Rattle.tx_heap.specs.Fresh.{HasUnused}
use Rattle.tx_heap.specs.Calls.{HoldsOverIndex, FoundUnused}
use Rattle.tx_model.proofs.lemmas.Attempts.{address_read, gate_value_read, value_written, writes_apart, follows_rule, state_good}
use Rattle.tx_heap.proofs.lemmas.Reads.{holds_after_read, value_read_over, state_fits}
use Rattle.tx_model.proofs.lemmas.Calls.{goes_on_then}
use Rattle.tx_heap.proofs.lemmas.Addresses.{has_region_of}
use Rattle.tx_heap.proofs.lemmas.HeapWords.{gate_word, segments_many}

module _ {made : Made (List (List KeyNumbers))} {old mid : PassView} {before between : Attempt} {fresh : ℕ} (is_made : IsMade AllowsRegions IsGoodMail made)
    (index : HoldsOverIndex made before (IsIndex mail_layout)) (unused : HoldsOverIndex made before HasUnused)
    (knew : IsPass IsGoodMail mail_budget made old before) (active : old.state ≡ Active)
    (one : Read made.opening old mid before between pool_at fresh) (knows : IsPass IsGoodMail mail_budget made mid between) where
  -- what held of the index still holds after the read
  still : (P : Heap → Type 0) → HoldsOverIndex made before P → HoldsOverIndex made between P
  still P = holds_after_read one (IsGoodMail made.sense made.opening) (λ memory. P (mail_heap made.sense memory))

  pool_is : HoldsOverIndex made between (λ heap. heap.pool ≡ fresh)
  pool_is memory good fits = value_read_over one (writes_apart knew active) memory (omega (arith, good.size)) fits

  pub fresh_within : fresh < (sizes_of made.sense).segments
  fresh_within =
      let state = state_at made.opening mid.history between.start in
      let good = state_good knows one.goes_on.active in
      let fits = state_fits knows one.goes_on.active in
      let some = still HasUnused unused state good fits in
      omega (arith, some, pool_is state good fits, segments_many (sizes_of made.sense) (after state between.writes))

  -- a value that the attempt wrote to its gate would be there, and is none that an unused segment has
  not_written : (value : ℕ) → value_of between.writes (gate_at (sizes_of made.sense) fresh) ≡ Some value → ⊥
  not_written value wrote =
      let sizes = sizes_of made.sense in
      let state = state_at made.opening mid.history between.start in
      let good = state_good knows one.goes_on.active in
      let fits = state_fits knows one.goes_on.active in
      let words = after state between.writes in
      let none = (still (IsIndex mail_layout) index state good fits).lanes.unused (mail_heap made.sense words).pool (omega arith)
      (still HasUnused unused state good fits) in
      let word = gate_word sizes words fresh fresh_within in
      let there = value_written state between.writes (gate_at sizes fresh) value (writes_apart knows one.goes_on.active)
      (omega (arith, fresh_within, good.size)) wrote in
      let zero : value ≡ 0 = sym there ∙ sym word ∙ ap (gate_of (mail_heap made.sense words)) (sym (pool_is state good fits)) ∙ none.gate in
      let among : Contains made.regions (region_of sizes fresh) =
      subst (λ (regions : List Region). Contains regions (region_of sizes fresh)) (sym is_made.allowed) (has_region_of sizes fresh fresh_within) in
      by_rule zero ((follows_rule knows one.goes_on.active).uses.gates (region_of sizes fresh) value among wrote)
    where
      by_rule : value ≡ 0 → IsGateWrite between.reads between.sealed between.published (region_of (sizes_of made.sense) fresh) value → ⊥
      by_rule zero (inl (is, read)) = omega (arith, zero, is)
      by_rule zero (inr (inl (is, sealed))) = omega (arith, zero, is)
      by_rule zero (inr (inr (is, published))) = omega (arith, zero, is)

  -- so it hasn't written it
  gate_unwritten : value_of between.writes (gate_at (sizes_of made.sense) fresh) ≡ None
  gate_unwritten =
      elim (value_cases between.writes (gate_at (sizes_of made.sense) fresh)) [
        | inl (value, wrote) ↦ absurd (not_written value wrote)
        | inr none ↦ none
      ]

  module _ {new : PassView} {now : Attempt} {gate gate_addr : ℕ} (at_gate : gate_addr ≡ gate_at (sizes_of made.sense) fresh)
      (two : Read made.opening mid new between now gate_addr gate) (know : IsPass IsGoodMail mail_budget made new now) where
    pool_now : HoldsOverIndex made now (λ heap. heap.pool ≡ fresh)
    pool_now = holds_after_read two (IsGoodMail made.sense made.opening) (λ memory. (mail_heap made.sense memory).pool ≡ fresh) pool_is

    -- its gate is unused
    gate_is : gate ≡ 0
    gate_is =
        let state = state_at made.opening new.history now.start in
        let good = state_good know two.goes_on.active in
        let fits = state_fits know two.goes_on.active in
        let words = after state now.writes in
        let index_now = holds_after_read two (IsGoodMail made.sense made.opening) (λ memory. IsIndex mail_layout (mail_heap made.sense memory))
        (still (IsIndex mail_layout) index) in
        let unused_now = holds_after_read two (IsGoodMail made.sense made.opening) (λ memory. HasUnused (mail_heap made.sense memory))
        (still HasUnused unused) in
        let none = (index_now state good fits).lanes.unused (mail_heap made.sense words).pool (omega arith) (unused_now state good fits) in
        let word = gate_word (sizes_of made.sense) words fresh fresh_within in
        let value = value_read_over two (writes_apart knows one.goes_on.active) state (omega (arith, at_gate, fresh_within, good.size)) fits in
        sym value ∙ ap (λ at. get_or words at 0) at_gate ∙ sym word ∙ ap (gate_of (mail_heap made.sense words)) (sym (pool_now state good fits)) ∙ none.gate

    pub found : FoundUnused made old new before now fresh
    found =
        let at = gate_at (sizes_of made.sense) fresh in
        record {
          goes_on = record {
            goes_on = goes_on_then one.goes_on two.goes_on;
            reads =
                two.reads
                ∙ ap (λ a. reads_after between a gate) at_gate
                ∙ ap (λ (writes : List Word). reads_with (value_of writes at) between.reads at gate) one.writes
                ∙ ap (λ (reads : List Word). reads_with (value_of before.writes at) reads at gate) one.reads
                ∙ ap (reads_with (value_of before.writes at) (reads_after before pool_at fresh) at) gate_is;
            writes = two.writes ∙ one.writes;
            sealed = two.sealed ∙ one.sealed;
            published = two.published ∙ one.published;
          };
          within = fresh_within;
          pool = pool_now;
          gate_read = subst (HasAddress now.reads) at_gate (address_read two (ap (value_of between.writes) at_gate ∙ gate_unwritten));
          is_unused = ap (gate_value now) (sym at_gate) ∙ gate_value_read two ∙ ap (λ (v : ℕ). Some v) gate_is;
        }
