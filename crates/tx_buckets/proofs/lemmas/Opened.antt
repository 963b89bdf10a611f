-- Segments that an attempt opened, and what holds over every memory as it goes on.
use Rattle.std.proofs.Common.{Option, Some, None, ◌≡◌, ℕ, ◌+◌, ◌<◌, List, [], ◌∷◌, refl, length, sym, ◌∙◌, ap, subst}
use Rattle.std.specs.Prelude.{Contains}
use Rattle.std.proofs.lemmas.List.{append-nil}
use Rattle.mail_words.specs.Key.{KeyNumbers}
use Rattle.tx_model.specs.declared.gate.TheConstants.{GATE_OPEN}
use Rattle.tx_model.specs.declared.gate.Region.{Region}
use Rattle.tx_model.specs.declared.word.Word.{Word}
use Rattle.tx_model.specs.declared.view.Attempt.{Attempt}
use Rattle.tx_model.specs.declared.view.Owned.{Owned}
use Rattle.tx_model.specs.declared.view.PassView.{PassView}
use Rattle.tx_model.specs.Made.{Made}
use Rattle.tx_model.specs.History.{IsBeginning}
use Rattle.tx_model.specs.Memory.{after, Agrees}
use Rattle.tx_model.specs.Words.{HasAddress, value_of}
use Rattle.tx_model.specs.Attempt.{Fits, reads_with, reads_after}
use Rattle.tx_model.proofs.lemmas.Histories.{beginning_then}
use Rattle.tx_model.proofs.lemmas.Values.{no_value}
use Rattle.tx_heap.specs.Layout.{Sizes, lane_at, gate_at, region_of}
use Rattle.tx_heap.specs.Heap.{Heap, own_of, lane_segments}
use Rattle.tx_heap.specs.Index.{HasLanes}
use Rattle.tx_heap.specs.BudgetLaw.{own_among}
use Rattle.tx_heap.specs.Calls.{made_sizes, reads_with_gate, OpenedSegment}
use Rattle.tx_model.specs.Attempt.{HoldsOver}
use Rattle.tx_model.specs.Calls.{OnlyReads}
use Rattle.tx_model.proofs.lemmas.Attempts.{has_read, agrees_left}
use Rattle.tx_heap.proofs.lemmas.Lanes.{contains_none}
use Rattle.tx_buckets.specs.Reading.{IsOpened}
use Rattle.tx_buckets.specs.Writing.{WritesMore}

-- an attempt that has written nothing may read and write the segment that it opened
pub opened_here : {made : Made (List (List KeyNumbers))} {old new : PassView} {before now : Attempt} {lane segment : ℕ}
    → before.writes ≡ [] → before.published ≡ [] → OpenedSegment made old new before now lane segment → IsOpened (made_sizes made) now segment
opened_here {made} {before = before} {lane = lane} {segment = segment} none published opened =
    let gate = gate_at (made_sizes made) segment in
    let region = region_of (made_sizes made) segment in
    record {
      within = opened.within;
      gate_read =
          subst (λ words. HasAddress words gate) (sym opened.goes_on.reads)
          (has_read before.writes (reads_after before (lane_at lane) (segment + 1)) gate GATE_OPEN
          (ap (λ (words : List Word). value_of words gate) none ∙ no_value gate));
      is_open = opened.is_open;
      not_published = λ among. contains_none region (subst (λ (regions : List Region). Contains regions region) (opened.goes_on.published ∙ published) among);
    }

-- a lane's own segment is one of its segments
pub own_in_lane : {heap : Heap} {lane segment : ℕ} → HasLanes heap → lane < length heap.lanes → own_of heap lane ≡ segment
    → Contains (lane_segments heap lane) segment
own_in_lane {heap} {lane} lanes below own = subst (Contains (lane_segments heap lane)) own (own_among heap lanes lane below)

-- ---- reads of a word and of a gate
reads_begin : (written : Option ℕ) (reads : List Word) (addr value : ℕ) → IsBeginning reads (reads_with written reads addr value)
reads_begin None reads addr value = (record { addr = addr; value = value } ∷ [], refl)
reads_begin (Some last) reads addr value = ([], sym (append-nil reads))

pub gate_reads_begin : (made : Made (List (List KeyNumbers))) (attempt : Attempt) (addr value segment gate : ℕ)
    → IsBeginning attempt.reads (reads_with_gate made attempt addr value segment gate)
gate_reads_begin made attempt addr value segment gate =
    let at = gate_at (made_sizes made) segment in
    beginning_then _ _ _ (reads_begin (value_of attempt.writes addr) attempt.reads addr value)
    (reads_begin (value_of attempt.writes at) (reads_after attempt addr value) at gate)

-- opening a segment only reads
pub opened_only : {made : Made (List (List KeyNumbers))} {old new : PassView} {before now : Attempt} {lane segment : ℕ}
    → OpenedSegment made old new before now lane segment → OnlyReads old new before now
opened_only {made} {before = before} {lane = lane} {segment = segment} opened = record {
  goes_on = opened.goes_on.goes_on;
  reads = subst (IsBeginning before.reads) (sym opened.goes_on.reads) (gate_reads_begin made before (lane_at lane) (segment + 1) segment GATE_OPEN);
  writes = opened.goes_on.writes;
  sealed = opened.goes_on.sealed;
  published = opened.goes_on.published;
}

-- what fits an attempt fitted it when it had fewer reads
pub fitted_with_fewer : {before now : Attempt} → IsBeginning before.reads now.reads → (memory : List ℕ)
    → Fits memory now [] → Fits memory before []
fitted_with_fewer {before} reads memory fits = record {
  reads = agrees_left before.reads reads.0 memory (subst (λ rs. Agrees rs memory) reads.1 fits.reads);
  contents = fits.contents;
}

-- what holds over memories with writes that are none holds of the memories
pub holds_of_memory : (good P : List ℕ → Type 0) (attempt : Attempt) (owned : List Owned) → attempt.writes ≡ [] → HoldsOver good attempt owned P
    → (memory : List ℕ) → good memory → Fits memory attempt owned → P memory
holds_of_memory good P attempt owned none holds memory is_good fits = subst (λ (words : List Word). P (after memory words)) none (holds memory is_good fits)

pub fitted_before_writes : {sizes : Sizes} {old new : PassView} {before now : Attempt} {most : ℕ} → WritesMore sizes old new before now most
    → (memory : List ℕ) → Fits memory now [] → Fits memory before []
fitted_before_writes more memory fits = fitted_with_fewer more.reads memory fits
