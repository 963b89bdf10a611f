-- What the reads of `add_cell` find, and what its writes leave.
use Rattle.std.proofs.Common.{◌≡◌, ℕ, ◌+◌, ◌<◌, ◌≤◌, List, [], length, get_or, sym, ◌∙◌, ap, subst, arith}
use Rattle.std.specs.Prelude.{Contains}
use Rattle.std.specs.List.{All}
use Rattle.std.proofs.lemmas.List.Elements.{All-from_recursion}
use Rattle.mail_words.specs.Key.{KeyNumbers}
use Rattle.tx_model.specs.declared.pass.PassState.TheVariants.{Active}
use Rattle.tx_model.specs.declared.word.Word.{Word}
use Rattle.tx_model.specs.declared.view.Attempt.{Attempt}
use Rattle.tx_model.specs.declared.view.PassView.{PassView}
use Rattle.tx_model.specs.History.{IsBeginning, state_at}
use Rattle.tx_model.specs.Memory.{after, Agrees}
use Rattle.tx_model.specs.Made.{Made}
use Rattle.tx_model.specs.Pass.{IsPass}
use Rattle.tx_model.specs.Attempt.{Fits}
use Rattle.tx_heap.specs.Layout.{mail_layout, segment_len}
use Rattle.tx_heap.specs.Segment.{free_of, cells_of, newest_at, IsInForm}
use Rattle.tx_heap.specs.Heap.{Heap, gate_of, segment_of, lane_segments}
use Rattle.tx_heap.specs.Index.{IsIndex}
use Rattle.tx_heap.specs.Mail.{IsGoodMail, mail_heap, mail_budget}
use Rattle.tx_model.specs.Calls.{OnlyReads}
use Rattle.tx_heap.specs.Calls.{made_sizes, HoldsOverIndex}
use Rattle.tx_model.proofs.lemmas.Attempts.{only_reads_then, writes_apart, state_good}
use Rattle.tx_heap.proofs.lemmas.Reads.{holds_after_reads, state_fits}
use Rattle.tx_model.proofs.lemmas.States.{after_length}
use Rattle.tx_heap.proofs.lemmas.HeapWords.{segments_many, segment_many}
use Rattle.tx_buckets.specs.Records.{HasRecordAt}
use Rattle.tx_buckets.specs.Growth.{WithCell, IsCellAdded}
use Rattle.tx_buckets.specs.Reading.{IsOpened, ReadWord}
use Rattle.tx_buckets.specs.Writing.{cell_words, with_words, AddedCell}
use Rattle.tx_buckets.proofs.PlacingCells.{cell_placed, offset_within, newest_below}
use Rattle.tx_buckets.proofs.ReadSteps.{opened_after, open_over}
use Rattle.tx_buckets.proofs.lemmas.Growth.{form_with_cell}
use Rattle.tx_buckets.proofs.lemmas.Segments.{open_lane, open_in_form, changed_there, index_changed}
use Rattle.tx_buckets.proofs.lemmas.Writes.{WithWords, words_stay, words_few, words_over, opened_with_words, in_segment}

-- an open segment, in every memory: its lane, and that its words are in form
pub record IsOpenInForm (segment : ℕ) (heap : Heap) : Type 0 where
  pub is_open : gate_of heap segment ≡ 1
  pub lane : ℕ
  pub below : lane < length heap.lanes
  pub among : Contains (lane_segments heap lane) segment
  pub form : IsInForm mail_layout lane (segment_of heap segment)

module _ {made : Made (List (List KeyNumbers))} {view : PassView} {attempt : Attempt} {segment : ℕ} (knows : IsPass IsGoodMail mail_budget made view attempt)
    (active : view.state ≡ Active)
    (opened : IsOpened (made_sizes made) attempt segment) (index : HoldsOverIndex made attempt (IsIndex mail_layout)) where
  pub open_forms : HoldsOverIndex made attempt (IsOpenInForm segment)
  open_forms memory good fits =
      let here = index memory good fits in
      let is_open = open_over knows active opened memory good fits in
      let (lane, below, among) = open_lane segment here (omega (arith, opened.within, segments_many (made_sizes made) (after memory attempt.writes))) is_open in
      record { is_open = is_open; lane = lane; below = below; among = among; form = open_in_form lane segment here below among is_open }

  -- a record that is there lies whole in the segment
  pub offset_inside : (offset : ℕ) → HoldsOverIndex made attempt (λ heap. HasRecordAt mail_layout (segment_of heap segment) offset)
      → HoldsOverIndex made attempt (λ heap. free_of (segment_of heap segment) + 2 ≤ segment_len)
      → offset + 6 ≤ segment_len
  offset_inside offset there free =
      let state = state_at made.opening view.history attempt.start in
      let good = state_good knows active in
      let fits = state_fits knows active in
      let is = open_forms state good fits in
      let many = segment_many (made_sizes made) (after state attempt.writes) (after_length state attempt.writes ∙ good.size) segment opened.within in
      let within = offset_within is.form offset 0 (there state good fits) (omega (arith, free state good fits, many)) in
      omega (arith, within.1, free state good fits)

-- the newest cell of the record, the free offset and the number of cells were read
pub record HasLookedAt (made : Made (List (List KeyNumbers))) (old new : PassView) (before now : Attempt) (segment offset newest at cells : ℕ) : Type 0 where
  pub only : OnlyReads old new before now
  pub opened : IsOpened (made_sizes made) now segment
  pub newest_is : HoldsOverIndex made now (λ heap. get_or (segment_of heap segment) (offset + newest_at) 0 ≡ newest)
  pub at_is : HoldsOverIndex made now (λ heap. free_of (segment_of heap segment) ≡ at)
  pub cells_are : HoldsOverIndex made now (λ heap. cells_of (segment_of heap segment) ≡ cells)

pub looked_at : {made : Made (List (List KeyNumbers))} {v0 v1 v2 v3 : PassView} {a0 a1 a2 a3 : Attempt} {segment newest at cells : ℕ} (offset : ℕ)
    → ReadWord made v0 v1 a0 a1 segment (offset + newest_at) newest → ReadWord made v1 v2 a1 a2 segment 0 at → ReadWord made v2 v3 a2 a3 segment 2 cells
    → HasLookedAt made v0 v3 a0 a3 segment offset newest at cells
looked_at {made} {segment = segment} {newest = newest} {at = at} offset one two three = record {
  only = only_reads_then one.only (only_reads_then two.only three.only);
  opened = three.opened;
  newest_is =
      holds_after_reads (only_reads_then two.only three.only) (IsGoodMail made.sense made.opening)
      (λ memory. get_or (segment_of (mail_heap made.sense memory) segment) (offset + newest_at) 0 ≡ newest) one.word;
  at_is = holds_after_reads three.only (IsGoodMail made.sense made.opening)
      (λ memory. free_of (segment_of (mail_heap made.sense memory) segment) ≡ at) two.word;
  cells_are = three.word;
}

module _ {made : Made (List (List KeyNumbers))} {old mid : PassView} {before now : Attempt} {segment offset newest at cells : ℕ} (message : ℕ)
    (look : HasLookedAt made old mid before now segment offset newest at cells)
    (knows : IsPass IsGoodMail mail_budget made mid now) (index : HoldsOverIndex made before (IsIndex mail_layout))
    (there : HoldsOverIndex made before (λ heap. HasRecordAt mail_layout (segment_of heap segment) offset))
    (free : HoldsOverIndex made before (λ heap. free_of (segment_of heap segment) + 2 ≤ segment_len)) where
  -- what held before the reads
  still : (P : Heap → Type 0) → HoldsOverIndex made before P → HoldsOverIndex made now P
  still P = holds_after_reads look.only (IsGoodMail made.sense made.opening) (λ memory. P (mail_heap made.sense memory))

  still_there : HoldsOverIndex made now (λ heap. HasRecordAt mail_layout (segment_of heap segment) offset)
  still_there = still (λ heap. HasRecordAt mail_layout (segment_of heap segment) offset) there

  still_free : HoldsOverIndex made now (λ heap. free_of (segment_of heap segment) + 2 ≤ segment_len)
  still_free = still (λ heap. free_of (segment_of heap segment) + 2 ≤ segment_len) free

  forms : HoldsOverIndex made now (IsOpenInForm segment)
  forms = open_forms knows look.only.goes_on.active look.opened (still (IsIndex mail_layout) index)

  -- the numbers are small
  pub cell_bounds : (1032 ≤ at) × (at + 2 ≤ segment_len) × (cells ≤ segment_len) × (offset + 6 ≤ segment_len)
  cell_bounds =
      let state = state_at made.opening mid.history now.start in
      let good = state_good knows look.only.goes_on.active in
      let fits = state_fits knows look.only.goes_on.active in
      let form = (forms state good fits).form in
      let is_at = look.at_is state good fits in
      let are_cells = look.cells_are state good fits in
      let room = still_free state good fits in (
        omega (arith, form.begins, is_at),
        omega (arith, is_at, room),
        omega (arith, form.filled, is_at, are_cells, room),
        offset_inside knows look.only.goes_on.active look.opened (still (IsIndex mail_layout) index) offset still_there still_free,
      )

  abbrev words : List Word
  words = cell_words at offset newest cells message

  abbrev wrote : Attempt
  wrote = with_words (made_sizes made) segment now words

  pub cell_inside : All (λ (word : Word). word.addr < segment_len) words
  cell_inside =
      let fits = cell_bounds in
      All-from_recursion (λ (word : Word). word.addr < segment_len) words
      (omega (arith, fits.1), (omega (arith, fits.1), (omega (arith, fits.3), (omega arith, (omega arith, tt)))))

  stay : WithWords (made_sizes made) segment now wrote
  stay = words_stay (made_sizes made) segment now words

  -- what fits the attempt with the writes fitted it before them
  fits_then : (memory : List ℕ) → Fits memory wrote [] → Fits memory now []
  fits_then memory fits = record { reads = subst (λ reads. Agrees reads memory) stay.reads fits.reads; contents = fits.contents }

  module _ (memory : List ℕ) (good : IsGoodMail made.sense made.opening memory) (fits : Fits memory wrote []) where
    abbrev heap : Heap
    heap = mail_heap made.sense (after memory now.writes)

    abbrev grown : Heap
    grown = mail_heap made.sense (after memory wrote.writes)

    open_form : IsOpenInForm segment heap
    open_form = forms memory good (fits_then memory fits)

    room : free_of (segment_of heap segment) + 2 ≤ length (segment_of heap segment)
    room = omega (
      arith,
      still_free memory good (fits_then memory fits),
      segment_many (made_sizes made) (after memory now.writes)
          (after_length memory now.writes ∙ good.size) segment look.opened.within,
    )

    placed : WithCell mail_layout offset message (segment_of heap segment) (after (segment_of heap segment) words)
    placed =
        let then = fits_then memory fits in
        let old_words = segment_of heap segment in
        subst (λ n. WithCell mail_layout offset message old_words (after old_words (cell_words n offset newest cells message))) (look.at_is memory good then)
        (subst (λ n. WithCell mail_layout offset message old_words (after old_words (cell_words (free_of old_words) offset n cells message)))
        (look.newest_is memory good then)
        (subst (λ n. WithCell mail_layout offset message old_words
        (after old_words (cell_words (free_of old_words) offset (get_or old_words (offset + newest_at) 0) n message))) (look.cells_are memory good then)
        (cell_placed open_form.form offset message (still_there memory good then) room)))

    grown_is : grown ≡ in_segment heap segment (after (segment_of heap segment) words)
    grown_is = words_over (made_sizes made) segment now words memory look.opened.within (writes_apart knows look.only.goes_on.active) cell_inside

    grown_words : segment_of grown segment ≡ after (segment_of heap segment) words
    grown_words =
        ap (λ (h : Heap). segment_of h segment) grown_is
        ∙ changed_there (still (IsIndex mail_layout) index memory good (fits_then memory fits)) segment (after (segment_of heap segment) words)
        (omega (arith, look.opened.within, segments_many (made_sizes made) (after memory now.writes)))

    is_added : IsCellAdded mail_layout segment offset message heap grown
    is_added = record {
      only = grown_is ∙ ap (in_segment heap segment) (sym grown_words);
      words = subst (WithCell mail_layout offset message (segment_of heap segment)) (sym grown_words) placed;
    }

    is_index : IsIndex mail_layout grown
    is_index =
        let then = fits_then memory fits in
        let here = still_there memory good then in
        subst (IsIndex mail_layout) (sym grown_is)
        (index_changed (still (IsIndex mail_layout) index memory good then) segment
        (after (segment_of heap segment) words) open_form.lane open_form.below open_form.among open_form.is_open
        (form_with_cell open_form.form placed here room (newest_below open_form.form offset message here room)))

  pub added : AddedCell made old mid before wrote segment offset message
  added = record {
    more = record {
      goes_on = record { active = look.only.goes_on.active; later = look.only.goes_on.later; start = omega (arith, look.only.goes_on.start, stay.start) };
      reads = subst (IsBeginning before.reads) (sym stay.reads) look.only.reads;
      few = omega (arith, words_few (made_sizes made) segment now words, ap (λ (ws : List Word). length ws) look.only.writes);
      sealed = stay.sealed ∙ look.only.sealed;
      published = stay.published ∙ look.only.published;
      opened = λ other is. opened_with_words other stay (opened_after look.only is);
    };
    changed = λ memory good fits.
        subst (λ (writes : List Word). IsCellAdded mail_layout segment offset message (mail_heap made.sense (after memory writes))
        (mail_heap made.sense (after memory wrote.writes))) look.only.writes
        (is_added memory good fits);
    index = is_index;
  }
