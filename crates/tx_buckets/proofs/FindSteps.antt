-- The search for the record of a key, over every memory that fits the attempt.
use Rattle.std.proofs.Common.{◌≡◌, ◌≢◌, ℕ, ◌+◌, ◌<◌, ◌≤◌, Some, None, Bool, true, false, List, [], length, get_or, sym, ◌∙◌, ap, subst, arith}
use Rattle.mail_words.specs.Key.{KeyNumbers}
use Rattle.mail_words.specs.Hash as hash
use Rattle.tx_model.specs.declared.pass.PassState.TheVariants.{Active}
use Rattle.tx_model.specs.declared.word.Word.{Word}
use Rattle.tx_model.specs.declared.view.Attempt.{Attempt}
use Rattle.tx_model.specs.declared.view.PassView.{PassView}
use Rattle.tx_model.specs.History.{state_at}
use Rattle.tx_model.specs.Memory.{after}
use Rattle.tx_model.specs.Made.{Made}
use Rattle.tx_model.specs.Pass.{IsPass}
use Rattle.tx_model.specs.Attempt.{Fits}
use Rattle.tx_heap.specs.Layout.{mail_layout}
use Rattle.tx_heap.specs.Segment.{head_at, next_at, key_at, IsInForm}
use Rattle.tx_heap.specs.Heap.{Heap, heap_of, gate_of, segment_of}
use Rattle.tx_heap.specs.Index.{IsIndex}
use Rattle.tx_heap.specs.Mail.{IsGoodMail, mail_heap, mail_budget}
use Rattle.tx_model.specs.Calls.{OnlyReads}
use Rattle.tx_heap.specs.Calls.{made_sizes, HoldsOverIndex}
use Rattle.tx_model.proofs.lemmas.Attempts.{only_reads_then, state_good}
use Rattle.tx_heap.proofs.lemmas.Reads.{fitted_before_reads, holds_after_reads, state_fits}
use Rattle.tx_model.proofs.lemmas.States.{after_length}
use Rattle.tx_heap.proofs.lemmas.HeapWords.{segments_many, segment_many}
use Rattle.tx_buckets.specs.Records.{IsRecordOf}
use Rattle.tx_buckets.specs.Reading.{IsOpened, ReadWord, ReadKey, FoundKey}
use Rattle.tx_buckets.proofs.ReadSteps.{open_over}
use Rattle.tx_buckets.proofs.lemmas.Segments.{open_lane, open_in_form}
use Rattle.tx_buckets.proofs.Search.{IsSearch, search_start, search_whole, search_falls, search_next, search_found, search_ended}

-- an open segment is in form
pub in_form : (heap : Heap) (segment : ℕ) → IsIndex mail_layout heap → segment < length heap.segments → gate_of heap segment ≡ 1 → (lane : ℕ)
    × IsInForm mail_layout lane (segment_of heap segment)
in_form heap segment index inside is_open =
    let (lane, below, among) = open_lane segment index inside is_open in
    (lane, open_in_form lane segment index below among is_open)

-- where the search is
pub record IsSearching (made : Made (List (List KeyNumbers))) (old new : PassView) (before now : Attempt) (segment : ℕ) (key : KeyNumbers)
    (at : ℕ) : Type 0 where
  pub only : OnlyReads old new before now
  pub opened : IsOpened (made_sizes made) now segment
  pub knows : IsPass IsGoodMail mail_budget made new now
  pub index : HoldsOverIndex made now (IsIndex mail_layout)
  pub search : HoldsOverIndex made now (λ heap. IsSearch (segment_of heap segment) (hash.bucket_of key) key at)

module _ {made : Made (List (List KeyNumbers))} {view : PassView} {attempt : Attempt} {segment : ℕ} (knows : IsPass IsGoodMail mail_budget made view attempt)
    (active : view.state ≡ Active)
    (opened : IsOpened (made_sizes made) attempt segment) (index : HoldsOverIndex made attempt (IsIndex mail_layout)) where
  pub form_over : (memory : List ℕ) → IsGoodMail made.sense made.opening memory → Fits memory attempt []
      → (lane : ℕ) × IsInForm mail_layout lane (segment_of (mail_heap made.sense (after memory attempt.writes)) segment)
  form_over memory good fits =
      let words = after memory attempt.writes in
      in_form (heap_of (made_sizes made) words) segment (index memory good fits) (omega (arith, opened.within, segments_many (made_sizes made) words))
      (open_over knows active opened memory good fits)

module _ {made : Made (List (List KeyNumbers))} {old new : PassView} {before now : Attempt} {segment : ℕ} {key : KeyNumbers} {at : ℕ}
    (in_range : hash.bucket_of key < 1024)
    (s : IsSearching made old new before now segment key at) where
  forms : (memory : List ℕ) → IsGoodMail made.sense made.opening memory → Fits memory now [] → (lane : ℕ)
      × IsInForm mail_layout lane (segment_of (mail_heap made.sense (after memory now.writes)) segment)
  forms = form_over s.knows s.only.goes_on.active s.opened s.index

  -- the record at the offset lies whole in the segment
  pub inside_of : at ≢ 0 → at + 6 ≤ 32768
  inside_of some =
      let state = state_at made.opening new.history now.start in
      let good = state_good s.knows s.only.goes_on.active in
      let fits = state_fits s.knows s.only.goes_on.active in
      let words = after state now.writes in
      let (lane, form) = forms state good fits in
      let whole = search_whole mail_layout lane (segment_of (heap_of (made_sizes made) words) segment) form key in_range at (s.search state good fits) some in
      omega (arith, whole.1, form.ends, segment_many (made_sizes made) words (after_length state now.writes ∙ good.size) segment s.opened.within)

  -- it has the key
  pub found_here : {mid : PassView} {then : Attempt} {same : Bool} → at ≢ 0 → same ≡ true → ReadKey made new mid now then segment at key same
      → FoundKey made old mid before then segment key (Some at)
  found_here {mid} {then} some yes_same compared = let read = subst (ReadKey made new mid now then segment at key) yes_same compared in record {
    only = only_reads_then s.only read.only;
    opened = read.opened;
    found = λ memory good fits.
        let then_fits = fitted_before_reads read.only memory fits in
        let same = read.compared memory good fits in
        let (lane, form) = forms memory good then_fits in
        let words = λ (writes : List Word). segment_of (mail_heap made.sense (after memory writes)) segment in
        subst (λ (writes : List Word). IsRecordOf mail_layout (words writes) key at) (sym read.only.writes)
        (search_found mail_layout lane (words now.writes) form key in_range at (s.search memory good then_fits) some
        (subst (λ (writes : List Word). key_at (words writes) at ≡ key) read.only.writes same));
  }

  -- the chain has ended
  pub found_none : at ≡ 0 → FoundKey made old new before now segment key None
  found_none none = record {
    only = s.only;
    opened = s.opened;
    found = λ memory good fits.
        let (lane, form) = forms memory good fits in
        search_ended mail_layout lane (segment_of (mail_heap made.sense (after memory now.writes)) segment) form key in_range at
        (s.search memory good fits) none;
  }

  -- it has another key, and the next record was read
  module _ {mid last : PassView} {then after_next : Attempt} {next : ℕ} {same : Bool} (some : at ≢ 0) (differs : same ≡ false)
      (compared : ReadKey made new mid now then segment at key same) (word : ReadWord made mid last then after_next segment (at + 4) next)
      (know : IsPass IsGoodMail mail_budget made last after_next) where
    read : ReadKey made new mid now then segment at key false
    read = subst (ReadKey made new mid now then segment at key) differs compared

    both : OnlyReads new last now after_next
    both = only_reads_then read.only word.only

    pub goes_on_at : IsSearching made old last before after_next segment key next
    goes_on_at = record {
      only = only_reads_then s.only both;
      opened = word.opened;
      knows = know;
      index = holds_after_reads both (IsGoodMail made.sense made.opening) (λ memory. IsIndex mail_layout (mail_heap made.sense memory)) s.index;
      search = λ memory good fits.
          let mid_fits = fitted_before_reads word.only memory fits in
          let then_fits = fitted_before_reads read.only memory mid_fits in
          let (lane, form) = forms memory good then_fits in
          let words = λ (writes : List Word). segment_of (mail_heap made.sense (after memory writes)) segment in
          let other = subst (λ (writes : List Word). key_at (words writes) at ≢ key) read.only.writes (read.compared memory good mid_fits) in
          let is_next : get_or (words now.writes) (at + next_at) 0
          ≡ next = subst (λ (writes : List Word). get_or (words writes) (at + next_at) 0 ≡ next) both.writes (word.word memory good fits) in
          subst (λ (writes : List Word). IsSearch (words writes) (hash.bucket_of key) key next) (sym both.writes)
          (subst (IsSearch (words now.writes) (hash.bucket_of key) key) is_next
          (search_next mail_layout lane (words now.writes) form key in_range at (s.search memory good then_fits) some other));
    }

    pub falls : next < at
    falls =
        let state = state_at made.opening last.history after_next.start in
        let good = state_good know word.only.goes_on.active in
        let fits = state_fits know word.only.goes_on.active in
        let then_fits = fitted_before_reads both state fits in
        let (lane, form) = forms state good then_fits in
        let words = λ (writes : List Word). segment_of (mail_heap made.sense (after state writes)) segment in
        let is_next : get_or (words now.writes) (at + next_at) 0
        ≡ next = subst (λ (writes : List Word). get_or (words writes) (at + next_at) 0 ≡ next) both.writes (word.word state good fits) in
        omega (arith, is_next, search_falls mail_layout lane (words now.writes) form key in_range at (s.search state good then_fits) some)

-- the head of the bucket was read
pub search_begins : {made : Made (List (List KeyNumbers))} {old new : PassView} {before now : Attempt} {segment head : ℕ} (key : KeyNumbers) (offset : ℕ)
    → hash.bucket_of key < 1024 → offset ≡ head_at (hash.bucket_of key)
    → IsPass IsGoodMail mail_budget made new now → HoldsOverIndex made before (IsIndex mail_layout) → ReadWord made old new before now segment offset head
    → IsSearching made old new before now segment key head
search_begins {made} {old} {new} {before} {now} {segment} {head} key offset in_range at know index read = record {
  only = read.only;
  opened = read.opened;
  knows = know;
  index = index_now;
  search = λ memory good fits.
      let (lane, form) = form_over know read.only.goes_on.active read.opened index_now memory good fits in
      let words = segment_of (mail_heap made.sense (after memory now.writes)) segment in
      let is : get_or words (head_at (hash.bucket_of key)) 0 ≡ head = ap (λ o. get_or words o 0) (sym at) ∙ read.word memory good fits in
      subst (IsSearch words (hash.bucket_of key) key) is (search_start mail_layout lane words form key in_range);
}
  where
    index_now : HoldsOverIndex made now (IsIndex mail_layout)
    index_now = holds_after_reads read.only (IsGoodMail made.sense made.opening) (λ memory. IsIndex mail_layout (mail_heap made.sense memory)) index
