-- What the reads of `insert` find, and what its writes leave.
use Rattle.std.proofs.Common.{◌≡◌, ℕ, ◌+◌, ◌<◌, ◌≤◌, None, List, [], length, get_or, refl, sym, ◌∙◌, ap, subst, arith}
use Rattle.std.specs.Prelude.{Contains}
use Rattle.std.specs.List.{All}
use Rattle.std.proofs.lemmas.List.Elements.{All-from_recursion}
use Rattle.mail_words.specs.Key.{KeyNumbers}
use Rattle.mail_words.specs.Hash as hash
use Rattle.tx_model.specs.declared.word.Word.{Word}
use Rattle.tx_model.specs.declared.view.Attempt.{Attempt}
use Rattle.tx_model.specs.declared.view.PassView.{PassView}
use Rattle.tx_model.specs.History.{IsBeginning, state_at}
use Rattle.tx_model.specs.Memory.{after, Agrees}
use Rattle.tx_model.specs.Made.{Made}
use Rattle.tx_model.specs.Pass.{IsPass}
use Rattle.tx_model.specs.Attempt.{Fits}
use Rattle.tx_heap.specs.Layout.{mail_layout, segment_len}
use Rattle.tx_heap.specs.Segment.{head_at, free_of, keys_of, IsInForm}
use Rattle.tx_heap.specs.Heap.{Heap, segment_of, lane_segments}
use Rattle.tx_heap.specs.Index.{IsIndex}
use Rattle.tx_heap.specs.Mail.{IsGoodMail, mail_heap, mail_budget}
use Rattle.tx_model.specs.Calls.{OnlyReads}
use Rattle.tx_heap.specs.Calls.{made_sizes, HoldsOverIndex}
use Rattle.tx_model.proofs.lemmas.Attempts.{only_reads_then, writes_apart, state_good}
use Rattle.tx_heap.proofs.lemmas.Reads.{holds_after_reads, state_fits}
use Rattle.tx_model.proofs.lemmas.States.{after_length}
use Rattle.tx_heap.proofs.lemmas.HeapWords.{lanes_many, segments_many, segment_many}
use Rattle.tx_buckets.specs.Records.{IsRecordOf, IsFound}
use Rattle.tx_buckets.specs.Growth.{WithRecord, IsInserted}
use Rattle.tx_buckets.specs.Reading.{IsOpened, ReadWord}
use Rattle.tx_buckets.specs.Writing.{record_words, with_words, Inserted}
use Rattle.tx_buckets.proofs.Placing.{record_placed}
use Rattle.tx_buckets.proofs.ReadSteps.{opened_after, open_over}
use Rattle.tx_buckets.proofs.lemmas.Growth.{record_there, form_with_record}
use Rattle.tx_buckets.proofs.lemmas.Segments.{open_in_form, changed_there, index_changed}
use Rattle.tx_buckets.proofs.lemmas.Writes.{WithWords, words_stay, words_few, words_over, opened_with_words, in_segment}

-- the head of the key's bucket, the free offset and the number of records were read
pub record HasLooked (made : Made (List (List KeyNumbers))) (old new : PassView) (before now : Attempt) (segment : ℕ) (key : KeyNumbers)
    (head at keys : ℕ) : Type 0 where
  pub only : OnlyReads old new before now
  pub opened : IsOpened (made_sizes made) now segment
  pub head_is : HoldsOverIndex made now (λ heap. get_or (segment_of heap segment) (head_at (hash.bucket_of key)) 0 ≡ head)
  pub at_is : HoldsOverIndex made now (λ heap. free_of (segment_of heap segment) ≡ at)
  pub keys_are : HoldsOverIndex made now (λ heap. keys_of (segment_of heap segment) ≡ keys)

pub looked : {made : Made (List (List KeyNumbers))} {v0 v1 v2 v3 : PassView} {a0 a1 a2 a3 : Attempt} {segment head at keys : ℕ} (key : KeyNumbers) (offset : ℕ)
    → offset ≡ head_at (hash.bucket_of key)
    → ReadWord made v0 v1 a0 a1 segment offset head → ReadWord made v1 v2 a1 a2 segment 0 at → ReadWord made v2 v3 a2 a3 segment 1 keys
    → HasLooked made v0 v3 a0 a3 segment key head at keys
looked {made} {v1 = v1} {a1 = a1} {segment = segment} {head = head} {at = at} key offset is one two three = record {
  only = only_reads_then one.only (only_reads_then two.only three.only);
  opened = three.opened;
  head_is =
      holds_after_reads (only_reads_then two.only three.only) (IsGoodMail made.sense made.opening)
      (λ memory. get_or (segment_of (mail_heap made.sense memory) segment) (head_at (hash.bucket_of key)) 0 ≡ head)
      (subst (λ o. HoldsOverIndex made a1 (λ heap. get_or (segment_of heap segment) o 0 ≡ head)) is one.word);
  at_is = holds_after_reads three.only (IsGoodMail made.sense made.opening)
      (λ memory. free_of (segment_of (mail_heap made.sense memory) segment) ≡ at) two.word;
  keys_are = three.word;
}

module _ {made : Made (List (List KeyNumbers))} {old mid : PassView} {before now : Attempt} {segment : ℕ} (key : KeyNumbers) {head at keys : ℕ}
    (look : HasLooked made old mid before now segment key head at keys) (knows : IsPass IsGoodMail mail_budget made mid now)
    (index : HoldsOverIndex made before (IsIndex mail_layout))
    (of_lane : HoldsOverIndex made before (λ heap. Contains (lane_segments heap (hash.lane_of key)) segment))
    (free : HoldsOverIndex made before (λ heap. free_of (segment_of heap segment) + 6 ≤ segment_len)) where
  -- what held before the reads
  still : (P : Heap → Type 0) → HoldsOverIndex made before P → HoldsOverIndex made now P
  still P = holds_after_reads look.only (IsGoodMail made.sense made.opening) (λ memory. P (mail_heap made.sense memory))

  forms : HoldsOverIndex made now (λ heap. IsInForm mail_layout (hash.lane_of key) (segment_of heap segment))
  forms memory good fits =
      let words = after memory now.writes in
      open_in_form (hash.lane_of key) segment (still (IsIndex mail_layout) index memory good fits)
      (omega (arith, lanes_many (made_sizes made) words (after_length memory now.writes ∙ good.size)))
      (still (λ heap. Contains (lane_segments heap (hash.lane_of key)) segment) of_lane memory good fits)
      (open_over knows look.only.goes_on.active look.opened memory good fits)

  -- the numbers are small
  pub bounds : (1032 ≤ at) × (at + 6 ≤ segment_len) × (keys ≤ segment_len)
  bounds =
      let state = state_at made.opening mid.history now.start in
      let good = state_good knows look.only.goes_on.active in
      let fits = state_fits knows look.only.goes_on.active in
      let form = forms state good fits in
      let is_at = look.at_is state good fits in
      let are_keys = look.keys_are state good fits in
      let room = still (λ heap. free_of (segment_of heap segment) + 6 ≤ segment_len) free state good fits in
      (omega (arith, form.begins, is_at), omega (arith, is_at, room), omega (arith, form.filled, is_at, are_keys, room))

  module _ (in_range : hash.bucket_of key < 1024) (missing : HoldsOverIndex made before
      (λ heap. IsFound mail_layout (segment_of heap segment) key None)) where
    abbrev words : List Word
    words = record_words at (head_at (hash.bucket_of key)) head keys key

    abbrev wrote : Attempt
    wrote = with_words (made_sizes made) segment now words

    pub words_inside : All (λ (word : Word). word.addr < segment_len) words
    words_inside =
        let fits = bounds in
        let bucket : 8 + hash.bucket_of key < segment_len = omega (arith, in_range) in
        All-from_recursion (λ (word : Word). word.addr < segment_len) words (
          omega (arith, fits.1),
          (
            omega (arith, fits.1),
            (
              omega (arith, fits.1),
              (omega (arith, fits.1), (omega (arith, fits.1), (omega (arith, fits.1), (bucket, (omega arith, (omega arith, tt)))))),
            ),
          ),
        )

    stay : WithWords (made_sizes made) segment now wrote
    stay = words_stay (made_sizes made) segment now words

    -- what fits the attempt with the writes fitted it before them
    fits_then : (memory : List ℕ) → Fits memory wrote [] → Fits memory now []
    fits_then memory fits = record { reads = subst (λ reads. Agrees reads memory) stay.reads fits.reads; contents = fits.contents }

    module _ (memory : List ℕ) (good : IsGoodMail made.sense made.opening memory) (fits : Fits memory wrote []) where
      abbrev heap : Heap
      heap = mail_heap made.sense (after memory now.writes)

      abbrev grown : Heap
      grown = mail_heap made.sense (after memory wrote.writes)

      form : IsInForm mail_layout (hash.lane_of key) (segment_of heap segment)
      form = forms memory good (fits_then memory fits)

      many : length (segment_of heap segment) ≡ segment_len
      many = segment_many (made_sizes made) (after memory now.writes) (after_length memory now.writes ∙ good.size) segment look.opened.within

      fits_in : free_of (segment_of heap segment) + 6 ≤ length (segment_of heap segment)
      fits_in =
          let room = still (λ h. free_of (segment_of h segment) + 6 ≤ segment_len) free memory good (fits_then memory fits) in
          omega (arith, room, many)

      placed : WithRecord mail_layout key (segment_of heap segment) (after (segment_of heap segment) words)
      placed =
          let then = fits_then memory fits in
          let h = look.head_is memory good then in
          let a = look.at_is memory good then in
          let k = look.keys_are memory good then in
          subst (λ n. WithRecord mail_layout key (segment_of heap segment)
          (after (segment_of heap segment) (record_words n (head_at (hash.bucket_of key)) head keys key))) a
          (subst (λ n. WithRecord mail_layout key (segment_of heap segment)
          (after (segment_of heap segment) (record_words (free_of (segment_of heap segment)) (head_at (hash.bucket_of key)) n keys key))) h
          (subst (λ n. WithRecord mail_layout key (segment_of heap segment)
          (after (segment_of heap segment) (record_words (free_of (segment_of heap segment)) (head_at (hash.bucket_of key))
          (get_or (segment_of heap segment) (head_at (hash.bucket_of key)) 0) n key))) k
          (record_placed form in_range fits_in)))

      grown_is : grown ≡ in_segment heap segment (after (segment_of heap segment) words)
      grown_is = words_over (made_sizes made) segment now words memory look.opened.within (writes_apart knows look.only.goes_on.active) words_inside

      below : segment < length heap.segments
      below = omega (arith, look.opened.within, segments_many (made_sizes made) (after memory now.writes))

      grown_words : segment_of grown segment ≡ after (segment_of heap segment) words
      grown_words = ap (λ (h : Heap). segment_of h segment) grown_is
          ∙ changed_there (still (IsIndex mail_layout) index memory good (fits_then memory fits)) segment (after (segment_of heap segment) words) below

      with_record : WithRecord mail_layout key (segment_of heap segment) (segment_of grown segment)
      with_record = subst (WithRecord mail_layout key (segment_of heap segment)) (sym grown_words) placed

      is_inserted : IsInserted mail_layout segment key at heap grown
      is_inserted = record {
        at_free = sym (look.at_is memory good (fits_then memory fits));
        only = grown_is ∙ ap (in_segment heap segment) (sym grown_words);
        words = with_record;
      }

      is_found : IsRecordOf mail_layout (segment_of grown segment) key at
      is_found = subst (IsRecordOf mail_layout (segment_of grown segment) key) (look.at_is memory good (fits_then memory fits))
          (record_there with_record in_range)

      is_index : IsIndex mail_layout grown
      is_index =
          let then = fits_then memory fits in
          let was = still (IsIndex mail_layout) index memory good then in
          subst (IsIndex mail_layout) (sym grown_is)
          (index_changed was segment (after (segment_of heap segment) words) (hash.lane_of key)
          (omega (arith, lanes_many (made_sizes made) (after memory now.writes) (after_length memory now.writes ∙ good.size)))
          (still (λ h. Contains (lane_segments h (hash.lane_of key)) segment) of_lane memory good then)
          (open_over knows look.only.goes_on.active look.opened memory good then)
          (form_with_record placed in_range form refl (still (λ h. IsFound mail_layout (segment_of h segment) key None) missing memory good then) fits_in))

    pub inserted : Inserted made old mid before wrote segment key at
    inserted = record {
      more = record {
        goes_on = record { active = look.only.goes_on.active; later = look.only.goes_on.later; start = omega (arith, look.only.goes_on.start, stay.start) };
        reads = subst (IsBeginning before.reads) (sym stay.reads) look.only.reads;
        few = omega (arith, words_few (made_sizes made) segment now words, ap (λ (ws : List Word). length ws) look.only.writes);
        sealed = stay.sealed ∙ look.only.sealed;
        published = stay.published ∙ look.only.published;
        opened = λ other is. opened_with_words other stay (opened_after look.only is);
      };
      changed = λ memory good fits.
          subst (λ (writes : List Word). IsInserted mail_layout segment key at (mail_heap made.sense (after memory writes))
          (mail_heap made.sense (after memory wrote.writes))) look.only.writes
          (is_inserted memory good fits);
      found = is_found;
      index = is_index;
    }
