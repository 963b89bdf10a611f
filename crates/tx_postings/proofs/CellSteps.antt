-- The walk along the cells of a key's record, over every memory that fits the attempt.
use Rattle.std.proofs.Common.{◌≡◌, ◌≢◌, ℕ, ◌+◌, ◌<◌, ◌≤◌, Some, None, List, [], ◌∷◌, ◌++◌, get_or, refl, sym, ◌∙◌, ap, subst, arith, inl, inr}
use Rattle.std.proofs.lemmas.List.{append-nil, append_assoc}
use Rattle.mail_words.specs.Key.{KeyNumbers}
use Rattle.tx_model.specs.declared.word.Word.{Word}
use Rattle.tx_model.specs.declared.view.Attempt.{Attempt}
use Rattle.tx_model.specs.declared.view.PassView.{PassView}
use Rattle.tx_model.specs.History.{state_at, IsBeginning}
use Rattle.tx_model.specs.Memory.{after}
use Rattle.tx_model.specs.Made.{Made}
use Rattle.tx_model.specs.Pass.{IsPass}
use Rattle.tx_model.specs.Attempt.{Fits}
use Rattle.tx_heap.specs.Layout.{mail_layout}
use Rattle.tx_heap.specs.Segment.{newest_at, record_at}
use Rattle.tx_heap.specs.Heap.{segment_of}
use Rattle.tx_heap.specs.Index.{IsIndex}
use Rattle.tx_heap.specs.Mail.{IsGoodMail, mail_heap, mail_budget}
use Rattle.tx_model.specs.Calls.{OnlyReads}
use Rattle.tx_heap.specs.Calls.{made_sizes, HoldsOverIndex}
use Rattle.tx_model.proofs.lemmas.Attempts.{only_reads_then, state_good}
use Rattle.tx_heap.proofs.lemmas.Reads.{fitted_before_reads, holds_after_reads, state_fits}
use Rattle.tx_model.proofs.lemmas.States.{after_length}
use Rattle.tx_heap.proofs.lemmas.HeapWords.{segment_many}
use Rattle.tx_buckets.specs.Records.{IsRecordOf}
use Rattle.tx_buckets.specs.Reading.{IsOpened, ReadWord, FoundKey}
use Rattle.tx_buckets.proofs.AddSteps.{IsOpenInForm, open_forms}
use Rattle.tx_buckets.proofs.lemmas.Buckets.{piece_within, own_piece}
use Rattle.tx_postings.specs.Listing.{ListedOpen}
use Rattle.tx_postings.proofs.Cells.{IsWalk, walk_begins, walk_ended, walk_next, next_whole, next_falls}

-- where the walk is
pub record IsListing (made : Made (List (List KeyNumbers))) (old new : PassView) (before now : Attempt) (segment : ℕ) (key : KeyNumbers) (offset cell : ℕ)
    (items then : List ℕ) : Type 0 where
  pub only : OnlyReads old new before now
  pub opened : IsOpened (made_sizes made) now segment
  pub knows : IsPass IsGoodMail mail_budget made new now
  pub index : HoldsOverIndex made now (IsIndex mail_layout)
  pub here : HoldsOverIndex made now (λ heap. IsRecordOf mail_layout (segment_of heap segment) key offset)
  pub messages : List ℕ
  pub added : then ≡ items ++ messages
  pub walk : HoldsOverIndex made now (λ heap. IsWalk (segment_of heap segment) offset cell messages)

-- what was added comes behind what there was
pub begins_with : (items messages then : List ℕ) → then ≡ items ++ messages → IsBeginning items then
begins_with items messages then added = (messages, added)

-- the key has no record
pub listed_none : {made : Made (List (List KeyNumbers))} {old new : PassView} {before now : Attempt} {segment : ℕ} {key : KeyNumbers} (items : List ℕ)
    → FoundKey made old new before now segment key None
    → ListedOpen made old new before now key items items segment
listed_none items found = record {
  only = found.only;
  messages = [];
  added = sym (append-nil items);
  here = λ memory good fits. inr (found.found memory good fits, refl);
}

module _ {made : Made (List (List KeyNumbers))} {old mid : PassView} {before between : Attempt} {segment offset : ℕ} {key : KeyNumbers}
    (index : HoldsOverIndex made before (IsIndex mail_layout))
    (found : FoundKey made old mid before between segment key (Some offset)) (knows : IsPass IsGoodMail mail_budget made mid between) where
  index_then : HoldsOverIndex made between (IsIndex mail_layout)
  index_then = holds_after_reads found.only (IsGoodMail made.sense made.opening) (λ memory. IsIndex mail_layout (mail_heap made.sense memory)) index

  -- the record lies whole in the segment
  pub offset_inside : offset + 6 ≤ 32768
  offset_inside =
      let state = state_at made.opening mid.history between.start in
      let good = state_good knows found.only.goes_on.active in
      let fits = state_fits knows found.only.goes_on.active in
      let form = (open_forms knows found.only.goes_on.active found.opened index_then state good fits).form in
      let words = segment_of (mail_heap made.sense (after state between.writes)) segment in
      let is : IsRecordOf mail_layout words key offset = found.found state good fits in
      let whole = piece_within form (record_at words offset) (record { from = offset; len = 6 }) is.among (own_piece (record_at words offset)) in
      omega (
        arith,
        whole.1,
        form.ends,
        segment_many (made_sizes made) (after state between.writes)
            (after_length state between.writes ∙ good.size) segment found.opened.within,
      )

  -- its newest cell was read
  pub listing_begins : {new : PassView} {now : Attempt} {cell : ℕ} (items : List ℕ) → ReadWord made mid new between now segment (offset + newest_at) cell
      → IsPass IsGoodMail mail_budget made new now
      → IsListing made old new before now segment key offset cell items items
  listing_begins {new} {now} {cell} items word know = record {
    only = only_reads_then found.only word.only;
    opened = word.opened;
    knows = know;
    index = holds_after_reads word.only (IsGoodMail made.sense made.opening) (λ memory. IsIndex mail_layout (mail_heap made.sense memory)) index_then;
    here =
        holds_after_reads word.only (IsGoodMail made.sense made.opening)
        (λ memory. IsRecordOf mail_layout (segment_of (mail_heap made.sense memory) segment) key offset) found.found;
    messages = [];
    added = sym (append-nil items);
    walk = λ memory good fits. walk_from (segment_of (mail_heap made.sense (after memory now.writes)) segment) (word.word memory good fits);
  }
    where
      walk_from : (words : List ℕ) → get_or words (offset + newest_at) 0 ≡ cell → IsWalk words offset cell []
      walk_from words is = subst (λ at. IsWalk words offset at []) is (walk_begins words offset)

module _ {made : Made (List (List KeyNumbers))} {old new : PassView} {before now : Attempt} {segment : ℕ} {key : KeyNumbers} {offset cell : ℕ}
    {items then : List ℕ}
    (l : IsListing made old new before now segment key offset cell items then) where
  forms : (memory : List ℕ) → IsGoodMail made.sense made.opening memory → Fits memory now []
      → IsOpenInForm segment (mail_heap made.sense (after memory now.writes))
  forms = open_forms l.knows l.only.goes_on.active l.opened l.index

  -- the cells have ended
  pub listed_all : cell ≡ 0 → ListedOpen made old new before now key items then segment
  listed_all none = record {
    only = l.only;
    messages = l.messages;
    added = l.added;
    here = λ memory good fits.
        let here = l.here memory good fits in
        inl (offset, here, walk_ended (forms memory good fits).form here (l.walk memory good fits) none);
  }

  module _ (some : cell ≢ 0) where
    -- the cell lies whole in the segment
    pub cell_inside : cell + 2 ≤ 32768
    cell_inside =
        let state = state_at made.opening new.history now.start in
        let good = state_good l.knows l.only.goes_on.active in
        let fits = state_fits l.knows l.only.goes_on.active in
        let form = (forms state good fits).form in
        let whole = next_whole form (l.here state good fits) (l.walk state good fits) some in
        omega (
          arith,
          whole.1,
          form.ends,
          segment_many (made_sizes made) (after state now.writes)
              (after_length state now.writes ∙ good.size) segment l.opened.within,
        )

    -- its message and its link were read
    module _ {mid last : PassView} {then_now after_next : Attempt} {message next : ℕ} (word : ReadWord made new mid now then_now segment cell message)
        (link : ReadWord made mid last then_now after_next segment (cell + 1) next)
        (know : IsPass IsGoodMail mail_budget made last after_next) where
      both : OnlyReads new last now after_next
      both = only_reads_then word.only link.only

      message_is : (memory : List ℕ) → IsGoodMail made.sense made.opening memory → Fits memory after_next []
          → get_or (segment_of (mail_heap made.sense (after memory now.writes)) segment) cell 0 ≡ message
      message_is memory good fits =
          subst (λ (writes : List Word). get_or (segment_of (mail_heap made.sense (after memory writes)) segment) cell 0 ≡ message) word.only.writes
          (word.word memory good (fitted_before_reads link.only memory fits))

      next_is : (memory : List ℕ) → IsGoodMail made.sense made.opening memory → Fits memory after_next []
          → get_or (segment_of (mail_heap made.sense (after memory now.writes)) segment) (cell + 1) 0 ≡ next
      next_is memory good fits =
          subst (λ (writes : List Word). get_or (segment_of (mail_heap made.sense (after memory writes)) segment) (cell + 1) 0 ≡ next) both.writes
          (link.word memory good fits)

      pub falls : next < cell
      falls =
          let state = state_at made.opening last.history after_next.start in
          let good = state_good know link.only.goes_on.active in
          let fits = state_fits know link.only.goes_on.active in
          let then_fits = fitted_before_reads both state fits in
          let fall = next_falls (forms state good then_fits).form (l.here state good then_fits) (l.walk state good then_fits) some in
          omega (arith, fall, next_is state good fits)

      pub lists_on : IsListing made old last before after_next segment key offset next items (then ++ message ∷ [])
      lists_on = record {
        only = only_reads_then l.only both;
        opened = link.opened;
        knows = know;
        index = holds_after_reads both (IsGoodMail made.sense made.opening) (λ memory. IsIndex mail_layout (mail_heap made.sense memory)) l.index;
        here =
            holds_after_reads both (IsGoodMail made.sense made.opening)
            (λ memory. IsRecordOf mail_layout (segment_of (mail_heap made.sense memory) segment) key offset) l.here;
        messages = l.messages ++ message ∷ [];
        added = ap (λ xs. xs ++ message ∷ []) l.added ∙ append_assoc items l.messages (message ∷ []);
        walk = λ memory good fits.
            let then_fits = fitted_before_reads both memory fits in
            let step = walk_next (forms memory good then_fits).form (l.here memory good then_fits) (l.walk memory good then_fits) some in
            subst (λ (writes : List Word). IsWalk (segment_of (mail_heap made.sense (after memory writes)) segment) offset next (l.messages ++ message ∷ []))
            (sym both.writes)
            (walk_is (segment_of (mail_heap made.sense (after memory now.writes)) segment) step (message_is memory good fits) (next_is memory good fits));
      }
        where
          walk_is : (words : List ℕ) → IsWalk words offset (get_or words (cell + 1) 0) (l.messages ++ get_or words cell 0 ∷ []) → get_or words cell 0 ≡ message
              → get_or words (cell + 1) 0 ≡ next
              → IsWalk words offset next (l.messages ++ message ∷ [])
          walk_is words walk is_message is_next =
              subst (λ at. IsWalk words offset at (l.messages ++ message ∷ [])) is_next
              (subst (λ m. IsWalk words offset (get_or words (cell + 1) 0) (l.messages ++ m ∷ [])) is_message walk)
