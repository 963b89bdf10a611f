-- What the calls in `leave_full` find, and that the attempt may be committed.
use Rattle.std.proofs.Common.{◌≡◌, ◌≢◌, ℕ, ◌+◌, ◌-◌, ◌<◌, ◌≤◌, Some, None, List, [], length, sym, ◌∙◌, ap, subst, arith}
use Rattle.mail_words.specs.Key.{KeyNumbers}
use Rattle.tx_model.specs.declared.word.Word.{Word}
use Rattle.tx_model.specs.declared.view.Attempt.{Attempt}
use Rattle.tx_model.specs.declared.view.PassView.{PassView}
use Rattle.tx_model.specs.History.{IsBeginning, state_at}
use Rattle.tx_model.specs.Memory.{after}
use Rattle.tx_model.specs.Words.{value_of, put}
use Rattle.tx_model.specs.Made.{Made}
use Rattle.tx_model.specs.Pass.{IsPass}
use Rattle.tx_model.specs.Attempt.{Fits, MayCommit, starting_at}
use Rattle.tx_model.proofs.lemmas.Memories.{after_commit_none}
use Rattle.tx_model.proofs.lemmas.Values.{put_last, no_value}
use Rattle.tx_heap.specs.Layout.{mail_layout, segment_len, pool_at}
use Rattle.tx_heap.specs.Segment.{free_of}
use Rattle.tx_heap.specs.Heap.{Heap, own_of, segment_of, budget_of}
use Rattle.tx_heap.specs.Index.{IsIndex, MayGrow, IsGoodIndex}
use Rattle.tx_heap.specs.Fresh.{IsOwnFull, with_fresh}
use Rattle.tx_heap.specs.Mail.{IsGoodMail, mail_heap, mail_budget}
use Rattle.tx_model.specs.Calls.{OnlyReads}
use Rattle.tx_heap.specs.Calls.{made_sizes, HoldsOverIndex, OpenedSegment, MadeFresh}
use Rattle.tx_model.proofs.lemmas.Attempts.{only_reads_then, holds_unwritten, state_good}
use Rattle.tx_heap.proofs.lemmas.Reads.{fits_alone, holds_after_reads, state_fits}
use Rattle.tx_model.proofs.lemmas.Calls.{goes_on_then}
use Rattle.tx_model.proofs.lemmas.States.{after_length}
use Rattle.tx_heap.proofs.lemmas.FreshSegment.{fresh_good, fresh_budget}
use Rattle.tx_heap.proofs.lemmas.HeapWords.{lanes_many, segments_many, segment_many}
use Rattle.tx_buckets.specs.Reading.{IsOpened, ReadWord}
use Rattle.tx_buckets.proofs.AddSteps.{open_forms}
use Rattle.tx_buckets.proofs.lemmas.Opened.{opened_here, opened_only, gate_reads_begin, fitted_with_fewer, holds_of_memory}
use Rattle.tx_postings.specs.declared.leaving.Leaving.TheVariants.{Fresh, Moved, Roomy}
use Rattle.tx_postings.specs.declared.leaving.Leaving.{Leaving}
use Rattle.tx_postings.specs.Leaving.{IsLeaving, Leaves, LeftFull}

some_not_none : (value : ℕ) → Some value ≡ None → ⊥
some_not_none value e = cc

-- a write leaves a word
pub put_some : (words : List Word) (addr value : ℕ) → put words addr value ≢ []
put_some words addr value none = some_not_none value (sym (put_last words addr value) ∙ ap (λ (ws : List Word). value_of ws addr) none ∙ no_value addr)

-- an attempt that only read, with the answer of the memories that fit it
only_read : {made : Made (List (List KeyNumbers))} {old new : PassView} {before now : Attempt} {lane segment : ℕ} {leaving : Leaving}
    → before ≡ starting_at before.start → OnlyReads old new before now
    → ((memory : List ℕ) → IsGoodMail made.sense made.opening memory → Fits memory now [] → IsLeaving lane segment leaving (mail_heap made.sense memory))
    → (now.writes ≡ [] → Leaves made.sense made.opening lane segment leaving now) → LeftFull made old new before now lane segment leaving
only_read start only is wrote =
    let none = only.writes ∙ ap (λ (a : Attempt). a.writes) start in
    record {
      ready = record { goes_on = only.goes_on; may = λ some. absurd (some none) };
      did = record {
        is = is;
        wrote = wrote none;
        sealed = only.sealed ∙ ap (λ (a : Attempt). a.sealed) start;
        published = only.published ∙ ap (λ (a : Attempt). a.published) start;
      };
    }

module _ {made : Made (List (List KeyNumbers))} {old mid : PassView} {before a1 : Attempt} {lane current : ℕ} (new : before ≡ starting_at before.start)
    (opened : OpenedSegment made old mid before a1 lane current) where
  no_writes : a1.writes ≡ []
  no_writes = opened.goes_on.writes ∙ ap (λ (a : Attempt). a.writes) new

  -- the segment that was opened may be read
  pub open_here : IsOpened (made_sizes made) a1 current
  open_here = opened_here (ap (λ (a : Attempt). a.writes) new) (ap (λ (a : Attempt). a.published) new) opened

  pub moved : (segment : ℕ) → current ≢ segment → LeftFull made old mid before a1 lane segment (Moved current)
  moved segment other = only_read new (opened_only opened) (λ memory good fits. (
    holds_of_memory (IsGoodMail made.sense made.opening)
        (λ m. own_of (mail_heap made.sense m) lane ≡ current) a1 [] no_writes opened.own memory good fits,
    other,
  )) (λ none. none)

  module _ {last : PassView} {a2 : Attempt} {segment used : ℕ} (same : current ≡ segment) (word : ReadWord made mid last a1 a2 segment 0 used)
      (knows : IsPass IsGoodMail mail_budget made last a2) where
    still_none : a2.writes ≡ []
    still_none = word.only.writes ∙ no_writes

    only : OnlyReads old last before a2
    only = only_reads_then (opened_only opened) word.only

    -- of each memory
    own_is : (memory : List ℕ) → IsGoodMail made.sense made.opening memory → Fits memory a2 [] → own_of (mail_heap made.sense memory) lane ≡ segment
    own_is =
        holds_of_memory (IsGoodMail made.sense made.opening) (λ m. own_of (mail_heap made.sense m) lane ≡ segment) a2 [] still_none
        (holds_after_reads word.only (IsGoodMail made.sense made.opening) (λ m. own_of (mail_heap made.sense m) lane ≡ segment)
        (subst (λ s. HoldsOverIndex made a1 (λ heap. own_of heap lane ≡ s)) same opened.own))

    used_is : (memory : List ℕ) → IsGoodMail made.sense made.opening memory → Fits memory a2 []
        → free_of (segment_of (mail_heap made.sense memory) segment) ≡ used
    used_is =
        holds_of_memory (IsGoodMail made.sense made.opening)
        (λ m. free_of (segment_of (mail_heap made.sense m) segment) ≡ used) a2 [] still_none word.word

    index_over : HoldsOverIndex made a2 (IsIndex mail_layout)
    index_over =
        holds_unwritten (IsGoodMail made.sense made.opening) (λ m. IsIndex mail_layout (mail_heap made.sense m)) a2 [] still_none
        (λ m good. good.index.grows.index)

    -- the free offset lies in the segment
    pub used_small : used ≤ segment_len
    used_small =
        let state = state_at made.opening last.history a2.start in
        let good = state_good knows word.only.goes_on.active in
        let fits = state_fits knows word.only.goes_on.active in
        let form = (open_forms knows word.only.goes_on.active word.opened index_over state good fits).form in
        omega (
          arith,
          form.ends,
          word.word state good fits,
          segment_many (made_sizes made) (after state a2.writes)
              (after_length state a2.writes ∙ good.size) segment word.opened.within,
        )

    pub roomy : (free : ℕ) → free ≡ segment_len - used → 128 ≤ free → LeftFull made old last before a2 lane segment (Roomy free)
    roomy free is enough =
        only_read new only (λ memory good fits. (own_is memory good fits, is ∙ ap (λ u. segment_len - u) (sym (used_is memory good fits)), enough))
        (λ none. none)

    pub may_grow : HoldsOverIndex made a2 (MayGrow mail_layout)
    may_grow =
        holds_unwritten (IsGoodMail made.sense made.opening) (λ m. MayGrow mail_layout (mail_heap made.sense m)) a2 [] still_none
        (λ m good. good.index.grows)

    full_of : (free : ℕ) → free ≡ segment_len - used → free < 128 → (memory : List ℕ) → IsGoodMail made.sense made.opening memory → Fits memory a2 []
        → IsOwnFull lane segment (mail_heap made.sense memory)
    full_of free is few memory good fits = record { own = own_is memory good fits; full = omega (arith, used_is memory good fits, is, few) }

    pub own_full : (free : ℕ) → free ≡ segment_len - used → free < 128 → HoldsOverIndex made a2 (IsOwnFull lane segment)
    own_full free is few memory good fits =
        subst (λ (words : List Word). IsOwnFull lane segment (mail_heap made.sense (after memory words))) (sym still_none)
        (full_of free is few memory good fits)

    module _ {final : PassView} {a3 : Attempt} {free fresh : ℕ} (below : lane < 8) (is : free ≡ segment_len - used) (few : free < 128)
        (fresh_made : MadeFresh made last final a2 a3 lane segment fresh) where
      fits_before : (memory : List ℕ) → Fits memory a3 [] → Fits memory a2 []
      fits_before memory fits =
          fitted_with_fewer
          (subst (IsBeginning a2.reads) (sym fresh_made.goes_on.reads) (gate_reads_begin made a2 pool_at fresh fresh 0)) memory fits

      grown : (memory : List ℕ) → IsGoodMail made.sense made.opening memory → Fits memory a3 []
          → mail_heap made.sense (after memory a3.writes) ≡ with_fresh mail_layout lane segment (mail_heap made.sense memory)
      grown memory good fits =
          (fresh_made.changed memory good fits).1 ∙ ap
          (λ (words : List Word). with_fresh mail_layout lane segment (mail_heap made.sense (after memory words))) still_none

      some_writes : a3.writes ≢ []
      some_writes none = put_some _ pool_at (fresh + 1) (sym fresh_made.goes_on.writes ∙ none)

      no_publish : a3.published ≡ []
      no_publish = fresh_made.goes_on.published ∙ only.published ∙ ap (λ (a : Attempt). a.published) new

      may : MayCommit (IsGoodMail made.sense made.opening) (mail_budget made.sense) a3 final.owned
      may memory good all_fit =
          let heap = mail_heap made.sense memory in
          let fits = fits_alone all_fit in
          let lanes_below : lane < length heap.lanes = omega (arith, below, lanes_many (made_sizes made) memory good.size) in
          let is_full = full_of free is few memory good (fits_before memory fits) in
          let sized = λ (s : ℕ) (inside : s < length heap.segments). segment_many (made_sizes made) memory good.size s
          (omega (arith, inside, segments_many (made_sizes made) memory)) in
          let after_it = after_commit_none memory a3 final.owned no_publish in
          let then = grown memory good fits in (
            subst (IsGoodMail made.sense made.opening) (sym after_it) (record {
              opened = good.opened;
              size = after_length memory a3.writes ∙ good.size;
              index =
                  subst (IsGoodIndex mail_layout made.sense) (sym then)
                  (fresh_good heap good.index.grows lane segment lanes_below is_full.own sized is_full.full made.sense good.index.rows);
            }),
            subst (λ m. mail_budget made.sense m < mail_budget made.sense memory) (sym after_it)
                (subst (λ (h : Heap). budget_of h < mail_budget made.sense memory) (sym then)
                (fresh_budget heap good.index.grows lane segment lanes_below is_full.own sized is_full.full)),
          )

      pub left : LeftFull made old final before a3 lane segment (Fresh fresh)
      left = record {
        ready = record { goes_on = goes_on_then only.goes_on fresh_made.goes_on.goes_on; may = λ some. may };
        did = record {
          is = λ memory good fits.
              let then = fits_before memory fits in (
                full_of free is few memory good then,
                ap (λ (words : List Word). (mail_heap made.sense (after memory words)).pool) (sym still_none) ∙ (fresh_made.changed memory good fits).0,
              );
          wrote = record { some = some_writes; changed = grown };
          sealed = fresh_made.goes_on.sealed ∙ only.sealed ∙ ap (λ (a : Attempt). a.sealed) new;
          published = no_publish;
        };
      }
