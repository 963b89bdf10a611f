-- The keys of a batch are put one after the other, and then the first words of the segments.
use Rattle.std.proofs.Common.{◌≡◌, ◌≢◌, ℕ, ◌+◌, ◌*◌, ◌<◌, ◌≤◌, Option, Some, None, List, [], length, get_or, set, sym, ◌∙◌, ap, subst, arith, inl, inr}
use Rattle.std.proofs.lemmas.Bool.{cases_eq}
use Rattle.std.proofs.lemmas.List.{take_all, length-set, get_or-set_same, get_or-set_other}
use Rattle.mail_words.specs.Key.{KeyNumbers}
use Rattle.mail_words.specs.Hash as hash
use Rattle.tx_model.specs.declared.pass.PassState.TheVariants.{Active}
use Rattle.tx_model.specs.declared.word.Word.{Word}
use Rattle.tx_model.specs.declared.view.Attempt.{Attempt}
use Rattle.tx_model.specs.declared.view.PassView.{PassView}
use Rattle.tx_model.specs.History.{state_at}
use Rattle.tx_model.specs.Memory.{after, Agrees}
use Rattle.tx_model.specs.Words.{AreApart}
use Rattle.tx_model.specs.Made.{Made}
use Rattle.tx_model.specs.Pass.{IsPass}
use Rattle.tx_model.specs.Attempt.{Fits}
use Rattle.tx_model.proofs.lemmas.Attempts.{state_good, writes_apart}
use Rattle.tx_heap.proofs.lemmas.Reads.{state_fits}
use Rattle.tx_model.proofs.lemmas.States.{after_length}
use Rattle.tx_heap.specs.Layout.{mail_layout}
use Rattle.tx_heap.specs.Pairwise.{Pairwise}
use Rattle.tx_heap.specs.Heap.{Heap, own_of, segment_of}
use Rattle.tx_heap.specs.Mail.{IsGoodMail, mail_heap, mail_budget}
use Rattle.tx_heap.specs.Calls.{made_sizes, HoldsOverIndex}
use Rattle.tx_heap.proofs.lemmas.HeapWords.{lanes_many, segments_many, segment_many}
use Rattle.tx_buckets.specs.Reading.{IsOpened}
use Rattle.tx_buckets.specs.Writing.{WritesMore, with_words}
use Rattle.tx_buckets.proofs.lemmas.Opened.{fitted_before_writes, holds_of_memory}
use Rattle.tx_buckets.proofs.lemmas.Writes.{words_stay, words_over, in_segment}
use Rattle.tx_postings.specs.Filling.{FitsPosting, looked_at, posting_words, PutPosting, CanFill, HasNone, PutAll, IsFilled}
use Rattle.tx_postings.specs.Heads.{headed, HasHeads, with_heads}
use Rattle.tx_postings.specs.declared.heads.Head.{Head}
use Rattle.tx_postings.proofs.FillSteps.{IsFilling, filling_none}
use Rattle.tx_postings.proofs.Headed.{headed_same}
use Rattle.tx_postings.proofs.Pending.{AreOwn, HaveApart, IsPending, lane_inside, same_head, own_segments_apart, pending_none, heads_over}
use Rattle.tx_postings.proofs.PostSteps.{posting_inside, posting_few, same_segment, head_fits, filling_then, pending_then, grown}
use Rattle.tx_postings.proofs.PutSteps.{writes_then, writes_few, writes_none, reads_write_none, words_more, heads_more}

-- the heap of each memory is filled, once the first words of the segments are written
pub record IsPutting (made : Made (List (List KeyNumbers))) (old new : PassView) (before now : Attempt) (message : ℕ) (keys : List KeyNumbers)
    (offsets : List (Option ℕ)) (k : ℕ) (heads : List (Option Head)) : Type 0 where
  pub knows : IsPass IsGoodMail mail_budget made new now
  pub more : WritesMore (made_sizes made) old new before now (9 * k)
  pub many : length heads ≡ 8
  pub opened : (lane : ℕ) (head : Head) → get_or heads lane None ≡ Some head → IsOpened (made_sizes made) before head.segment
  pub met : (j : ℕ) (key : KeyNumbers) → j < length keys → (head : Head) × (get_or heads (hash.lane_of (get_or keys j key)) None ≡ Some head)
  pub own : (memory : List ℕ) → IsGoodMail made.sense made.opening memory → Fits memory before [] → AreOwn heads (mail_heap made.sense memory)
  pub filling : (memory : List ℕ) → IsGoodMail made.sense made.opening memory → Fits memory now []
      → (virtual : Heap) × IsPending heads (mail_heap made.sense (after memory now.writes)) virtual
      × IsFilling mail_layout message keys offsets k (mail_heap made.sense memory) virtual

module _ (made : Made (List (List KeyNumbers))) (old : PassView) (before : Attempt) (message : ℕ) {keys : List KeyNumbers} {offsets : List (Option ℕ)}
    (none : before.writes ≡ [])
    (can : HoldsOverIndex made before (CanFill mail_layout keys offsets)) where
  -- of each memory, before the writes
  of_memory : (P : Heap → Type 0) → HoldsOverIndex made before P → (memory : List ℕ) → IsGoodMail made.sense made.opening memory
      → Fits memory before [] → P (mail_heap made.sense memory)
  of_memory P = holds_of_memory (IsGoodMail made.sense made.opening) (λ m. P (mail_heap made.sense m)) before [] none

  can_here : (memory : List ℕ) → IsGoodMail made.sense made.opening memory → Fits memory before []
      → CanFill mail_layout keys offsets (mail_heap made.sense memory)
  can_here = of_memory (CanFill mail_layout keys offsets) can

  pub putting_none : {heads : List (Option Head)} → IsPass IsGoodMail mail_budget made old before → old.state ≡ Active
      → HasHeads made old before keys (length keys) heads → IsPutting made old old before before message keys offsets 0 heads
  putting_none {heads} knows active has = record {
    knows = knows;
    more = writes_few (writes_none (made_sizes made) old before active) (9 * 0) (omega arith);
    many = has.many;
    opened = λ lane head is. (has.are lane head is).opened;
    met = λ j key below. has.met j key below below;
    own = λ memory good fits lane head is. of_memory (λ heap. own_of heap lane ≡ head.segment) (has.are lane head is).own memory good fits;
    filling = λ memory good fits. (
      mail_heap made.sense memory,
      subst (λ (words : List Word). IsPending heads (mail_heap made.sense (after memory words)) (mail_heap made.sense memory)) (sym none)
          (pending_none heads (mail_heap made.sense memory) (same memory good fits)),
      filling_none good.index (can_here memory good fits),
    );
  }
    where
      same : (memory : List ℕ) → IsGoodMail made.sense made.opening memory → Fits memory before [] → (lane : ℕ) (head : Head)
          → get_or heads lane None ≡ Some head
          → segment_of (mail_heap made.sense memory) head.segment ≡ headed head (segment_of (mail_heap made.sense memory) head.segment)
      same memory good fits lane head is =
          let are = has.are lane head is in
          headed_same head (segment_of (mail_heap made.sense memory) head.segment)
          (omega (arith, segment_many (made_sizes made) memory good.size head.segment are.opened.within))
          (of_memory (λ heap. get_or (segment_of heap head.segment) 0 0 ≡ head.free) are.free memory good fits)
          (of_memory (λ heap. get_or (segment_of heap head.segment) 1 0 ≡ head.keys) are.keys memory good fits)
          (of_memory (λ heap. get_or (segment_of heap head.segment) 2 0 ≡ head.cells) are.cells memory good fits)

  module _ {new : PassView} {now : Attempt} {k : ℕ} {heads : List (Option Head)}
      (putting : IsPutting made old new before now message keys offsets k heads) where
    apart_now : AreApart now.writes
    apart_now = writes_apart putting.knows putting.more.goes_on.active

    before_fits : (memory : List ℕ) → Fits memory now [] → Fits memory before []
    before_fits memory fits = fitted_before_writes putting.more memory fits

    have_apart : (memory : List ℕ) → IsGoodMail made.sense made.opening memory → Fits memory now [] → HaveApart heads
    have_apart memory good fits =
        own_segments_apart heads (mail_heap made.sense memory) good.index.grows.index.lanes
        (putting.many ∙ sym (lanes_many (made_sizes made) memory good.size)) (putting.own memory good (before_fits memory fits))

    pub opened_now : (lane : ℕ) (head : Head) → get_or heads lane None ≡ Some head → IsOpened (made_sizes made) now head.segment
    opened_now lane head is = putting.more.opened head.segment (putting.opened lane head is)

    -- ---- one key more
    module _ (below : k < length keys) (d : KeyNumbers) (head : Head) (is : get_or heads (hash.lane_of (get_or keys k d)) None ≡ Some head) where
      abbrev key : KeyNumbers
      key = get_or keys k d

      abbrev offset : Option ℕ
      offset = get_or offsets k None

      abbrev lane : ℕ
      lane = hash.lane_of key

      within : head.segment < (made_sizes made).segments
      within = (putting.opened lane head is).within

      -- the lane of a key is one of eight
      lane_below : (memory : List ℕ) → IsGoodMail made.sense made.opening memory → lane < length (mail_heap made.sense memory).lanes
      lane_below memory good = omega (arith, lanes_many (made_sizes made) memory good.size)

      inside : (memory : List ℕ) → head.segment < length (mail_heap made.sense (after memory now.writes)).segments
      inside memory = omega (arith, within, segments_many (made_sizes made) (after memory now.writes))

      whole : (memory : List ℕ) → IsGoodMail made.sense made.opening memory
          → length (segment_of (mail_heap made.sense (after memory now.writes)) head.segment) ≡ 32768
      whole memory good = segment_many (made_sizes made) (after memory now.writes) (after_length memory now.writes ∙ good.size) head.segment within

      pub fits_here : FitsPosting head offset
      fits_here =
          let state = state_at made.opening new.history now.start in
          let good = state_good putting.knows putting.more.goes_on.active in
          let fits = state_fits putting.knows putting.more.goes_on.active in
          let (virtual, pending, filling) = putting.filling state good fits in
          head_fits filling (can_here state good (before_fits state fits)) below good.index.grows.index.lanes d (lane_below state good) pending
          (putting.own state good (before_fits state fits)) head is (inside state) (whole state good)

      module _ {last : PassView} {after_put : Attempt} {then : Head} (once : Pairwise ◌≢◌ keys)
          (new_rows : HoldsOverIndex made before (HasNone mail_layout keys message))
          (put : PutPosting made new last now after_put key message offset head then) (know : IsPass IsGoodMail mail_budget made last after_put) where
        abbrev words : List Word
        words = posting_words head key offset put.was message

        abbrev wrote : Attempt
        wrote = with_words (made_sizes made) head.segment put.between words

        more_here : WritesMore (made_sizes made) new last now after_put 9
        more_here =
            subst (λ a. WritesMore (made_sizes made) new last now a 9) (sym put.wrote)
            (writes_then (reads_write_none put.read.only) (words_more (made_sizes made) last put.between head.segment words put.read.only.goes_on.active) 9
            (omega (arith, posting_few head key offset put.was message)))

        segment_is : then.segment ≡ head.segment
        segment_is = ap (λ (h : Head). h.segment) put.head_is ∙ same_segment head offset

        lane_in : lane < length heads
        lane_in = lane_inside heads lane head is

        now_here : get_or (set heads lane (Some then)) lane None ≡ Some then
        now_here = get_or-set_same heads lane (Some then) None lane_in

        -- what is so of the segments of the heads is so still
        still_of : (P : ℕ → ℕ → Type 0) → ((l : ℕ) (h : Head) → get_or heads l None ≡ Some h → P l h.segment) → (l : ℕ) (h : Head)
            → get_or (set heads lane (Some then)) l None ≡ Some h → P l h.segment
        still_of P was l h there =
            elim (cases_eq l lane) [
              | inl at ↦
                  let it : then ≡ h = same_head then h (sym now_here ∙ ap (λ i. get_or (set heads lane (Some then)) i None) (sym at) ∙ there) in
                  subst (λ n. P n h.segment) (sym at) (subst (P lane) (sym segment_is ∙ ap (λ (x : Head). x.segment) it) (was lane head is))
              | inr off ↦ was l h (sym (get_or-set_other heads lane l (Some then) None off) ∙ there)
            ]

        module _ (memory : List ℕ) (good : IsGoodMail made.sense made.opening memory) (fits : Fits memory after_put []) where
          now_fits : Fits memory now []
          now_fits = fitted_before_writes more_here memory fits

          between_fits : Fits memory put.between []
          between_fits =
              let stay = words_stay (made_sizes made) head.segment put.between words in
              record {
                reads = subst (λ reads. Agrees reads memory) (ap (λ (a : Attempt). a.reads) put.wrote ∙ stay.reads) fits.reads;
                contents = fits.contents;
              }

          abbrev real : Heap
          real = mail_heap made.sense (after memory now.writes)

          read_is : get_or (segment_of real head.segment) (looked_at key offset) 0 ≡ put.was
          read_is =
              subst (λ (writes : List Word). get_or (segment_of (mail_heap made.sense (after memory writes)) head.segment) (looked_at key offset) 0 ≡ put.was)
              put.read.only.writes (put.read.word memory good between_fits)

          next_is : mail_heap made.sense (after memory after_put.writes) ≡ in_segment real head.segment (after (segment_of real head.segment) words)
          next_is =
              ap (λ (a : Attempt). mail_heap made.sense (after memory a.writes)) put.wrote
              ∙ words_over (made_sizes made) head.segment put.between words memory within (subst AreApart (sym put.read.only.writes) apart_now)
              (posting_inside head key offset put.was message fits_here)
              ∙ ap (λ (writes : List Word).
              let heap = mail_heap made.sense (after memory writes) in
              in_segment heap head.segment (after (segment_of heap head.segment) words)) put.read.only.writes

          filled_then : (virtual : Heap) × IsPending (set heads lane (Some then)) (mail_heap made.sense (after memory after_put.writes)) virtual
              × IsFilling mail_layout message keys offsets (k + 1) (mail_heap made.sense memory) virtual
          filled_then =
              let (virtual, pending, filling) = putting.filling memory good now_fits in
              let first = before_fits memory now_fits in
              let can_fill = can_here memory good first in
              let lanes = good.index.grows.index.lanes in
              let own = putting.own memory good first in
              let in_lane = lane_below memory good in
              let all = whole memory good in
              let none_there = of_memory (HasNone mail_layout keys message) new_rows memory good first in (
                grown filling can_fill below lanes d in_lane pending own head is (inside memory) all put.was read_is,
                subst (λ (h : Head). IsPending (set heads lane (Some h)) (mail_heap made.sense (after memory after_put.writes))
                    (grown filling can_fill below lanes d in_lane pending own head is (inside memory) all put.was read_is)) (sym put.head_is)
                    (pending_then filling can_fill below lanes d in_lane pending own head is (inside memory) all put.was read_is
                    (have_apart memory good now_fits) (mail_heap made.sense (after memory after_put.writes)) next_is),
                filling_then filling can_fill below lanes d in_lane pending own head is (inside memory) all put.was read_is once none_there,
              )

        pub putting_more : IsPutting made old last before after_put message keys offsets (k + 1) (set heads lane (Some then))
        putting_more = record {
          knows = know;
          more = writes_then putting.more more_here (9 * (k + 1)) (omega arith);
          many = length-set heads lane (Some then) ∙ putting.many;
          opened = still_of (λ l segment. IsOpened (made_sizes made) before segment) putting.opened;
          met = λ j e inside_keys.
              elim (cases_eq (hash.lane_of (get_or keys j e)) lane) [
                | inl same ↦ (then, ap (λ i. get_or (set heads lane (Some then)) i None) same ∙ now_here)
                | inr off ↦
                    let (h, was) = putting.met j e inside_keys in
                    (h, get_or-set_other heads lane (hash.lane_of (get_or keys j e)) (Some then) None off ∙ was)
              ];
          own = λ memory good fits. still_of (λ l segment. own_of (mail_heap made.sense memory) l ≡ segment) (putting.own memory good fits);
          filling = filled_then;
        }

    -- ---- all keys are put
    abbrev done : Attempt
    done = with_heads (made_sizes made) now heads

    pub all_put : length keys ≤ k → k ≤ length keys → PutAll made old new before done keys message
    all_put all within = record {
      more =
          writes_then putting.more (heads_more (made_sizes made) new heads now putting.more.goes_on.active) (9 * length keys + 24)
          (omega (arith, all, within, putting.many));
      filled = λ memory good fits.
          let now_fits : Fits memory now [] = fitted_before_writes
          (heads_more (made_sizes made) new heads now putting.more.goes_on.active) memory fits in
          let (virtual, pending, filling) = putting.filling memory good now_fits in
          subst (λ heap. IsFilled mail_layout message keys (mail_heap made.sense memory) heap)
          (sym (heads_over (made_sizes made) memory good.size heads now virtual apart_now (have_apart memory good now_fits)
          (λ lane head is. (putting.opened lane head is).within) pending))
          (subst (λ ks. IsFilled mail_layout message ks (mail_heap made.sense memory) virtual) (take_all k keys all) filling.filled);
    }
