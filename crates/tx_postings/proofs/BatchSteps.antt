-- The steps of `fill_batch`: the need is read, the keys are looked for and put, and the need is lowered.
use Rattle.std.proofs.Common.{◌≡◌, ◌≢◌, ℕ, ◌-◌, ◌<◌, ◌≤◌, ◌++◌, Option, List, [], length, get_or, set, take, drop, refl, sym, ◌∙◌, ap, subst, arith, inl, inr}
use Rattle.std.specs.Prelude.{Contains}
use Rattle.std.specs.List.Sorted.{IsStrictlySortedBy}
use Rattle.std.proofs.lemmas.List.{length-take, length-drop, take-append-drop, set-get_or, nil_from_length}
use Rattle.std.proofs.lemmas.List.Elements.{Contains-append_left}
use Rattle.mail_words.specs.Key.{KeyNumbers, key_cmp}
use Rattle.tx_model.specs.declared.pass.PassState.TheVariants.{Active}
use Rattle.tx_model.specs.declared.pass.Stop.{Stop}
use Rattle.tx_model.specs.declared.gate.Region.{Region}
use Rattle.tx_model.specs.declared.history.Commit.{Commit}
use Rattle.tx_model.specs.declared.word.Word.{Word}
use Rattle.tx_model.specs.declared.view.Attempt.{Attempt}
use Rattle.tx_model.specs.declared.view.PassView.{PassView}
use Rattle.tx_model.specs.History.{state_at}
use Rattle.tx_model.specs.Memory.{after}
use Rattle.tx_model.specs.Made.{Made, IsMade}
use Rattle.tx_model.specs.Pass.{IsPass}
use Rattle.tx_model.specs.Attempt.{Fits, MayRead, MayWrite, MayCommit, starting_at}
use Rattle.tx_model.specs.Calls.{IsStopped, Read, with_write}
use Rattle.tx_model.proofs.lemmas.Memories.{after_commit_none}
use Rattle.tx_heap.specs.Layout.{mail_layout, need_at}
use Rattle.tx_heap.specs.Pairwise.{Pairwise}
use Rattle.tx_heap.specs.Heap.{Heap, need_of, budget_of}
use Rattle.tx_heap.specs.Index.{list_of, IsGoodIndex}
use Rattle.tx_heap.specs.Mail.{AllowsRegions, IsGoodMail, mail_heap, mail_budget}
use Rattle.tx_model.specs.Calls.{OnlyReads}
use Rattle.tx_heap.specs.Calls.{made_sizes, HoldsOverIndex}
use Rattle.tx_heap.proofs.lemmas.Addresses.{may_read_below, may_write_plain}
use Rattle.tx_model.proofs.lemmas.Attempts.{read_only, only_reads_then, put_few, writes_apart, state_good}
use Rattle.tx_model.proofs.lemmas.Attempts as attempts
use Rattle.tx_heap.proofs.lemmas.Reads.{fits_alone, fitted_before_reads, value_read_over, state_fits}
use Rattle.tx_model.proofs.lemmas.Calls.{goes_on_then, ended_after}
use Rattle.tx_model.proofs.lemmas.Memories.{after_put}
use Rattle.tx_model.proofs.lemmas.States.{after_length}
use Rattle.tx_heap.proofs.lemmas.HeapWords.{need_word, heap_with_need}
use Rattle.tx_heap.proofs.lemmas.Stops.{stopped_after}
use Rattle.tx_heap.proofs.lemmas.Lanes.{contains_none}
use Rattle.tx_buckets.proofs.lemmas.Opened.{fitted_before_writes, holds_of_memory}
use Rattle.tx_postings.specs.Batch.{batch_of, AddsKeys, HasRoomFor, LacksRoom}
use Rattle.tx_postings.specs.Filling.{CanFill, HasNone, PutAll, IsFilled}
use Rattle.tx_postings.specs.Filled.{Filled, NotFilled}
use Rattle.tx_postings.specs.Looking.{LookedUp, LookRefused}
use Rattle.tx_postings.specs.declared.heads.Head.{Head}
use Rattle.tx_postings.specs.declared.stops.FillStop.{FillStop}
use Rattle.tx_postings.specs.declared.stops.FillStop.TheVariants.{Room, Stopped}
use Rattle.tx_postings.proofs.Distinct.{distinct}
use Rattle.tx_postings.proofs.Pairs.{pairs_front, pairs_back, pairs_across}
use Rattle.tx_postings.proofs.Lowered.{lowered, lowered_good, lowered_budget, adds_keys}
use Rattle.tx_postings.proofs.LookSteps.{take_words_same}

-- what may be read and written
pub may_read_need : {made : Made (List (List KeyNumbers))} (attempt : Attempt) (message addr : ℕ) → IsMade AllowsRegions IsGoodMail made
    → message ≤ (made_sizes made).messages → addr ≡ need_at message → MayRead made.regions attempt addr
may_read_need {made} attempt message addr is_made to_last at =
    subst (λ (regions : List Region). MayRead regions attempt addr) (sym is_made.allowed)
    (may_read_below (made_sizes made) attempt addr (omega (arith, at, to_last)))

pub may_write_need : {made : Made (List (List KeyNumbers))} (attempt : Attempt) (message addr value : ℕ) → IsMade AllowsRegions IsGoodMail made
    → message ≤ (made_sizes made).messages → addr ≡ need_at message → MayWrite made.regions attempt addr value
may_write_need {made} attempt message addr value is_made to_last at =
    subst (λ (regions : List Region). MayWrite regions attempt addr value) (sym is_made.allowed)
    (may_write_plain (made_sizes made) attempt addr value (omega (arith, at, to_last)) (inl (omega (arith, at, to_last))))

module _ {made : Made (List (List KeyNumbers))} {old v1 : PassView} {before a1 : Attempt} {message need addr : ℕ} (new : before ≡ starting_at before.start)
    (from_one : 1 ≤ message) (to_last : message ≤ (made_sizes made).messages)
    (at : addr ≡ need_at message) (knew : IsPass IsGoodMail mail_budget made old before) (active : old.state ≡ Active)
    (read : Read made.opening old v1 before a1 addr need) (knows : IsPass IsGoodMail mail_budget made v1 a1) where
  abbrev list : List KeyNumbers
  list = list_of made.sense message

  only_need : OnlyReads old v1 before a1
  only_need = read_only read

  pub unwritten : (a1.writes ≡ []) × (a1.published ≡ [])
  unwritten = (read.writes ∙ ap (λ (a : Attempt). a.writes) new, read.published ∙ ap (λ (a : Attempt). a.published) new)

  -- the need in each memory
  need_is : (memory : List ℕ) → IsGoodMail made.sense made.opening memory → Fits memory a1 [] → need_of (mail_heap made.sense memory) message ≡ need
  need_is memory good fits =
      need_word (made_sizes made) memory message from_one to_last
      ∙ ap (λ a. get_or memory a 0) (sym at)
      ∙ ap (λ (words : List Word). get_or (after memory words) addr 0) (sym unwritten.0)
      ∙ value_read_over read (writes_apart knew active) memory (omega (arith, at, to_last, good.size)) fits

  pub need_within : need ≤ length list
  need_within =
      let state = state_at made.opening v1.history a1.start in
      let good = state_good knows read.goes_on.active in
      let fits = state_fits knows read.goes_on.active in
      omega (arith, need_is state good fits, good.index.rows.to_come message from_one to_last)

  -- ---- no word is to come
  pub filled_nothing : need ≡ 0 → Filled made old v1 before a1 message 0
  filled_nothing zero_need = record {
    goes_on = read.goes_on;
    sealed = read.sealed;
    published = read.published;
    few = omega (arith, ap (λ (ws : List Word). length ws) unwritten.0);
    left_is = λ memory good fits. omega (arith, need_is memory good fits, zero_need);
    adds = λ memory good fits.
        subst (λ (words : List Word). AddsKeys mail_layout message (batch_of made.sense (mail_heap made.sense memory) message) (mail_heap made.sense memory)
        (mail_heap made.sense (after memory words))) (sym unwritten.0)
        (subst (λ ks. AddsKeys mail_layout message ks (mail_heap made.sense memory) (mail_heap made.sense memory)) (sym (no_keys memory good fits))
        (nothing (mail_heap made.sense memory)));
    room =
        λ memory good fits. subst (λ ks. HasRoomFor mail_layout ks (mail_heap made.sense memory)) (sym (no_keys memory good fits))
        (λ lane below count takes. omega (arith, takes));
    none = λ memory good fits is. unwritten.0;
    may = λ some. absurd (some unwritten.0);
  }
    where
      no_keys : (memory : List ℕ) → IsGoodMail made.sense made.opening memory → Fits memory a1 []
          → batch_of made.sense (mail_heap made.sense memory) message ≡ []
      no_keys memory good fits =
          let is = need_is memory good fits in
          nil_from_length (batch_of made.sense (mail_heap made.sense memory) message)
          (omega (
            arith,
            is,
            zero_need,
            length-take 16 (drop (length list - need_of (mail_heap made.sense memory) message) list),
            length-drop
                (length list - need_of (mail_heap made.sense memory) message) list,
          ))

      nothing : (heap : Heap) → AddsKeys mail_layout message [] heap heap
      nothing heap =
          let same : need_of heap message - 0 ≡ need_of heap message = omega arith in
          record {
            pool = refl;
            lanes = refl;
            gates = refl;
            links = refl;
            needs = sym (ap (set heap.needs (message - 1)) same ∙ set-get_or heap.needs (message - 1) 0);
            rows = λ row. (λ there. inl there, λ either. elim either [ inl there ↦ there | inr added ↦ absurd (contains_none row.0 added.1) ]);
            others = λ segment apart. refl;
          }

  -- ---- some are
  module _ {keys : List KeyNumbers} (keys_are : keys ≡ take 16 (drop (length list - need) list)) (rises : IsStrictlySortedBy key_cmp list) where
    pub keys_few : (length keys ≤ 16) × (length keys ≤ need)
    keys_few =
        let many = ap (λ (ks : List KeyNumbers). length ks) keys_are in
        let within = need_within in (
          omega (arith, many, length-take 16 (drop (length list - need) list)),
          omega
              (arith, many, within, length-take 16 (drop (length list - need) list), length-drop (length list - need) list),
        )

    -- the batch of each memory is these keys
    batch_is : (memory : List ℕ) → IsGoodMail made.sense made.opening memory → Fits memory a1 []
        → batch_of made.sense (mail_heap made.sense memory) message ≡ keys
    batch_is memory good fits = ap (λ n. take 16 (drop (length list - n) list)) (need_is memory good fits) ∙ sym keys_are

    to_come : Pairwise ◌≢◌ (take (length list - need) list ++ drop (length list - need) list)
    to_come = subst (Pairwise ◌≢◌) (sym (take-append-drop (length list - need) list)) (distinct list rises)

    pub once : Pairwise ◌≢◌ keys
    once =
        let rest = pairs_back ◌≢◌ (take (length list - need) list) (drop (length list - need) list) to_come in
        subst (Pairwise ◌≢◌) (sym keys_are)
        (pairs_front ◌≢◌ (take 16 (drop (length list - need) list)) (drop 16 (drop (length list - need) list))
        (subst (Pairwise ◌≢◌) (sym (take-append-drop 16 (drop (length list - need) list))) rest))

    among_rest : (key : KeyNumbers) → Contains keys key → Contains (drop (length list - need) list) key
    among_rest key there =
        subst (λ ks. Contains ks key) (take-append-drop 16 (drop (length list - need) list))
        (Contains-append_left (take 16 (drop (length list - need) list)) (drop 16 (drop (length list - need) list)) key
        (subst (λ ks. Contains ks key) keys_are there))

    -- a refusal
    pub not_filled : (shows : List Commit → ℕ → List ℕ → Stop → Type 0) (last : PassView) (stop : FillStop) → LookRefused made shows v1 last a1 keys stop
        → NotFilled made shows old last before message stop
    not_filled shows last (Stopped stop) stopped = stopped_after only_need stopped
    not_filled shows last (Room lane segment free needs) lacked = record {
      ended = ended_after read.goes_on lacked.ended;
      from = lacked.from;
      no_older = omega (arith, read.goes_on.start, lacked.no_older);
      within = lacked.within;
      good = lacked.good;
      fits = attempts.fitted_before_reads only_need (state_at made.opening last.history lacked.from) lacked.fits;
      lacks =
          subst (λ ks. LacksRoom mail_layout ks lane segment free needs (mail_heap made.sense (state_at made.opening last.history lacked.from)))
          (sym (batch_is (state_at made.opening last.history lacked.from) lacked.good (fits_alone lacked.fits))) lacked.lacks;
    }

    module _ {v2 : PassView} {a2 : Attempt} {offsets : List (Option ℕ)} {heads : List (Option Head)} (up : LookedUp made v1 v2 a1 a2 keys offsets heads) where
      no_writes : a2.writes ≡ []
      no_writes = up.only.writes ∙ unwritten.0

      pub none_there : HoldsOverIndex made a2 (HasNone mail_layout keys message)
      none_there memory good fits =
          subst (λ (words : List Word). HasNone mail_layout keys message (mail_heap made.sense (after memory words))) (sym no_writes) (λ key there row.
          let first_fits = fitted_before_reads up.only memory fits in
          let (some, most, added) = (good.index.rows.exactly (key, message)).0 row in
          let before_need = subst (λ n. Contains (take (length list - n) list) key) (need_is memory good first_fits) added in
          pairs_across ◌≢◌ (take (length list - need) list) (drop (length list - need) list) key key to_come before_need (among_rest key there) refl)

      pub put_stopped : {shows : List Commit → ℕ → List ℕ → Stop → Type 0} {last : PassView} {stop : Stop} → IsStopped shows made.opening v2 last a2 stop
          → IsStopped shows made.opening old last before stop
      put_stopped stopped = stopped_after (only_reads_then only_need up.only) stopped

      module _ {v3 : PassView} {a3 : Attempt} (some : need ≢ 0) (put_all : PutAll made v2 v3 a2 a3 keys message)
          (know : IsPass IsGoodMail mail_budget made v3 a3) where
        pub put_few_words : length a3.writes ≤ 168
        put_few_words = omega (arith, put_all.more.few, keys_few.0, ap (λ (ws : List Word). length ws) no_writes)

        abbrev left : ℕ
        left = need - length keys

        abbrev a4 : Attempt
        a4 = with_write a3 addr left

        module _ (memory : List ℕ) (good : IsGoodMail made.sense made.opening memory) (fits : Fits memory a4 []) where
          abbrev heap : Heap
          heap = mail_heap made.sense memory

          put_fits : Fits memory a2 []
          put_fits = fitted_before_writes put_all.more memory (record { reads = fits.reads; contents = fits.contents })

          read_fits : Fits memory a1 []
          read_fits = fitted_before_reads up.only memory put_fits

          batch : batch_of made.sense heap message ≡ keys
          batch = batch_is memory good read_fits

          left_of : left ≡ need_of heap message - length (batch_of made.sense heap message)
          left_of = omega (arith, need_is memory good read_fits, ap (λ (ks : List KeyNumbers). length ks) batch)

          filled : IsFilled mail_layout message (batch_of made.sense heap message) heap (mail_heap made.sense (after memory a3.writes))
          filled =
              subst (λ ks. IsFilled mail_layout message ks heap (mail_heap made.sense (after memory a3.writes))) (sym batch)
              (put_all.filled memory good (record { reads = fits.reads; contents = fits.contents }))

          lowered_is : mail_heap made.sense (after memory a4.writes) ≡ lowered made.sense message good.index from_one to_last filled
          lowered_is =
              let words = after memory a3.writes in
              ap (mail_heap made.sense) (after_put memory a3.writes addr left (writes_apart know put_all.more.goes_on.active))
              ∙ heap_with_need (made_sizes made) words addr left message at from_one to_last
              ∙ ap (λ n. record (mail_heap made.sense words) { needs = set (mail_heap made.sense words).needs (message - 1) n }) left_of

          some_need : 0 < need_of heap message
          some_need = omega (arith, some, need_is memory good read_fits)

          room_of : HasRoomFor mail_layout (batch_of made.sense heap message) heap
          room_of = subst (λ ks. HasRoomFor mail_layout ks heap) (sym batch) (λ lane below count takes.
              let can = holds_of_memory (IsGoodMail made.sense made.opening)
              (λ m. CanFill mail_layout keys offsets (mail_heap made.sense m)) a2 [] no_writes up.can memory good put_fits in
              let (number, taken, enough) = can.room lane below in
              omega (arith, take_words_same mail_layout heap lane keys count number takes taken, enough))

        may : MayCommit (IsGoodMail made.sense made.opening) (mail_budget made.sense) a4 v3.owned
        may memory good all_fit =
            let fits = fits_alone all_fit in
            let after_it = after_commit_none memory a4 v3.owned (put_all.more.published ∙ up.only.published ∙ unwritten.1) in
            let is = lowered_is memory good fits in
            let done = filled memory good fits in (
              subst (IsGoodMail made.sense made.opening) (sym after_it) (record {
                opened = good.opened;
                size = after_length memory a4.writes ∙ good.size;
                index = subst (IsGoodIndex mail_layout made.sense) (sym is) (lowered_good made.sense message good.index from_one to_last done);
              }),
              subst (λ m. mail_budget made.sense m < mail_budget made.sense memory) (sym after_it)
                  (subst (λ (h : Heap). budget_of h < mail_budget made.sense memory) (sym is)
                  (lowered_budget made.sense message good.index from_one to_last done (some_need memory good fits))),
            )

        pub filled_some : Filled made old v3 before a4 message left
        filled_some = record {
          goes_on =
              let all = goes_on_then read.goes_on (goes_on_then up.only.goes_on put_all.more.goes_on) in
              record { active = all.active; later = all.later; start = all.start };
          sealed = put_all.more.sealed ∙ up.only.sealed ∙ read.sealed;
          published = put_all.more.published ∙ up.only.published ∙ read.published;
          few = omega (arith, put_few_words, put_few a3.writes addr left);
          left_is = left_of;
          adds = λ memory good fits.
              subst (AddsKeys mail_layout message (batch_of made.sense (mail_heap made.sense memory) message) (mail_heap made.sense memory))
              (sym (lowered_is memory good fits))
              (adds_keys made.sense message good.index from_one to_last (filled memory good fits));
          room = room_of;
          none = λ memory good fits is. absurd (omega (arith, is, some_need memory good fits));
          may = λ wrote. may;
        }
