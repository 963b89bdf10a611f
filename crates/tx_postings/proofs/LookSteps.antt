-- The keys of a batch are looked for one after the other.
use Rattle.std.proofs.Common.{◌≡◌, ◌≢◌, ℕ, ◌+◌, ◌-◌, ◌*◌, ◌<◌, ◌≤◌, ◌⊎◌, ◌++◌, Option, Some, None, List, [], ◌∷◌, length, get_or, set, take, refl, sym, ◌∙◌, ap, subst, arith, inl, inr}
use Rattle.std.proofs.lemmas.Bool.{cases_eq}
use Rattle.std.proofs.lemmas.List.{append-nil, take_more, take_all, length-append, length-set, get_or-set_same, get_or-set_other, get_or_default}
use Rattle.mail_words.specs.Key.{KeyNumbers}
use Rattle.mail_words.specs.Hash as hash
use Rattle.tx_model.specs.declared.pass.PassState.TheVariants.{Active}
use Rattle.tx_model.specs.declared.history.Commit.{Commit}
use Rattle.tx_model.specs.declared.view.Attempt.{Attempt}
use Rattle.tx_model.specs.declared.view.PassView.{PassView}
use Rattle.tx_model.specs.History.{state_at}
use Rattle.tx_model.specs.Memory.{after}
use Rattle.tx_model.specs.Made.{Made}
use Rattle.tx_model.specs.Pass.{IsPass}
use Rattle.tx_model.specs.Attempt.{Fits}
use Rattle.tx_model.specs.Calls.{Ended}
use Rattle.tx_model.proofs.lemmas.States.{stays}
use Rattle.tx_heap.specs.Layout.{Layout, mail_layout, segment_len}
use Rattle.tx_heap.specs.Segment.{free_of, keys_of, cells_of}
use Rattle.tx_heap.specs.Heap.{Heap, own_of, segment_of}
use Rattle.tx_heap.specs.Index.{IsIndex}
use Rattle.tx_heap.specs.Mail.{IsGoodMail, mail_heap, mail_budget}
use Rattle.tx_model.specs.Calls.{OnlyReads}
use Rattle.tx_heap.specs.Calls.{made_sizes, HoldsOverIndex, OpenedSegment}
use Rattle.tx_model.proofs.lemmas.Attempts.{only_reads_then, holds_unwritten, at_work, state_good}
use Rattle.tx_model.proofs.lemmas.Attempts as attempts
use Rattle.tx_heap.proofs.lemmas.Reads.{holds_after_reads, state_fits}
use Rattle.tx_model.proofs.lemmas.Calls.{ended_after}
use Rattle.tx_model.proofs.lemmas.States.{after_length}
use Rattle.tx_heap.proofs.lemmas.HeapWords.{segments_many, segment_many}
use Rattle.tx_buckets.specs.Records.{IsFound}
use Rattle.tx_buckets.specs.Reading.{ReadWord, FoundKey}
use Rattle.tx_buckets.proofs.AddSteps.{open_forms}
use Rattle.tx_buckets.proofs.ReadSteps.{opened_after}
use Rattle.tx_buckets.proofs.lemmas.Opened.{opened_only, own_in_lane, holds_of_memory}
use Rattle.tx_buckets.proofs.lemmas.Segments.{open_in_form}
use Rattle.tx_postings.specs.Batch.{TakesWords, TakeWords, LacksRoom, free_words}
use Rattle.tx_postings.specs.Filling.{words_for}
use Rattle.tx_postings.specs.Heads.{needs_of, HaveFree, IsLowest, Lacks, IsHead}
use Rattle.tx_postings.specs.Looking.{HasHead, LookedAt, LookedFor, LookedUp, LackedIn}
use Rattle.tx_postings.specs.declared.heads.Head.{Head}
use Rattle.tx_postings.proofs.Pending.{lane_inside, same_head}
use Rattle.tx_postings.proofs.PutSteps.{later_same}

-- ---- how many words keys take
takes_of : {layout : Layout} {words : List ℕ} {key : KeyNumbers} (offset : Option ℕ) → IsFound layout words key offset
    → TakesWords layout words key (words_for offset)
takes_of None none = inr (none, refl)
takes_of (Some at) found = inl ((at, found), refl)

take_words_push : {layout : Layout} (heap : Heap) {lane : ℕ} (keys : List KeyNumbers) (key : KeyNumbers) (count own : ℕ) → TakeWords layout heap lane keys count
    → ((layout.lane_of key ≡ lane) × TakesWords layout (segment_of heap (own_of heap lane)) key own) ⊎ ((layout.lane_of key ≢ lane) × (own ≡ 0))
    → TakeWords layout heap lane (keys ++ key ∷ []) (count + own)
take_words_push heap [] key count own none how = (own, 0, omega (arith, none), refl, how)
take_words_push heap (first ∷ keys) key count own (mine, rest, is, others, which) how =
    (mine, rest + own, omega (arith, is), take_words_push heap keys key rest own others how, which)

-- ---- keys take one number of words
takes_same : {layout : Layout} {words : List ℕ} {key : KeyNumbers} {a b : ℕ} → TakesWords layout words key a → TakesWords layout words key b → a ≡ b
takes_same (inl (there, two)) (inl (also, again)) = two ∙ sym again
takes_same (inl ((at, is), two)) (inr (none, eight)) = absurd (none at is)
takes_same (inr (none, eight)) (inl ((at, is), two)) = absurd (none at is)
takes_same (inr (none, eight)) (inr (also, again)) = eight ∙ sym again

module _ (layout : Layout) (heap : Heap) (lane : ℕ) where
  abbrev Own : KeyNumbers → ℕ → Type 0
  Own key own = ((layout.lane_of key ≡ lane) × TakesWords layout (segment_of heap (own_of heap lane)) key own) ⊎ ((layout.lane_of key ≢ lane) × (own ≡ 0))

  own_same : (key : KeyNumbers) (a b : ℕ) → Own key a → Own key b → a ≡ b
  own_same key a b (inl (is, takes)) (inl (also, again)) = takes_same takes again
  own_same key a b (inl (is, takes)) (inr (other, none)) = absurd (other is)
  own_same key a b (inr (other, none)) (inl (is, takes)) = absurd (other is)
  own_same key a b (inr (other, none)) (inr (also, again)) = none ∙ sym again

  pub take_words_same : (keys : List KeyNumbers) (a b : ℕ) → TakeWords layout heap lane keys a → TakeWords layout heap lane keys b → a ≡ b
  take_words_same [] a b none again = none ∙ sym again
  take_words_same (key ∷ keys) a b (own, rest, is, others, how) (own_b, rest_b, is_b, others_b, how_b) =
      omega (arith, is, is_b, own_same key own own_b how how_b, take_words_same keys rest rest_b others others_b)

-- ---- the first words of a lane's segment
pub only_none : (view : PassView) (attempt : Attempt) → view.state ≡ Active → OnlyReads view view attempt attempt
only_none view attempt active = record {
  goes_on = record { active = active; later = later_same view; start = omega arith };
  reads = ([], sym (append-nil attempt.reads));
  writes = refl;
  sealed = refl;
  published = refl;
}

head_after : {made : Made (List (List KeyNumbers))} {old new : PassView} {before now : Attempt} (lane : ℕ) (head : Head) → OnlyReads old new before now
    → IsHead made old before lane head → IsHead made new now lane head
head_after {made} lane head only is = record {
  opened = opened_after only is.opened;
  own = holds_after_reads only (IsGoodMail made.sense made.opening) (λ m. own_of (mail_heap made.sense m) lane ≡ head.segment) is.own;
  free = holds_after_reads only (IsGoodMail made.sense made.opening) (λ m. free_of (segment_of (mail_heap made.sense m) head.segment) ≡ head.free) is.free;
  keys = holds_after_reads only (IsGoodMail made.sense made.opening) (λ m. keys_of (segment_of (mail_heap made.sense m) head.segment) ≡ head.keys) is.keys;
  cells = holds_after_reads only (IsGoodMail made.sense made.opening) (λ m. cells_of (segment_of (mail_heap made.sense m) head.segment) ≡ head.cells) is.cells;
}

pub head_known : {made : Made (List (List KeyNumbers))} {view : PassView} {attempt : Attempt} {lane : ℕ} {known : Option Head} {head : Head}
    → view.state ≡ Active
    → known ≡ Some head → IsHead made view attempt lane head → HasHead made view view attempt attempt lane known head
head_known {view = view} {attempt = attempt} active is has = record { only = only_none view attempt active; is = has; needs = sym (ap needs_of is) }

pub head_read : {made : Made (List (List KeyNumbers))} {old v1 v2 v3 v4 : PassView} {before a1 a2 a3 a4 : Attempt} {lane segment free keys cells : ℕ}
    {known : Option Head}
    → known ≡ None → OpenedSegment made old v1 before a1 lane segment
    → ReadWord made v1 v2 a1 a2 segment 0 free → ReadWord made v2 v3 a2 a3 segment 1 keys → ReadWord made v3 v4 a3 a4 segment 2 cells
    → HasHead made old v4 before a4 lane known (record { segment = segment; free = free; keys = keys; cells = cells; needs = 0 })
head_read {made} {lane = lane} {segment = segment} {free = free} {keys = keys} is opened one two three =
    let rest = only_reads_then two.only three.only in
    let words = only_reads_then one.only rest in
    record {
      only = only_reads_then (opened_only opened) words;
      is = record {
        opened = three.opened;
        own = holds_after_reads words (IsGoodMail made.sense made.opening) (λ m. own_of (mail_heap made.sense m) lane ≡ segment) opened.own;
        free = holds_after_reads rest (IsGoodMail made.sense made.opening) (λ m. free_of (segment_of (mail_heap made.sense m) segment) ≡ free) one.word;
        keys = holds_after_reads three.only (IsGoodMail made.sense made.opening) (λ m. keys_of (segment_of (mail_heap made.sense m) segment) ≡ keys) two.word;
        cells = three.word;
      };
      needs = sym (ap needs_of is);
    }

-- ---- one key
pub key_looked : {made : Made (List (List KeyNumbers))} {old mid new : PassView} {before between now : Attempt} {heads : List (Option Head)} {head : Head}
    (key : KeyNumbers) (offset : Option ℕ)
    → HasHead made old mid before between (hash.lane_of key) (get_or heads (hash.lane_of key) None) head
    → FoundKey made mid new between now head.segment key offset
    → LookedAt made old new before now key heads
    (set heads (hash.lane_of key)
    (Some (record { segment = head.segment; free = head.free; keys = head.keys; cells = head.cells; needs = head.needs + words_for offset }))) offset
key_looked {made} {new = new} {now = now} {head = head} key offset has found =
    let is = head_after (hash.lane_of key) head found.only has.is in
    record {
      only = only_reads_then has.only found.only;
      head = record { segment = head.segment; free = head.free; keys = head.keys; cells = head.cells; needs = head.needs + words_for offset };
      is = record { opened = is.opened; own = is.own; free = is.free; keys = is.keys; cells = is.cells };
      needs = omega (arith, has.needs);
      heads_are = refl;
      found = λ memory good fits.
          subst (λ s. IsFound mail_layout (segment_of (mail_heap made.sense (after memory now.writes)) s) key offset) (sym (is.own memory good fits))
          (found.found memory good fits);
    }

-- ---- the first keys
no_head : (h : Option Head) (head : Head) → h ≡ None → h ≡ Some head → ⊥
no_head h head none some = never (sym none ∙ some)
  where
    never : ◌≡◌ {A = Option Head} None (Some head) → ⊥
    never e = cc

pub looking_none : (made : Made (List (List KeyNumbers))) (view : PassView) (attempt : Attempt) (keys : List KeyNumbers) (offsets : List (Option ℕ))
    (heads : List (Option Head))
    → view.state ≡ Active → length heads ≡ 8 → ((lane : ℕ) → get_or heads lane None ≡ None) → LookedFor made view view attempt attempt keys 0 offsets heads
looking_none made view attempt keys offsets heads active many empty = record {
  only = only_none view attempt active;
  has = record {
    many = many;
    are = λ lane head is. absurd (no_head (get_or heads lane None) head (empty lane) is);
    met = λ j key below inside. absurd (omega (arith, below));
  };
  found = λ j key below inside. absurd (omega (arith, below));
  takes = λ lane memory good fits. ap needs_of (empty lane);
  small = λ lane. omega (arith, ap needs_of (empty lane));
}

words_small : (offset : Option ℕ) → words_for offset ≤ 8
words_small None = omega arith
words_small (Some at) = omega arith

module _ {made : Made (List (List KeyNumbers))} {old new : PassView} {before now : Attempt} {keys : List KeyNumbers} {k : ℕ} {offsets : List (Option ℕ)}
    {heads : List (Option Head)}
    (looking : LookedFor made old new before now keys k offsets heads) where
  module _ {last : PassView} {then : Attempt} {next : List (Option Head)} {offset : Option ℕ} (below : k < length keys) (inside : k < length offsets)
      (d : KeyNumbers)
      (looked : LookedAt made new last now then (get_or keys k d) heads next offset) where
    abbrev key : KeyNumbers
    key = get_or keys k d

    abbrev lane : ℕ
    lane = hash.lane_of key

    still : (P : Heap → Type 0) → HoldsOverIndex made now P → HoldsOverIndex made then P
    still P = holds_after_reads looked.only (IsGoodMail made.sense made.opening) (λ memory. P (mail_heap made.sense memory))

    same_key : (e : KeyNumbers) → get_or keys k e ≡ key
    same_key e = get_or_default keys k e d below

    lane_in : lane < length heads
    lane_in = omega (arith, looking.has.many)

    next_here : get_or next lane None ≡ Some looked.head
    next_here = ap (λ hs. get_or hs lane None) looked.heads_are ∙ get_or-set_same heads lane (Some looked.head) None lane_in

    next_there : (l : ℕ) → l ≢ lane → get_or next l None ≡ get_or heads l None
    next_there l off = ap (λ hs. get_or hs l None) looked.heads_are ∙ get_or-set_other heads lane l (Some looked.head) None off

    offset_here : get_or (set offsets k offset) k None ≡ offset
    offset_here = get_or-set_same offsets k offset None inside

    are_then : (l : ℕ) (h : Head) → get_or next l None ≡ Some h → IsHead made last then l h
    are_then l h there =
        elim (cases_eq l lane) [
          | inl at ↦
              subst (λ n. IsHead made last then n h) (sym at)
              (subst (IsHead made last then lane) (same_head looked.head h (sym next_here ∙ ap (λ i. get_or next i None) (sym at) ∙ there)) looked.is)
          | inr off ↦ head_after l h looked.only (looking.has.are l h (sym (next_there l off) ∙ there))
        ]

    other_offset : (j : ℕ) (e : KeyNumbers) → hash.lane_of (get_or keys j e) ≢ lane → j ≢ k
    other_offset j e off at = off (ap (λ i. hash.lane_of (get_or keys i e)) at ∙ ap hash.lane_of (same_key e))

    met_then : (j : ℕ) (e : KeyNumbers) → j < k + 1 → j < length keys → (h : Head) × (get_or next (hash.lane_of (get_or keys j e)) None ≡ Some h)
    met_then j e before_next within =
        elim (cases_eq (hash.lane_of (get_or keys j e)) lane) [
          | inl same ↦ (looked.head, ap (λ i. get_or next i None) same ∙ next_here)
          | inr off ↦
              let (h, was) = looking.has.met j e
              (omega (arith, before_next, other_offset j e off)) within in
              (h, next_there (hash.lane_of (get_or keys j e)) off ∙ was)
        ]

    found_there : (j : ℕ) (e : KeyNumbers) → j < k + 1 → j < length keys
        → HoldsOverIndex made then
        (λ heap. IsFound mail_layout (segment_of heap (own_of heap (hash.lane_of (get_or keys j e)))) (get_or keys j e)
        (get_or (set offsets k offset) j None))
    found_there j e before_next within memory good fits =
        let heap = mail_heap made.sense (after memory then.writes) in
        elim (cases_eq j k) [
          | inl at ↦
              let key_is : get_or keys j e ≡ key = ap (λ i. get_or keys i e) at ∙ same_key e in
              let offset_is : get_or (set offsets k offset) j None ≡ offset = ap (λ i. get_or (set offsets k offset) i None) at ∙ offset_here in
              subst (λ (x : KeyNumbers). IsFound mail_layout (segment_of heap (own_of heap (hash.lane_of x))) x (get_or (set offsets k offset) j None))
              (sym key_is)
              (subst (λ (p : Option ℕ). IsFound mail_layout (segment_of heap (own_of heap lane)) key p) (sym offset_is) (looked.found memory good fits))
          | inr off ↦
              subst (λ (p : Option ℕ). IsFound mail_layout (segment_of heap (own_of heap (hash.lane_of (get_or keys j e)))) (get_or keys j e) p)
              (sym (get_or-set_other offsets k j offset None off))
              (still (λ h. IsFound mail_layout (segment_of h (own_of h (hash.lane_of (get_or keys j e)))) (get_or keys j e) (get_or offsets j None))
              (looking.found j e (omega (arith, before_next, off)) within) memory good fits)
        ]

    takes_then : (l : ℕ) → HoldsOverIndex made then (λ heap. TakeWords mail_layout heap l (take (k + 1) keys) (needs_of (get_or next l None)))
    takes_then l memory good fits =
        let heap = mail_heap made.sense (after memory then.writes) in
        let was = still (λ h. TakeWords mail_layout h l (take k keys) (needs_of (get_or heads l None))) (looking.takes l) memory good fits in
        subst (λ ks. TakeWords mail_layout heap l ks (needs_of (get_or next l None))) (sym (take_more keys k d below))
        (elim (cases_eq l lane) [
          | inl at ↦
              subst (TakeWords mail_layout heap l (take k keys ++ key ∷ []))
              (sym (ap (λ i. needs_of (get_or next i None)) at ∙ ap needs_of next_here ∙ looked.needs
              ∙ ap (λ i. needs_of (get_or heads i None) + words_for offset) (sym at)))
              (take_words_push heap (take k keys) key (needs_of (get_or heads l None)) (words_for offset) was
              (inl (
                sym at,
                subst (λ i. TakesWords mail_layout (segment_of heap (own_of heap i)) key (words_for offset)) (sym at)
                    (takes_of offset (looked.found memory good fits)),
              )))
          | inr off ↦
              subst (TakeWords mail_layout heap l (take k keys ++ key ∷ [])) (omega (arith, ap needs_of (next_there l off)))
              (take_words_push heap (take k keys) key (needs_of (get_or heads l None)) 0 was (inr ((λ e. off (sym e)), refl)))
        ])

    small_then : (l : ℕ) → needs_of (get_or next l None) ≤ 8 * (k + 1)
    small_then l =
        elim (cases_eq l lane) [
          | inl at ↦
              omega (arith, ap (λ i. needs_of (get_or next i None)) at, ap needs_of next_here, looked.needs, looking.small lane, words_small offset)
          | inr off ↦ omega (arith, ap needs_of (next_there l off), looking.small l)
        ]

    pub looking_more : LookedFor made old last before then keys (k + 1) (set offsets k offset) next
    looking_more = record {
      only = only_reads_then looking.only looked.only;
      has = record {
        many = ap (λ (hs : List (Option Head)). length hs) looked.heads_are ∙ length-set heads lane (Some looked.head) ∙ looking.has.many;
        are = are_then;
        met = met_then;
      };
      found = found_there;
      takes = takes_then;
      small = small_then;
    }

  -- ---- whether there is room
  module _ (none : before.writes ≡ []) (knows : IsPass IsGoodMail mail_budget made new now) where
    no_writes : now.writes ≡ []
    no_writes = looking.only.writes ∙ none

    index_here : HoldsOverIndex made now (IsIndex mail_layout)
    index_here =
        holds_unwritten (IsGoodMail made.sense made.opening) (λ m. IsIndex mail_layout (mail_heap made.sense m)) now [] no_writes
        (λ m good. good.index.grows.index)

    pub have_free : HaveFree heads
    have_free lane head is =
        let are = looking.has.are lane head is in
        let state = state_at made.opening new.history now.start in
        let good = state_good knows looking.only.goes_on.active in
        let fits = state_fits knows looking.only.goes_on.active in
        let form = (open_forms knows looking.only.goes_on.active are.opened index_here state good fits).form in
        omega (
          arith,
          form.ends,
          are.free state good fits,
          segment_many (made_sizes made) (after state now.writes)
              (after_length state now.writes ∙ good.size) head.segment are.opened.within,
        )

    -- all keys were looked for
    module _ (all : length keys ≤ k) where
      takes_all : (lane : ℕ) → HoldsOverIndex made now (λ heap. TakeWords mail_layout heap lane keys (needs_of (get_or heads lane None)))
      takes_all lane memory good fits =
          subst (λ ks. TakeWords mail_layout (mail_heap made.sense (after memory now.writes)) lane ks (needs_of (get_or heads lane None)))
          (take_all k keys all) (looking.takes lane memory good fits)

      pub looked_up : IsLowest heads None → LookedUp made old new before now keys offsets heads
      looked_up room = record {
        only = looking.only;
        has = record {
          many = looking.has.many;
          are = looking.has.are;
          met = λ j key below inside. looking.has.met j key (omega (arith, below, all)) inside;
        };
        can = λ memory good fits. record {
          found = λ j key below. looking.found j key (omega (arith, below, all)) below memory good fits;
          room =
              λ lane below.
              (needs_of (get_or heads lane None), takes_all lane memory good fits, enough memory good fits lane below (get_or heads lane None) refl);
        };
      }
        where
          enough : (memory : List ℕ) → IsGoodMail made.sense made.opening memory → Fits memory now [] → (lane : ℕ)
              → lane < length (mail_heap made.sense (after memory now.writes)).lanes
              → (h : Option Head) → get_or heads lane None ≡ h
              → free_of
              (segment_of (mail_heap made.sense (after memory now.writes))
              (own_of (mail_heap made.sense (after memory now.writes)) lane)) + needs_of h ≤ segment_len
          enough memory good fits lane below (Some head) is =
              let heap = mail_heap made.sense (after memory now.writes) in
              let are = looking.has.are lane head is in
              let lacks = room lane head (lane_inside heads lane head is) is in
              omega (
                arith,
                ap (λ s. free_of (segment_of heap s)) (are.own memory good fits),
                are.free memory good fits,
                have_free lane head is,
                not_lacks head lacks,
              )
            where
              not_lacks : (h : Head) → ¬ Lacks h → h.needs ≤ segment_len - h.free
              not_lacks h lacks = omega (arith, lacks)
          enough memory good fits lane below None is =
              let words = after memory now.writes in
              let heap = mail_heap made.sense words in
              let index = index_here memory good fits in
              let form = open_in_form lane (own_of heap lane) index below (own_in_lane index.lanes below refl) (index.lanes.own_open lane below) in
              let own = index.lanes.own lane below in
              omega (
                arith,
                form.ends,
                segment_many (made_sizes made) words (after_length memory now.writes ∙ good.size) (own_of heap lane)
                    (omega (arith, own.0, own.1, index.lanes.pool, segments_many (made_sizes made) words)),
              )

      -- ---- a lane lacks it
      not_lacks : (h : Head) → ¬ Lacks h → h.needs ≤ segment_len - h.free
      not_lacks h lacks = omega (arith, lacks)

      -- the state that the attempt read from
      abbrev state : List ℕ
      state = state_at made.opening new.history now.start

      good_state : IsGoodMail made.sense made.opening state
      good_state = state_good knows looking.only.goes_on.active

      fits_state : Fits state now []
      fits_state = state_fits knows looking.only.goes_on.active

      of_state : (P : Heap → Type 0) → HoldsOverIndex made now P → P (mail_heap made.sense state)
      of_state P holds =
          holds_of_memory (IsGoodMail made.sense made.opening) (λ m. P (mail_heap made.sense m)) now [] no_writes holds state good_state fits_state

      takes_state : (lane : ℕ) → TakeWords mail_layout (mail_heap made.sense state) lane keys (needs_of (get_or heads lane None))
      takes_state lane = of_state (λ heap. TakeWords mail_layout heap lane keys (needs_of (get_or heads lane None))) (takes_all lane)

      pub lacked : {final : PassView} {lane : ℕ} {head : Head} {free : ℕ} → Ended new final now → IsLowest heads (Some (lane, head))
          → free + head.free ≡ segment_len
          → LackedIn made old final before (LacksRoom mail_layout keys lane head.segment free head.needs)
      lacked {final} {lane} {head} {free} ended (below, is, few, lowest) free_is =
          let started = (at_work knows looking.only.goes_on.active).started in
          let all_fit = attempts.state_fits knows looking.only.goes_on.active in
          let same = stays made.opening new.history final.history now.start ended.later.history started in
          let are = looking.has.are lane head is in
          let own = of_state (λ heap. own_of heap lane ≡ head.segment) are.own in
          record {
            ended = ended_after looking.only.goes_on ended;
            from = now.start;
            no_older = looking.only.goes_on.start;
            within = omega (arith, started, ap (λ (h : List Commit). length h) ended.later.history.1, length-append new.history ended.later.history.0);
            good = subst (IsGoodMail made.sense made.opening) (sym same) good_state;
            fits = subst (λ m. Fits m before old.owned) (sym same) (attempts.fitted_before_reads looking.only state all_fit);
            lacks = subst (λ m. LacksRoom mail_layout keys lane head.segment free head.needs (mail_heap made.sense m)) (sym same) (record {
              short = record {
                own = own;
                free_is =
                    omega (
                      arith,
                      free_is,
                      of_state (λ heap. free_of (segment_of heap head.segment) ≡ head.free) are.free,
                      ap
                          (λ s. free_of (segment_of (mail_heap made.sense state) s)) own,
                    );
                needs_is = subst (TakeWords mail_layout (mail_heap made.sense state) lane keys) (ap needs_of is) (takes_state lane);
                fewer = fewer few free_is;
              };
              lowest = λ other before_lane count takes.
                  let same_count = take_words_same mail_layout (mail_heap made.sense state) other keys count (needs_of (get_or heads other None)) takes
                  (takes_state other) in
                  fits_other other before_lane (get_or heads other None) refl count same_count;
            });
          }
        where
          fewer : Lacks head → free + head.free ≡ segment_len → free < head.needs
          fewer few total = omega (arith, few, total)

          fits_other : (other : ℕ) → other < lane → (h : Option Head) → get_or heads other None ≡ h → (count : ℕ) → count ≡ needs_of h
              → count ≤ free_words (mail_heap made.sense state) other
          fits_other other before_lane None is_none count none = omega (arith, none)
          fits_other other before_lane (Some h) is_some count same_count =
              let are = looking.has.are other h is_some in
              let own = of_state (λ heap. own_of heap other ≡ h.segment) are.own in
              omega (
                arith,
                same_count,
                not_lacks h (lowest other h before_lane is_some),
                ap (λ s. free_of (segment_of (mail_heap made.sense state) s)) own,
                of_state (λ heap. free_of (segment_of heap h.segment) ≡ h.free) are.free,
              )
