-- The way along the segments of a key's lane, over every memory that fits the attempt.
use Rattle.std.proofs.Common.{◌≡◌, ◌≢◌, ℕ, ◌-◌, ◌<◌, Some, List, [], ◌++◌, length, get_or, refl, sym, ◌∙◌, ap, subst, arith, inl, inr}
use Rattle.std.specs.Prelude.{Contains}
use Rattle.std.proofs.lemmas.List.{append-nil, append_assoc}
use Rattle.mail_words.specs.Key.{KeyNumbers}
use Rattle.mail_words.specs.Hash as hash
use Rattle.tx_model.specs.declared.pass.PassState.TheVariants.{Active}
use Rattle.tx_model.specs.declared.pass.Stop.{Stop}
use Rattle.tx_model.specs.declared.gate.Region.{Region}
use Rattle.tx_model.specs.declared.history.Commit.{Commit}
use Rattle.tx_model.specs.declared.word.Word.{Word}
use Rattle.tx_model.specs.declared.view.Attempt.{Attempt}
use Rattle.tx_model.specs.declared.view.PassView.{PassView}
use Rattle.tx_model.specs.History.{state_at}
use Rattle.tx_model.specs.Memory.{after}
use Rattle.tx_model.specs.Words.{value_of, HasAddress}
use Rattle.tx_model.specs.Made.{Made, IsMade}
use Rattle.tx_model.specs.Pass.{IsPass}
use Rattle.tx_model.specs.Attempt.{Fits, MayRead, gate_value}
use Rattle.tx_model.specs.Calls.{Read}
use Rattle.tx_model.proofs.lemmas.Values.{no_value}
use Rattle.tx_heap.specs.Layout.{mail_layout, lane_at, gate_at, link_at, base_at, region_of}
use Rattle.tx_heap.specs.Heap.{gate_of, segment_of, lane_segments}
use Rattle.tx_heap.specs.Index.{IsSegment, IsIndex}
use Rattle.tx_heap.specs.Mail.{AllowsRegions, IsGoodMail, mail_heap, mail_budget}
use Rattle.tx_model.specs.Calls.{OnlyReads}
use Rattle.tx_heap.specs.Calls.{made_sizes, HoldsOverIndex}
use Rattle.tx_heap.proofs.lemmas.Addresses.{may_read_below}
use Rattle.tx_model.proofs.lemmas.Attempts.{read_only, only_reads_then, holds_unwritten, writes_apart, address_read, gate_value_read, state_good}
use Rattle.tx_heap.proofs.lemmas.Reads.{holds_after_read, holds_after_reads, value_read_over, state_fits}
use Rattle.tx_model.proofs.lemmas.States.{after_length}
use Rattle.tx_heap.proofs.lemmas.HeapWords.{lane_word, gate_word, link_word, lanes_many, segments_many}
use Rattle.tx_heap.proofs.lemmas.Lanes.{contains_none}
use Rattle.tx_buckets.specs.Reading.{IsOpened}
use Rattle.tx_heap.proofs.lemmas.Stops.{stopped_after}
use Rattle.tx_buckets.proofs.lemmas.Opened.{holds_of_memory}
use Rattle.tx_postings.specs.Listing.{AreOfSegment, AreListed, IsCutShort, Listed, MetSealed, ListedOpen, ListedAt, ListedTo, SealedAt, NotListed, NotListedAt, NotListedOpen}
use Rattle.tx_postings.specs.declared.listing.ListStop.{ListStop}
use Rattle.tx_postings.specs.declared.listing.ListStop.TheVariants.{Stopped, Sealed, Memory}
use Rattle.tx_postings.proofs.Along.{IsAlong, along_begins, along_ended, of_lane, in_use, link_falls, along_next, along_cut}

-- ---- lanes
pub lane_below : (key : KeyNumbers) → hash.lane_of key < 8
lane_below key = omega arith

-- a word below the segments may be read
pub may_read_plain : {made : Made (List (List KeyNumbers))} (attempt : Attempt) (addr : ℕ) → IsMade AllowsRegions IsGoodMail made
    → addr < base_at (made_sizes made) 0 → MayRead made.regions attempt addr
may_read_plain {made} attempt addr is_made below =
    subst (λ (regions : List Region). MayRead regions attempt addr) (sym is_made.allowed) (may_read_below (made_sizes made) attempt addr below)

-- the attempt has written nothing, and published nothing
abbrev pub WroteNone : Attempt → Type 0
WroteNone attempt = (attempt.writes ≡ []) × (attempt.published ≡ [])

pub none_after : {old new : PassView} {before now : Attempt} → OnlyReads old new before now → WroteNone before → WroteNone now
none_after only none = (only.writes ∙ none.0, only.published ∙ none.1)

pub index_of_none : (made : Made (List (List KeyNumbers))) (view : PassView) {attempt : Attempt} → WroteNone attempt
    → HoldsOverIndex made attempt (IsIndex mail_layout)
index_of_none made view {attempt} none =
    holds_unwritten (IsGoodMail made.sense made.opening) (λ m. IsIndex mail_layout (mail_heap made.sense m)) attempt [] none.0
    (λ m good. good.index.grows.index)

-- a segment in use is open, sealed or packed
gate_of_segment : (g : ℕ) (lane : ℕ) (words : List ℕ) → IsSegment mail_layout lane g words → g ≢ 1 → g ≢ 2 → g ≡ 3
gate_of_segment g lane words (inl (inl is_open, form)) not_open not_sealed = absurd (not_open is_open)
gate_of_segment g lane words (inl (inr is_sealed, form)) not_open not_sealed = absurd (not_sealed is_sealed)
gate_of_segment g lane words (inr (is_packed, form, keys)) not_open not_sealed = is_packed

-- ---- a segment's gate was read
module _ {made : Made (List (List KeyNumbers))} {old mid : PassView} {before between : Attempt} {segment addr gate : ℕ} (none : WroteNone before)
    (within : segment < (made_sizes made).segments)
    (knew : IsPass IsGoodMail mail_budget made old before) (active : old.state ≡ Active) (at : addr ≡ gate_at (made_sizes made) segment)
    (read : Read made.opening old mid before between addr gate) where
  pub gate_is : HoldsOverIndex made between (λ heap. gate_of heap segment ≡ gate)
  gate_is memory good fits =
      gate_word (made_sizes made) (after memory between.writes) segment within
      ∙ ap (λ a. get_or (after memory between.writes) a 0) (sym at)
      ∙ value_read_over read (writes_apart knew active) memory (omega (arith, at, within, good.size)) fits

  gate_value_here : gate_value between (gate_at (made_sizes made) segment) ≡ Some gate
  gate_value_here = ap (gate_value between) (sym at) ∙ gate_value_read read

  -- it is open, so that the segment's words may be read
  pub opened_by : gate ≡ 1 → IsOpened (made_sizes made) between segment
  opened_by is_open =
      let region = region_of (made_sizes made) segment in
      record {
        within = within;
        gate_read = subst (λ a. HasAddress between.reads a) at (address_read read (ap (λ (words : List Word). value_of words addr) none.0 ∙ no_value addr));
        is_open = gate_value_here ∙ ap (λ (v : ℕ). Some v) is_open;
        not_published = λ among. contains_none region (subst (λ (regions : List Region). Contains regions region) (read.published ∙ none.1) among);
      }

  -- it is sealed
  pub sealed_at : (key : KeyNumbers) (items : List ℕ) → gate ≡ 2 → SealedAt made old mid before between key items items segment
  sealed_at key items is_sealed = record {
    only = read_only read;
    gate_read = gate_value_here ∙ ap (λ (v : ℕ). Some v) is_sealed;
    added = refl;
    is_sealed = λ memory good fits. gate_is memory good fits ∙ is_sealed;
  }

  -- or it is packed
  module _ (key : KeyNumbers) (in_lane : HoldsOverIndex made before (λ heap. Contains (lane_segments heap (hash.lane_of key)) segment)) where
    packed_over : gate ≢ 1 → gate ≢ 2 → HoldsOverIndex made between (λ heap. gate_of heap segment ≡ 3)
    packed_over not_open not_sealed memory good fits =
        let words = after memory between.writes in
        let heap = mail_heap made.sense words in
        let index : IsIndex mail_layout heap = index_of_none made mid (none_after (read_only read) none) memory good fits in
        let among = holds_after_read read (IsGoodMail made.sense made.opening)
        (λ m. Contains (lane_segments (mail_heap made.sense m) (hash.lane_of key)) segment) in_lane memory good fits in
        let many = lanes_many (made_sizes made) words (after_length memory between.writes ∙ good.size) in
        let is = gate_is memory good fits in
        gate_of_segment (gate_of heap segment) (hash.lane_of key) (segment_of heap segment)
        (index.segments (hash.lane_of key) segment (omega (arith, lane_below key, many)) among)
        (λ is_open. not_open (sym is ∙ is_open)) (λ is_sealed. not_sealed (sym is ∙ is_sealed))

    pub passed_over : (items : List ℕ) → gate ≢ 1 → gate ≢ 2 → ListedAt made old mid before between key items items segment
    passed_over items not_open not_sealed = record {
      only = read_only read;
      messages = [];
      added = sym (append-nil items);
      here = λ memory good fits. inr (packed_over not_open not_sealed memory good fits, refl);
    }

  -- the messages of an open segment came
  pub listed_open : {new : PassView} {now : Attempt} {key : KeyNumbers} {items then : List ℕ} → gate ≡ 1
      → ListedOpen made mid new between now key items then segment → ListedAt made old new before now key items then segment
  listed_open {new} {now} {key} is_open listed = record {
    only = only_reads_then (read_only read) listed.only;
    messages = listed.messages;
    added = listed.added;
    here = λ memory good fits.
        inl (
          holds_after_reads listed.only (IsGoodMail made.sense made.opening) (λ m. gate_of (mail_heap made.sense m) segment ≡ gate) gate_is memory good fits
              ∙ is_open,
          listed.here memory good fits,
        );
  }

  -- or didn't
  pub not_listed_open : (shows : List Commit → ℕ → List ℕ → Stop → Type 0) (new : PassView) (now : Attempt) (key : KeyNumbers) (items then : List ℕ)
      (stop : ListStop)
      → NotListedOpen made shows mid new between now key items then stop → NotListedAt made shows old new before now key items then segment stop
  not_listed_open shows new now key items then (Stopped stop) stopped = stopped_after (read_only read) stopped
  not_listed_open shows new now key items then (Sealed other) never = absurd never
  not_listed_open shows new now key items then Memory only = only_reads_then (read_only read) only

-- ---- its link was read
pub listed_to : {made : Made (List (List KeyNumbers))} {old mid new : PassView} {before between now : Attempt} {key : KeyNumbers} {items then : List ℕ}
    {segment addr next : ℕ} → segment < (made_sizes made).segments
    → ListedAt made old mid before between key items then segment → IsPass IsGoodMail mail_budget made mid between → addr ≡ link_at (made_sizes made) segment
    → Read made.opening mid new between now addr next
    → ListedTo made old new before now key items then segment next
listed_to {made} {now = now} {key = key} {segment = segment} within listed knows at read = record {
  at = record {
    only = only_reads_then listed.only (read_only read);
    messages = listed.messages;
    added = listed.added;
    here =
        holds_after_read read (IsGoodMail made.sense made.opening)
        (λ m. AreOfSegment mail_layout key (mail_heap made.sense m) segment listed.messages) listed.here;
  };
  link = λ memory good fits.
      link_word (made_sizes made) (after memory now.writes) segment within
      ∙ ap (λ a. get_or (after memory now.writes) a 0) (sym at)
      ∙ value_read_over read (writes_apart knows listed.only.goes_on.active) memory (omega (arith, at, within, good.size)) fits;
}

-- ---- the way along
pub record IsGoing (made : Made (List (List KeyNumbers))) (old new : PassView) (before now : Attempt) (key : KeyNumbers) (number : ℕ)
    (items then : List ℕ) : Type 0 where
  pub only : OnlyReads old new before now
  pub knows : IsPass IsGoodMail mail_budget made new now
  pub messages : List ℕ
  pub added : then ≡ items ++ messages
  pub along : HoldsOverIndex made now (λ heap. IsAlong mail_layout key heap number messages)

-- the lane word was read
pub going_begins : {made : Made (List (List KeyNumbers))} {old new : PassView} {before now : Attempt} {number addr : ℕ} (key : KeyNumbers) (items : List ℕ)
    → WroteNone before → IsPass IsGoodMail mail_budget made old before → old.state ≡ Active
    → addr ≡ lane_at (hash.lane_of key) → Read made.opening old new before now addr number → IsPass IsGoodMail mail_budget made new now
    → IsGoing made old new before now key number items items
going_begins {made} {old} {new} {before} {now} {number} {addr} key items none knew active at read knows = record {
  only = read_only read;
  knows = knows;
  messages = [];
  added = sym (append-nil items);
  along = begins;
}
  where
    begins : HoldsOverIndex made now (λ heap. IsAlong mail_layout key heap number [])
    begins memory good fits =
        let words = after memory now.writes in
        let heap = mail_heap made.sense words in
        let index : IsIndex mail_layout heap = index_of_none made new (none_after (read_only read) none) memory good fits in
        let many = lanes_many (made_sizes made) words (after_length memory now.writes ∙ good.size) in
        let is : get_or heap.lanes (hash.lane_of key) 0 ≡ number = lane_word (made_sizes made) words (hash.lane_of key) (lane_below key)
        ∙ ap (λ a. get_or words a 0) (sym at)
        ∙ value_read_over read (writes_apart knew active) memory (omega (arith, at, lane_below key, good.size)) fits in
        subst (λ n. IsAlong mail_layout key heap n []) is (along_begins mail_layout key _ index.lanes (omega (arith, lane_below key, many)))

module _ {made : Made (List (List KeyNumbers))} {old new : PassView} {before now : Attempt} {key : KeyNumbers} {number : ℕ} {items then : List ℕ}
    (none : WroteNone before)
    (going : IsGoing made old new before now key number items then) where
  pub still_none : WroteNone now
  still_none = none_after going.only none

  index_here : HoldsOverIndex made now (IsIndex mail_layout)
  index_here = index_of_none made new still_none

  many_lanes : (memory : List ℕ) → IsGoodMail made.sense made.opening memory → hash.lane_of key < length (mail_heap made.sense (after memory now.writes)).lanes
  many_lanes memory good = omega (arith, lane_below key, lanes_many (made_sizes made) (after memory now.writes) (after_length memory now.writes ∙ good.size))

  -- the chain has ended
  pub listed : number ≡ 0 → Listed made old new before now key items then
  listed ended = record {
    only = going.only;
    messages = going.messages;
    added = going.added;
    listed = λ memory good fits.
        subst (λ (words : List Word). AreListed mail_layout key (mail_heap made.sense (after memory words)) going.messages) still_none.0
        (along_ended mail_layout key _ (index_here memory good fits).lanes (many_lanes memory good) (going.along memory good fits) ended);
  }

  module _ (some : number ≢ 0) where
    -- the segment is one of the lane
    pub goes_of_lane : HoldsOverIndex made now (λ heap. Contains (lane_segments heap (hash.lane_of key)) (number - 1))
    goes_of_lane memory good fits = of_lane mail_layout key _ (index_here memory good fits).lanes (many_lanes memory good) (going.along memory good fits) some

    pub goes_within : number - 1 < (made_sizes made).segments
    goes_within =
        let state = state_at made.opening new.history now.start in
        let good = state_good going.knows going.only.goes_on.active in
        let fits = state_fits going.knows going.only.goes_on.active in
        let lanes = (index_here state good fits).lanes in
        let used = in_use mail_layout key _ lanes (many_lanes state good) (going.along state good fits) some in
        omega (arith, used, lanes.pool, segments_many (made_sizes made) (after state now.writes))

    -- its messages came
    module _ {last : PassView} {after_next : Attempt} {next : ℕ} {items_next : List ℕ}
        (to : ListedTo made new last now after_next key then items_next (number - 1) next) where
      same_heap : (memory : List ℕ) → after memory now.writes ≡ after memory after_next.writes
      same_heap memory = ap (after memory) (sym to.at.only.writes)

      along_then : (memory : List ℕ) → IsGoodMail made.sense made.opening memory → Fits memory after_next []
          → IsAlong mail_layout key (mail_heap made.sense (after memory after_next.writes)) number going.messages
      along_then =
          holds_after_reads to.at.only (IsGoodMail made.sense made.opening)
          (λ m. IsAlong mail_layout key (mail_heap made.sense m) number going.messages) going.along

      index_next : HoldsOverIndex made after_next (IsIndex mail_layout)
      index_next = index_of_none made last (none_after to.at.only still_none)

      lanes_then : (memory : List ℕ) → IsGoodMail made.sense made.opening memory
          → hash.lane_of key < length (mail_heap made.sense (after memory after_next.writes)).lanes
      lanes_then memory good =
          omega (arith, lane_below key, lanes_many (made_sizes made) (after memory after_next.writes) (after_length memory after_next.writes ∙ good.size))

      pub going_on : IsPass IsGoodMail mail_budget made last after_next → IsGoing made old last before after_next key next items items_next
      going_on knows = record {
        only = only_reads_then going.only to.at.only;
        knows = knows;
        messages = going.messages ++ to.at.messages;
        added = to.at.added ∙ ap (λ xs. xs ++ to.at.messages) going.added ∙ append_assoc items going.messages to.at.messages;
        along = λ memory good fits.
            subst (λ n. IsAlong mail_layout key (mail_heap made.sense (after memory after_next.writes)) n (going.messages ++ to.at.messages))
            (to.link memory good fits)
            (along_next mail_layout key _ (index_next memory good fits).lanes (lanes_then memory good) (along_then memory good fits) some to.at.messages
            (to.at.here memory good fits));
      }

      pub going_falls : IsPass IsGoodMail mail_budget made last after_next → next < number
      going_falls knows =
          let state = state_at made.opening last.history after_next.start in
          let good = state_good knows to.at.only.goes_on.active in
          let fits = state_fits knows to.at.only.goes_on.active in
          let falls = link_falls mail_layout key _ (index_next state good fits).lanes (lanes_then state good) (along_then state good fits) some in
          omega (arith, falls, to.link state good fits)

    -- it couldn't be listed
    met_sealed : {last : PassView} {after_next : Attempt} {items_next : List ℕ} → SealedAt made new last now after_next key then items_next (number - 1)
        → MetSealed made old last before after_next key items items_next (number - 1)
    met_sealed {last} {after_next} at = record {
      only = only_reads_then going.only at.only;
      gate_read = at.gate_read;
      messages = going.messages;
      added = at.added ∙ going.added;
      cut_short =
          holds_of_memory (IsGoodMail made.sense made.opening)
          (λ m. IsCutShort mail_layout key (number - 1) (mail_heap made.sense m) going.messages) after_next [] (none_after at.only still_none).0
          (λ memory good fits.
          along_cut mail_layout key _ (index_of_none made last (none_after at.only still_none) memory good fits).lanes
          (omega (arith, lane_below key, lanes_many (made_sizes made) (after memory after_next.writes) (after_length memory after_next.writes ∙ good.size)))
          (holds_after_reads at.only (IsGoodMail made.sense made.opening)
          (λ m. IsAlong mail_layout key (mail_heap made.sense m) number going.messages) going.along memory good fits) some (at.is_sealed memory good fits));
    }

    pub not_listed : (shows : List Commit → ℕ → List ℕ → Stop → Type 0) (last : PassView) (after_next : Attempt) (items_next : List ℕ) (stop : ListStop)
        → NotListedAt made shows new last now after_next key then items_next (number - 1) stop
        → NotListed made shows old last before after_next key items items_next stop
    not_listed shows last after_next items_next (Stopped stop) stopped = stopped_after going.only stopped
    not_listed shows last after_next items_next (Sealed segment) (is, at) =
        subst (MetSealed made old last before after_next key items items_next) (sym is) (met_sealed at)
    not_listed shows last after_next items_next Memory only = only_reads_then going.only only
