-- One posting, whose segment's first words aren't written yet: it fits, and with them in place the index has it.
use Rattle.std.proofs.Common.{◌≡◌, ◌≢◌, ℕ, ◌+◌, ◌-◌, ◌<◌, ◌≤◌, Option, Some, None, List, length, get_or, set, refl, sym, ◌∙◌, ap, subst, arith}
use Rattle.std.specs.Prelude.{Contains}
use Rattle.std.specs.List.{All}
use Rattle.std.proofs.lemmas.List.Elements.{All-from_recursion}
use Rattle.mail_words.specs.Key.{KeyNumbers}
use Rattle.mail_words.specs.Hash as hash
use Rattle.tx_model.specs.declared.word.Word.{Word}
use Rattle.tx_model.specs.Memory.{after}
use Rattle.tx_heap.specs.Layout.{mail_layout, segment_len}
use Rattle.tx_heap.specs.Pairwise.{Pairwise}
use Rattle.tx_heap.specs.Segment.{free_of, IsInForm}
use Rattle.tx_heap.specs.Heap.{Heap, own_of, gate_of, segment_of, lane_segments}
use Rattle.tx_heap.specs.Index.{HasLanes, IsIndex}
use Rattle.tx_buckets.specs.Records.{IsFound}
use Rattle.tx_buckets.proofs.PlacingCells.{offset_within}
use Rattle.tx_buckets.proofs.lemmas.Opened.{own_in_lane}
use Rattle.tx_buckets.proofs.lemmas.Segments.{open_in_form, changed_there, index_changed}
use Rattle.tx_buckets.proofs.lemmas.Writes.{in_segment}
use Rattle.tx_postings.specs.Filling.{words_for, FitsPosting, looked_at, posting_words, head_then, CanFill, HasNone}
use Rattle.tx_postings.specs.Heads.{headed}
use Rattle.tx_postings.specs.declared.heads.Head.{Head}
use Rattle.tx_postings.proofs.FillSteps.{IsFilling, found_then, room_then, filling_more}
use Rattle.tx_postings.proofs.Hashes.{bucket_below}
use Rattle.tx_postings.proofs.Headed.{headed_length, posted_over}
use Rattle.tx_postings.proofs.Pending.{AreOwn, HaveApart, IsPending, pending_more}
use Rattle.tx_postings.proofs.Posted.{HasPosting, IsPosted}

-- the words of a posting lie in the segment
pub posting_inside : (head : Head) (key : KeyNumbers) (offset : Option ℕ) (was message : ℕ) → FitsPosting head offset
    → All (λ (word : Word). word.addr < segment_len) (posting_words head key offset was message)
posting_inside head key (Some at) was message fits =
    All-from_recursion (λ (word : Word). word.addr < segment_len) (posting_words head key (Some at) was message)
    (omega (arith, fits.1), (omega (arith, fits.1), (omega (arith, fits.0), tt)))
posting_inside head key None was message fits =
    let bucket = bucket_below key in
    All-from_recursion (λ (word : Word). word.addr < segment_len) (posting_words head key None was message) (
      omega (arith, fits.0),
      (
        omega (arith, fits.0),
        (
          omega (arith, fits.0),
          (
            omega (arith, fits.0),
            (omega (arith, fits.0), (omega (arith, bucket), (omega (arith, fits.0), (omega (arith, fits.0), (omega (arith, fits.0), tt))))),
          ),
        ),
      ),
    )

pub posting_few : (head : Head) (key : KeyNumbers) (offset : Option ℕ) (was message : ℕ) → length (posting_words head key offset was message) ≤ 9
posting_few head key (Some at) was message = omega arith
posting_few head key None was message = omega arith

-- the word that is looked at does too
pub looked_inside : (head : Head) (key : KeyNumbers) (offset : Option ℕ) → FitsPosting head offset → looked_at key offset < 32768
looked_inside head key (Some at) fits = omega (arith, fits.0)
looked_inside head key None fits = omega (arith, bucket_below key)

-- the segment is the same then
pub same_segment : (head : Head) (offset : Option ℕ) → (head_then head offset).segment ≡ head.segment
same_segment head None = refl
same_segment head (Some at) = refl

module _ {message : ℕ} {keys : List KeyNumbers} {offsets : List (Option ℕ)} {k : ℕ} {old virtual : Heap}
    (filling : IsFilling mail_layout message keys offsets k old virtual) (can : CanFill mail_layout keys offsets old) (below : k < length keys)
    (lanes : HasLanes old) (d : KeyNumbers) (lane_below : hash.lane_of (get_or keys k d) < length old.lanes)
    {heads : List (Option Head)} {real : Heap} (pending : IsPending heads real virtual) (own : AreOwn heads old)
    (head : Head) (is : get_or heads (hash.lane_of (get_or keys k d)) None ≡ Some head)
    (inside : head.segment < length real.segments) (many : length (segment_of real head.segment) ≡ segment_len) where
  abbrev key : KeyNumbers
  key = get_or keys k d

  abbrev offset : Option ℕ
  offset = get_or offsets k None

  abbrev lane : ℕ
  lane = hash.lane_of key

  abbrev words : List ℕ
  words = segment_of real head.segment

  own_is : own_of old lane ≡ head.segment
  own_is = own lane head is

  -- the segment with its first words in place
  is_open : gate_of virtual head.segment ≡ 1
  is_open = ap (λ (gates : List ℕ). get_or gates head.segment 0) filling.filled.gates
      ∙ subst (λ s. gate_of old s ≡ 1) own_is (lanes.own_open lane lane_below)

  virtual_below : lane < length virtual.lanes
  virtual_below = omega (arith, lane_below, ap (λ (ns : List ℕ). length ns) filling.filled.lanes)

  among : Contains (lane_segments virtual lane) head.segment
  among = own_in_lane filling.filled.index.lanes virtual_below (ap (λ (ns : List ℕ). get_or ns lane 0 - 1) filling.filled.lanes ∙ own_is)

  words_are : segment_of virtual head.segment ≡ headed head words
  words_are = pending.here lane head is

  form : IsInForm mail_layout lane (headed head words)
  form = subst (IsInForm mail_layout lane) words_are (open_in_form lane head.segment filling.filled.index virtual_below among is_open)

  found : IsFound mail_layout (headed head words) key offset
  found =
      subst (λ ws. IsFound mail_layout ws key offset) words_are
      (subst (λ s. IsFound mail_layout (segment_of virtual s) key offset) own_is (found_then filling can below lanes d lane_below))

  long : length (headed head words) ≡ segment_len
  long = headed_length head words (omega (arith, many)) ∙ many

  room : head.free + words_for offset ≤ segment_len
  room =
      subst (λ ws. free_of ws + words_for offset ≤ segment_len) words_are
      (subst (λ s. free_of (segment_of virtual s) + words_for offset ≤ segment_len) own_is (room_then filling can below lanes d lane_below))

  -- there is room for it
  pub head_fits : FitsPosting head offset
  head_fits = fits offset found room
    where
      fits : (p : Option ℕ) → IsFound mail_layout (headed head words) key p → head.free + words_for p ≤ segment_len → FitsPosting head p
      fits None none enough = (enough, omega (arith, form.filled, enough), omega (arith, form.filled, enough))
      fits (Some at) there enough =
          let whole = offset_within form at 0 there.among (omega (arith, enough, long)) in
          (omega (arith, whole.1, enough), enough, omega (arith, form.filled, enough))

  -- ---- the posting is written
  module _ (was : ℕ) (read : get_or words (looked_at key offset) 0 ≡ was) where
    abbrev then : Head
    then = head_then head offset

    abbrev wrote : List ℕ
    wrote = after words (posting_words head key offset was message)

    abbrev pub grown : Heap
    grown = in_segment virtual head.segment (headed then wrote)

    both : HasPosting mail_layout key message offset (headed head words) (headed then wrote) × IsInForm mail_layout lane (headed then wrote)
    both = posted_over head words form key message offset was found refl (omega (arith, room, long)) read

    there : segment_of grown head.segment ≡ headed then wrote
    there = changed_there filling.filled.index head.segment (headed then wrote) (omega (arith, inside, pending.many))

    posted : IsPosted mail_layout head.segment key message offset virtual grown
    posted = record {
      only = ap (in_segment virtual head.segment) (sym there);
      words =
          subst (λ ws. HasPosting mail_layout key message offset ws (segment_of grown head.segment)) (sym words_are)
          (subst (HasPosting mail_layout key message offset (headed head words)) (sym there) both.0);
    }

    index : IsIndex mail_layout grown
    index = index_changed filling.filled.index head.segment (headed then wrote) lane virtual_below among is_open both.1

    pub filling_then : Pairwise ◌≢◌ keys → HasNone mail_layout keys message old → IsFilling mail_layout message keys offsets (k + 1) old grown
    filling_then once none =
        filling_more filling can below lanes d lane_below (subst (λ s. gate_of virtual s ≡ 1) (sym own_is) is_open) once none
        (subst (λ s. IsPosted mail_layout s key message offset virtual grown) (sym own_is) posted) index

    pub pending_then : HaveApart heads → (next : Heap) → next ≡ in_segment real head.segment wrote → IsPending (set heads lane (Some then)) next grown
    pending_then apart next is_next = pending_more heads pending apart lane head is then (same_segment head offset) wrote inside next is_next
