-- A batch comes into an index key by key: what is there before each key, and after it.
use Rattle.std.proofs.Common.{◌≡◌, ◌≢◌, ℕ, suc, ◌+◌, ◌-◌, ◌<◌, ◌≤◌, ◌⊎◌, Option, Some, None, List, ◌∷◌, ◌++◌, length, get_or, take, drop, refl, sym, ◌∙◌, ap, subst, arith, inl, inr}
use Rattle.std.specs.Prelude.{Contains}
use Rattle.std.proofs.Math.Seq.{drop-cons}
use Rattle.std.proofs.lemmas.Bool.{cases_eq}
use Rattle.std.proofs.lemmas.List.{take_more, take-append-drop, length-drop, get_or-drop}
use Rattle.std.proofs.lemmas.List.Elements.{Contains-get_or, Contains-append_left, Contains-append_right}
use Rattle.mail_words.specs.Key.{KeyNumbers}
use Rattle.tx_heap.specs.Layout.{Layout, segment_len}
use Rattle.tx_heap.specs.Pairwise.{Pairwise}
use Rattle.tx_heap.specs.Segment.{free_of}
use Rattle.tx_heap.specs.Heap.{Heap, own_of, gate_of, segment_of}
use Rattle.tx_heap.specs.Index.{HasLanes, IsIndex, IsGoodIndex}
use Rattle.tx_heap.specs.BudgetLaw.{own_apart}
use Rattle.tx_buckets.specs.Records.{IsFound}
use Rattle.tx_postings.specs.Batch.{TakesWords, TakeWords}
use Rattle.tx_postings.specs.Filling.{words_for, IsFilled, CanFill, HasNone}
use Rattle.tx_postings.proofs.Distinct.{key_beside}
use Rattle.tx_postings.proofs.Lowered.{filled_none, filled_more}
use Rattle.tx_postings.proofs.Posted.{IsPosted, posted_other}

-- the first keys are in, the records of the others are where they were found, and there is room for them
pub record IsFilling (layout : Layout) (message : ℕ) (keys : List KeyNumbers) (offsets : List (Option ℕ)) (k : ℕ) (old new : Heap) : Type 0 where
  pub filled : IsFilled layout message (take k keys) old new
  pub found : (j : ℕ) (key : KeyNumbers) → k ≤ j → j < length keys
      → IsFound layout (segment_of new (own_of old (layout.lane_of (get_or keys j key)))) (get_or keys j key) (get_or offsets j None)
  pub room : (lane : ℕ) → lane < length old.lanes
      → (count : ℕ) × TakeWords layout old lane (drop k keys) count × (free_of (segment_of new (own_of old lane)) + count ≤ segment_len)

pub filling_none : {layout : Layout} {lists : List (List KeyNumbers)} {message : ℕ} {keys : List KeyNumbers} {offsets : List (Option ℕ)} {heap : Heap}
    → IsGoodIndex layout lists heap → CanFill layout keys offsets heap → IsFilling layout message keys offsets 0 heap heap
filling_none {layout} {lists} {message} {heap = heap} good can = record {
  filled = filled_none layout lists message heap good;
  found = λ j key from below. can.found j key below;
  room = can.room;
}

-- a key takes the words that its offset, or none, asks for
takes_are : {layout : Layout} {words : List ℕ} {key : KeyNumbers} {count : ℕ} (offset : Option ℕ) → IsFound layout words key offset
    → TakesWords layout words key count → count ≡ words_for offset
takes_are None none (inl ((at, is), two)) = absurd (none at is)
takes_are None none (inr (missing, eight)) = eight
takes_are (Some at) found (inl (is, two)) = two
takes_are (Some at) found (inr (missing, eight)) = absurd (missing at found)

module _ {layout : Layout} {message : ℕ} {keys : List KeyNumbers} {offsets : List (Option ℕ)} {k : ℕ} {old mid : Heap}
    (filling : IsFilling layout message keys offsets k old mid) (can : CanFill layout keys offsets old) (below : k < length keys)
    (lanes : HasLanes old) (d : KeyNumbers) (lane_below : layout.lane_of (get_or keys k d) < length old.lanes) where
  abbrev key : KeyNumbers
  key = get_or keys k d

  abbrev offset : Option ℕ
  offset = get_or offsets k None

  abbrev lane : ℕ
  lane = layout.lane_of key

  abbrev segment : ℕ
  segment = own_of old lane

  rest_is : drop k keys ≡ key ∷ drop (suc k) keys
  rest_is = drop-cons keys k d below

  -- the words that the lanes' segments have for the key and those behind it
  parts : (l : ℕ) → l < length old.lanes
      → (own rest : ℕ) × TakeWords layout old l (drop (suc k) keys) rest × (free_of (segment_of mid (own_of old l)) + (own + rest) ≤ segment_len)
      × (((lane ≡ l) × (own ≡ words_for offset)) ⊎ ((lane ≢ l) × (own ≡ 0)))
  parts l inside =
      let (count, takes, fits) = filling.room l inside in
      let (own, rest, is, others, how) = subst (λ ks. TakeWords layout old l ks count) rest_is takes in
      (own, rest, others, omega (arith, fits, is), by_lane own how)
    where
      by_lane : (own : ℕ) → ((lane ≡ l) × TakesWords layout (segment_of old (own_of old l)) key own) ⊎ ((lane ≢ l) × (own ≡ 0))
          → ((lane ≡ l) × (own ≡ words_for offset)) ⊎ ((lane ≢ l) × (own ≡ 0))
      by_lane own (inr other) = inr other
      by_lane own (inl (same, takes)) =
          inl (same, takes_are offset (can.found k d below) (subst (λ n. TakesWords layout (segment_of old (own_of old n)) key own) (sym same) takes))

  -- the key is where it was found, and there is room for its posting
  pub found_then : IsFound layout (segment_of mid segment) key offset
  found_then = filling.found k d (omega arith) below

  pub room_then : free_of (segment_of mid segment) + words_for offset ≤ segment_len
  room_then = let (own, rest, takes, fits, how) = parts lane lane_below in enough own rest fits how
    where
      enough : (own rest : ℕ) → free_of (segment_of mid segment) + (own + rest) ≤ segment_len
          → ((lane ≡ lane) × (own ≡ words_for offset)) ⊎ ((lane ≢ lane) × (own ≡ 0)) → free_of (segment_of mid segment) + words_for offset ≤ segment_len
      enough own rest fits (inl (same, is)) = omega (arith, fits, is)
      enough own rest fits (inr (other, is)) = absurd (other refl)

  module _ {new : Heap} (is_open : gate_of mid segment ≡ 1) (once : Pairwise ◌≢◌ keys) (none : HasNone layout keys message old)
      (posted : IsPosted layout segment key message offset mid new) (index : IsIndex layout new) where
    split : keys ≡ take k keys ++ key ∷ drop (suc k) keys
    split = sym (take-append-drop k keys) ∙ ap (λ ks. take k keys ++ ks) rest_is

    -- the other keys are others
    beside : (other : KeyNumbers) → Contains (take k keys ++ drop (suc k) keys) other → key ≢ other
    beside = key_beside keys (take k keys) (drop (suc k) keys) key once split

    later : (j : ℕ) (e : KeyNumbers) → suc k ≤ j → j < length keys → key ≢ get_or keys j e
    later j e from inside =
        let offset : suc k + (j - suc k) ≡ j = omega (arith, from) in
        let is : get_or (drop (suc k) keys) (j - suc k) e ≡ get_or keys j e = get_or-drop (suc k) keys (j - suc k) e ∙ ap (λ n. get_or keys n e) offset in
        let there = Contains-get_or (drop (suc k) keys) (j - suc k) e (omega (arith, from, inside, length-drop (suc k) keys)) in
        beside (get_or keys j e) (Contains-append_right (take k keys) (drop (suc k) keys) (get_or keys j e) (subst (Contains (drop (suc k) keys)) is there))

    pub filling_more : IsFilling layout message keys offsets (k + 1) old new
    filling_more = record {
      filled =
          subst (λ ks. IsFilled layout message ks old new) (sym (take_more keys k d below))
          (filled_more lane lane_below refl is_open filling.filled posted index (none key (Contains-get_or keys k d below))
          (λ again. beside key (Contains-append_left (take k keys) (drop (suc k) keys) key again) refl));
      found = λ j e from inside.
          let other = later j e (omega (arith, from)) inside in
          let was = filling.found j e (omega (arith, from)) inside in
          let own = own_of old (layout.lane_of (get_or keys j e)) in
          elim (cases_eq own segment) [
            | inl same ↦
                subst (λ n. IsFound layout (segment_of new n) (get_or keys j e) (get_or offsets j None)) (sym same)
                (posted.words.found (get_or keys j e) (get_or offsets j None) other
                (subst (λ n. IsFound layout (segment_of mid n) (get_or keys j e) (get_or offsets j None)) same was))
            | inr apart ↦ subst (λ words. IsFound layout words (get_or keys j e) (get_or offsets j None)) (sym (posted_other posted own apart)) was
          ];
      room =
          λ l inside. let next : suc k ≡ k + 1 = omega arith in let (own, rest, takes, fits, how) = parts l inside in
          (rest, subst (λ n. TakeWords layout old l (drop n keys) rest) next takes, left_over l inside own rest fits how);
    }
      where
        left_over : (l : ℕ) → l < length old.lanes → (own rest : ℕ) → free_of (segment_of mid (own_of old l)) + (own + rest) ≤ segment_len
            → ((lane ≡ l) × (own ≡ words_for offset)) ⊎ ((lane ≢ l) × (own ≡ 0))
            → free_of (segment_of new (own_of old l)) + rest ≤ segment_len
        left_over l inside own rest fits (inl (same, is)) =
            let before = ap (λ n. free_of (segment_of mid (own_of old n))) (sym same) in
            let after = ap (λ n. free_of (segment_of new (own_of old n))) (sym same) in
            omega (arith, fits, is, before, after, posted.words.free)
        left_over l inside own rest fits (inr (other, is)) =
            let apart : own_of old l ≢ segment = own_apart old lanes l lane inside lane_below (λ e. other (sym e)) in
            omega (arith, fits, is, ap free_of (posted_other posted (own_of old l) apart))
