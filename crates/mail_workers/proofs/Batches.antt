-- What a batch that was added, and one that wasn't, leave of the index.
use Rattle.std.proofs.Common.{◌≡◌, ℕ, ◌-◌, ◌<◌, ◌≤◌, List, [], ◌∷◌, length, get_or, sym, ◌∙◌, ap, subst, arith, inl, inr}
use Rattle.std.proofs.lemmas.List.{get_or-set_same}
use Rattle.tx_model.specs.declared.pass.Stop.{Stop}
use Rattle.tx_model.specs.declared.history.Commit.{Commit}
use Rattle.tx_model.specs.declared.view.Attempt.{Attempt}
use Rattle.tx_model.specs.declared.view.PassView.{PassView}
use Rattle.tx_model.specs.History.{state_at}
use Rattle.tx_model.specs.Memory.{after}
use Rattle.tx_model.specs.Made.{Made}
use Rattle.tx_model.specs.Pass.{IsPass}
use Rattle.tx_model.specs.Attempt.{Fits}
use Rattle.tx_model.proofs.lemmas.Calls.{later_then}
use Rattle.mail_words.specs.Key.{KeyNumbers}
use Rattle.mail_words.specs.Hash as hash
use Rattle.tx_heap.specs.Layout.{Layout, mail_layout}
use Rattle.tx_heap.specs.Heap.{Heap, need_of}
use Rattle.tx_heap.specs.Mail.{IsGoodMail, mail_heap, mail_budget}
use Rattle.tx_heap.specs.Calls.{made_sizes}
use Rattle.tx_heap.specs.BudgetLaw.{own_below}
use Rattle.tx_heap.proofs.lemmas.Reads.{agrees_alone, fits_alone}
use Rattle.tx_heap.proofs.lemmas.HeapWords.{lanes_many, segments_many}
use Rattle.tx_postings.specs.Batch.{TakeWords, AddsKeys, batch_of}
use Rattle.tx_postings.specs.Filled.{LacksRoomFor}
use Rattle.tx_postings.specs.Adding.{HasAdded, NoRoom, NotAdded}
use Rattle.tx_postings.specs.declared.adding.Added.{Added}
use Rattle.tx_postings.specs.declared.stops.AddStop.{AddStop}
use Rattle.tx_postings.specs.declared.stops.AddStop.TheVariants.{Room, Stopped, Worn}
use Rattle.tx_postings.proofs.lemmas.Moves.{adds_move}
use Rattle.mail_workers.specs.Indexing.{IsIndexing, index_at, NeedWas, HasMoved}
use Rattle.mail_workers.proofs.Moves.{moved_later, moved_then, committed_moved, state_after}

pub adds_index : {layout : Layout} {message : ℕ} {keys : List KeyNumbers} {old new : Heap} → AddsKeys layout message keys old new → IsIndexing old new
adds_index adds = record {
  moves = adds_move adds;
  packs_none = λ segment packed. ap (λ gates. get_or gates segment 0) (sym adds.gates) ∙ packed;
}

-- the need of the message after its batch came in
need_after : {message : ℕ} {keys : List KeyNumbers} {old new : Heap} → message - 1 < length old.needs → AddsKeys mail_layout message keys old new
    → need_of new message ≡ need_of old message - length keys
need_after {message} {keys} {old} {new} within adds =
    ap (λ needs. get_or needs (message - 1) 0) adds.needs ∙ get_or-set_same old.needs (message - 1) (need_of old message - length keys) 0 within

module _ {made : Made (List (List KeyNumbers))} {old new : PassView} {now : Attempt} {message : ℕ} {added : Added}
    (knows : IsPass IsGoodMail mail_budget made new now)
    (has : HasAdded made old new message added) where
  pub batch_moved : HasMoved made old new
  batch_moved =
      moved_then (moved_later (later_then has.later has.fill.goes_on.later))
      (committed_moved {attempt = has.attempt} knows (has.fill.sealed ∙ ap (λ (a : Attempt). a.sealed) has.empty)
      (has.fill.published ∙ ap (λ (a : Attempt). a.published) has.empty)
      (λ some memory good fits. adds_index (has.fill.adds memory good fits)) has.committed)

  module _ (from_one : 1 ≤ message) (to_last : message ≤ (made_sizes made).messages) where
    left_in : (state : ℕ) → state ≤ length new.history → (memory : List ℕ) → IsGoodMail made.sense made.opening memory → Fits memory has.attempt []
        → state_at made.opening new.history state ≡ after memory has.attempt.writes
        → need_of (index_at made new.history state) message ≡ added.left
    left_in state happened memory good fits is =
        ap (λ m. need_of (mail_heap made.sense m) message) is
        ∙ need_after (omega (arith, from_one, to_last, good.index.rows.needs)) (has.fill.adds memory good fits)
        ∙ sym (has.fill.left_is memory good fits)

    -- in the state that the receipt names so many words are still to come
    pub batch_need : NeedWas made new.history old.front message added.left
    batch_need = elim has.committed.received [
      | inl (same, some, wrote) ↦
          let stamp = added.receipt.stamp in
          let good = knows.good_states.states (stamp - 1) (omega (arith, wrote.complete, knows.front)) in
          record {
            state = stamp;
            no_older = omega (arith, has.fresh, has.fill.goes_on.start, wrote.after_start);
            happened = omega (arith, wrote.complete, knows.front);
            need = left_in stamp (omega (arith, wrote.complete, knows.front)) (state_at made.opening new.history (stamp - 1)) good (fits_alone wrote.fits)
                (state_after (has.fill.published ∙ ap (λ (a : Attempt). a.published) has.empty) wrote);
          }
      | inr (other, none, read) ↦
          let stamp = added.receipt.stamp in
          let happened : stamp ≤ length new.history = omega (arith, read.front, knows.front) in
          let no_older : old.front ≤ stamp = omega (arith, has.fresh, has.fill.goes_on.start, read.no_older) in
          let state = state_at made.opening new.history stamp in
          record {
            state = stamp;
            no_older = no_older;
            happened = happened;
            need = left_in stamp happened state (knows.good_states.states stamp happened)
                (agrees_alone read.from_state.agree)
                (ap (after state) (sym none));
          }
    ]

-- ---- a lane that has no room
lane_below : (key : KeyNumbers) → hash.lane_of key < 8
lane_below key = omega arith

taken_lane : (heap : Heap) (lane : ℕ) (keys : List KeyNumbers) (count : ℕ) → TakeWords mail_layout heap lane keys count → 0 < count → lane < 8
taken_lane heap lane [] count none some = absurd (omega (arith, none, some))
taken_lane heap lane (key ∷ keys) count (own, rest, sum, more, how) some = elim how [
  | inl (of, takes) ↦ omega (arith, lane_below key, of)
  | inr (other, none) ↦ taken_lane heap lane keys rest more (omega (arith, sum, none, some))
]

module _ {made : Made (List (List KeyNumbers))} {old new : PassView} {now : Attempt} {message lane segment free needs : ℕ}
    (knows : IsPass IsGoodMail mail_budget made new now)
    (no_room : NoRoom made old new message (LacksRoomFor made.sense message lane segment free needs)) where
  pub short_lane : lane < 8
  short_lane =
      let heap = mail_heap made.sense (state_at made.opening new.history no_room.from) in
      taken_lane heap lane (batch_of made.sense heap message) needs no_room.lacks.short.needs_is (omega (arith, no_room.lacks.short.fewer))

  pub short_segment : segment < (made_sizes made).segments
  short_segment =
      let memory = state_at made.opening new.history no_room.from in
      let heap = mail_heap made.sense memory in
      let good = knows.good_states.states no_room.from no_room.within in
      let lanes = good.index.grows.index.lanes in
      let below : lane < length heap.lanes = omega (arith, short_lane, lanes_many (made_sizes made) memory good.size) in
      omega (arith, own_below heap lanes lane below, no_room.lacks.short.own, lanes.pool, segments_many (made_sizes made) memory)

-- ---- by the answer
pub not_room : (made : Made (List (List KeyNumbers))) (shows : List Commit → ℕ → List ℕ → Stop → Type 0) {old new : PassView}
    {message lane segment free needs : ℕ} {stop : AddStop}
    → stop ≡ Room lane segment free needs → NotAdded made shows old new message stop
    → NoRoom made old new message (LacksRoomFor made.sense message lane segment free needs)
not_room made shows {old} {new} {message} is = subst (NotAdded made shows old new message) is

pub not_stopped : (made : Made (List (List KeyNumbers))) (shows : List Commit → ℕ → List ℕ → Stop → Type 0) (old new : PassView) (message : ℕ) {why : Stop}
    {stop : AddStop}
    → stop ≡ Stopped why → NotAdded made shows old new message stop → HasMoved made old new
not_stopped made shows old new message is not_added = moved_later (subst (NotAdded made shows old new message) is not_added).later

-- where the opening's budget is below the life, the memory is never worn out
pub never_worn : (made : Made (List (List KeyNumbers))) (shows : List Commit → ℕ → List ℕ → Stop → Type 0) (old new : PassView) (message : ℕ) {index : ℕ}
    {stop : AddStop} → mail_budget made.sense made.opening < made.life
    → stop ≡ Worn index → NotAdded made shows old new message stop → ⊥
never_worn made shows old new message life is not_added = omega (arith, life, (subst (NotAdded made shows old new message) is not_added).budget)
