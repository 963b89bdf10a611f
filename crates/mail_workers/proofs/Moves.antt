-- Passes that move an index, one call after another.
use Rattle.std.proofs.Common.{◌≡◌, ◌≢◌, ℕ, ◌+◌, ◌-◌, ◌≤◌, ◌++◌, not, List, [], ◌∷◌, map, filter, refl, sym, ◌∙◌, ap, ap₂, subst, arith, inl, inr}
use Rattle.std.specs.Prelude.{Contains}
use Rattle.std.proofs.lemmas.List.{append-nil}
use Rattle.std.proofs.lemmas.List.Elements.{Contains-push_cases}
use Rattle.tx_model.specs.declared.history.Commit.{Commit}
use Rattle.tx_model.specs.declared.gate.Region.{Region}
use Rattle.tx_model.specs.declared.pass.Receipt.{Receipt}
use Rattle.tx_model.specs.declared.view.Attempt.{Attempt}
use Rattle.tx_model.specs.declared.view.Owned.{Owned}
use Rattle.tx_model.specs.declared.view.PassView.{PassView}
use Rattle.tx_model.specs.History.{IsBeginning, state_at}
use Rattle.tx_model.specs.Memory.{after}
use Rattle.tx_model.specs.Made.{Made}
use Rattle.tx_model.specs.Pass.{IsPass}
use Rattle.tx_model.specs.Attempt.{Fits, commit_of, owned_after, has_region, just_sealed}
use Rattle.tx_model.specs.Calls.{IsLater, Wrote, Committed}
use Rattle.tx_model.proofs.lemmas.Histories.{beginning_of_itself, beginning_then, beginning_length, state_stays}
use Rattle.tx_model.proofs.lemmas.Memories.{after_commit_none}
use Rattle.tx_model.proofs.lemmas.States.{state_next}
use Rattle.mail_words.specs.Key.{KeyNumbers}
use Rattle.tx_heap.specs.Heap.{need_of}
use Rattle.tx_heap.proofs.lemmas.Reads.{fits_alone}
use Rattle.tx_heap.specs.Mail.{IsGoodMail, mail_heap, mail_budget}
use Rattle.mail_workers.specs.Indexing.{IsIndexing, index_at, Indexes, NeedWas, AreFinished, HasMoved}

-- ---- a commit that seals and publishes nothing
-- the writes move the index of each good memory that fits the attempt, and pack nothing
abbrev pub WritesIndex : Made (List (List KeyNumbers)) → Attempt → Type 0
WritesIndex made attempt = (memory : List ℕ) → IsGoodMail made.sense made.opening memory → Fits memory attempt []
    → IsIndexing (mail_heap made.sense memory) (mail_heap made.sense (after memory attempt.writes))

keep_all : (owned : List Owned) → filter (λ (o : Owned). not (has_region [] o.region)) owned ≡ owned
keep_all [] = refl
keep_all (o ∷ owned) = ap (λ rest. o ∷ rest) (keep_all owned)

-- who seals and publishes nothing owns the same
same_owned : (memory : List ℕ) (attempt : Attempt) (owned : List Owned) → attempt.sealed ≡ [] → attempt.published ≡ []
    → owned_after memory attempt owned ≡ owned
same_owned memory attempt owned sealed published =
    ap₂ (λ (p s : List Region). filter (λ (o : Owned). not (has_region p o.region)) owned ++ map (just_sealed memory) s) published sealed
    ∙ append-nil (filter (λ (o : Owned). not (has_region [] o.region)) owned)
    ∙ keep_all owned

-- the state after it
pub state_after : {opening : List ℕ} {old new : PassView} {attempt : Attempt} {stamp : ℕ} → attempt.published ≡ [] → Wrote opening old new attempt stamp
    → state_at opening new.history stamp ≡ after (state_at opening new.history (stamp - 1)) attempt.writes
state_after {opening} {old} {new} {attempt} {stamp} published wrote =
    let back : stamp - 1 + 1 ≡ stamp = omega (arith, wrote.later) in
    ap (state_at opening new.history) (sym back)
    ∙ state_next opening new.history (stamp - 1) (commit_of attempt old.owned) wrote.there
    ∙ after_commit_none (state_at opening new.history (stamp - 1)) attempt old.owned published

module _ {made : Made (List (List KeyNumbers))} where
  -- ---- in a longer history
  pub move_stays : {earlier later : List Commit} {stamp : ℕ} → IsBeginning earlier later → Indexes made earlier stamp → Indexes made later stamp
  move_stays {earlier} {later} {stamp} more was =
      let before = state_stays made.opening earlier later (stamp - 1) more (omega (arith, was.happened)) in
      let then = state_stays made.opening earlier later stamp more was.happened in
      record {
        least = was.least;
        happened = omega (arith, was.happened, beginning_length earlier later more);
        step = subst (λ m. IsIndexing (mail_heap made.sense m) (index_at made later stamp)) (sym before)
            (subst (λ m. IsIndexing (index_at made earlier (stamp - 1)) (mail_heap made.sense m)) (sym then) was.step);
      }

  pub need_stays : {earlier later : List Commit} {since message left : ℕ} → IsBeginning earlier later → NeedWas made earlier since message left
      → NeedWas made later since message left
  need_stays {earlier} {later} {since} {message} more was = record {
    state = was.state;
    no_older = was.no_older;
    happened = omega (arith, was.happened, beginning_length earlier later more);
    need = ap (λ m. need_of (mail_heap made.sense m) message) (state_stays made.opening earlier later was.state more was.happened) ∙ was.need;
  }

  -- what is no older than a later state is no older than an earlier one
  pub need_since : {history : List Commit} {since from message left : ℕ} → since ≤ from → NeedWas made history from message left
      → NeedWas made history since message left
  need_since lower was = record { state = was.state; no_older = omega (arith, lower, was.no_older); happened = was.happened; need = was.need }

  -- ---- one call after another
  pub moved_later : {old new : PassView} → IsLater old new → HasMoved made old new
  moved_later {old} {new} later = record {
    history = later.history;
    front = later.front;
    mine = subst (IsBeginning old.mine) (sym later.mine) (beginning_of_itself old.mine);
    moves = λ stamp among. inl (subst (λ mine. Contains mine stamp) later.mine among);
    owned = later.owned;
    share = later.share;
  }

  pub moved_then : {old mid new : PassView} → HasMoved made old mid → HasMoved made mid new → HasMoved made old new
  moved_then {old} {mid} {new} first next = record {
    history = beginning_then _ _ _ first.history next.history;
    front = omega (arith, first.front, next.front);
    mine = beginning_then _ _ _ first.mine next.mine;
    moves = λ stamp among. elim (next.moves stamp among) [
      | inl before ↦ (elim (first.moves stamp before) [
        | inl earlier ↦ inl earlier
        | inr move ↦ inr (move_stays next.history move)
      ])
      | inr move ↦ inr move
    ];
    owned = next.owned ∙ first.owned;
    share = next.share ∙ first.share;
  }

  -- ---- a commit
  module _ {old new : PassView} {attempt now : Attempt} (knows : IsPass IsGoodMail mail_budget made new now) (sealed : attempt.sealed ≡ [])
      (published : attempt.published ≡ [])
      (indexes : attempt.writes ≢ [] → WritesIndex made attempt) where
    move_of : {stamp : ℕ} → attempt.writes ≢ [] → Wrote made.opening old new attempt stamp → Indexes made new.history stamp
    move_of {stamp} some wrote =
        let before = state_at made.opening new.history (stamp - 1) in
        let good = knows.good_states.states (stamp - 1) (omega (arith, wrote.complete, knows.front)) in
        record {
          least = omega (arith, wrote.later);
          happened = omega (arith, wrote.complete, knows.front);
          step = subst (λ m. IsIndexing (mail_heap made.sense before) (mail_heap made.sense m)) (sym (state_after published wrote))
              (indexes some before good (fits_alone wrote.fits));
        }

    wrote_moved : {stamp : ℕ} → attempt.writes ≢ [] → Wrote made.opening old new attempt stamp → HasMoved made old new
    wrote_moved {stamp} some wrote = record {
      history = wrote.history;
      front = wrote.front;
      mine = (stamp ∷ [], wrote.mine);
      moves = λ own among. elim (Contains-push_cases old.mine stamp own (subst (λ mine. Contains mine own) wrote.mine among)) [
        | inl before ↦ inl before
        | inr same ↦ inr (subst (Indexes made new.history) same (move_of some wrote))
      ];
      owned = wrote.owned ∙ same_owned (state_at made.opening new.history stamp) attempt old.owned sealed published;
      share = wrote.share;
    }

    pub committed_moved : {receipt : Receipt} → Committed made.opening old new attempt receipt → HasMoved made old new
    committed_moved committed = elim committed.received [
      | inl (same, some, wrote) ↦ wrote_moved some wrote
      | inr (other, none, read) ↦ moved_later read.later
    ]

  -- ---- one message more
  pub finished_more : (since : ℕ) (before drawn now : List ℕ) (mid new : PassView) (message : ℕ) → since ≤ mid.front → now ≡ drawn ++ message ∷ []
      → AreFinished made since before drawn mid → IsBeginning mid.history new.history → NeedWas made new.history mid.front message 0
      → AreFinished made since before now new
  finished_more since before drawn now mid new message front is were more finished number among =
      elim (Contains-push_cases drawn message number (subst (λ d. Contains d number) is among)) [
        | inl earlier ↦ (elim (were number earlier) [
          | inl first ↦ inl first
          | inr was ↦ inr (need_stays more was)
        ])
        | inr same ↦ inr (subst (λ n. NeedWas made new.history since n 0) same (need_since front finished))
      ]
