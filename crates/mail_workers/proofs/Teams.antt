-- What each worker did, as what all did; and workers that come and go, one at a time.
use Rattle.std.proofs.Common.{◌≡◌, ◌⊎◌, ℕ, suc, ◌<◌, ◌≤◌, List, [], ◌∷◌, ◌++◌, length, map, take, All, slice_index_or, refl, sym, ◌∙◌, ap, ap₂, subst, arith, inl, inr}
use Rattle.std.specs.Prelude.{Contains}
use Rattle.std.proofs.lemmas.List.{get_or_append_left, get_or_at, length_push, map-append, append-nil, take-append-le, take_all}
use Rattle.tx_model.specs.declared.view.PassView.{PassView}
use Rattle.tx_model.specs.History.{IsBeginning}
use Rattle.tx_model.specs.Made.{Made}
use Rattle.tx_model.specs.Shares.{Name, joined}
use Rattle.tx_model.specs.Calls.{Joined, merged}
use Rattle.tx_model.proofs.lemmas.Histories.{beginning_of_itself, beginning_then}
use Rattle.tx_model.proofs.lemmas.Stamps.{merged_members}
use Rattle.mail_words.specs.Key.{KeyNumbers}
use Rattle.mail_workers.specs.declared.jobs.Jobs.{Jobs}
use Rattle.mail_workers.specs.declared.run.Worker.{Worker}
use Rattle.mail_workers.specs.JobPasses.{job_view}
use Rattle.mail_workers.specs.Indexing.{Indexes, AreFinished, IsFinished, HasMoved}
use Rattle.mail_workers.specs.Workers.{HasGained, HasIndexed, HasWorked, HaveWorked, share_of, job_share_of, joined_back}
use Rattle.mail_workers.proofs.Moves.{move_stays, need_stays, need_since}

none_among : {X : Type 0} (x : X) → Contains [] x → ⊥
none_among x (i, below, is) = omega (arith, below)

-- ---- each worker, and all of them
mapped : {X Y : Type 0} (f : X → Y) (old new : List X) → length new ≡ length old
    → ((i : ℕ) (d : X) → i < length old → f (slice_index_or new i d) ≡ f (slice_index_or old i d)) → map f new ≡ map f old
mapped f [] [] long each = refl
mapped f [] (y ∷ ys) long each = absurd (omega (arith, long))
mapped f (x ∷ xs) [] long each = absurd (omega (arith, long))
mapped f (x ∷ xs) (y ∷ ys) long each = ap₂ ◌∷◌ (each 0 x (omega arith)) (mapped f xs ys (omega (arith, long)) (λ i d below. each (suc i) d (omega
    (arith, below))))

module _ {P : Type 0} (of : P → Type 0) (view : P → PassView) (made : Made (List (List KeyNumbers))) (jobs : Jobs) where
  pub have_worked : (old new : List (Worker P)) → length new ≡ length old
      → ((i : ℕ) (d : Worker P) → i < length old → HasWorked of view made jobs (slice_index_or old i d) (slice_index_or new i d))
      → HaveWorked of view made jobs old new
  have_worked old new long each = record {
    ready = λ i d below. (each i d (omega (arith, below, long))).ready;
    shares = mapped (share_of view) old new long (λ i d below. (each i d below).share);
    job_shares = mapped job_share_of old new long (λ i d below. (each i d below).job_share);
    indexed = λ since were i d below. (each i d (omega (arith, below, long))).indexed since (were i d (omega (arith, below, long)));
  }

-- ---- one worker more, and one less
pub joined_back_last : (share : List Name) (others : List (List Name)) (last : List Name)
    → joined_back share (others ++ last ∷ []) ≡ joined_back (joined share last) others
joined_back_last share [] last = refl
joined_back_last share (other ∷ others) last = ap (λ names. joined names other) (joined_back_last share others last)

-- the last of all is joined
pub back_step : {P : Type 0} (f : Worker P → List Name) (share new : List Name) (all rest : List (Worker P)) (last : Worker P)
    → all ≡ rest ++ last ∷ [] → new ≡ joined share (f last)
    → joined_back new (map f rest) ≡ joined_back share (map f all)
back_step f share new all rest last is made =
    ap (λ names. joined_back names (map f rest)) made
    ∙ sym (ap (λ workers. joined_back share (map f workers)) is ∙ ap (joined_back share) (map-append f rest (last ∷ []))
    ∙ joined_back_last share (map f rest) (f last))

pub all_but_last : {X : Type 0} (F : X → Type 0) (all rest : List X) (last : X) → all ≡ rest ++ last ∷ [] → All F all → All F rest
all_but_last F all rest last is each k d below =
    subst F (get_or_append_left rest (last ∷ []) d k below) (subst (All F) is each k d (omega (arith, below, length_push rest last)))

-- one more was split off
pub front_step : {P : Type 0} (f : Worker P → List Name) (share new goal : List Name) (old all : List (Worker P)) (last : Worker P)
    → all ≡ old ++ last ∷ [] → joined new (f last) ≡ share
    → joined_back share (map f old) ≡ goal → joined_back new (map f all) ≡ goal
front_step f share new goal old all last is made before =
    ap (λ workers. joined_back new (map f workers)) is ∙ ap (joined_back new) (map-append f old (last ∷ [])) ∙ joined_back_last new (map f old) (f last)
    ∙ ap (λ names. joined_back names (map f old)) made ∙ before

-- ---- what a pass came to, from one call to the next
module _ {made : Made (List (List KeyNumbers))} where
  pub gained_nothing : (view : PassView) (drawn : List ℕ) → HasGained made view drawn view drawn
  gained_nothing view drawn = record {
    history = beginning_of_itself view.history;
    front = omega arith;
    moves = λ stamp among. inl among;
    finished = λ message among. inl among;
    owned = refl;
  }

  -- a split leaves all of it
  pub gained_same : {first old new : PassView} {before drawn now : List ℕ} → HasGained made first before old drawn → new.history ≡ old.history
      → new.front ≡ old.front
      → new.mine ≡ old.mine → new.owned ≡ old.owned → now ≡ drawn → HasGained made first before new now
  gained_same {first} {old} {new} {before} {drawn} {now} was history front mine owned same = record {
    history = subst (IsBeginning first.history) (sym history) was.history;
    front = omega (arith, was.front, front);
    moves = λ stamp among. subst (λ h. Contains first.mine stamp ⊎ Indexes made h stamp) (sym history)
        (was.moves stamp (subst (λ m. Contains m stamp) mine among));
    finished = λ message among. subst (λ h. Contains before message ⊎ IsFinished made h first.front message) (sym history)
        (was.finished message (subst (λ d. Contains d message) same among));
    owned = owned ∙ was.owned;
  }

  -- after more work by the same pass
  pub gained_moved : {first old new : PassView} {before drawn now : List ℕ} → HasGained made first before old drawn → HasMoved made old new
      → AreFinished made old.front drawn now new → HasGained made first before new now
  gained_moved was moved finished = record {
    history = beginning_then _ _ _ was.history moved.history;
    front = omega (arith, was.front, moved.front);
    moves = λ stamp among. elim (moved.moves stamp among) [
      | inl earlier ↦ (elim (was.moves stamp earlier) [
        | inl first ↦ inl first
        | inr move ↦ inr (move_stays moved.history move)
      ])
      | inr move ↦ inr move
    ];
    finished = λ message among. elim (finished message among) [
      | inl earlier ↦ (elim (was.finished message earlier) [
        | inl first ↦ inl first
        | inr need ↦ inr (need_stays moved.history need)
      ])
      | inr need ↦ inr (need_since was.front need)
    ];
    owned = moved.owned ∙ was.owned;
  }

  -- after the pass of a worker was joined
  pub gained_joined : {P : Type 0} {view : P → PassView} {worker : Worker P} {first old new : PassView} {before drawn now : List ℕ}
      → HasGained made first before old drawn
      → HasIndexed view made first.front worker → (view worker.pass).owned ≡ [] → Joined old (view worker.pass) new
      → now ≡ merged drawn (job_view worker.mine).drawn
      → HasGained made first before new now
  gained_joined {P} {view} {worker} {first} {old} {new} {before} {drawn} {now} was indexed owns_none is same = record {
    history = beginning_then _ _ _ was.history is.history;
    front = omega (arith, was.front, is.front);
    moves = λ stamp among. elim ((merged_members old.mine (view worker.pass).mine stamp).0 (subst (λ m. Contains m stamp) is.mine among)) [
      | inl ours ↦ (elim (was.moves stamp ours) [
        | inl first ↦ inl first
        | inr move ↦ inr (move_stays is.history move)
      ])
      | inr theirs ↦ (elim (indexed.moves stamp theirs) [
        | inl none ↦ absurd (none_among stamp none)
        | inr move ↦ inr (move_stays is.other_history move)
      ])
    ];
    finished = λ message among. elim ((merged_members drawn (job_view worker.mine).drawn message).0 (subst (λ d. Contains d message) same among)) [
      | inl ours ↦ (elim (was.finished message ours) [
        | inl first ↦ inl first
        | inr need ↦ inr (need_stays is.history need)
      ])
      | inr theirs ↦ (elim (indexed.finished message theirs) [
        | inl none ↦ absurd (none_among message none)
        | inr need ↦ inr (need_stays is.other_history need)
      ])
    ];
    owned = is.owned ∙ ap (λ more. old.owned ++ more) owns_none ∙ append-nil old.owned ∙ was.owned;
  }

  -- a worker that did nothing yet
  pub indexed_nothing : {P : Type 0} {view : P → PassView} {worker : Worker P} (since : ℕ) → since ≤ (view worker.pass).front → (view worker.pass).mine ≡ []
      → (job_view worker.mine).drawn ≡ [] → HasIndexed view made since worker
  indexed_nothing {P} {view} {worker} since front mine drawn = record {
    front = front;
    moves = λ stamp among. inl (subst (λ m. Contains m stamp) mine among);
    finished = λ message among. inl (subst (λ d. Contains d message) drawn among);
  }

  -- a worker that worked
  pub indexed_moved : {P : Type 0} {view : P → PassView} {old new : Worker P} → HasMoved made (view old.pass) (view new.pass)
      → AreFinished made (view old.pass).front (job_view old.mine).drawn (job_view new.mine).drawn (view new.pass)
      → (since : ℕ) → HasIndexed view made since old → HasIndexed view made since new
  indexed_moved {P} {view} {old} {new} moved finished since was = record {
    front = omega (arith, was.front, moved.front);
    moves = λ stamp among. elim (moved.moves stamp among) [
      | inl earlier ↦ (elim (was.moves stamp earlier) [
        | inl none ↦ inl none
        | inr move ↦ inr (move_stays moved.history move)
      ])
      | inr move ↦ inr move
    ];
    finished = λ message among. elim (finished message among) [
      | inl earlier ↦ (elim (was.finished message earlier) [
        | inl none ↦ inl none
        | inr need ↦ inr (need_stays moved.history need)
      ])
      | inr need ↦ inr (need_since was.front need)
    ];
  }

-- ---- the last of a list
pub last_of : {X : Type 0} (F : X → Type 0) (all rest : List X) (last : X) → all ≡ rest ++ last ∷ [] → All F all → F last
last_of F all rest last is each =
    subst F (get_or_at rest last [] last (length rest) refl) (subst (All F) is each (length rest) last (omega (arith, length_push rest last)))

-- a list as it comes back from a slice of all of it
pub back_whole : {X : Type 0} (count : ℕ) (xs rest : List X) → count ≡ length xs → xs ≡ take count (xs ++ rest)
back_whole count xs rest long = sym (take-append-le count xs rest (omega (arith, long)) ∙ take_all count xs (omega (arith, long)))
