-- What is known of workers before they work, and after, and of all of them together.
use Rattle.std.specs.Prelude.{◌≡◌, ◌≢◌, ℕ, ◌<◌, ◌≤◌, List, [], ◌∷◌, length, map, All}
use Rattle.tx_model.specs.declared.gate.TheConstants.{GATE_SEALED, GATE_PACKED}
use Rattle.tx_model.specs.declared.pass.PassState.TheVariants.{Idle}
use Rattle.tx_model.specs.declared.view.PassView.{PassView}
use Rattle.tx_model.specs.History.{IsBeginning}
use Rattle.tx_model.specs.Made.{Made}
use Rattle.tx_model.specs.Shares.{Name, joined}
use Rattle.mail_words.specs.Key.{KeyNumbers}
use Rattle.tx_heap.specs.Heap.{need_of, gate_of}
use Rattle.tx_heap.specs.Calls.{made_sizes}
use Rattle.mail_workers.specs.declared.jobs.Jobs.{Jobs}
use Rattle.mail_workers.specs.declared.run.Worker.{Worker}
use Rattle.mail_workers.specs.JobPasses.{IsJobPassOf, job_view}
use Rattle.mail_workers.specs.Indexing.{index_at, Indexes, AreMoves, AreFinished}

-- ---- what the passes of all came to
module _ (made : Made (List (List KeyNumbers))) where
  -- since then the pass came to know no less, its further commits are moves of the index, and the further messages drawn are finished
  pub record HasGained (old : PassView) (before : List ℕ) (new : PassView) (drawn : List ℕ) : Type 0 where
    pub history : IsBeginning old.history new.history
    pub front : old.front ≤ new.front
    pub moves : AreMoves made old.mine new
    pub finished : AreFinished made old.front before drawn new
    pub owned : new.owned ≡ old.owned

  -- each commit since then is a move of the index
  abbrev pub AllMoves : PassView → PassView → Type 0
  AllMoves old new = (stamp : ℕ) → length old.history < stamp → stamp ≤ length new.history → Indexes made new.history stamp

  -- in the last state all words of all messages are in the index, no segment is sealed, and none is packed that wasn't then
  pub record AreIndexed (old new : PassView) : Type 0 where
    pub needs : (message : ℕ) → 1 ≤ message → message ≤ (made_sizes made).messages → need_of (index_at made new.history (length new.history)) message ≡ 0
    pub none_sealed : (segment : ℕ) → segment < (made_sizes made).segments → gate_of (index_at made new.history (length new.history)) segment ≢ GATE_SEALED
    pub packs_none : (segment : ℕ) → gate_of (index_at made new.history (length new.history)) segment ≡ GATE_PACKED
        → gate_of (index_at made new.history (length old.history)) segment ≡ GATE_PACKED

-- ---- workers with passes of one memory and one queue
module _ {P : Type 0} (view : P → PassView) (made : Made (List (List KeyNumbers))) where
  -- it has had no commit but moves of the index, and has finished all messages that it drew, since so many commits were complete
  pub record HasIndexed (since : ℕ) (worker : Worker P) : Type 0 where
    pub front : since ≤ (view worker.pass).front
    pub moves : AreMoves made [] (view worker.pass)
    pub finished : AreFinished made since [] (job_view worker.mine).drawn (view worker.pass)

module _ {P : Type 0} (of : P → Type 0) (view : P → PassView) (made : Made (List (List KeyNumbers))) (jobs : Jobs) where
  -- a worker's two passes may be used, and it owns nothing
  pub record IsReady (worker : Worker P) : Type 0 where
    pub of_pass : of worker.pass
    pub idle : (view worker.pass).state ≡ Idle
    pub of_mine : IsJobPassOf jobs worker.mine
    pub filled : (job_view worker.mine).total ≡ (made_sizes made).messages
    pub owns_none : (view worker.pass).owned ≡ []

  pub record HasWorked (old new : Worker P) : Type 0 where
    pub ready : IsReady new
    pub share : (view new.pass).share ≡ (view old.pass).share
    pub job_share : (job_view new.mine).share ≡ (job_view old.mine).share
    pub indexed : (since : ℕ) → HasIndexed view made since old → HasIndexed view made since new

abbrev pub share_of : {P : Type 0} → (P → PassView) → Worker P → List Name
share_of view worker = (view worker.pass).share

abbrev pub job_share_of : {P : Type 0} → Worker P → List Name
job_share_of worker = (job_view worker.mine).share

-- all of them have worked
pub record HaveWorked {P : Type 0} (of : P → Type 0) (view : P → PassView) (made : Made (List (List KeyNumbers))) (jobs : Jobs)
    (old new : List (Worker P)) : Type 0 where
  pub ready : All (IsReady of view made jobs) new
  pub shares : map (share_of view) new ≡ map (share_of view) old
  pub job_shares : map job_share_of new ≡ map job_share_of old
  pub indexed : (since : ℕ) → All (HasIndexed view made since) old → All (HasIndexed view made since) new

-- the share with those of the others, the last one first
abbrev pub joined_back : List Name → List (List Name) → List Name
joined_back share [] = share
joined_back share (other ∷ others) = joined (joined_back share others) other

-- workers that are ready, have done nothing, and whose names were split off
pub record AreHired {P : Type 0} (of : P → Type 0) (view : P → PassView) (made : Made (List (List KeyNumbers))) (jobs : Jobs) (since : ℕ)
    (share job_share left job_left : List Name) (workers : List (Worker P)) : Type 0 where
  pub ready : All (IsReady of view made jobs) workers
  pub indexed : All (HasIndexed view made since) workers
  pub shares : joined_back left (map (share_of view) workers) ≡ share
  pub job_shares : joined_back job_left (map job_share_of workers) ≡ job_share
