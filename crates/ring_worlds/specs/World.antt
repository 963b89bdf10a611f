-- A world: the ring, the memory and all callers at one moment, as plain data.
use Rattle.std.specs.Prelude.{ℕ, ◌+◌, ◌*◌, ◌%◌, List, [], ◌∷◌, ◌++◌, take, drop, max, slice_index, slice_set}
use Rattle.tx_model.specs.declared.gate.Region.{Region}
use Rattle.tx_model.specs.declared.word.Word.{Word}
use Rattle.tx_model.specs.declared.history.Commit.{Commit}
use Rattle.tx_model.specs.declared.view.Attempt.{Attempt}
use Rattle.tx_model.specs.declared.view.Owned.{Owned}
use Rattle.tx_model.specs.Words.{addresses}
use Rattle.tx_model.specs.History.{state_at}
use Rattle.tx_model.specs.Attempt as attempts
use Rattle.ring_core.specs.declared.shape.Shape.{Shape}
use Rattle.ring_core.specs.declared.action.Progress.{Progress}
use Rattle.ring_core.specs.declared.action.Progress.TheVariants.{Started, Value, Stopped, Completed, Worn}
use Rattle.ring_core.specs.declared.stage.Stage.{Stage}
use Rattle.ring_core.specs.declared.stage.Stage.TheVariants.{Check}
use Rattle.ring_core.specs.declared.stage.Purpose.{Purpose}
use Rattle.ring_core.specs.declared.stage.Purpose.TheVariants.{Read, Stamp}
use Rattle.ring_core.specs.Outcomes.{Outcome, outcome_at}
use Rattle.ring_worlds.specs.declared.process.Process.{Process}

pub record World : Type 0 where
  pub shape : Shape
  pub regions : List Region
  -- the memory before the first commit
  pub opening : List ℕ
  pub index : ℕ
  -- one tag for each slot
  pub tags : List ℕ
  -- the signature words of the slots, one slot after the other
  pub sigs : List ℕ
  pub heap : List ℕ
  pub history : List Commit
  pub processes : List Process

-- what all callers stand beside: the history, the tags, the signature words, and the number of complete entries
pub record Board : Type 0 where
  pub history : List Commit
  pub tags : List ℕ
  pub sigs : List ℕ
  pub complete : ℕ

abbrev pub board_of : World → ℕ → Board
board_of w complete = record { history = w.history; tags = w.tags; sigs = w.sigs; complete = complete }

module _ (shape : Shape) where
  -- the tag in the slot of an entry
  abbrev pub tag_of : Board → ℕ → ℕ
  tag_of b entry = slice_index b.tags (entry % shape.ring)

  abbrev pub slot_words : Board → ℕ → List ℕ
  slot_words b slot = take shape.sig_words (drop (slot * shape.sig_words) b.sigs)

  abbrev pub sig_word : Board → ℕ → ℕ → ℕ
  sig_word b slot word = slice_index b.sigs (slot * shape.sig_words + word)

-- ---- one caller
-- the attempt of a caller, in the words of the contract of memories
abbrev pub attempt_of : Process → Attempt
attempt_of p = record { start = p.caller.start; reads = p.reads; writes = p.caller.writes; sealed = p.sealed; published = p.published }

-- the commit that the attempt makes
abbrev pub commit_of : Process → Commit
commit_of p = attempts.commit_of (attempt_of p) p.owned

-- the read that a check is made for
abbrev pub read_for : Purpose → List Word
read_for (Read addr value) = record { addr = addr; value = value } ∷ []
read_for Stamp = []

abbrev pub read_of : Stage → List Word
read_of (Check purpose stage) = read_for purpose
read_of _ = []

-- the addresses whose places the read signature has
abbrev pub asked_at : Stage → List Word → List ℕ
asked_at stage reads = addresses (reads ++ read_of stage)

-- the same addresses, that of the read first, as the contract of memories has them
abbrev pub asked_for : Purpose → List Word → List ℕ
asked_for (Read addr value) reads = addr ∷ addresses reads
asked_for Stamp reads = addresses reads

abbrev pub asked_first : Stage → List Word → List ℕ
asked_first (Check purpose stage) reads = asked_for purpose reads
asked_first _ reads = addresses reads

-- what is noted of an attempt, after an answer: an attempt that begins or is over has nothing
abbrev pub noted_after : {X : Type 0} → List X → Progress → List X
noted_after noted (Started start) = []
noted_after noted (Stopped stop) = []
noted_after noted (Completed stamp) = []
noted_after noted (Worn index) = []
noted_after noted _ = noted

-- a value is among the reads once its check has ended
abbrev pub reads_after : Stage → List Word → Progress → List Word
reads_after stage reads (Value value) = reads ++ read_of stage
reads_after stage reads progress = noted_after reads progress

-- the front rises to the start where an attempt ends, and to the number of a commit where it is complete
abbrev pub front_after : Process → Progress → ℕ
front_after p (Stopped stop) = max p.front p.caller.start
front_after p (Worn index) = max p.front p.caller.start
front_after p (Completed stamp) = max p.front stamp
front_after p _ = p.front

-- what a caller that has completed its commit owns: what it sealed, and no longer what it published
abbrev pub owned_after : List ℕ → List Commit → Process → Progress → List Owned
owned_after opening history p (Completed stamp) = attempts.owned_after (state_at opening history stamp) (attempt_of p) p.owned
owned_after opening history p _ = p.owned

-- the caller after this outcome of a step at this stage, beside this history
abbrev pub process_after : List ℕ → List Commit → Process → Stage → Outcome → Process
process_after opening history p stage o = record {
  caller = o.caller;
  front = front_after p o.progress;
  reads = reads_after stage p.reads o.progress;
  sealed = noted_after p.sealed o.progress;
  published = noted_after p.published o.progress;
  owned = owned_after opening history p o.progress;
}

-- `stage` is the caller's
abbrev pub moved_at : Shape → List ℕ → List Commit → Process → Stage → ℕ → Process
moved_at shape opening history p stage word = process_after opening history p stage (outcome_at shape p.caller stage word)

-- the caller after its next step found this word
abbrev pub moved_on : Shape → List ℕ → List Commit → Process → ℕ → Process
moved_on shape opening history p word = moved_at shape opening history p p.caller.stage word

abbrev pub with_process : World → ℕ → Process → World
with_process w who p = record w { processes = slice_set w.processes who p }
