-- Worked examples: a run in a ring of four with two callers, a region that is sealed, and worlds that no run leads to.
-- Of 64 places, address 1 has place 39 and address 2 has place 15.
use Rattle.std.specs.Prelude.{ℕ, ◌+◌, ◌-◌, ◌^◌, List, [], ◌∷◌, replicate, slice_set}
use Rattle.tx_model.specs.declared.gate.Region.{Region}
use Rattle.tx_model.specs.declared.gate.TheConstants.{GATE_OPEN, GATE_SEALED}
use Rattle.tx_model.specs.declared.word.Word.{Word}
use Rattle.tx_model.specs.declared.history.Commit.{Commit}
use Rattle.tx_model.specs.declared.pass.PassState.TheVariants as state
use Rattle.tx_model.specs.Rule.{MaySeal}
use Rattle.ring_core.specs.declared.shape.Shape.{Shape}
use Rattle.ring_core.specs.declared.caller.Caller.{Caller}
use Rattle.ring_core.specs.declared.stage.Stage.TheVariants.{Turn}
use Rattle.ring_core.specs.declared.stage.TurnStage.TheVariants.{Heap}
use Rattle.ring_core.specs.Outcomes.{opening}
use Rattle.ring_worlds.specs.declared.process.Process.{Process}
use Rattle.ring_worlds.specs.World.{World, attempt_of, commit_of}
use Rattle.ring_worlds.specs.Sound.{Sound}
use Rattle.ring_worlds.specs.Moves.{IsMove, with_seal}
use Rattle.ring_worlds.specs.Runs.{opening_world, Runs}

abbrev pub four : Shape
four = record { ring = 4; sig_words = 1; heap = 64; life = 100 }

abbrev pub word : ℕ → ℕ → Word
word addr value = record { addr = addr; value = value }

-- a caller of this machine that has read these words, and knows nothing to be complete
abbrev pub process : Caller → List Word → Process
process caller reads = record { caller = caller; front = 0; reads = reads; sealed = []; published = []; owned = [] }

-- ---- a run
abbrev pub first_world : World
first_world = opening_world four [] (replicate 64 0) 2

abbrev pub OpeningExample : Type 0
OpeningExample = Sound first_world

-- an attempt that began at state 0
abbrev pub reader : Process
reader = process (record (opening four) { state = state.Active }) []

-- it wrote two words, its commit is the first one, and it has stored one of them
abbrev pub writer : Process
writer =
    process (record (opening four) {
      state = state.Stamped;
      stamp = 1;
      writes = word 1 5 ∷ word 2 6 ∷ [];
      write_sig = (2 ^ 39 + 2 ^ 15) ∷ [];
      stage = Turn (Heap 1);
    }) []

-- both callers began; the second one wrote two words, stamped, and made four steps of its turn
abbrev pub middle_world : World
middle_world = record {
  shape = four;
  regions = [];
  opening = replicate 64 0;
  index = 1;
  tags = 0 ∷ 6 ∷ 0 ∷ 0 ∷ [];
  sigs = 0 ∷ (2 ^ 39 + 2 ^ 15) ∷ 0 ∷ 0 ∷ [];
  heap = slice_set (replicate 64 0) 1 5;
  history = commit_of writer ∷ [];
  processes = reader ∷ writer ∷ [];
}

abbrev pub RunExample : Type 0
RunExample = Runs first_world middle_world

abbrev pub MiddleExample : Type 0
MiddleExample = Sound middle_world

-- ---- worlds that aren't sound, to which wrong machines would lead
abbrev pub NotSound : World → Type 0
NotSound w = Sound w → ⊥

-- the first commit, which wrote 5 to address 1
abbrev pub first_commit : Commit
first_commit = record { reads = []; writes = word 1 5 ∷ []; sealed = []; published = []; carry = [] }

abbrev pub done_world : World
done_world = record {
  shape = four;
  regions = [];
  opening = replicate 64 0;
  index = 1;
  tags = 0 ∷ 7 ∷ 0 ∷ 0 ∷ [];
  sigs = 0 ∷ (2 ^ 39) ∷ 0 ∷ 0 ∷ [];
  heap = slice_set (replicate 64 0) 1 5;
  history = first_commit ∷ [];
  processes = [];
}

-- a slot has the tag of an entry past the index
abbrev pub early_world : World
early_world = record done_world { tags = 0 ∷ 7 ∷ 9 ∷ 0 ∷ [] }

-- a read answered a word that it had loaded before the first commit, and its start came past that commit: its check was left out, or loaded no tag behind the
-- signature
abbrev pub stale_world : World
stale_world = record done_world { processes = process (record (opening four) { state = state.Active; start = 1 }) (word 1 0 ∷ []) ∷ [] }

-- an attempt starts past an entry that is still writing
abbrev pub hasty_world : World
hasty_world = record done_world { tags = 0 ∷ 6 ∷ 0 ∷ 0 ∷ []; processes = process (record (opening four) { state = state.Active; start = 1 }) [] ∷ [] }

-- the second commit wrote address 1 too, and read it as it was before the first one: its exchange took whatever index was there
abbrev pub lost_commit : Commit
lost_commit = record { reads = word 1 0 ∷ []; writes = word 1 6 ∷ []; sealed = []; published = []; carry = [] }

abbrev pub lost_world : World
lost_world = record done_world { index = 2; tags = 0 ∷ 7 ∷ 0 ∷ 0 ∷ []; history = first_commit ∷ lost_commit ∷ [] }

-- the second entry is complete before the first one
abbrev pub disordered_world : World
disordered_world = record done_world { index = 2; tags = 0 ∷ 6 ∷ 11 ∷ 0 ∷ []; history = first_commit ∷ first_commit ∷ [] }

-- one of two stamped callers that both write address 1
abbrev pub rival : ℕ → ℕ → Process
rival stamp value = process (record (opening four) {
  state = state.Stamped;
  stamp = stamp;
  writes = word 1 value ∷ word 2 value ∷ [];
  write_sig = (2 ^ 39 + 2 ^ 15) ∷ [];
  stage = Turn (Heap (stamp - 1));
}) []

-- the second one has stored a word, and the first one, whose signature meets its own, has not stored any
abbrev pub unwaited_world : World
unwaited_world = record {
  shape = four;
  regions = [];
  opening = replicate 64 0;
  index = 2;
  tags = 0 ∷ 6 ∷ 10 ∷ 0 ∷ [];
  sigs = 0 ∷ (2 ^ 39 + 2 ^ 15) ∷ (2 ^ 39 + 2 ^ 15) ∷ 0 ∷ [];
  heap = slice_set (replicate 64 0) 1 6;
  history = commit_of (rival 1 5) ∷ commit_of (rival 2 6) ∷ [];
  processes = rival 1 5 ∷ rival 2 6 ∷ [];
}

-- ---- a sealed region
-- words 2 and 3, with its gate at 0
abbrev pub pair : Region
pair = record { gate = 0; base = 2; len = 2 }

-- an attempt that has read the gate as open
abbrev pub sealer : Process
sealer = process (record (opening four) { state = state.Active }) (word 0 GATE_OPEN ∷ [])

-- it may seal the region, by a write to the gate
abbrev pub SealExample : Type 0
SealExample = IsMove four (pair ∷ []) sealer (with_seal sealer pair)

-- before it has read the gate it may not
abbrev pub NoSealExample : Type 0
NoSealExample = MaySeal (pair ∷ []) (attempt_of (process (record (opening four) { state = state.Active }) [])) pair → ⊥

abbrev pub sealing_commit : Commit
sealing_commit = record { reads = word 0 GATE_OPEN ∷ []; writes = word 0 GATE_SEALED ∷ []; sealed = pair ∷ []; published = []; carry = [] }

-- it sealed the region with 0 and 0, and has stored 9 at its first word since
abbrev pub owner : Process
owner = record {
  caller = opening four;
  front = 1;
  reads = [];
  sealed = [];
  published = [];
  owned = record { region = pair; at_sealing = 0 ∷ 0 ∷ []; now = 9 ∷ 0 ∷ [] } ∷ [];
}

-- somebody else has stored 5 there
abbrev pub intruded_world : World
intruded_world = record {
  shape = four;
  regions = pair ∷ [];
  opening = slice_set (replicate 64 0) 0 GATE_OPEN;
  index = 1;
  tags = 0 ∷ 7 ∷ 0 ∷ 0 ∷ [];
  sigs = 0 ∷ 1 ∷ 0 ∷ 0 ∷ [];
  heap = slice_set (slice_set (replicate 64 0) 0 GATE_SEALED) 2 5;
  history = sealing_commit ∷ [];
  processes = owner ∷ [];
}
