-- What an attempt's reads are worth, by the stage of its request.
use Rattle.std.specs.Prelude.{◌≡◌, ◌≢◌, ◌⊎◌, ℕ, ◌+◌, ◌%◌, ◌-◌, ◌<◌, ◌≤◌, List, [], length, Some, slice_get, slice_index, Contains}
use Rattle.tx_model.specs.declared.gate.Region.{Region}
use Rattle.tx_model.specs.declared.gate.TheConstants.{GATE_SEALED}
use Rattle.tx_model.specs.declared.word.Word.{Word}
use Rattle.tx_model.specs.declared.history.Commit.{Commit}
use Rattle.tx_model.specs.declared.pass.PassState.TheVariants.{Active, Idle}
use Rattle.tx_model.specs.Words.{addresses}
use Rattle.tx_model.specs.Made.{IsIn}
use Rattle.tx_model.specs.Memory.{Agrees}
use Rattle.tx_model.specs.History.{state_at}
use Rattle.ring_sig.specs.Signature.{IsSignatureOf}
use Rattle.ring_core.specs.declared.shape.Shape.{Shape}
use Rattle.ring_core.specs.declared.caller.Caller.{Caller}
use Rattle.ring_core.specs.declared.stage.Stage.{Stage}
use Rattle.ring_core.specs.declared.stage.Stage.TheVariants.{BeginTag, ReadHeap, Check, StampSlot, StampSwap, Turn, Between}
use Rattle.ring_core.specs.declared.stage.Purpose.{Purpose}
use Rattle.ring_core.specs.declared.stage.Purpose.TheVariants.{Read, Stamp}
use Rattle.ring_core.specs.declared.stage.CheckStage.{CheckStage}
use Rattle.ring_core.specs.declared.stage.CheckStage.TheVariants.{Index, First, Words, Second}
use Rattle.ring_core.specs.declared.stage.Walk.{Walk}
use Rattle.ring_core.specs.declared.stage.TurnStage.{TurnStage}
use Rattle.ring_core.specs.declared.stage.TurnStage.TheVariants.{EarlierWords}
use Rattle.ring_core.specs.Tags.{writing, complete}
use Rattle.ring_worlds.specs.declared.process.Process.{Process}
use Rattle.ring_worlds.specs.World.{Board, tag_of, sig_word, asked_at}

-- the commit wrote this word, or carried it
abbrev pub Touches : Commit → ℕ → Type 0
Touches commit addr = Contains (addresses commit.writes) addr ⊎ Contains (addresses commit.carry) addr

-- what the caller knew at its begin is complete, and its attempt is no older
pub record IsSince (b : Board) (p : Process) : Type 0 where
  pub known : p.front ≤ b.complete
  pub since : p.caller.state ≢ Idle → p.front ≤ p.caller.start

-- the last state that a check will have shown: a read moves its start to the candidate and needs no more
abbrev pub good_to : Purpose → Walk → ℕ
good_to (Read addr value) walk = walk.candidate
good_to Stamp walk = walk.top

module _ (shape : Shape) (opening : List ℕ) (regions : List Region) where
  -- these words are the same in all states from `low` to `high`
  abbrev pub AreSame : List Commit → List ℕ → ℕ → ℕ → Type 0
  AreSame history addrs low high = (k : ℕ) → low ≤ k → k ≤ high → (addr : ℕ) → Contains addrs addr
      → slice_get (state_at opening history k) addr ≡ slice_get (state_at opening history low) addr

  -- entry e is published, and writes or carries the word, or seals a region that has it
  pub record IsSource (b : Board) (addr e : ℕ) : Type 0 where
    pub published : writing e ≤ tag_of shape b e
    pub commit : Commit
    pub there : slice_get b.history (e - 1) ≡ Some commit
    pub touches : Touches commit addr ⊎ ((region : Region) × Contains commit.sealed region × IsIn addr region)

  -- entry e seals a region that has the word
  pub record IsSealing (b : Board) (addr e : ℕ) : Type 0 where
    pub commit : Commit
    pub there : slice_get b.history (e - 1) ≡ Some commit
    pub region : Region
    pub seals : Contains commit.sealed region
    pub inside : IsIn addr region

  -- a value that was loaded and isn't checked yet
  pub record IsLoaded (b : Board) (start limit addr found : ℕ) : Type 0 where
    pub entry : ℕ
    pub after : start ≤ entry
    pub within : entry ≤ limit
    pub source : start < entry → IsSource b addr entry
    pub value : (slice_get (state_at opening b.history entry) addr ≡ Some found) ⊎ ((start < entry) × IsSealing b addr entry)

  abbrev pub IsValue : Board → ℕ → ℕ → Purpose → Type 0
  IsValue b start limit (Read addr value) = IsLoaded b start limit addr value
  IsValue b start limit Stamp = Unit {0}

  -- a walk that has compared or passed over all entries above `at`
  pub record IsWalking (b : Board) (start : ℕ) (addrs : List ℕ) (purpose : Purpose) (walk : Walk) : Type 0 where
    pub known : walk.top ≤ length b.history
    pub same : AreSame b.history addrs walk.at (good_to purpose walk)
    pub moves : b.complete < walk.candidate → walk.candidate ≤ walk.at
    pub value : IsValue b start walk.at purpose
    pub published : purpose ≡ Stamp → walk.at < walk.top → writing walk.top ≤ tag_of shape b walk.top

  abbrev pub IsSeen : Board → Walk → Type 0
  IsSeen b walk = writing walk.at ≤ tag_of shape b walk.at

  -- so many words loaded are those of the entry's slot, or it is filled again
  abbrev pub HasWords : Board → List ℕ → ℕ → ℕ → Type 0
  HasWords b loaded at count = tag_of shape b at ≤ complete at → (word : ℕ) → word < count → slice_index loaded word ≡ sig_word shape b (at % shape.ring) word

  abbrev pub KnowsCheck : Board → Caller → List ℕ → Purpose → CheckStage → Type 0
  KnowsCheck b c addrs purpose Index = IsValue b c.start (length b.history) purpose
  KnowsCheck b c addrs purpose (First walk) = IsWalking b c.start addrs purpose walk
  KnowsCheck b c addrs purpose (Words walk word) = IsWalking b c.start addrs purpose walk × IsSeen b walk × HasWords b c.loaded walk.at word
  KnowsCheck b c addrs purpose (Second walk) = IsWalking b c.start addrs purpose walk × IsSeen b walk × HasWords b c.loaded walk.at shape.sig_words

  -- in a turn, while the signature of an earlier entry is loaded
  abbrev pub KnowsTurn : Board → List ℕ → TurnStage → Type 0
  KnowsTurn b loaded (EarlierWords at word) = (at < length b.history) × HasWords b loaded at word
  KnowsTurn b loaded _ = Unit {0}

  -- a stamp whose check has ended
  pub record IsChecked (b : Board) (start : ℕ) (reads : List Word) (top : ℕ) : Type 0 where
    pub known : top ≤ length b.history
    pub agree : (k : ℕ) → start ≤ k → k ≤ top → Agrees reads (state_at opening b.history k)
    pub published : 1 ≤ top → writing top ≤ tag_of shape b top

  -- the gate of a region that has the address was read, and isn't sealed
  pub record IsOpenTo (reads : List Word) (region : Region) : Type 0 where
    pub value : ℕ
    pub read : Contains reads (record { addr = region.gate; value = value })
    pub not_sealed : value ≢ GATE_SEALED

  abbrev pub IsRuled : List Word → ℕ → Type 0
  IsRuled reads addr = (region : Region) → Contains regions region → IsIn addr region → IsOpenTo reads region

  abbrev pub Knows : Board → Process → Stage → Type 0
  Knows b p (BeginTag top at) = (top ≤ length b.history) × (p.front ≤ at)
  Knows b p (ReadHeap addr) = IsRuled p.reads addr
  Knows b p (Check purpose stage) = KnowsCheck b p.caller (asked_at (Check purpose stage) p.reads) purpose stage
  Knows b p (StampSlot top) = IsChecked b p.caller.start p.reads top
  Knows b p (StampSwap top) = IsChecked b p.caller.start p.reads top × (top + 1 ≤ b.complete + shape.ring)
  Knows b p (Turn stage) = KnowsTurn b p.caller.loaded stage
  Knows b p (Between stage) = KnowsTurn b p.caller.loaded stage
  Knows b p _ = Unit {0}

  -- `stage` is the caller's; every field that depends on it names this parameter
  pub record IsReaderAt (b : Board) (p : Process) (stage : Stage) : Type 0 where
    pub behind : p.caller.start ≤ b.complete
    pub signed : IsSignatureOf (asked_at stage p.reads) p.caller.read_sig
    pub ruled : (addr : ℕ) → Contains (asked_at stage p.reads) addr → IsRuled p.reads addr
    pub fresh : p.caller.state ≡ Idle → p.reads ≡ []
    pub agree : p.caller.state ≡ Active → Agrees p.reads (state_at opening b.history p.caller.start)
    pub knows : Knows b p stage

  abbrev pub IsReader : Board → Process → Type 0
  IsReader b p = IsReaderAt b p p.caller.stage
