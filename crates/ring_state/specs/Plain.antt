-- A caller as a world stores it, and worlds in which nothing is sealed.
use Rattle.std.specs.Prelude.{◌≡◌, ℕ, List, [], ◌∷◌, ◌++◌, Option, Some, None, max}
use mathlib.Core.Option.{some}
use lib.ListN.{get_elem?}
use Rattle.tx_model.specs.declared.word.Word.{Word}
use Rattle.ring_core.specs.declared.shape.Shape.{Shape}
use Rattle.ring_core.specs.declared.action.Progress.{Progress}
use Rattle.ring_core.specs.declared.action.Progress.TheVariants.{Going, Value}
use Rattle.ring_core.specs.declared.stage.Stage.{Stage}
use Rattle.ring_core.specs.declared.stage.Stage.TheVariants.{ReadHeap, Check}
use Rattle.ring_core.specs.declared.stage.Purpose.TheVariants.{Read}
use Rattle.ring_core.specs.Machine.{Machine, with_caller, ended}
use Rattle.ring_core.specs.Outcomes.{Outcome, opening, absorbed}
use Rattle.ring_worlds.specs.declared.process.Process.{Process}
use Rattle.ring_worlds.specs.World.{World, front_after, reads_after, noted_after}

-- its machine, how many commits it knows to be complete, and what its attempt read
pub record MemberView : Type 0 where
  pub machine : Machine
  pub front : ℕ
  pub reads : List Word

-- the caller that it stands for, which seals and publishes nothing, and owns nothing
abbrev pub process_of : MemberView → Process
process_of m = record {
  caller = m.machine.caller;
  front = m.front;
  reads = m.reads;
  sealed = [];
  published = [];
  owned = [];
}

abbrev pub resting_member : Shape → MemberView
resting_member shape = record {
  machine = record { shape = shape; caller = opening shape };
  front = 0;
  reads = [];
}

abbrev pub with_machine : MemberView → Machine → MemberView
with_machine m machine = record { machine = machine; front = m.front; reads = m.reads }

-- its attempt is over, and what it read from is complete
abbrev pub ended_member : MemberView → MemberView
ended_member m = record {
  machine = ended m.machine;
  front = max m.front m.machine.caller.start;
  reads = [];
}

-- the address that the open read asks for
abbrev pub read_address : Stage → Option ℕ
read_address (ReadHeap addr) = Some addr
read_address (Check (Read addr value) stage) = Some addr
read_address _ = None

-- the read that an answer ends
abbrev pub word_asked : Option ℕ → ℕ → List Word
word_asked (Some addr) value = record { addr = addr; value = value } ∷ []
word_asked None value = []

-- the reads after an answer, where the open read asks for this address
abbrev pub reads_with : Option ℕ → List Word → Progress → List Word
reads_with asked reads (Value value) = reads ++ word_asked asked value
reads_with asked reads progress = noted_after reads progress

-- the address asked for after an answer
abbrev pub still_asked : Option ℕ → Progress → Option ℕ
still_asked asked Going = asked
still_asked asked progress = None

abbrev pub member_after : MemberView → Outcome → MemberView
member_after m o = record {
  machine = with_caller m.machine o.caller;
  front = front_after (process_of m) o.progress;
  reads = reads_after m.machine.caller.stage m.reads o.progress;
}

-- the caller after its next step found this word
abbrev pub after_word : MemberView → ℕ → MemberView
after_word m word = member_after m (absorbed m.machine.shape m.machine.caller word)

-- no caller seals, publishes or owns a region
abbrev pub NothingSealed : World → Type 0
NothingSealed w = (who : ℕ) (p : Process) → get_elem? w.processes who ≡ some p → (p.sealed ≡ []) × (p.published ≡ []) × (p.owned ≡ [])
