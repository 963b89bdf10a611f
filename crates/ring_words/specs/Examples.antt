-- Worked examples of the rule: a table of a ring of four with two seats, one of which is in the middle of its write-back.
use Rattle.std.specs.Prelude.{◌≡◌, ℕ, ◌+◌, ◌-◌, ◌^◌, ◌++◌, true, false, List, [], ◌∷◌, replicate, slice_index, slice_set, Option, Some, None}
use Rattle.atomic_table.specs.Table.{State}
use Rattle.tx_model.specs.declared.history.Commit.{Commit}
use Rattle.tx_model.specs.Shares.{Name}
use Rattle.ring_worlds.specs.declared.process.Process.{Process}
use Rattle.ring_worlds.specs.World.{commit_of}
use Rattle.ring_worlds.specs.Examples.{four, reader, writer}
use Rattle.ring_words.specs.declared.table.About.{About}
use Rattle.ring_words.specs.declared.table.Knowledge.{Knowledge}
use Rattle.ring_words.specs.Ring.{Given, given_of, IsRing}

-- any words are good, and each commit raises word 1
abbrev pub AnySense : Type 0
AnySense = Unit {0}

abbrev pub AnyWords : AnySense → List ℕ → List ℕ → Type 0
AnyWords sense opening memory = Unit {0}

abbrev pub room_left : AnySense → List ℕ → ℕ
room_left sense memory = 20 - slice_index memory 1

-- 64 words, each 0, and no regions
abbrev pub given_example : Given
given_example = record { shape = four; opening = replicate 64 0; regions = [] }

-- the commit that is being written back: 5 to word 1, and 6 to word 2
abbrev pub commit_example : Commit
commit_example = commit_of writer

abbrev pub knowing : About AnySense → Process → List Commit → List ℕ → List Name → Knowledge AnySense
knowing about process history mine share =
    record {
      about = about;
      process = process;
      history = history;
      other = [];
      mine = mine;
      share = share;
      steps = 0;
      found = 0;
      kind = None;
    }

-- the one seat reads from the opening, and doesn't know of the commit; it is the other's own
abbrev pub seats_example : About AnySense → List (Option (Knowledge AnySense))
seats_example about =
    Some (knowing about reader [] [] ((false ∷ []) ∷ []))
    ∷ Some (knowing about writer (commit_example ∷ []) (1 ∷ []) ((true ∷ []) ∷ []))
    ∷ []

-- the table with this tag in slot 1, and this word at address 1
abbrev pub table_with : About AnySense → ℕ → ℕ → State ℕ (Option (Knowledge AnySense))
table_with about tag word =
    record {
      words = 1 ∷ ((0 ∷ tag ∷ 0 ∷ 0 ∷ []) ++ ((0 ∷ (2 ^ 39 + 2 ^ 15) ∷ 0 ∷ 0 ∷ []) ++ slice_set (replicate 64 0) 1 word));
      homes = [];
      views = seats_example about;
    }

-- the entry is writing (tag 4 + 2), and one of its two words is stored
abbrev pub RingExample : Type 0
RingExample = (about : About AnySense) → given_of about ≡ given_example → IsRing AnyWords room_left about (table_with about 6 5)

-- with the tag `complete` the table doesn't meet the rule: a word is still to be stored
abbrev pub TooEarlyExample : Type 0
TooEarlyExample = (about : About AnySense) → given_of about ≡ given_example → IsRing AnyWords room_left about (table_with about 7 5) → ⊥

-- nor does it with another word in the heap
abbrev pub OtherWordExample : Type 0
OtherWordExample = (about : About AnySense) → given_of about ≡ given_example → IsRing AnyWords room_left about (table_with about 6 9) → ⊥
