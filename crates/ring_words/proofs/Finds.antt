-- A step that finds a word and leaves it as it is.
use Rattle.std.proofs.Common.{◌≢◌, ℕ}
use Rattle.ring_core.specs.declared.action.Action.{Action}
use Rattle.ring_core.specs.declared.action.Action.TheVariants as action
use Rattle.ring_words.specs.Layout.{IsLoad}

-- it finds a word: a load, or a swap of the index
abbrev pub Finds : Action → Type 0
Finds action.LoadIndex = Unit {0}
Finds (action.LoadTag slot) = Unit {0}
Finds (action.LoadSig slot word) = Unit {0}
Finds (action.LoadHeap addr) = Unit {0}
Finds (action.SwapIndex from) = Unit {0}
Finds _ = ⊥

-- the word that it found stays: a load, or a swap that expected another index
abbrev pub Leaves : ℕ → Action → Type 0
Leaves word action.LoadIndex = Unit {0}
Leaves word (action.LoadTag slot) = Unit {0}
Leaves word (action.LoadSig slot at) = Unit {0}
Leaves word (action.LoadHeap addr) = Unit {0}
Leaves word (action.SwapIndex from) = word ≢ from
Leaves word _ = ⊥

pub load_leaves : (word : ℕ) (a : Action) → IsLoad a → Leaves word a
load_leaves word action.LoadIndex l = tt
load_leaves word (action.LoadTag slot) l = tt
load_leaves word (action.LoadSig slot at) l = tt
load_leaves word (action.LoadHeap addr) l = tt
load_leaves word (action.SwapIndex from) l = absurd l
load_leaves word (action.StoreTag slot tag) l = absurd l
load_leaves word (action.StoreSig slot at value) l = absurd l
load_leaves word (action.StoreHeap addr value) l = absurd l
load_leaves word action.Idle l = absurd l

pub leaves_finds : (word : ℕ) (a : Action) → Leaves word a → Finds a
leaves_finds word action.LoadIndex l = tt
leaves_finds word (action.LoadTag slot) l = tt
leaves_finds word (action.LoadSig slot at) l = tt
leaves_finds word (action.LoadHeap addr) l = tt
leaves_finds word (action.SwapIndex from) l = tt
leaves_finds word (action.StoreTag slot tag) l = absurd l
leaves_finds word (action.StoreSig slot at value) l = absurd l
leaves_finds word (action.StoreHeap addr value) l = absurd l
leaves_finds word action.Idle l = absurd l
