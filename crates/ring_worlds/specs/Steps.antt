-- One atomic step of one caller, as a relation between two worlds.
use Rattle.std.specs.Prelude.{◌≡◌, ◌≢◌, ◌⊎◌, ℕ, ◌+◌, ◌*◌, List, [], ◌∷◌, ◌++◌, Some, slice_index, slice_set}
use mathlib.Core.Option.{some}
use lib.ListN.{get_elem?}
use Rattle.ring_core.specs.declared.shape.Shape.{Shape}
use Rattle.ring_core.specs.declared.action.Action.{Action}
use Rattle.ring_core.specs.declared.action.Action.TheVariants as action
use Rattle.ring_core.specs.declared.action.Progress.{Progress}
use Rattle.ring_core.specs.declared.kind.Kind.{Kind}
use Rattle.ring_core.specs.declared.kind.Kind.TheVariants as kind
use Rattle.ring_core.specs.Kinds.{kind_at}
use Rattle.ring_core.specs.Request.{next_action}
use Rattle.ring_core.specs.Outcomes.{absorbed}
use Rattle.ring_worlds.specs.declared.process.Process.{Process}
use Rattle.ring_worlds.specs.World.{World, Board, board_of, moved_on, commit_of}

-- what the caller finds in the word that it touches: the one loaded, the index where it exchanges, and 0 where it stores
abbrev pub found_in : Shape → ℕ → Board → List ℕ → Action → ℕ
found_in shape index b heap action.LoadIndex = index
found_in shape index b heap (action.LoadTag slot) = slice_index b.tags slot
found_in shape index b heap (action.LoadSig slot word) = slice_index b.sigs (slot * shape.sig_words + word)
found_in shape index b heap (action.LoadHeap addr) = slice_index heap addr
found_in shape index b heap (action.SwapIndex from) = index
found_in shape index b heap _ = 0

abbrev pub found : World → Action → ℕ
found w action = found_in w.shape w.index (board_of w 0) w.heap action

module _ (w : World) (who : ℕ) (p : Process) where
  -- the caller has found this word, and the words are as they were
  abbrev pub seen : ℕ → World
  seen word = record w { processes = slice_set w.processes who (moved_on w.shape w.opening w.history p word) }

  abbrev pub with_tag : ℕ → ℕ → World
  with_tag slot tag = record (seen 0) { tags = slice_set w.tags slot tag }

  abbrev pub with_sig : ℕ → ℕ → ℕ → World
  with_sig slot word value = record (seen 0) { sigs = slice_set w.sigs (slot * w.shape.sig_words + word) value }

  abbrev pub with_heap : ℕ → ℕ → World
  with_heap addr value = record (seen 0) { heap = slice_set w.heap addr value }

  -- the exchange succeeds: the index is one greater, and the caller's commit is the last of the history
  abbrev pub with_commit : World
  with_commit = record (seen w.index) { index = w.index + 1; history = w.history ++ commit_of p ∷ [] }

  -- a load of a word, which stays
  abbrev pub Loads : Action → World → Type 0
  Loads action next = (next_action w.shape p.caller ≡ action) × (next ≡ seen (found w action))

  abbrev pub StoresTag : World → Type 0
  StoresTag next = (slot tag : ℕ) × (next_action w.shape p.caller ≡ action.StoreTag slot tag) × (next ≡ with_tag slot tag)

  -- the world after a step of each kind
  abbrev pub StepsTo : Kind → World → Type 0
  StepsTo kind.LoadIndex next = Loads action.LoadIndex next
  StepsTo kind.LoadTag next = (slot : ℕ) × Loads (action.LoadTag slot) next
  StepsTo kind.LoadSig next = (slot word : ℕ) × Loads (action.LoadSig slot word) next
  StepsTo kind.LoadHeap next = (addr : ℕ) × Loads (action.LoadHeap addr) next
  StepsTo kind.SwapIndex next =
      (from : ℕ) × (next_action w.shape p.caller ≡ action.SwapIndex from)
      × (((w.index ≡ from) × (next ≡ with_commit)) ⊎ ((w.index ≢ from) × (next ≡ seen w.index)))
  StepsTo kind.StoreTagFilling next = StoresTag next
  StepsTo kind.StoreSig next = (slot word value : ℕ) × (next_action w.shape p.caller ≡ action.StoreSig slot word value) × (next ≡ with_sig slot word value)
  StepsTo kind.StoreTagWriting next = StoresTag next
  StepsTo kind.StoreHeap next = (addr value : ℕ) × (next_action w.shape p.caller ≡ action.StoreHeap addr value) × (next ≡ with_heap addr value)
  StepsTo kind.StoreTagComplete next = StoresTag next

-- the caller `who` makes a step of this kind
pub record Steps (w : World) (who : ℕ) (kind : Kind) (next : World) : Type 0 where
  pub process : Process
  pub here : get_elem? w.processes who ≡ some process
  pub is_kind : kind_at process.caller.stage ≡ Some kind
  pub steps : StepsTo w who process kind next

-- what the step answered
abbrev pub answer_of : World → Process → Progress
answer_of w p = (absorbed w.shape p.caller (found w (next_action w.shape p.caller))).progress
