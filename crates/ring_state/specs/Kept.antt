-- What a world stores, the plain world that it stands for, and what always holds of it.
use Rattle.std.specs.Prelude.{◌≡◌, ℕ, ◌+◌, ◌*◌, ◌<◌, ◌^◌, map, length, slice_index_or, if◌then◌else◌, ◌==◌}
use Rattle.std.specs.Vec.{with_item}
use mathlib.Core.Option.{some}
use lib.ListN.{get_elem?}
use Rattle.ring_core.specs.declared.action.Action.{Action}
use Rattle.ring_core.specs.declared.action.Action.TheVariants as action
use Rattle.ring_core.specs.declared.action.Progress.{Progress}
use Rattle.ring_core.specs.Request.{next_action}
use Rattle.ring_core.specs.Outcomes.{absorbed}
use Rattle.ring_core.specs.Words.{CanAbsorb}
use Rattle.ring_worlds.specs.declared.process.Process.{Process}
use Rattle.ring_state.specs.declared.plain.Plain.{Plain}
use Rattle.ring_worlds.specs.World.{World}
use Rattle.ring_worlds.specs.Steps.{found, seen, with_tag, with_sig, with_heap, with_commit, answer_of}
use Rattle.ring_worlds.specs.Sound.{Sound}
use Rattle.ring_worlds.specs.Calls.{process_at}
use Rattle.ring_state.specs.Plain.{MemberView, process_of, resting_member, after_word, NothingSealed}

abbrev pub world_of : Plain → World
world_of d = record {
  shape = d.shape;
  regions = d.regions;
  opening = d.opening;
  index = d.index;
  tags = d.tags.items;
  sigs = d.sigs.items;
  heap = d.heap.items;
  history = d.history.items;
  processes = map process_of d.members.items;
}

abbrev pub member_at : Plain → ℕ → MemberView
member_at d who = slice_index_or d.members.items who (resting_member d.shape)

abbrev pub with_member : Plain → ℕ → MemberView → Plain
with_member d who m = record d { members = with_item d.members who m }

-- every machine is of the world's shape
abbrev pub HaveShape : Plain → Type 0
HaveShape d = (who : ℕ) (m : MemberView) → get_elem? d.members.items who ≡ some m → m.machine.shape ≡ d.shape

pub record IsKept (d : Plain) : Type 0 where
  pub sound : Sound (world_of d)
  pub nothing_sealed : NothingSealed (world_of d)
  pub shapes : HaveShape d

-- ---- one step
-- there is a step, the word that it touches is there, and the index has a next one
abbrev pub IsInside : Plain → Action → Type 0
IsInside d (action.LoadTag slot) = slot < length d.tags.items
IsInside d (action.LoadSig slot word) = slot * d.shape.sig_words + word < length d.sigs.items
IsInside d (action.LoadHeap addr) = addr < length d.heap.items
IsInside d (action.SwapIndex from) = d.index + 1 < 2 ^ 64
IsInside d (action.StoreTag slot tag) = slot < length d.tags.items
IsInside d (action.StoreSig slot word value) = slot * d.shape.sig_words + word < length d.sigs.items
IsInside d (action.StoreHeap addr value) = addr < length d.heap.items
IsInside d action.LoadIndex = Unit {0}
IsInside d action.Idle = ⊥

-- the caller's next step is this one, and may be made
pub record IsReady (d : Plain) (who : ℕ) (action : Action) : Type 0 where
  pub here : who < length d.members.items
  pub shapes : HaveShape d
  pub next : next_action d.shape (process_at (world_of d) who).caller ≡ action
  pub fits : CanAbsorb d.shape (process_at (world_of d) who).caller (found (world_of d) action)
  pub inside : IsInside d action

-- the world after this step
abbrev pub landed : World → ℕ → Process → Action → World
landed w who p (action.StoreTag slot tag) = with_tag w who p slot tag
landed w who p (action.StoreSig slot word value) = with_sig w who p slot word value
landed w who p (action.StoreHeap addr value) = with_heap w who p addr value
landed w who p (action.SwapIndex from) = if w.index == from then with_commit w who p else seen w who p w.index
landed w who p action = seen w who p (found w action)

-- the caller's next step finds this word, which may be taken in, and leaves all words as they are
pub record IsLoading (d : Plain) (who word : ℕ) : Type 0 where
  pub here : who < length d.members.items
  pub shapes : HaveShape d
  pub fits : CanAbsorb d.shape (process_at (world_of d) who).caller word
  pub finds : word ≡ found (world_of d) (next_action d.shape (process_at (world_of d) who).caller)
  pub stays : landed (world_of d) who (process_at (world_of d) who) (next_action d.shape (process_at (world_of d) who).caller)
      ≡ seen (world_of d) who (process_at (world_of d) who) word

-- the caller has taken in a word, and nothing else has changed
pub record HasTaken (d : Plain) (who word : ℕ) (progress : Progress) (next : Plain) : Type 0 where
  pub member : next ≡ with_member d who (after_word (member_at d who) word)
  pub answer : progress ≡ (absorbed d.shape (process_at (world_of d) who).caller word).progress

-- the caller has made its next step
pub record HasStepped (w : World) (who : ℕ) (progress : Progress) (next : Plain) : Type 0 where
  pub world : world_of next ≡ landed w who (process_at w who) (next_action w.shape (process_at w who).caller)
  pub shapes : HaveShape next
  pub answer : progress ≡ answer_of w (process_at w who)

-- nothing that the world stands for has changed
pub record IsSame (w : World) (next : Plain) : Type 0 where
  pub world : world_of next ≡ w
  pub shapes : HaveShape next
