-- What a pass of the memory stands for.
use Rattle.std.specs.Prelude.{◌≡◌, ◌⊎◌, ◌≤◌, ℕ, List, [], ◌∷◌, length, Option, Some, None}
use Rattle.atomic_table.specs.Seated.{TableId}
use Rattle.tx_model.specs.declared.gate.Region.{Region}
use Rattle.tx_model.specs.declared.history.Commit.{Commit}
use Rattle.tx_model.specs.declared.pass.PassState.TheVariants.{Idle, Active}
use Rattle.tx_model.specs.declared.pass.TheConstants.{MAX_WRITES}
use Rattle.tx_model.specs.declared.view.PassView.{PassView}
use Rattle.tx_model.specs.declared.view.Attempt.{Attempt}
use Rattle.tx_model.specs.Memory.{Agrees}
use Rattle.tx_model.specs.History.{state_at}
use Rattle.tx_model.specs.Attempt.{starting_at}
use Rattle.tx_model.specs.Rule.{AttemptFollows}
use Rattle.tx_model.specs.Made.{IsMade}
use Rattle.tx_model.specs.Pass.{IsPass}
use Rattle.turn_memory.specs.declared.table.About.{About}
use Rattle.turn_memory.specs.declared.pass.TurnPass.{TurnPass}
use Rattle.turn_memory.specs.Heap.{HeapView, words_of}
use Rattle.turn_memory.specs.Lock.{GoodOf, BudgetOf, made_of, knowing, pass_of, attempt_on, IsKnown, NoneSealed}

abbrev pub view_of : {S : Type 0} → TurnPass S → PassView
view_of pass = pass_of pass.seat.me.0

abbrev pub attempt_with : List Commit → Option HeapView → Attempt
attempt_with history None = starting_at (length history)
attempt_with history (Some heap) = attempt_on history heap

abbrev pub attempt_of : {S : Type 0} → TurnPass S → Attempt
attempt_of pass = attempt_with (view_of pass).history pass.heap

-- the heap of an open attempt: before the writes it is the last state, which the reads are from; the attempt did what it may
pub record IsOpen (opening : List ℕ) (regions : List Region) (history : List Commit) (heap : HeapView) : Type 0 where
  pub last : heap.words ≡ state_at opening history (length history)
  pub reads : Agrees heap.reads (state_at opening history (length history))
  pub follows : AttemptFollows opening regions (attempt_on history heap)
  pub few : length heap.writes ≤ MAX_WRITES
  pub commits : heap.commits ≡ length history
  pub unsealed : NoneSealed regions (words_of heap)

-- an idle pass has nothing
pub record IsResting {S : Type 0} (about : About S) (view : PassView) (pass : TurnPass S) : Type 0 where
  pub idle : view.state ≡ Idle
  pub me : pass.seat.me ≡ (Some (knowing about view), [])
  pub no_heap : pass.heap ≡ None

-- a pass in an attempt has this heap
pub record HasHeap {S : Type 0} (about : About S) (view : PassView) (pass : TurnPass S) (heap : HeapView) : Type 0 where
  pub active : view.state ≡ Active
  pub me : pass.seat.me ≡ (Some (knowing about view), (0, None) ∷ [])
  pub has_heap : pass.heap ≡ Some heap
  pub open_on : IsOpen (made_of about).opening (made_of about).regions view.history heap

abbrev pub IsAtWork : {S : Type 0} → About S → PassView → TurnPass S → Type 0
IsAtWork about view pass = (heap : HeapView) × HasHeap about view pass heap

-- what a pass of this memory knows, by its parts
pub record IsBuilt {S : Type 0} (good : GoodOf S) (budget : BudgetOf S) (about : About S) (table : TableId) (pass : TurnPass S) : Type 0 where
  pub seat : pass.seat.table_id ≡ table
  pub view : PassView
  pub is_known : IsKnown good budget about view
  pub doing : IsResting about view pass ⊎ IsAtWork about view pass

-- the same, with what follows for every memory
pub record IsPassOf {S : Type 0} (allows : S → List Region → Type 0) (good : GoodOf S) (budget : BudgetOf S) (about : About S) (table : TableId)
    (pass : TurnPass S) : Type 0 where
  pub is_made : IsMade allows good (made_of about)
  pub built : IsBuilt good budget about table pass
  pub is_pass : IsPass good budget (made_of about) (view_of pass) (attempt_of pass)
