-- When answers can be read from an index, and what reading them leaves of a pass.
use Rattle.std.specs.Prelude.{◌≡◌, ◌≢◌, ℕ, ◌<◌, ◌≤◌, List, length}
use Rattle.tx_model.specs.declared.gate.TheConstants.{GATE_SEALED, GATE_PACKED}
use Rattle.tx_model.specs.declared.history.Commit.{Commit}
use Rattle.tx_model.specs.declared.pass.PassState.TheVariants.{Idle}
use Rattle.tx_model.specs.declared.view.PassView.{PassView}
use Rattle.tx_model.specs.History.{state_at}
use Rattle.tx_model.specs.Made.{Made}
use Rattle.mail_words.specs.Key.{KeyNumbers}
use Rattle.tx_heap.specs.Layout.{sizes_of}
use Rattle.tx_heap.specs.Heap.{Heap, need_of, gate_of}
use Rattle.tx_heap.specs.Mail.{mail_heap}

-- the index after all commits of a history
abbrev pub last_index : Made (List (List KeyNumbers)) → List Commit → Heap
last_index made history = mail_heap made.sense (state_at made.opening history (length history))

-- all words of all messages are in the index, and no segment is sealed or packed
pub record IsComplete (lists : List (List KeyNumbers)) (heap : Heap) : Type 0 where
  pub needs : (message : ℕ) → 1 ≤ message → message ≤ length lists → need_of heap message ≡ 0
  pub none_sealed : (segment : ℕ) → segment < (sizes_of lists).segments → gate_of heap segment ≢ GATE_SEALED
  pub none_packed : (segment : ℕ) → segment < (sizes_of lists).segments → gate_of heap segment ≢ GATE_PACKED

-- the pass is idle, as whole as it was, and knows of no further commit
pub record IsAsBefore (old new : PassView) : Type 0 where
  pub idle : new.state ≡ Idle
  pub share : new.share ≡ old.share
  pub history : new.history ≡ old.history
