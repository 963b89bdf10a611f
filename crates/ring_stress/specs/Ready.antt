-- What an attempt has done before it may be committed.
use Rattle.std.specs.Prelude.{◌≡◌, ◌≢◌, ℕ, ◌<◌, List, [], length}
use Rattle.tx_model.specs.declared.pass.PassState.TheVariants.{Active}
use Rattle.tx_model.specs.declared.view.Attempt.{Attempt}
use Rattle.tx_model.specs.declared.view.PassView.{PassView}
use Rattle.tx_model.specs.Memory.{after, Agrees}
use Rattle.ring_words.specs.declared.pass.RingPass.{RingPass}
use Rattle.ring_words.specs.declared.ring.Ring.{Ring}
use Rattle.ring_words.specs.Pass.{IsOf}
use Rattle.ring_stress.specs.declared.sense.Counts.{Counts}
use Rattle.ring_stress.specs.Counts.{CountsDown, commits_left}

-- the pass is one of this ring, whose commits lower the counts
abbrev pub IsCountedBy : Ring Counts → RingPass Counts → Type 0
IsCountedBy ring pass = IsOf (λ _ regions. regions ≡ []) (λ _. CountsDown) (λ _. commits_left) ring pass

-- it leads each memory of so many words that has what it read to one with fewer commits to come
abbrev pub Lowers : ℕ → Attempt → Type 0
Lowers size attempt =
    (memory : List ℕ) → length memory ≡ size → Agrees attempt.reads memory → commits_left (after memory attempt.writes) < commits_left memory

-- the open attempt has counted its commit
pub record HasCounted (size : ℕ) (view : PassView) (attempt : Attempt) : Type 0 where
  pub active : view.state ≡ Active
  pub wrote : attempt.writes ≢ []
  pub lowers : Lowers size attempt
  pub none_published : attempt.published ≡ []
