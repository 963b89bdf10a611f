-- What is known of every good memory that has an attempt's reads, whatever the pass owns: the laws of attempts, of a pass that owns nothing.
use Rattle.std.proofs.Common.{◌≡◌, ℕ, ◌<◌, List, [], length, get_or, refl}
use Rattle.tx_model.specs.declared.pass.PassState.TheVariants.{Active}
use Rattle.tx_model.specs.declared.view.Attempt.{Attempt}
use Rattle.tx_model.specs.declared.view.Owned.{Owned}
use Rattle.tx_model.specs.declared.view.PassView.{PassView}
use Rattle.tx_model.specs.Words.{AreApart}
use Rattle.tx_model.specs.Memory.{after, Agrees}
use Rattle.tx_model.specs.History.{state_at}
use Rattle.tx_model.specs.Made.{Made}
use Rattle.tx_model.specs.Attempt.{Fits, HoldsOver}
use Rattle.tx_model.specs.Calls.{IsLater, GoesOn, Read, OnlyReads}
use Rattle.tx_model.specs.Pass.{IsPass}
use Rattle.tx_model.proofs.lemmas.Attempts as attempts
use Rattle.tx_heap.proofs.lemmas.Lanes.{contains_none}

-- the pass, but that it owns nothing
abbrev without : PassView → PassView
without view = record { state = view.state; history = view.history; front = view.front; mine = view.mine; owned = []; share = view.share }

later_without : {old new : PassView} → IsLater old new → IsLater (without old) (without new)
later_without later = record { history = later.history; front = later.front; mine = later.mine; owned = refl; share = later.share }

goes_on_without : {old new : PassView} {before now : Attempt} → GoesOn old new before now → GoesOn (without old) (without new) before now
goes_on_without goes_on = record { active = goes_on.active; later = later_without goes_on.later; start = goes_on.start }

only_without : {old new : PassView} {before now : Attempt} → OnlyReads old new before now → OnlyReads (without old) (without new) before now
only_without only = record {
  goes_on = goes_on_without only.goes_on;
  reads = only.reads;
  writes = only.writes;
  sealed = only.sealed;
  published = only.published;
}

-- a memory that has the attempt's reads fits it
pub agrees_alone : {memory : List ℕ} {attempt : Attempt} → Agrees attempt.reads memory → Fits memory attempt []
agrees_alone reads = record { reads = reads; contents = λ o among. absurd (contains_none o among) }

-- what fits the attempt and what is owned fits the attempt
pub fits_alone : {memory : List ℕ} {attempt : Attempt} {owned : List Owned} → Fits memory attempt owned → Fits memory attempt []
fits_alone fits = agrees_alone fits.reads

module _ {old new : PassView} {before now : Attempt} (only : OnlyReads old new before now) where
  -- what fits the attempt after the reads fitted it before
  pub fitted_before_reads : (memory : List ℕ) → Fits memory now [] → Fits memory before []
  fitted_before_reads = attempts.fitted_before_reads (only_without only)

  -- what held over every memory still holds
  pub holds_after_reads : (good P : List ℕ → Type 0) → HoldsOver good before [] P → HoldsOver good now [] P
  holds_after_reads = attempts.holds_after_reads (only_without only)

module _ {opening : List ℕ} {old new : PassView} {before now : Attempt} {addr value : ℕ} (read : Read opening old new before now addr value) where
  pub fitted_before_read : (memory : List ℕ) → Fits memory now [] → Fits memory before []
  fitted_before_read = fitted_before_reads (attempts.read_only read)

  pub holds_after_read : (good P : List ℕ → Type 0) → HoldsOver good before [] P → HoldsOver good now [] P
  holds_after_read = holds_after_reads (attempts.read_only read)

  -- the word that was read has this value in each memory that fits
  pub value_read_over : AreApart before.writes → (memory : List ℕ) → addr < length memory → Fits memory now []
      → get_or (after memory now.writes) addr 0 ≡ value
  value_read_over =
      attempts.value_read_over (record {
        goes_on = goes_on_without read.goes_on;
        written = read.written;
        reads = read.reads;
        writes = read.writes;
        sealed = read.sealed;
        published = read.published;
        one_state = read.one_state;
      })

-- the state that the attempt reads from fits it
pub state_fits : {S : Type 0} {good : S → List ℕ → List ℕ → Type 0} {budget : S → List ℕ → ℕ} {made : Made S} {view : PassView} {attempt : Attempt}
    → IsPass good budget made view attempt → view.state ≡ Active → Fits (state_at made.opening view.history attempt.start) attempt []
state_fits knows active = fits_alone (attempts.state_fits knows active)
