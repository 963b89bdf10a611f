-- Steps that change no word of the heap and add no commit.
use Rattle.std.proofs.Common.{◌≡◌, ◌≢◌, ◌⊎◌, ℕ, ◌-◌, ◌*◌, ◌<◌, ◌≤◌, nat_lt, Bool, true, false, List, length, set, slice_get, Some, Contains, refl, sym, subst, arith, inl, inr, cond}
use mathlib.Core.Option.{some}
use lib.ListN.{get_elem?}
use Rattle.std.proofs.lemmas.Bool.{cases_lt, lt-ltb, le-ltb}
use Rattle.tx_model.specs.declared.history.Commit.{Commit}
use Rattle.tx_model.specs.declared.pass.PassState.TheVariants as state
use Rattle.tx_model.specs.Words.{addresses, word_at}
use Rattle.tx_model.specs.declared.view.Owned.{Owned}
use Rattle.ring_core.specs.declared.shape.Shape.{Shape}
use Rattle.ring_core.specs.declared.caller.Caller.{Caller}
use Rattle.ring_core.specs.declared.stage.Stage.{Stage}
use Rattle.ring_core.specs.declared.stage.Stage.TheVariants as stages
use Rattle.ring_core.specs.declared.stage.TurnStage.TheVariants.{Filling, Signature, Writing, Earlier, EarlierWords, EarlierAgain, Heap, Before, Complete}
use Rattle.ring_core.specs.Sound as core
use Rattle.ring_core.specs.Outcomes.{earlier_from}
use Rattle.ring_worlds.specs.declared.process.Process.{Process}
use Rattle.ring_worlds.specs.World.{World}
use Rattle.ring_worlds.specs.Stored.{stored_in, stored_at, IsClearOf}
use Rattle.ring_worlds.specs.Memory.{IsOwned, IsMemory, IsWriting, HasCleared, Cleared}
use Rattle.ring_worlds.proofs.memory.Owners.{was_owned, still_owned}
use Rattle.ring_worlds.proofs.lemmas.Lists.{at_set}

-- a caller that isn't stamped writes nothing back
pub not_writing : (shape : Shape) (complete : ℕ) (history : List Commit) (counts : List ℕ) (c : Caller) → core.IsSound shape c
    → c.state ≢ state.Stamped → IsWriting shape complete history counts c
not_writing shape complete history counts c sound not =
    record { counted = λ e. absurd (not e); cleared = by_stage c.stage sound.stage }
  where
    by_stage : (stage : Stage) → core.IsStage shape c stage → HasCleared shape complete history c stage
    by_stage stages.Closed staged = tt
    by_stage stages.BeginIndex staged = tt
    by_stage (stages.BeginTag top at) staged = tt
    by_stage (stages.ReadHeap addr) staged = tt
    by_stage (stages.Check purpose at) staged = tt
    by_stage (stages.StampSlot top) staged = tt
    by_stage (stages.StampSwap top) staged = tt
    by_stage (stages.Turn at) staged = absurd (not staged.0.stamped)
    by_stage (stages.Between at) staged = absurd (not staged.0.stamped)

-- one caller is in another state, and no word of the heap changes
module _ (shape : Shape) (complete : ℕ) (w : World) (mem : IsMemory shape complete w) (who : ℕ) (p q : Process) (here : get_elem? w.processes who ≡ some p)
    (owns : q.owned ≡ p.owned)
    (spare : (j : ℕ) → q.caller.state ≡ state.Stamped → stored_at q.caller q.caller.stage ≤ j → j < length q.caller.writes
    → ¬ IsOwned w.processes (word_at q.caller.writes j).addr) (fits : IsWriting shape complete w.history mem.counts q.caller) where
  pub kept : (index : ℕ) (tags sigs : List ℕ)
      → IsMemory shape complete (record w { index = index; tags = tags; sigs = sigs; processes = set w.processes who q })
  kept index tags sigs =
      record {
        counts = mem.counts;
        sized = mem.sized;
        whole = mem.whole;
        partly = mem.partly;
        waited = mem.waited;
        heap = λ addr free. mem.heap addr (λ own. free (still_owned w.processes who p q here
            (λ o among. subst (λ (l : List Owned). Contains l o) (sym owns) among) addr own));
        contents = λ i r o e among. elim (at_set w.processes who i q r e) [
          | inl (same, is) ↦ mem.contents who p o here (subst (λ (l : List Owned). Contains l o) owns
              (subst (λ (s : Process). Contains s.owned o) (sym is) among))
          | inr (other, was) ↦ mem.contents i r o was among
        ];
        spared = λ i r j e stamped from below own.
            let before = was_owned w.processes who p q here (λ o among. subst (λ (l : List Owned). Contains l o) owns among) (word_at r.caller.writes j).addr
            own in
            elim (at_set w.processes who i q r e) [
              | inl (same, is) ↦ subst (λ (s : Process). s.caller.state ≡ state.Stamped → stored_at s.caller s.caller.stage ≤ j → j < length s.caller.writes
                  → ¬ IsOwned w.processes (word_at s.caller.writes j).addr) is (spare j) stamped from below before
              | inr (other, was) ↦ mem.spared i r j was stamped from below before
            ];
        writing = λ i r e. elim (at_set w.processes who i q r e) [
          | inl (same, is) ↦ subst (λ (s : Process). IsWriting shape complete w.history mem.counts s.caller) is fits
          | inr (other, was) ↦ mem.writing i r was
        ];
      }

-- ---- the walk of a turn
module _ (shape : Shape) (complete : ℕ) (history : List Commit) (c : Caller) (behind : c.start ≤ complete) where
  -- all entries below the start are complete
  pub cleared_from : (at : ℕ) → Cleared shape complete history c at
      → HasCleared shape complete history (earlier_from c at).caller (earlier_from c at).caller.stage
  cleared_from at cleared =
      elim (cases_lt c.start at) [
        | inl more ↦ subst (λ b. HasCleared shape complete history c (stages.Turn (cond b (Earlier at) (Heap 0)))) (sym (lt-ltb c.start at more)) cleared
        | inr last ↦ subst (λ b. HasCleared shape complete history c (stages.Turn (cond b (Earlier at) (Heap 0)))) (sym (le-ltb c.start at last)) (all last)
      ]
    where
      all : at ≤ c.start → Cleared shape complete history c 0
      all last k commit from before there =
          elim (cases_lt k at) [
            | inl early ↦ inl (omega (arith, early, last, behind))
            | inr late ↦ cleared k commit late before there
          ]

  -- the entry before is cleared too
  pub cleared_more : (at : ℕ) → 1 ≤ at → Cleared shape complete history c at
      → ((commit : Commit) → slice_get history (at - 1) ≡ Some commit → (at - 1 < complete) ⊎ IsClearOf (64 * shape.sig_words) commit (addresses c.writes))
      → Cleared shape complete history c (at - 1)
  cleared_more at first cleared one k commit from before there =
      elim (cases_lt k at) [
        | inl early ↦ let is : k ≡ at - 1 = omega (arith, early, from, first) in
            subst (λ j. (j < complete) ⊎ IsClearOf (64 * shape.sig_words) commit (addresses c.writes)) (sym is)
            (one commit (subst (λ j. slice_get history j ≡ Some commit) is there))
        | inr late ↦ cleared k commit late before there
      ]

pub none_yet : (c : Caller) (at : ℕ) → stored_at (earlier_from c at).caller (earlier_from c at).caller.stage ≡ 0
none_yet c at = either (nat_lt c.start at)
  where
    either : (b : Bool) → stored_in c (cond b (Earlier at) (Heap 0)) ≡ 0
    either true = refl
    either false = refl

-- more entries are complete
pub later_writing : (shape : Shape) (complete more : ℕ) (history : List Commit) (counts : List ℕ) (c : Caller) → complete ≤ more
    → IsWriting shape complete history counts c → IsWriting shape more history counts c
later_writing shape complete more history counts c le was =
    record { counted = was.counted; cleared = by_stage c.stage was.cleared }
  where
    still : (from : ℕ) → Cleared shape complete history c from → Cleared shape more history c from
    still from cleared k commit after before there =
        elim (cleared k commit after before there) [
          | inl early ↦ inl (omega (arith, early, le))
          | inr clear ↦ inr clear
        ]

    by_stage : (stage : Stage) → HasCleared shape complete history c stage → HasCleared shape more history c stage
    by_stage stages.Closed h = tt
    by_stage stages.BeginIndex h = tt
    by_stage (stages.BeginTag top at) h = tt
    by_stage (stages.ReadHeap addr) h = tt
    by_stage (stages.Check purpose at) h = tt
    by_stage (stages.StampSlot top) h = tt
    by_stage (stages.StampSwap top) h = tt
    by_stage (stages.Turn Filling) h = tt
    by_stage (stages.Turn (Signature j)) h = tt
    by_stage (stages.Turn Writing) h = tt
    by_stage (stages.Turn (Earlier at)) h = still at h
    by_stage (stages.Turn (EarlierWords at j)) h = still at h
    by_stage (stages.Turn (EarlierAgain at)) h = still at h
    by_stage (stages.Turn (Heap j)) h = still 0 h
    by_stage (stages.Turn Before) h = tt
    by_stage (stages.Turn Complete) h = tt
    by_stage (stages.Between Filling) h = tt
    by_stage (stages.Between (Signature j)) h = tt
    by_stage (stages.Between Writing) h = tt
    by_stage (stages.Between (Earlier at)) h = still at h
    by_stage (stages.Between (EarlierWords at j)) h = still at h
    by_stage (stages.Between (EarlierAgain at)) h = still at h
    by_stage (stages.Between (Heap j)) h = still 0 h
    by_stage (stages.Between Before) h = tt
    by_stage (stages.Between Complete) h = tt
