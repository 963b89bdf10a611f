-- A whole pass is the only one, and all commits are its own.
use Rattle.std.proofs.Common.{◌≡◌, ℕ, zero, suc, ◌≤◌, List, [], length, Contains, Option, Some, None, refl, sym, ◌∙◌, ap, subst, arith, inl, inr}
use Rattle.std.specs.List.{range_with_len}
use mathlib.Core.Option.{some, some-injective}
use lib.ListN.{get_elem?}
use native.Mathlib.Decide.{ℕ_discrete}
use Rattle.atomic_table.specs.Table.{State}
use Rattle.tx_model.specs.declared.history.Commit.{Commit}
use Rattle.tx_model.specs.declared.pass.PassState.TheVariants.{Idle}
use Rattle.tx_model.specs.Pass.{IsWhole, KnowsAll}
use Rattle.turn_memory.specs.declared.table.About.{About}
use Rattle.turn_memory.specs.declared.table.Knowledge.{Knowledge}
use Rattle.turn_memory.specs.Heap.{HeapView}
use Rattle.turn_memory.specs.Lock.{GoodOf, BudgetOf, IsTable, IsBusy, HoldsLast, made_of, pass_of, share_of, mine_of, active_with}
use Rattle.turn_memory.proofs.Views.{idle_not_active}
use Rattle.tx_model.proofs.lemmas.Stamps.{stamps_all, stamps_within}
use Rattle.tx_model.proofs.lemmas.Histories.{whole_beginning}
use Rattle.tx_model.proofs.lemmas.Holders.{whole_alone, whole_has_all}

module _ {S : Type 0} {good : GoodOf S} {budget : BudgetOf S} {about : About S} {s : State (Option HeapView) (Option (Knowledge S))}
    (r : IsTable good budget about s) (id : ℕ) {knowledge : Knowledge S} (at : get_elem? s.views id ≡ some (Some knowledge))
    (whole : IsWhole knowledge.pass) where
  -- another living seat has a name, so it is the only one
  lonely : (i : ℕ) (other : Knowledge S) → get_elem? s.views i ≡ some (Some other) → i ≡ id
  lonely i other e =
      elim (ℕ_discrete i id) [
        | yes same ↦ same
        | no apart ↦
            absurd ((r.seats i other e).plain.names.some (whole_alone share_of s.views r.shares.names id (Some knowledge) at whole i (Some other) e apart))
      ]

  -- so it has all commits
  has_all : (stamp : ℕ) → 1 ≤ stamp → stamp ≤ length r.history → Contains knowledge.pass.mine stamp
  has_all = whole_has_all share_of s.views r.shares.names id (Some knowledge) at whole mine_of (length r.history) nothing r.shares.all
    where
      nothing : (i : ℕ) (other : Option (Knowledge S)) → get_elem? s.views i ≡ some other → share_of other ≡ [] → mine_of other ≡ []
      nothing i None e nameless = refl
      nothing i (Some other) e nameless = absurd ((r.seats i other e).plain.names.some nameless)

  pub whole_history : knowledge.pass.history ≡ r.history
  whole_history = whole_beginning knowledge.pass.history r.history (r.seats id knowledge at).learned.known (long (length r.history) refl)
    where
      long : (n : ℕ) → length r.history ≡ n → length r.history ≤ length knowledge.pass.history
      long zero e = omega (arith, e)
      long (suc n) e =
          let has = has_all (length r.history) (omega (arith, e)) (omega arith) in
          let most = stamps_within (length knowledge.pass.history) knowledge.pass.mine (r.seats id knowledge at).plain.mine (length r.history) has in
          omega (arith, most.1)

  pub whole_mine : knowledge.pass.mine ≡ range_with_len 1 (length knowledge.pass.history)
  whole_mine =
      let plain = (r.seats id knowledge at).plain in
      stamps_all (length knowledge.pass.history) knowledge.pass.mine plain.mine
      (λ stamp least most. has_all stamp least (omega (arith, most, ap length whole_history)))

  pub whole_knows : KnowsAll knowledge.pass
  whole_knows = record { front = (r.seats id knowledge at).plain.front; mine = whole_mine }

  pub whole_knows_active : KnowsAll (active_with r.history knowledge.pass)
  whole_knows_active = record { front = refl; mine = whole_mine ∙ ap (λ (history : List Commit). range_with_len 1 (length history)) whole_history }

  -- where it is idle, nobody has the lock, and the heap with the last state is at home
  pub whole_heap : knowledge.pass.state ≡ Idle
      → (heap : HeapView) × (get_elem? s.homes 0 ≡ some (some (Some heap))) × HoldsLast (made_of about).opening knowledge.pass.history heap
  whole_heap idle =
      elim r.lock [
        | inl free ↦ (
          free.heap,
          free.home,
          subst (λ (history : List Commit). HoldsLast (made_of about).opening history free.heap)
              (sym whole_history) free.last,
        )
        | inr taken ↦ absurd (busy_holder taken.holder taken.busy)
      ]
    where
      busy_holder : (holder : ℕ) → IsBusy s.views holder → ⊥
      busy_holder holder (None, e, active) = idle_not_active active
      busy_holder holder (Some other, e, active) =
          idle_not_active (sym idle ∙ ap (λ known. (pass_of known).state)
          (some-injective (Some knowledge) (Some other) (sym at ∙ ap (get_elem? s.views) (sym (lonely holder other e)) ∙ e)) ∙ active)
