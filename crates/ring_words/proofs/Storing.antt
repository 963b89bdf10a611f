-- A pass at the table whose machine is to store a word.
use Rattle.std.proofs.Common.{◌≡◌, ◌≢◌, ℕ, ◌≤◌, max, List, [], length, refl, sym, ◌∙◌, ap, subst, arith}
use Rattle.atomic_table.specs.Seated.{TableId}
use Rattle.atomic_table.specs.Table.{Step, Allows}
use Rattle.tx_model.specs.declared.history.Commit.{Commit}
use Rattle.tx_model.specs.declared.gate.Region.{Region}
use Rattle.tx_model.specs.declared.pass.PassState.{PassState}
use Rattle.tx_model.specs.declared.pass.PassState.TheVariants as state
use Rattle.tx_model.specs.declared.view.Attempt.{Attempt}
use Rattle.tx_model.specs.Memory.{Agrees}
use Rattle.tx_model.specs.History.{state_at}
use Rattle.ring_core.specs.declared.shape.Shape.{Shape}
use Rattle.ring_core.specs.declared.caller.Caller.{Caller}
use Rattle.ring_core.specs.Request.{next_action}
use Rattle.ring_core.specs.Sound as core
use Rattle.ring_worlds.specs.declared.process.Process.{Process}
use Rattle.ring_worlds.specs.Laws.{StepsKeep, MayAbsorb, StepExists}
use Rattle.ring_words.specs.declared.table.About.{About}
use Rattle.ring_words.specs.declared.pass.RingPass.{RingPass}
use Rattle.ring_words.specs.Ring.{Given, given_of, front_of, IsRing}
use Rattle.ring_words.specs.Told.{IsKnown, KeepsCommit, Stores}
use Rattle.ring_words.specs.Layout.{index_at}
use Rattle.ring_words.specs.Stores.{IsStore, word_stored}
use Rattle.ring_words.specs.Pass.{HasMoved, process_with, process_now, noted_in, front_in, IsSeated}
use Rattle.ring_words.proofs.WorldStores.{at_turn}
use Rattle.ring_words.proofs.Stores.{IsStoring, may_store}
use Rattle.ring_words.proofs.Seated.{caller_now, now_is}

stamped_busy : state.Stamped ≢ state.Idle
stamped_busy e = cc

-- nothing is noted of nothing
nothing_noted : {X : Type 0} (st : PassState) → noted_in {X = X} st [] ≡ []
nothing_noted state.Idle = refl
nothing_noted state.Active = refl
nothing_noted state.Stamped = refl

-- what the store of a caller asks of it
storing_of : (given : Given) (history : List Commit) (p : Process) (c : Caller) → IsKnown given history p → front_of p ≤ length history
    → HasMoved given p (process_with p c) → p.owned ≡ [] → p.sealed ≡ [] → IsStore (next_action given.shape c)
    → IsStoring given history p (process_with p c)
storing_of given history p c known reached moved unowned unsealed stores =
    record {
      may = moved.may;
      was = kept.was;
      stamp = kept.stamp;
      start = omega (arith, moved.start, reached);
      front = up c.state;
      agree = subst (λ (a : Attempt). Agrees a.reads (state_at given.opening history a.start)) (sym kept.same)
          (known.agree (λ idle. stamped_busy (sym kept.was ∙ idle)));
      stores = stores;
      was_unowned = unowned;
      was_unsealed = unsealed;
      unowned = unowned;
      unsealed = ap (λ (l : List Region). noted_in c.state l) unsealed ∙ nothing_noted c.state;
    }
  where
    stamped : c.state ≡ state.Stamped
    stamped = at_turn given.shape c (λ stage. core.IsStage given.shape c stage → c.state ≡ state.Stamped) (λ inner store at. at.0.stamped) c.stage stores
        moved.machine.stage

    kept : KeepsCommit p (process_with p c)
    kept = moved.stamped stamped

    up : (st : PassState) → front_of p ≤ max (front_in st p) c.start
    up state.Idle = omega arith
    up state.Active = omega (arith, moved.start)
    up state.Stamped = omega (arith, moved.start)

module _ {S : Type 0} (good : S → List ℕ → List ℕ → Type 0) (budget : S → List ℕ → ℕ) (about : About S) (table : TableId) (pass : RingPass S)
    (p : IsSeated good budget about table pass) where
  -- its seat may store this word there
  abbrev pub MayStore : ℕ → Step ℕ → Process → ℕ → ℕ → Type 0
  MayStore slots st q index word =
      Allows (IsRing good budget about) slots pass.seat.id pass.seat.me index (λ n. word) (λ n. Stores good budget q st pass.seat.me word)

  abbrev caller : Process
  caller = caller_now good budget about table pass p

  storing : IsStore (next_action about.shape pass.local.caller) → IsStoring (given_of about) p.knowledge.history p.knowledge.process caller
  storing stores =
      storing_of (given_of about) p.knowledge.history p.knowledge.process pass.local.caller
      (subst (λ (a : About S). IsKnown (given_of a) p.knowledge.history p.knowledge.process) p.told p.knows.process_is) p.knows.plain.reached p.moved
      p.unowned p.unsealed stores

  -- it may store the word that its machine names
  pub store_allowed : StepsKeep → MayAbsorb → StepExists → (q : Process) → q ≡ process_now pass
      → IsStore (next_action pass.local.shape pass.local.caller)
      → (slots index : ℕ) → index ≡ index_at pass.local.shape (next_action pass.local.shape pass.local.caller)
      → (word : ℕ) → word ≡ word_stored (next_action pass.local.shape pass.local.caller) → (st : Step ℕ) → MayStore slots st q index word
  store_allowed steps absorbs exists q is stores slots index at word names st =
      subst (λ q. MayStore slots st q index word) (sym (is ∙ now_is good budget about table pass p))
      (subst (λ n. MayStore slots st caller n word) (sym (at ∙ ap (λ (s : Shape). index_at s (next_action s pass.local.caller)) p.shaped))
      (subst (λ v. MayStore slots st caller (index_at about.shape (next_action about.shape pass.local.caller)) v)
      (sym (names ∙ ap (λ (s : Shape). word_stored (next_action s pass.local.caller)) p.shaped))
      (may_store steps absorbs exists good budget about slots pass.seat.id pass.seat.me p.knowledge caller st p.known p.no_slot p.told
      (storing (subst (λ (s : Shape). IsStore (next_action s pass.local.caller)) p.shaped stores)))))
