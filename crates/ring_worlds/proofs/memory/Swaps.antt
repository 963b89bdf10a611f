-- A swap of the index that found what it expected: an entry joins, of which nothing is stored.
use Rattle.std.proofs.Common.{◌≡◌, ℕ, ◌+◌, ◌-◌, ◌<◌, ◌≤◌, ◌++◌, List, [], ◌∷◌, length, take, set, slice_get, Contains, cond, eq-eqb, refl, sym, ◌∙◌, ap, subst, arith, inl, inr}
use mathlib.Core.Option.{some}
use lib.ListN.{get_elem?}
use Rattle.std.proofs.lemmas.List.{length-append}
use Rattle.std.proofs.lemmas.Option.{slice_get_within}
use Rattle.tx_model.specs.declared.history.Commit.{Commit}
use Rattle.tx_model.specs.declared.pass.PassState.TheVariants as state
use Rattle.tx_model.specs.Words.{word_at}
use Rattle.tx_model.specs.declared.view.Owned.{Owned}
use Rattle.tx_model.specs.Memory.{after}
use Rattle.ring_core.specs.declared.shape.Shape.{Shape}
use Rattle.ring_core.specs.declared.caller.Caller.{Caller}
use Rattle.ring_core.specs.declared.stage.Stage.{Stage}
use Rattle.ring_core.specs.declared.stage.Stage.TheVariants as stages
use Rattle.ring_core.specs.declared.stage.TurnStage.{TurnStage}
use Rattle.ring_core.specs.declared.stage.TurnStage.TheVariants.{Filling, Signature, Writing, Earlier, EarlierWords, EarlierAgain, Heap, Before, Complete}
use Rattle.ring_core.specs.Sound as core
use Rattle.ring_core.specs.Outcomes.{made, ends}
use Rattle.ring_core.specs.declared.action.Progress.TheVariants as answer
use Rattle.ring_core.specs.declared.action.Later.TheVariants.{Lost}
use Rattle.ring_worlds.specs.declared.process.Process.{Process}
use Rattle.ring_worlds.specs.World.{World, moved_at, moved_on, process_after, commit_of}
use Rattle.ring_worlds.proofs.memory.Needs.{Needs, Swaps}
use Rattle.ring_worlds.specs.Stored.{words_left, memory_with}
use Rattle.ring_worlds.specs.Memory.{IsOwned, IsMemory, IsWriting, HasCleared, HasClearedIn, Cleared}
use Rattle.ring_worlds.proofs.memory.Owners.{was_owned, still_owned}
use Rattle.ring_worlds.proofs.lemmas.Lists.{at_set, get_earlier, get_last, at_last}

-- an entry that has stored nothing leaves the memory as it was
nothing_more : (memory : List ℕ) (history : List Commit) (counts : List ℕ) (commit : Commit) → length counts ≡ length history
    → memory_with memory (history ++ commit ∷ []) (counts ++ 0 ∷ []) ≡ memory_with memory history counts
nothing_more memory [] [] commit same = refl
nothing_more memory [] (n ∷ counts) commit same = absurd (omega (arith, same))
nothing_more memory (c ∷ history) [] commit same = absurd (omega (arith, same))
nothing_more memory (c ∷ history) (n ∷ counts) commit same = nothing_more (after memory (take n (words_left c))) history counts commit (omega (arith, same))

module _ (shape : Shape) (complete : ℕ) (history : List Commit) (counts : List ℕ) (sized : length counts ≡ length history) (commit : Commit) (c : Caller) where
  abbrev more : List Commit
  more = history ++ commit ∷ []

  longer_cleared : c.stamp ≤ length history → (from : ℕ) → Cleared shape complete history c from → Cleared shape complete more c from
  longer_cleared upto from cleared k d after before there =
      elim (at_last history commit d k there) [
        | inl (in_list, was) ↦ cleared k d after before was
        | inr last ↦ let at = last.0 in absurd (omega (arith, at, before, upto))
      ]

  -- a longer history and one number more
  pub longer_writing : core.IsSound shape c → (c.state ≡ state.Stamped → c.stamp ≤ length history) → IsWriting shape complete history counts c
      → IsWriting shape complete more (counts ++ 0 ∷ []) c
  longer_writing sound upto was =
      record { counted = λ e. get_earlier counts (0 ∷ []) _ _ (was.counted e); cleared = by_stage c.stage sound.stage was.cleared }
    where
      by_turn_stage : (stage : TurnStage) → c.state ≡ state.Stamped → HasClearedIn shape complete history c stage → HasClearedIn shape complete more c stage
      by_turn_stage Filling is h = tt
      by_turn_stage (Signature j) is h = tt
      by_turn_stage Writing is h = tt
      by_turn_stage (Earlier at) is h = longer_cleared (upto is) at h
      by_turn_stage (EarlierWords at j) is h = longer_cleared (upto is) at h
      by_turn_stage (EarlierAgain at) is h = longer_cleared (upto is) at h
      by_turn_stage (Heap j) is h = longer_cleared (upto is) 0 h
      by_turn_stage Before is h = tt
      by_turn_stage Complete is h = tt

      by_stage : (stage : Stage) → core.IsStage shape c stage → HasCleared shape complete history c stage → HasCleared shape complete more c stage
      by_stage stages.Closed staged h = tt
      by_stage stages.BeginIndex staged h = tt
      by_stage (stages.BeginTag top at) staged h = tt
      by_stage (stages.ReadHeap addr) staged h = tt
      by_stage (stages.Check purpose at) staged h = tt
      by_stage (stages.StampSlot top) staged h = tt
      by_stage (stages.StampSwap top) staged h = tt
      by_stage (stages.Turn at) staged h = by_turn_stage at staged.0.stamped h
      by_stage (stages.Between at) staged h = by_turn_stage at staged.0.stamped h

module _ (shape : Shape) (w : World) (complete : ℕ) (ring : Needs shape complete w) (mem : IsMemory shape complete w) (who : ℕ) (p : Process)
    (here : get_elem? w.processes who ≡ some p) (commit : Commit) where
  abbrev history : List Commit
  history = w.history ++ commit ∷ []

  abbrev counts : List ℕ
  counts = mem.counts ++ 0 ∷ []

  upto : (i : ℕ) (r : Process) → get_elem? w.processes i ≡ some r → r.caller.state ≡ state.Stamped → r.caller.stamp ≤ length w.history
  upto i r e is =
      let own = (ring.each i r e).own is in
      let below = slice_get_within w.history (r.caller.stamp - 1) (commit_of r) own.there in omega (arith, below, own.later)

  pub joins : (index : ℕ) (q : Process) → q.owned ≡ p.owned
      → ((j : ℕ) → j < length q.caller.writes → ¬ IsOwned w.processes (word_at q.caller.writes j).addr)
      → IsWriting shape complete history counts q.caller
      → IsMemory shape complete (record w { index = index; history = history; processes = set w.processes who q })
  joins index q owns spare fits =
      record {
        counts = counts;
        sized = length-append mem.counts (0 ∷ []) ∙ ap (λ n. n + 1) mem.sized ∙ sym (length-append w.history (commit ∷ []));
        whole = λ k c early there. elim (at_last w.history commit c k there) [
          | inl (in_list, was) ↦ get_earlier mem.counts (0 ∷ []) k _ (mem.whole k c early was)
          | inr last ↦ let at = last.0 in absurd (omega (arith, at, early, ring.reached))
        ];
        partly = λ k n c late there stored. elim (at_last mem.counts 0 n k stored) [
          | inl (in_list, had) ↦
              elim (at_last w.history commit c k there) [
                | inl (in_list, was) ↦ mem.partly k n c late was had
                | inr last ↦ let at = last.0 in let b = slice_get_within mem.counts k n had in absurd (omega (arith, at, b, mem.sized))
              ]
          | inr none ↦ let z = none.1 in omega (arith, z)
        ];
        waited = λ i k n one two before there there' stored more. elim (at_last mem.counts 0 n k stored) [
          | inl (in_list, had) ↦
              let b = slice_get_within mem.counts k n had in
              elim (at_last w.history commit two k there') [
                | inl (in_list, was') ↦
                    elim (at_last w.history commit one i there) [
                      | inl (in_list, was) ↦ mem.waited i k n one two before was was' had more
                      | inr last ↦ let at = last.0 in absurd (omega (arith, at, b, before, mem.sized))
                    ]
                | inr last ↦ let at = last.0 in absurd (omega (arith, at, b, mem.sized))
              ]
          | inr none ↦ let z = none.1 in absurd (omega (arith, z, more))
        ];
        heap = λ addr free. mem.heap addr (λ own. free (still_owned w.processes who p q here
            (λ o among. subst (λ (l : List Owned). Contains l o) (sym owns) among) addr own)) ∙ sym (ap (λ (m : List ℕ). slice_get m addr) (nothing_more
            w.opening w.history mem.counts commit mem.sized));
        contents = λ i r o e among. elim (at_set w.processes who i q r e) [
          | inl (same, is) ↦ mem.contents who p o here (subst (λ (l : List Owned). Contains l o) owns
              (subst (λ (s : Process). Contains s.owned o) (sym is) among))
          | inr (other, was) ↦ mem.contents i r o was among
        ];
        spared = λ i r j e stamped from below own.
            let before = was_owned w.processes who p q here (λ o among. subst (λ (l : List Owned). Contains l o) owns among) (word_at r.caller.writes j).addr
            own in
            elim (at_set w.processes who i q r e) [
              | inl (same, is) ↦ subst (λ (s : Process). j < length s.caller.writes → ¬ IsOwned w.processes (word_at s.caller.writes j).addr) is (spare j)
                  below before
              | inr (other, was) ↦ mem.spared i r j was stamped from below before
            ];
        writing = λ i r e. elim (at_set w.processes who i q r e) [
          | inl (same, is) ↦ subst (λ (s : Process). IsWriting shape complete history counts s.caller) is fits
          | inr (other, was) ↦ longer_writing shape complete w.history mem.counts mem.sized commit r.caller (ring.each i r was).machine (upto i r was)
              (mem.writing i r was)
        ];
      }

pub swaps : Swaps
swaps shape w complete ring mem who p top here is eq spare =
    let caller : Caller = record p.caller { state = state.Stamped; stamp = top + 1; stage = stages.Between Filling } in
    let won : Process = record p { caller = caller } in
    let outcome : moved_on shape w.opening w.history p w.index ≡ moved_at shape w.opening w.history p (stages.StampSwap top) w.index =
    ap (λ stage. moved_at shape w.opening w.history p stage w.index) is in
    let next : moved_on shape w.opening w.history p w.index ≡ won = outcome
    ∙ ap (λ b. process_after w.opening w.history p (stages.StampSwap top)
    (cond b (made caller (answer.Stamped (top + 1))) (ends p.caller (answer.Later (Lost w.index))))) (eq-eqb w.index top eq) in
    subst (λ (r : Process). IsMemory shape complete (record w
    { index = w.index + 1; history = w.history ++ commit_of p ∷ []; processes = set w.processes who r })) (sym next)
    (joins shape w complete ring mem who p here (commit_of p) (w.index + 1) won refl spare
    (record { counted = λ e. get_last mem.counts 0 (top + 1 - 1) (omega (arith, eq, ring.indexed, mem.sized)); cleared = tt }))
