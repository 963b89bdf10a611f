-- What a step may lead to, by the stage: where something holds of each of these outcomes, it holds after the step, whatever word it found.
use Rattle.std.proofs.Common.{◌≡◌, ◌≢◌, ℕ, ◌+◌, ◌-◌, ◌*◌, ◌==◌, ◌&&◌, nat_lt, nat_le, List, take, set, refl, min}
use Rattle.std.proofs.lemmas.Bool.{cond_both, eqb-true, eqb-false}
use Rattle.tx_model.specs.declared.pass.PassState.TheVariants as state
use Rattle.tx_model.specs.declared.pass.Stop.{Stop}
use Rattle.ring_sig.specs.Signature.{meets}
use Rattle.ring_core.specs.declared.shape.Shape.{Shape}
use Rattle.ring_core.specs.declared.caller.Caller.{Caller}
use Rattle.ring_core.specs.declared.action.Progress.TheVariants as answer
use Rattle.ring_core.specs.declared.action.Later.TheVariants.{Lost, Unpublished, SlotBusy}
use Rattle.ring_core.specs.declared.stage.Stage.TheVariants.{BeginTag, Check, StampSwap, Turn, Between}
use Rattle.ring_core.specs.declared.stage.Purpose.{Purpose}
use Rattle.ring_core.specs.declared.stage.Purpose.TheVariants.{Read, Stamp}
use Rattle.ring_core.specs.declared.stage.CheckStage.{CheckStage}
use Rattle.ring_core.specs.declared.stage.CheckStage.TheVariants.{Index, First, Words, Second}
use Rattle.ring_core.specs.declared.stage.TurnStage.{TurnStage}
use Rattle.ring_core.specs.declared.stage.TurnStage.TheVariants.{Filling, Signature, Writing, Earlier, EarlierWords, EarlierAgain, Heap, Before, Complete}
use Rattle.ring_core.specs.declared.stage.Walk.{Walk}
use Rattle.ring_core.specs.Outcomes.{Outcome, made, goes, ends, started, stops, idle, waits, begin_from, begin_tag, checked, check_from, unpublished, below, is_worn, check_after, stamp_slot, stamp_swap, earlier_from, turn_after}

module _ (shape : Shape) (c : Caller) (P : Outcome → Type 0) where
  -- ---- begin
  module _ (going : (top at : ℕ) → P (goes c (BeginTag top at))) (starting : (start : ℕ) → P (started c start)) where
    pub begins_from : (top at : ℕ) → P (begin_from shape c top at)
    begins_from top at = cond_both (nat_lt (top - shape.ring) at) _ _ P (λ more. going top at) (λ end. starting (top - shape.ring))

    pub begins_at : (top at tag : ℕ) → P (begin_tag shape c top at tag)
    begins_at top at tag = cond_both (nat_le (4 * at + 3) tag) _ _ P (λ done. starting at) (λ more. begins_from top (at - 1))

  -- ---- check
  module _ (purpose : Purpose) (going : (loaded : List ℕ) (stage : CheckStage) → P (goes (record c { loaded = loaded }) (Check purpose stage)))
      (ending : (walk : Walk) → P (checked c purpose walk))
      (stopping : (stop : Stop) → P (stops shape c stop)) (wearing : (index : ℕ) → P (made (idle shape c) (answer.Worn index)))
      (waiting : purpose ≡ Stamp → (entry tag : ℕ) → P (ends c (answer.Later (Unpublished entry tag)))) where
    checks_from : (walk : Walk) → P (check_from c purpose walk)
    checks_from walk = cond_both (nat_lt c.start walk.at) _ _ P (λ more. going c.loaded (First walk)) (λ end. ending walk)

    passes : (why : Purpose) → purpose ≡ why → ((walk : Walk) → P (check_from c why walk)) → (walk : Walk) (tag : ℕ) → P (unpublished c why walk tag)
    passes (Read addr value) is from walk tag = from (below walk (min walk.candidate (walk.at - 1)))
    passes Stamp is from walk tag = waiting is walk.at tag

    pub checks : (stage : CheckStage) (word : ℕ) → P (check_after shape c purpose stage word)
    checks Index index =
        cond_both (is_worn shape purpose index) _ _ P (λ worn. wearing index)
        (λ free. cond_both (nat_lt shape.ring (index - c.start)) _ _ P (λ lost. stopping _) (λ near. checks_from _))
    checks (First walk) tag =
        cond_both (nat_lt (4 * walk.at + 3) tag) _ _ P (λ refilled. stopping _)
        (λ current. cond_both (nat_lt tag (4 * walk.at + 2)) _ _ P (λ not_yet. passes purpose refl checks_from walk tag)
        (λ published. going c.loaded (Words walk 0)))
    checks (Words walk word) value = going (set c.loaded word value) _
    checks (Second walk) tag =
        cond_both (nat_lt (4 * walk.at + 3) tag) _ _ P (λ refilled. stopping _)
        (λ current. cond_both (meets (take shape.sig_words c.loaded) c.read_sig) _ _ P (λ met. stopping _) (λ apart. checks_from _))

  -- ---- stamp
  pub slots : (top tag : ℕ) → ((entry : ℕ) → P (ends c (answer.Later (SlotBusy entry tag)))) → P (goes c (StampSwap top)) → P (stamp_slot shape c top tag)
  slots top tag busy free = cond_both (nat_lt shape.ring (top + 1) && nat_lt tag (4 * (top + 1 - shape.ring) + 3)) _ _ P (λ b. busy _) (λ f. free)

  pub swaps : (top found : ℕ)
      → (found ≡ top → P (made (record c { state = state.Stamped; stamp = top + 1; stage = Between Filling }) (answer.Stamped (top + 1))))
      → (found ≢ top → P (ends c (answer.Later (Lost found)))) → P (stamp_swap c top found)
  swaps top found winning losing = cond_both (found == top) _ _ P (λ won. winning (eqb-true _ _ won)) (λ lost. losing (eqb-false _ _ lost))

  -- ---- turn
  module _ (going : (loaded : List ℕ) (stage : TurnStage) → P (goes (record c { loaded = loaded }) (Turn stage)))
      (waiting : (stage : TurnStage) (entry tag : ℕ) → P (waits c stage entry tag)) where
    walks : (loaded : List ℕ) (at : ℕ) → P (earlier_from (record c { loaded = loaded }) at)
    walks loaded at = going loaded _

    pub turns : (stage : TurnStage) (word : ℕ) → (stage ≡ Complete → P (made (idle shape c) (answer.Completed c.stamp))) → P (turn_after shape c stage word)
    turns Filling word ending = going c.loaded _
    turns (Signature j) word ending = going c.loaded _
    turns Writing word ending = going c.loaded _
    turns (Earlier at) tag ending = cond_both (nat_le (4 * at + 3) tag) _ _ P (λ done. going c.loaded _) (λ more. going c.loaded _)
    turns (EarlierWords at j) word ending =
        cond_both (nat_lt (j + 1) shape.sig_words) _ _ P (λ more. going (set c.loaded j word) _)
        (λ all. cond_both (meets (take shape.sig_words (set c.loaded j word)) c.write_sig) _ _ P (λ met. going (set c.loaded j word) _)
        (λ apart. going (set c.loaded j word) _))
    turns (EarlierAgain at) tag ending = cond_both (nat_le (4 * at + 3) tag) _ _ P (λ done. going c.loaded _) (λ not_yet. waiting _ _ _)
    turns (Heap index) word ending = going c.loaded _
    turns Before tag ending = cond_both (nat_le (4 * (c.stamp - 1) + 3) tag) _ _ P (λ done. going c.loaded _) (λ not_yet. waiting _ _ _)
    turns Complete word ending = ending refl
