-- What a load of a request to stamp may lead to.
use Rattle.std.proofs.Common.{◌≡◌, ◌≢◌, ◌⊎◌, ℕ, ◌+◌, ◌-◌, ◌*◌, ◌==◌, nat_lt, cond, Bool, take, refl, ap, inl, inr}
use Rattle.std.proofs.lemmas.Bool.{cond_both, eqb-true, eqb-false}
use Rattle.tx_model.specs.declared.pass.Stop.{Stop}
use Rattle.ring_sig.specs.Signature.{meets}
use Rattle.ring_core.specs.declared.shape.Shape.{Shape}
use Rattle.ring_core.specs.declared.caller.Caller.{Caller}
use Rattle.ring_core.specs.declared.action.Action.TheVariants as action
use Rattle.ring_core.specs.declared.action.Progress.TheVariants as answer
use Rattle.ring_core.specs.declared.action.Later.TheVariants.{Unpublished, SlotBusy}
use Rattle.ring_core.specs.declared.stage.Stage.{Stage}
use Rattle.ring_core.specs.declared.stage.Stage.TheVariants.{Closed, BeginIndex, BeginTag, ReadHeap, Check, StampSlot, StampSwap, Turn, Between}
use Rattle.ring_core.specs.declared.stage.Purpose.TheVariants.{Read, Stamp}
use Rattle.ring_core.specs.declared.stage.CheckStage.{CheckStage}
use Rattle.ring_core.specs.declared.stage.CheckStage.TheVariants.{Index, First, Words, Second}
use Rattle.ring_core.specs.declared.stage.Walk.{Walk}
use Rattle.ring_core.specs.Request.{action_at}
use Rattle.ring_core.specs.Outcomes.{Outcome, made, idle, ends, stops, check_from, check_after, outcome_at}
use Rattle.ring_worlds.proofs.lemmas.Outcomes.{slots}
use Rattle.ring_words.specs.Layout.{IsLoad}
use Rattle.ring_words.specs.Stamping.{IsStamp, HasTop}

-- each of its steps but the swap is a load
pub stamp_loads : (shape : Shape) (c : Caller) (stage : Stage) → IsStamp stage → ((from : ℕ) → action_at shape c stage ≢ action.SwapIndex from)
    → IsLoad (action_at shape c stage)
stamp_loads shape c (Check Stamp Index) stamp apart = tt
stamp_loads shape c (Check Stamp (First walk)) stamp apart = tt
stamp_loads shape c (Check Stamp (Words walk word)) stamp apart = tt
stamp_loads shape c (Check Stamp (Second walk)) stamp apart = tt
stamp_loads shape c (Check (Read addr value) inner) stamp apart = absurd stamp
stamp_loads shape c (StampSlot top) stamp apart = tt
stamp_loads shape c (StampSwap top) stamp apart = absurd (apart top refl)
stamp_loads shape c Closed stamp apart = absurd stamp
stamp_loads shape c BeginIndex stamp apart = absurd stamp
stamp_loads shape c (BeginTag top at) stamp apart = absurd stamp
stamp_loads shape c (ReadHeap addr) stamp apart = absurd stamp
stamp_loads shape c (Turn inner) stamp apart = absurd stamp
stamp_loads shape c (Between inner) stamp apart = absurd stamp

-- and the swap is the last
pub swap_stage : (shape : Shape) (c : Caller) (stage : Stage) → IsStamp stage → (from : ℕ) → action_at shape c stage ≡ action.SwapIndex from
    → stage ≡ StampSwap from
swap_stage shape c (Check Stamp Index) stamp from e = absurd cc
swap_stage shape c (Check Stamp (First walk)) stamp from e = absurd cc
swap_stage shape c (Check Stamp (Words walk word)) stamp from e = absurd cc
swap_stage shape c (Check Stamp (Second walk)) stamp from e = absurd cc
swap_stage shape c (Check (Read addr value) inner) stamp from e = absurd stamp
swap_stage shape c (StampSlot top) stamp from e = absurd cc
swap_stage shape c (StampSwap top) stamp from e = ap StampSwap (same e)
  where
    same : action.SwapIndex top ≡ action.SwapIndex from → top ≡ from
    same e = cc
swap_stage shape c Closed stamp from e = absurd stamp
swap_stage shape c BeginIndex stamp from e = absurd stamp
swap_stage shape c (BeginTag top at) stamp from e = absurd stamp
swap_stage shape c (ReadHeap addr) stamp from e = absurd stamp
swap_stage shape c (Turn inner) stamp from e = absurd stamp
swap_stage shape c (Between inner) stamp from e = absurd stamp

-- the index that the request has loaded is what the step found, or it had it before
abbrev pub IsTop : Stage → ℕ → ℕ → Type 0
IsTop stage word top = HasTop stage top ⊎ ((stage ≡ Check Stamp Index) × (word ≡ top))

-- a step leads on, or to the answer of the request. `stage` is the caller's
pub data FollowsStamp (shape : Shape) (c : Caller) (stage : Stage) (word : ℕ) (o : Outcome) : Type 0 where
  goes_on : o.progress ≡ answer.Going → o.caller.state ≡ c.state → o.caller.writes ≡ c.writes → IsStamp o.caller.stage
      → ((top : ℕ) → HasTop o.caller.stage top → IsTop stage word top) → FollowsStamp shape c stage word o
  stopped : (stop : Stop) (top : ℕ) (inner : CheckStage) → stage ≡ Check Stamp inner → IsTop stage word top
      → (stage ≡ Check Stamp Index → top ≢ shape.life) → o ≡ stops shape c stop
      → FollowsStamp shape c stage word o
  wears : stage ≡ Check Stamp Index → word ≡ shape.life → o ≡ made (idle shape c) (answer.Worn word) → FollowsStamp shape c stage word o
  unpublished : (walk : Walk) → stage ≡ Check Stamp (First walk) → o ≡ ends c (answer.Later (Unpublished walk.at word))
      → FollowsStamp shape c stage word o
  busy : (top entry : ℕ) → stage ≡ StampSlot top → o ≡ ends c (answer.Later (SlotBusy entry word)) → FollowsStamp shape c stage word o

module _ (shape : Shape) (c : Caller) where
  abbrev P : CheckStage → ℕ → Outcome → Type 0
  P inner = FollowsStamp shape c (Check Stamp inner)

  from : (inner : CheckStage) (word : ℕ) (walk : Walk) → ((top : ℕ) → walk.top ≡ top → IsTop (Check Stamp inner) word top) → P inner word
      (check_from c Stamp walk)
  from inner word walk tops =
      cond_both (nat_lt c.start walk.at) _ _ (P inner word) (λ more. goes_on refl refl refl tt tops) (λ end. goes_on refl refl refl tt tops)

  check_follows : (inner : CheckStage) (word : ℕ) → P inner word (check_after shape c Stamp inner word)
  check_follows Index index =
      cond_both (index == shape.life) _ _ (P Index index) (λ worn. wears refl (eqb-true index shape.life worn) refl)
      (λ free. cond_both (nat_lt shape.ring (index - c.start)) _ _ (P Index index)
      (λ lost. stopped _ index Index refl (inr (refl, refl)) (λ is. eqb-false index shape.life free) refl)
      (λ near. from Index index _ (λ top is. inr (refl, is))))
  check_follows (First walk) tag =
      cond_both (nat_lt (4 * walk.at + 3) tag) _ _ (P (First walk) tag) (λ refilled. stopped _ walk.top (First walk) refl (inl refl) (λ is. absurd cc) refl)
      (λ current. cond_both (nat_lt tag (4 * walk.at + 2)) _ _ (P (First walk) tag) (λ not_yet. unpublished walk refl refl)
      (λ published. goes_on refl refl refl tt (λ top is. inl is)))
  check_follows (Words walk word) found =
      goes_on refl refl refl tt (λ top is. inl (words_top (nat_lt (word + 1) shape.sig_words) (Words walk (word + 1)) (Second walk) walk.top
      (λ t is. is) (λ t is. is) top is))
    where
      words_top : (b : Bool) (one other : CheckStage) (loaded : ℕ) → ((t : ℕ) → HasTop (Check Stamp one) t → loaded ≡ t) →
          ((t : ℕ) → HasTop (Check Stamp other) t → loaded ≡ t)
          → (t : ℕ) → HasTop (Check Stamp (cond b one other)) t → loaded ≡ t
      words_top b one other loaded f g = cond_both b one other (λ (x : CheckStage). (t : ℕ) → HasTop (Check Stamp x) t → loaded ≡ t) (λ e. f) (λ e. g)
  check_follows (Second walk) tag =
      cond_both (nat_lt (4 * walk.at + 3) tag) _ _ (P (Second walk) tag) (λ refilled. stopped _ walk.top (Second walk) refl (inl refl) (λ is. absurd cc) refl)
      (λ current. cond_both (meets (take shape.sig_words c.loaded) c.read_sig) _ _ (P (Second walk) tag)
      (λ met. stopped _ walk.top (Second walk) refl (inl refl) (λ is. absurd cc) refl) (λ apart. from (Second walk) tag _ (λ top is. inl is)))

  pub follows_stamp : (stage : Stage) (word : ℕ) → IsStamp stage → IsLoad (action_at shape c stage) → FollowsStamp shape c stage word
      (outcome_at shape c stage word)
  follows_stamp (Check Stamp inner) word stamp load = check_follows inner word
  follows_stamp (Check (Read addr value) inner) word stamp load = absurd stamp
  follows_stamp (StampSlot top) tag stamp load =
      slots shape c (FollowsStamp shape c (StampSlot top) tag) top tag (λ entry. busy top entry refl refl) (goes_on refl refl refl tt (λ t is. inl is))
  follows_stamp (StampSwap top) word stamp load = absurd load
  follows_stamp Closed word stamp load = absurd stamp
  follows_stamp BeginIndex word stamp load = absurd stamp
  follows_stamp (BeginTag top at) word stamp load = absurd stamp
  follows_stamp (ReadHeap addr) word stamp load = absurd stamp
  follows_stamp (Turn inner) word stamp load = absurd stamp
  follows_stamp (Between inner) word stamp load = absurd stamp
