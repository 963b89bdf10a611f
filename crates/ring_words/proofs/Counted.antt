-- The entries that answers name are entries: their numbers are at least 1.
use Rattle.std.proofs.Common.{ℕ, ◌+◌, ◌-◌, ◌*◌, ◌<◌, ◌≤◌, ◌==◌, ◌&&◌, nat_lt, nat_le, take, set, arith}
use Rattle.std.proofs.lemmas.Bool.{cond_both, and_parts, ltb-true}
use Rattle.ring_sig.specs.Signature.{meets}
use Rattle.ring_core.specs.declared.shape.Shape.{Shape}
use Rattle.ring_core.specs.declared.caller.Caller.{Caller}
use Rattle.ring_core.specs.declared.action.Progress.{Progress}
use Rattle.ring_core.specs.declared.action.Progress.TheVariants as answer
use Rattle.ring_core.specs.declared.action.Later.TheVariants.{Unpublished, SlotBusy, Order}
use Rattle.ring_core.specs.declared.stage.Stage.{Stage}
use Rattle.ring_core.specs.declared.stage.Stage.TheVariants.{Closed, BeginIndex, BeginTag, ReadHeap, Check, StampSlot, StampSwap, Turn, Between}
use Rattle.ring_core.specs.declared.stage.Purpose.{Purpose}
use Rattle.ring_core.specs.declared.stage.Purpose.TheVariants.{Read, Stamp}
use Rattle.ring_core.specs.declared.stage.CheckStage.{CheckStage}
use Rattle.ring_core.specs.declared.stage.CheckStage.TheVariants.{Index, First, Words, Second}
use Rattle.ring_core.specs.declared.stage.Walk.{Walk}
use Rattle.ring_core.specs.declared.stage.TurnStage.{TurnStage}
use Rattle.ring_core.specs.declared.stage.TurnStage.TheVariants.{Filling, Signature, Writing, Earlier, EarlierWords, EarlierAgain, Heap, Before, Complete}
use Rattle.ring_core.specs.Outcomes.{Outcome, check_from, check_after, turn_after, outcome_at}
use Rattle.ring_core.specs.Sound as core
use Rattle.ring_worlds.proofs.lemmas.Outcomes.{begins_from, begins_at, swaps}

abbrev pub IsCounted : Progress → Type 0
IsCounted (answer.Later (Unpublished entry tag)) = 1 ≤ entry
IsCounted (answer.Later (SlotBusy entry tag)) = 1 ≤ entry
IsCounted (answer.Later (Order entry tag)) = 1 ≤ entry
IsCounted _ = Unit {0}

module _ (shape : Shape) (c : Caller) where
  abbrev P : Outcome → Type 0
  P o = IsCounted o.progress

  walks : (why : Purpose) (walk : Walk) → P (check_from c why walk)
  walks (Read addr value) walk = cond_both (nat_lt c.start walk.at) _ _ P (λ more. tt) (λ end. tt)
  walks Stamp walk = cond_both (nat_lt c.start walk.at) _ _ P (λ more. tt) (λ end. tt)

  first : (why : Purpose) (walk : Walk) (tag : ℕ) → c.start < walk.at → P (check_after shape c why (First walk) tag)
  first (Read addr value) walk tag some =
      cond_both (nat_lt (4 * walk.at + 3) tag) _ _ P (λ refilled. tt)
      (λ current. cond_both (nat_lt tag (4 * walk.at + 2)) _ _ P (λ not_yet. walks (Read addr value) _) (λ published. tt))
  first Stamp walk tag some =
      cond_both (nat_lt (4 * walk.at + 3) tag) _ _ P (λ refilled. tt)
      (λ current. cond_both (nat_lt tag (4 * walk.at + 2)) _ _ P (λ not_yet. omega (arith, some)) (λ published. tt))

  index : (why : Purpose) (word : ℕ) → P (check_after shape c why Index word)
  index (Read addr value) word = cond_both (nat_lt shape.ring (word - c.start)) _ _ P (λ lost. tt) (λ near. walks (Read addr value) _)
  index Stamp word =
      cond_both (word == shape.life) _ _ P (λ worn. tt) (λ free. cond_both (nat_lt shape.ring (word - c.start)) _ _ P (λ lost. tt) (λ near. walks Stamp _))

  checks : (why : Purpose) (inner : CheckStage) (word : ℕ) → core.IsCheckStage shape c.start why inner → P (check_after shape c why inner word)
  checks why Index word at = index why word
  checks why (First walk) word at = first why walk word at.after
  checks why (Words walk j) word at = tt
  checks why (Second walk) word at =
      cond_both (nat_lt (4 * walk.at + 3) word) _ _ P (λ refilled. tt)
      (λ current. cond_both (meets (take shape.sig_words c.loaded) c.read_sig) _ _ P (λ met. tt) (λ apart. walks why _))

  turns : (inner : TurnStage) (word : ℕ) → core.IsTurnStage shape c inner → P (turn_after shape c inner word)
  turns Filling word at = tt
  turns (Signature j) word at = tt
  turns Writing word at = tt
  turns (Earlier entry) tag at = cond_both (nat_le (4 * entry + 3) tag) _ _ P (λ done. tt) (λ more. tt)
  turns (EarlierWords entry j) word at =
      cond_both (nat_lt (j + 1) shape.sig_words) _ _ P (λ more. tt)
      (λ all. cond_both (meets (take shape.sig_words (set c.loaded j word)) c.write_sig) _ _ P (λ met. tt) (λ apart. tt))
  turns (EarlierAgain entry) tag at = cond_both (nat_le (4 * entry + 3) tag) _ _ P (λ done. tt) (λ not_yet. omega (arith, at.0))
  turns (Heap j) word at = tt
  turns Before tag at = cond_both (nat_le (4 * (c.stamp - 1) + 3) tag) _ _ P (λ done. tt) (λ not_yet. let two : 2 ≤ c.stamp = at in omega (arith, two))
  turns Complete word at = tt

  at_stage : (stage : Stage) (word : ℕ) → core.IsStage shape c stage → P (outcome_at shape c stage word)
  at_stage Closed word at = tt
  at_stage BeginIndex word at = begins_from shape c P (λ top from. tt) (λ start. tt) word word
  at_stage (BeginTag top from) word at = begins_at shape c P (λ t a. tt) (λ start. tt) top from word
  at_stage (ReadHeap addr) word at = tt
  at_stage (Check why inner) word at = checks why inner word at.2
  at_stage (StampSlot top) tag at =
      cond_both (nat_lt shape.ring (top + 1) && nat_lt tag (4 * (top + 1 - shape.ring) + 3)) _ _ P
      (λ busy.
      let more = ltb-true shape.ring (top + 1) (and_parts (nat_lt shape.ring (top + 1)) (nat_lt tag (4 * (top + 1 - shape.ring) + 3)) busy).0 in
      omega (arith, more)) (λ free. tt)
  at_stage (StampSwap top) word at = swaps shape c P top word (λ won. tt) (λ lost. tt)
  at_stage (Turn inner) word at = turns inner word at.1
  at_stage (Between inner) word at = tt

  pub counted : core.IsSound shape c → (word : ℕ) → P (outcome_at shape c c.stage word)
  counted sound word = at_stage c.stage word sound.stage
