-- What the answers of steps tell.
use Rattle.std.proofs.Common.{◌≡◌, ◌≢◌, ℕ, ◌≤◌, true, refl, sym, ◌∙◌, ap, subst, arith}
use mathlib.Core.Option.{some}
use lib.ListN.{get_elem?}
use Rattle.tx_model.specs.declared.pass.PassState.TheVariants as state
use Rattle.tx_model.specs.declared.pass.Stop.TheVariants.{Met, Overrun}
use Rattle.ring_core.specs.declared.shape.Shape.{Shape}
use Rattle.ring_core.specs.declared.caller.Caller.{Caller}
use Rattle.ring_core.specs.declared.action.Progress.{Progress}
use Rattle.ring_core.specs.declared.action.Progress.TheVariants as answer
use Rattle.ring_core.specs.declared.action.Later.TheVariants.{Lost, Unpublished, SlotBusy, Order}
use Rattle.ring_core.specs.declared.stage.Stage.{Stage}
use Rattle.ring_core.specs.declared.stage.Stage.TheVariants.{Closed, BeginIndex, BeginTag, ReadHeap, Check, StampSlot, StampSwap, Turn, Between}
use Rattle.ring_core.specs.declared.stage.Purpose.{Purpose}
use Rattle.ring_core.specs.declared.stage.Purpose.TheVariants.{Read, Stamp}
use Rattle.ring_core.specs.declared.stage.Walk.{Walk}
use Rattle.ring_core.specs.Sound as core
use Rattle.ring_core.specs.Laws.{StepKeeps}
use Rattle.ring_core.specs.Request.{is_open}
use Rattle.ring_core.specs.Outcomes.{Outcome, checked, outcome_at}
use Rattle.ring_worlds.specs.declared.process.Process.{Process}
use Rattle.ring_worlds.specs.World.{World}
use Rattle.ring_worlds.specs.Answers.{Tells}
use Rattle.ring_worlds.specs.Sound.{Sound}
use Rattle.ring_worlds.specs.Steps.{answer_of}
use Rattle.ring_worlds.specs.Learns.{AreComplete, start_after, LearnsBy, Learns}
use Rattle.ring_worlds.proofs.lemmas.Outcomes as outcomes
use Rattle.ring_worlds.proofs.worlds.Needs.{b}
use Rattle.ring_worlds.proofs.worlds.Seen.{IsLoad, me, word, told}

-- an answer that a load may give
abbrev pub IsPlain : Progress → Type 0
IsPlain (answer.Stamped stamp) = ⊥
IsPlain (answer.Completed stamp) = ⊥
IsPlain _ = Unit {0}

module _ (shape : Shape) (c : Caller) where
  checked_plain : (why : Purpose) (walk : Walk) → IsPlain (checked c why walk).progress
  checked_plain (Read addr value) walk = tt
  checked_plain Stamp walk = tt

  pub plain_answer : (index : ℕ) (stage : Stage) (found : ℕ) → IsLoad index stage → ((top : ℕ) → stage ≡ StampSwap top → found ≡ index)
      → IsPlain (outcome_at shape c stage found).progress
  plain_answer index Closed found l swaps = absurd l
  plain_answer index (Between at) found l swaps = absurd l
  plain_answer index BeginIndex found l swaps = outcomes.begins_from shape c (λ (o : Outcome). IsPlain o.progress) (λ top at. tt) (λ start. tt) found found
  plain_answer index (BeginTag top at) found l swaps = outcomes.begins_at shape c (λ (o : Outcome). IsPlain o.progress) (λ t a. tt) (λ start. tt) top at found
  plain_answer index (ReadHeap addr) found l swaps = tt
  plain_answer index (Check why at) found l swaps = outcomes.checks shape c (λ (o : Outcome). IsPlain o.progress) why (λ loaded next. tt) (checked_plain why)
      (λ stop. tt) (λ i. tt) (λ is entry tag. tt) at found
  plain_answer index (StampSlot top) found l swaps = outcomes.slots shape c (λ (o : Outcome). IsPlain o.progress) top found (λ entry. tt) tt
  plain_answer index (StampSwap top) found l swaps = outcomes.swaps shape c (λ (o : Outcome). IsPlain o.progress) top found
      (λ won. absurd (l (sym (swaps top refl) ∙ won))) (λ lost. tt)
  plain_answer index (Turn stage) found l swaps = outcomes.turns shape c (λ (o : Outcome). IsPlain o.progress) (λ loaded next. tt) (λ next entry tag. tt)
      stage found (λ last. absurd (subst (λ (x : Stage). IsLoad index x) (ap Turn last) l))

  -- a value is answered in an attempt alone
  pub value_active : (stage : Stage) (found value : ℕ) → is_open stage ≡ true → core.IsStage shape c stage
      → (outcome_at shape c stage found).progress ≡ answer.Value value → c.state ≢ state.Idle
  value_active Closed found value opened staged e = absurd cc
  value_active (Between at) found value opened staged e = absurd cc
  value_active BeginIndex found value opened staged e = absurd
      (outcomes.begins_from shape c (λ (o : Outcome). o.progress ≡ answer.Value value → ⊥) (λ top at e'. cc) (λ start e'. cc) found found e)
  value_active (BeginTag top at) found value opened staged e =
      absurd (outcomes.begins_at shape c (λ (o : Outcome). o.progress ≡ answer.Value value → ⊥) (λ t a e'. cc) (λ start e'. cc) top at found e)
  value_active (ReadHeap addr) found value opened staged e = λ idle. let no : state.Active ≡ state.Idle = sym staged.0 ∙ idle in cc
  value_active (Check why at) found value opened staged e = λ idle. let no : state.Active ≡ state.Idle = sym staged.0 ∙ idle in cc
  value_active (StampSlot top) found value opened staged e = λ idle. let no : state.Active ≡ state.Idle = sym staged.active ∙ idle in cc
  value_active (StampSwap top) found value opened staged e = λ idle. let no : state.Active ≡ state.Idle = sym staged.active ∙ idle in cc
  value_active (Turn at) found value opened staged e = λ idle. let no : state.Stamped ≡ state.Idle = sym staged.0.stamped ∙ idle in cc

-- ---- what a load tells
module _ (keeps : StepKeeps) (w : World) (s : Sound w) (who : ℕ) (p : Process) (here : get_elem? w.processes who ≡ some p)
    (opened : is_open p.caller.stage ≡ true) where
  pub are_complete : (count : ℕ) → count ≤ s.complete → AreComplete w count
  are_complete count within = record {
    happened = omega (arith, within, s.board.counted);
    complete = λ entry first upto. s.board.done entry first (omega (arith, upto, within));
  }

  by_answer : (next : World) (progress : Progress) → answer_of w p ≡ progress → start_after w p ≤ s.complete → IsPlain progress
      → Tells w.shape w.opening w.regions (b w s) p p.caller.stage (start_after w p) progress → LearnsBy w next p progress
  by_answer next (answer.Started start) is early plain tells = (tells.0, are_complete start (omega (arith, early, tells.1)), tells.1)
  by_answer next (answer.Value value) is early plain tells =
      let busy = value_active w.shape p.caller p.caller.stage (word keeps w s who p here opened) value opened (me keeps w s who p here opened).machine.stage
      is in
      let since = (me keeps w s who p here opened).since.since busy in
      let later = (told keeps w s who p here opened).later busy in
      (omega (arith, since, later), tells)
  by_answer next (answer.Stopped (Met entry)) is early plain tells = tells
  by_answer next (answer.Stopped (Overrun entry at)) is early plain tells = tells
  by_answer next (answer.Stamped stamp) is early plain tells = absurd plain
  by_answer next (answer.Completed stamp) is early plain tells = absurd plain
  by_answer next (answer.Later (Lost index)) is early plain tells = tells
  by_answer next (answer.Later (Unpublished entry tag)) is early plain tells = tells
  by_answer next (answer.Later (SlotBusy entry tag)) is early plain tells = tells
  by_answer next (answer.Later (Order entry tag)) is early plain tells = tells
  by_answer next (answer.Worn index) is early plain tells = tells
  by_answer next answer.Going is early plain tells = tt

  pub learns : (next : World) → IsPlain (answer_of w p) → Learns w next p
  learns next plain = by_answer next (answer_of w p) refl (told keeps w s who p here opened).reader.behind plain (told keeps w s who p here opened).tells
