-- Fronts: what a caller knows to be complete is, and its attempt is no older.
use Rattle.std.proofs.Common.{◌≡◌, ◌≢◌, ℕ, ◌≤◌, List, true, refl, sym, ◌∙◌, arith}
use Rattle.tx_model.specs.declared.gate.Region.{Region}
use Rattle.tx_model.specs.declared.pass.PassState.TheVariants as state
use Rattle.ring_core.specs.declared.shape.Shape.{Shape}
use Rattle.ring_core.specs.declared.stage.Stage.{Stage}
use Rattle.ring_core.specs.declared.stage.Stage.TheVariants.{Closed, BeginIndex, BeginTag, ReadHeap, Check, StampSlot, StampSwap, Turn, Between}
use Rattle.ring_core.specs.declared.stage.Purpose.{Purpose}
use Rattle.ring_core.specs.declared.stage.Purpose.TheVariants.{Read, Stamp}
use Rattle.ring_core.specs.declared.stage.CheckStage.{CheckStage}
use Rattle.ring_core.specs.declared.stage.TurnStage.TheVariants.{Complete}
use Rattle.ring_core.specs.declared.stage.Walk.{Walk}
use Rattle.ring_core.specs.Sound as core
use Rattle.ring_core.specs.Request.{is_open}
use Rattle.ring_core.specs.Outcomes.{Outcome, checked, outcome_at}
use Rattle.ring_worlds.specs.declared.process.Process.{Process}
use Rattle.ring_worlds.specs.World.{Board, process_after}
use Rattle.ring_worlds.specs.Reader.{IsSince}
use Rattle.ring_worlds.specs.Answers.{Keeps}
use Rattle.ring_worlds.proofs.lemmas.Outcomes as outcomes

active_not_idle : state.Active ≢ state.Idle
active_not_idle e = cc

module _ (shape : Shape) (opening : List ℕ) (regions : List Region) (b : Board) (p : Process) (since : IsSince b p) (behind : p.caller.start ≤ b.complete) where
  abbrev Then : Stage → Outcome → Type 0
  Then stage o = Keeps shape opening regions b p stage o → IsSince b (process_after opening b.history p stage o)

  ended : (why : Purpose) (stage : CheckStage) (walk : Walk) → p.caller.state ≡ state.Active → Then (Check why stage) (checked p.caller why walk)
  ended (Read addr value) stage walk active keeps =
      let ne = λ (e : p.caller.state ≡ state.Idle). active_not_idle (sym active ∙ e) in
      record { known = since.known; since = λ e. omega (arith, since.since ne, keeps.later ne) }
  ended Stamp stage walk active keeps =
      let ne = λ (e : p.caller.state ≡ state.Idle). active_not_idle (sym active ∙ e) in
      record { known = since.known; since = λ e. omega (arith, since.since ne, keeps.later ne) }

  pub since_at : (stage : Stage) (word : ℕ) → is_open stage ≡ true → stage ≢ Turn Complete → core.IsStage shape p.caller stage
      → Then stage (outcome_at shape p.caller stage word)
  since_at Closed word opened not staged = absurd cc
  since_at (Between at) word opened not staged = absurd cc
  since_at BeginIndex index opened not staged =
      outcomes.begins_from shape p.caller (Then BeginIndex) (λ top at keeps. record { known = since.known; since = since.since })
      (λ start keeps. record { known = since.known; since = λ e. keeps.tells.0 }) index index
  since_at (BeginTag top at) tag opened not staged =
      outcomes.begins_at shape p.caller (Then (BeginTag top at)) (λ t a keeps. record { known = since.known; since = since.since })
      (λ start keeps. record { known = since.known; since = λ e. keeps.tells.0 }) top at tag
  since_at (ReadHeap addr) value opened not staged = λ keeps. record { known = since.known; since = since.since }
  since_at (Check why at) word opened not staged =
      outcomes.checks shape p.caller (Then (Check why at)) why (λ loaded next keeps. record { known = since.known; since = since.since })
      (λ walk. ended why at walk staged.0)
      (λ stop keeps. record { known = omega (arith, since.known, behind); since = λ e. absurd (e refl) })
      (λ index keeps. record { known = omega (arith, since.known, behind); since = λ e. absurd (e refl) })
      (λ is entry tag keeps. record { known = since.known; since = since.since }) at word
  since_at (StampSlot top) tag opened not staged =
      outcomes.slots shape p.caller (Then (StampSlot top)) top tag (λ entry keeps. record { known = since.known; since = since.since })
      (λ keeps. record { known = since.known; since = since.since })
  since_at (StampSwap top) found opened not staged =
      outcomes.swaps shape p.caller (Then (StampSwap top)) top found
      (λ won keeps. record { known = since.known; since = λ e. since.since (λ is. active_not_idle (sym staged.active ∙ is)) })
      (λ lost keeps. record { known = since.known; since = since.since })
  since_at (Turn stage) word opened not fits =
      outcomes.turns shape p.caller (Then (Turn stage)) (λ loaded next keeps. record { known = since.known; since = since.since })
      (λ next entry tag keeps. record { known = since.known; since = since.since })
      stage word (λ last. absurd (not (let e : Turn stage ≡ Turn Complete = cc in e)))
