-- A swap that finds the index that it expects, over the world that the table stands for.
use Rattle.std.proofs.Common.{◌≡◌, ◌≢◌, ◌⊎◌, ℕ, ◌+◌, ◌≤◌, ◌<◌, ◌++◌, List, [], ◌∷◌, length, set, Option, Some, None, slice_get, slice_index, Contains, refl, sym, ◌∙◌, ap, subst, arith, inl, inr}
use Rattle.std.proofs.lemmas.List.{length_push}
use Rattle.std.proofs.lemmas.Option.{get_or_from_slice_get}
use mathlib.Core.Option.{some}
use lib.ListN.{get_elem?}
use Rattle.tx_model.specs.declared.gate.Region.{Region}
use Rattle.tx_model.specs.declared.gate.TheConstants.{GATE_SEALED}
use Rattle.tx_model.specs.declared.history.Commit.{Commit}
use Rattle.tx_model.specs.declared.pass.PassState.TheVariants as state
use Rattle.tx_model.specs.Words.{value_of}
use Rattle.tx_model.specs.Attempt.{first_of}
use Rattle.tx_model.specs.Memory.{Agrees}
use Rattle.tx_model.specs.History.{state_at, IsWriter, IsLegal}
use Rattle.tx_model.specs.Rule.{gate_at, FollowsRules}
use Rattle.tx_model.specs.RuleLaws.{IsRuled}
use Rattle.tx_model.proofs.lemmas.Gates.{gate_next}
use Rattle.tx_model.proofs.lemmas.Histories.{entry_last, state_stays}
use Rattle.tx_model.proofs.lemmas.Lists.{set_here}
use Rattle.ring_core.specs.declared.kind.Kind.TheVariants as kind
use Rattle.ring_core.specs.declared.stage.Stage.TheVariants as stages
use Rattle.ring_core.specs.declared.stage.TurnStage.TheVariants.{Filling}
use Rattle.ring_core.specs.Kinds.{kind_at}
use Rattle.ring_core.specs.Request.{is_open, action_at}
use Rattle.ring_core.specs.Sound as core
use Rattle.ring_core.specs.Words.{CanAbsorb}
use Rattle.ring_worlds.specs.declared.process.Process.{Process}
use Rattle.ring_worlds.specs.World.{World, board_of, moved_at, moved_on, process_after, with_process, commit_of}
use Rattle.ring_worlds.specs.Reader.{IsChecked, Knows}
use Rattle.ring_worlds.specs.Sound.{Sound, IsProcess}
use Rattle.ring_worlds.specs.Steps.{Steps, found, with_commit}
use Rattle.ring_worlds.specs.Laws.{StepsKeep, MayAbsorb}
use Rattle.ring_worlds.proofs.lemmas.Lists.{set_twice}
use Rattle.ring_worlds.proofs.lemmas.Outcomes.{swaps}
use Rattle.ring_words.specs.Ring.{Given, given_by, front_of}
use Rattle.ring_words.specs.Told.{IsKnown}
use Rattle.ring_words.specs.Pass.{MayBecome}
use Rattle.ring_words.proofs.WorldLoads.{own_commit}
use Rattle.ring_words.proofs.Closes.{index_same}

-- the caller after it
abbrev pub won : Process → ℕ → Process
won q top = record q { caller = record q.caller { state = state.Stamped; stamp = top + 1; stage = stages.Between Filling } }

abbrev pub with_one : World → Process → List Commit
with_one w q = w.history ++ commit_of q ∷ []

abbrev pub won_world : World → ℕ → Process → ℕ → World
won_world w who q top = record (with_process w who (won q top)) { index = top + 1; history = w.history ++ commit_of q ∷ [] }

-- what such a step leaves
pub record WonIn (given : Given) (w : World) (who : ℕ) (q : Process) (top : ℕ) : Type 0 where
  pub sound : Sound (won_world w who q top)
  pub can : CanAbsorb given.shape q.caller top
  pub moved : moved_on given.shape given.opening w.history q top ≡ won q top
  pub last : top ≡ length w.history
  pub known : IsKnown given (with_one w q) (won q top)
  pub agree : Agrees q.reads (state_at given.opening w.history (length w.history))
  pub writer : IsWriter (commit_of q)
  pub reached : front_of q ≤ length w.history
  pub legal : IsLegal given.opening (with_one w q)
  pub rules : FollowsRules given.opening given.regions (with_one w q)
  pub lasts : length (with_one w q) ≤ given.shape.life
  -- a region whose gate is sealed after it was sealed before, or the commit seals it
  pub gates : (region : Region) → Contains given.regions region → gate_at given.opening (with_one w q) (length (with_one w q)) region ≡ GATE_SEALED
      → Contains q.sealed region ⊎ (gate_at given.opening w.history (length w.history) region ≡ GATE_SEALED)

not_empty : {X : Type 0} (xs : List X) → 0 < length xs → xs ≢ []
not_empty xs more is = omega (arith, more, ap length is)

module _ (keeps : StepsKeep) (absorbs : MayAbsorb) (w : World) (s : Sound w) (who : ℕ) (p q : Process) (here : get_elem? w.processes who ≡ some p)
    (may : MayBecome (given_by w) p q) (top : ℕ) (at : q.caller.stage ≡ stages.StampSwap top) (hit : w.index ≡ top) where
  abbrev between : World
  between = with_process w who q

  between_sound : Sound between
  between_sound = may w who refl s here

  now_here : get_elem? between.processes who ≡ some q
  now_here = set_here w.processes who q p here

  mine : IsProcess w.shape w.opening w.regions (board_of between between_sound.complete) q
  mine = between_sound.each who q now_here

  -- the exchange
  step : Steps between who kind.SwapIndex (with_commit between who q)
  step = record { process = q; here = now_here; is_kind = ap kind_at at; steps = (top, ap (action_at w.shape q.caller) at, inl (hit, refl)) }

  moved_is : moved_on w.shape w.opening w.history q w.index ≡ won q top
  moved_is =
      ap (λ stage. moved_at w.shape w.opening w.history q stage w.index) at
      ∙ swaps w.shape q.caller (λ o. process_after w.opening w.history q (stages.StampSwap top) o ≡ won q top) top w.index (λ is. refl)
      (λ lost. absurd (lost hit))

  world_is : with_commit between who q ≡ won_world w who q top
  world_is =
      ap (λ l. record w { index = w.index + 1; history = with_one w q; processes = l })
      (set_twice w.processes who q (moved_on w.shape w.opening w.history q w.index) ∙ ap (set w.processes who) moved_is)
      ∙ ap (λ n. record w { index = n + 1; history = with_one w q; processes = set w.processes who (won q top) }) hit

  after_sound : Sound (won_world w who q top)
  after_sound = subst Sound world_is (keeps kind.SwapIndex between (with_commit between who q) who between_sound step).0

  me : IsProcess w.shape w.opening w.regions (board_of (won_world w who q top) after_sound.complete) (won q top)
  me = after_sound.each who (won q top) (set_here w.processes who (won q top) p here)

  stamping : core.IsStamping w.shape q.caller.state q.caller.writes q.caller.start top
  stamping = subst (core.IsStage w.shape q.caller) at mine.machine.stage

  checked : IsChecked w.shape w.opening w.regions (board_of between between_sound.complete) q.caller.start q.reads top
  checked = (subst (Knows w.shape w.opening w.regions (board_of between between_sound.complete) q) at mine.reader.knows).0

  at_top : top ≡ length w.history
  at_top = sym hit ∙ s.indexed

  long : length (with_one w q) ≡ length w.history + 1
  long = length_push w.history (commit_of q)

  begun : Agrees q.reads (state_at w.opening (with_one w q) q.caller.start)
  begun =
      subst (Agrees q.reads)
      (sym (state_stays w.opening w.history (with_one w q) q.caller.start (commit_of q ∷ [], refl) (omega (arith, stamping.after, at_top))))
      (checked.agree q.caller.start (omega arith) stamping.after)

  known : IsKnown (given_by w) (with_one w q) (won q top)
  known =
      record {
        machine = me.machine;
        since = me.since.since;
        agree = λ busy. begun;
        follows = me.lawful.follows;
        publishes = me.lawful.publishes;
        committed = λ is. own_commit w.shape (board_of (won_world w who q top) after_sound.complete) (won q top) (stages.Between Filling)
            me.machine.stage is me.own;
      }

  -- ---- gates
  ruled : IsRuled w.opening w.regions (with_one w q)
  ruled = record { well_formed = s.opened.regions; legal = after_sound.board.legal; rules = after_sound.board.rules }

  module _ (region : Region) (among : Contains w.regions region) where
    gate_is : slice_get (state_at w.opening (with_one w q) (length w.history + 1)) region.gate
        ≡ first_of (value_of q.caller.writes region.gate) (slice_get (state_at w.opening (with_one w q) (length w.history)) region.gate)
    gate_is = gate_next w.opening w.regions (with_one w q) ruled region among (length w.history) (commit_of q) (entry_last w.history (commit_of q))

    before_is : state_at w.opening (with_one w q) (length w.history) ≡ state_at w.opening w.history (length w.history)
    before_is = state_stays w.opening w.history (with_one w q) (length w.history) (commit_of q ∷ [], refl) (omega arith)

    sealed_by : (written : Option ℕ) → value_of q.caller.writes region.gate ≡ written
        → gate_at w.opening (with_one w q) (length w.history + 1) region ≡ GATE_SEALED
        → Contains q.sealed region ⊎ (gate_at w.opening w.history (length w.history) region ≡ GATE_SEALED)
    sealed_by None is sealed =
        inr (ap (λ m. slice_index m region.gate) (sym before_is)
        ∙ sym (index_same (state_at w.opening (with_one w q) (length w.history + 1)) (state_at w.opening (with_one w q) (length w.history)) region.gate
        gate_kept)
        ∙ sealed)
      where
        gate_kept : slice_get (state_at w.opening (with_one w q) (length w.history + 1)) region.gate
            ≡ slice_get (state_at w.opening (with_one w q) (length w.history)) region.gate
        gate_kept = gate_is ∙ ap (λ o. first_of o (slice_get (state_at w.opening (with_one w q) (length w.history)) region.gate)) is
    sealed_by (Some value) is sealed =
        let now : slice_get (state_at w.opening (with_one w q) (length w.history + 1)) region.gate ≡ Some value =
        gate_is ∙ ap (λ o. first_of o (slice_get (state_at w.opening (with_one w q) (length w.history)) region.gate)) is in
        let value_is : value ≡ GATE_SEALED =
        sym (get_or_from_slice_get (state_at w.opening (with_one w q) (length w.history + 1)) region.gate value 0 now) ∙ sealed in
        elim (mine.lawful.follows.uses.gates region value among is) [
          | inl (opened, read) ↦ absurd (omega (arith, opened, value_is))
          | inr other ↦ elim other [
            | inl (seals, there) ↦ inl there
            | inr (packed, there) ↦ absurd (omega (arith, packed, value_is))
          ]
        ]

  pub wins : WonIn (given_by w) w who q top
  wins =
      record {
        sound = after_sound;
        can = subst (CanAbsorb w.shape q.caller) (ap (λ stage. found w (action_at w.shape q.caller stage)) at ∙ hit)
            (absorbs between who q between_sound now_here (ap is_open at));
        moved = ap (moved_on w.shape w.opening w.history q) (sym hit) ∙ moved_is;
        last = at_top;
        known = known;
        agree = checked.agree (length w.history) (omega (arith, stamping.after, at_top)) (omega (arith, at_top));
        writer = (not_empty q.caller.writes stamping.wrote, mine.machine.sized.apart);
        reached = omega (arith, mine.since.known, mine.reader.behind, between_sound.board.counted);
        legal = after_sound.board.legal;
        rules = after_sound.board.rules;
        lasts = after_sound.board.lived;
        gates = λ region among sealed. sealed_by region among (value_of q.caller.writes region.gate) refl
            (sym (ap (λ n. gate_at w.opening (with_one w q) n region) long) ∙ sealed);
      }
