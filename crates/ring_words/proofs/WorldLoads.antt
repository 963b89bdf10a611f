-- A step of a caller that leaves the words as they are, over the world that the table stands for.
use Rattle.std.proofs.Common.{◌≡◌, ◌≢◌, ℕ, ◌+◌, ◌*◌, ◌-◌, ◌<◌, ◌≤◌, true, length, Some, slice_get, refl, sym, ◌∙◌, ap, subst, arith, inl, inr}
use Rattle.std.proofs.lemmas.Bool.{cases_lt}
use mathlib.Core.Option.{some, some-injective}
use lib.ListN.{get_elem?}
use Rattle.tx_model.specs.declared.pass.PassState.TheVariants as state
use Rattle.tx_model.specs.declared.pass.Stop.TheVariants.{Met, Overrun}
use Rattle.tx_model.specs.declared.pass.PassState.{PassState}
use Rattle.tx_model.specs.declared.view.Attempt.{Attempt}
use Rattle.tx_model.specs.Memory.{Agrees}
use Rattle.tx_model.specs.History.{state_at, IsLegal}
use Rattle.tx_model.specs.Rule.{FollowsRules}
use Rattle.tx_model.proofs.lemmas.Lists.{set_here}
use Rattle.ring_core.specs.declared.action.Progress.{Progress}
use Rattle.ring_core.specs.declared.action.Progress.TheVariants as answer
use Rattle.ring_core.specs.declared.action.Later.TheVariants.{Lost, Unpublished, SlotBusy, Order}
use Rattle.ring_core.specs.declared.kind.Kind.{Kind}
use Rattle.ring_core.specs.declared.kind.Kind.TheVariants as kind
use Rattle.ring_core.specs.declared.action.Action.TheVariants.{LoadIndex}
use Rattle.ring_core.specs.Request.{is_open, next_action}
use Rattle.ring_core.specs.Outcomes.{absorbed}
use Rattle.ring_core.specs.Words.{CanAbsorb}
use Rattle.ring_worlds.specs.declared.process.Process.{Process}
use Rattle.ring_core.specs.declared.shape.Shape.{Shape}
use Rattle.ring_core.specs.declared.stage.Stage.{Stage}
use Rattle.ring_core.specs.declared.stage.Stage.TheVariants.{Closed, BeginIndex, BeginTag, ReadHeap, Check, StampSlot, StampSwap, Turn, Between}
use Rattle.ring_core.specs.Sound as core
use Rattle.ring_worlds.specs.Own.{IsOwnAt}
use Rattle.ring_worlds.specs.World.{World, Board, tag_of, moved_on, with_process, front_after, commit_of}
use Rattle.ring_worlds.specs.Sound.{Sound, IsProcess}
use Rattle.ring_worlds.specs.World.{board_of}
use Rattle.ring_worlds.specs.Steps.{Steps, StepsTo, found, seen}
use Rattle.ring_worlds.specs.Learns.{start_after, LearnsBy, Learns}
use Rattle.ring_worlds.specs.Laws.{StepsKeep, MayAbsorb, StartStays, StepExists}
use Rattle.ring_worlds.proofs.lemmas.Lists.{set_twice}
use Rattle.ring_words.specs.Ring.{Given, given_by, front_of}
use Rattle.ring_words.proofs.Finds.{Leaves, leaves_finds}
use Rattle.ring_words.proofs.Counted.{IsCounted, counted}
use Rattle.ring_words.specs.Told.{IsKnown, KeepsCommit, IsAhead, TellsOn, board_with}
use Rattle.ring_words.specs.Pass.{MayBecome}
use Rattle.ring_words.proofs.Left.{IsQuiet, Left, load_open, left, quiet_owned, keeps_commit}

-- what such a step of the caller leaves, which was one caller at its last step and is another by now
pub record LoadedIn (given : Given) (w : World) (who : ℕ) (p q : Process) (found : ℕ) : Type 0 where
  pub sound : Sound (with_process w who (moved_on given.shape given.opening w.history q found))
  pub can : CanAbsorb given.shape q.caller found
  pub index : next_action given.shape q.caller ≡ LoadIndex → found ≡ length w.history
  pub tells : TellsOn given (board_with w.history w.tags) q (absorbed given.shape q.caller found)
  pub ahead : IsAhead (front_of (moved_on given.shape given.opening w.history q found)) (absorbed given.shape q.caller found).progress
  pub stays : q.caller.state ≡ state.Stamped → (moved_on given.shape given.opening w.history q found).caller.state ≡ state.Stamped
  pub stamped : (moved_on given.shape given.opening w.history q found).caller.state ≡ state.Stamped
      → KeepsCommit q (moved_on given.shape given.opening w.history q found)
  pub owned : (moved_on given.shape given.opening w.history q found).owned ≡ p.owned
  pub rests : (moved_on given.shape given.opening w.history q found).caller.state ≡ state.Idle
      → (moved_on given.shape given.opening w.history q found).caller.start ≤ (moved_on given.shape given.opening w.history q found).front
  pub start : q.caller.state ≢ state.Idle → q.caller.start ≤ (moved_on given.shape given.opening w.history q found).caller.start
  pub front : front_of p ≤ front_of (moved_on given.shape given.opening w.history q found)
  pub reached : front_of (moved_on given.shape given.opening w.history q found) ≤ length w.history
  pub process_is : IsKnown given w.history (moved_on given.shape given.opening w.history q found)
  pub legal : IsLegal given.opening w.history
  pub rules : FollowsRules given.opening given.regions w.history
  pub lasts : length w.history ≤ given.shape.life

-- the commit of a stamped caller is in the history
pub own_commit : (shape : Shape) (b : Board) (p : Process) (stage : Stage) → core.IsStage shape p.caller stage → p.caller.state ≡ state.Stamped
    → IsOwnAt shape b p stage → slice_get b.history (p.caller.stamp - 1) ≡ Some (commit_of p)
own_commit shape b p Closed is_stage is own = absurd (is_stage is)
own_commit shape b p BeginIndex is_stage is own = absurd (let e = sym is_stage ∙ is in cc)
own_commit shape b p (BeginTag top at) is_stage is own = absurd (let e = sym is_stage.0 ∙ is in cc)
own_commit shape b p (ReadHeap addr) is_stage is own = absurd (let e = sym is_stage.0 ∙ is in cc)
own_commit shape b p (Check why at) is_stage is own = absurd (let e = sym is_stage.0 ∙ is in cc)
own_commit shape b p (StampSlot top) is_stage is own = absurd (let e = sym is_stage.active ∙ is in cc)
own_commit shape b p (StampSwap top) is_stage is own = absurd (let e = sym is_stage.active ∙ is in cc)
own_commit shape b p (Turn at) is_stage is own = own.there
own_commit shape b p (Between at) is_stage is own = own.there

-- the world after it
load_seen : (w : World) (who : ℕ) (p : Process) (kind : Kind) (next : World) → StepsTo w who p kind next →
    Leaves (found w (next_action w.shape p.caller)) (next_action w.shape p.caller) → next ≡ seen w who p (found w (next_action w.shape p.caller))
load_seen w who p kind.LoadIndex next (acts, is) l = is ∙ ap (λ a. seen w who p (found w a)) (sym acts)
load_seen w who p kind.LoadTag next (slot, (acts, is)) l = is ∙ ap (λ a. seen w who p (found w a)) (sym acts)
load_seen w who p kind.LoadSig next (slot, word, (acts, is)) l = is ∙ ap (λ a. seen w who p (found w a)) (sym acts)
load_seen w who p kind.LoadHeap next (addr, (acts, is)) l = is ∙ ap (λ a. seen w who p (found w a)) (sym acts)
load_seen w who p kind.SwapIndex next (from, acts, is) l =
    elim is [
      | inl (same, won) ↦ absurd (subst (λ a. Leaves (found w a) a) acts l same)
      | inr (other, lost) ↦ lost ∙ ap (λ a. seen w who p (found w a)) (sym acts)
    ]
load_seen w who p kind.StoreTagFilling next (slot, tag, acts, is) l = absurd (subst (λ a. Leaves (found w a) a) acts l)
load_seen w who p kind.StoreSig next (slot, word, value, acts, is) l = absurd (subst (λ a. Leaves (found w a) a) acts l)
load_seen w who p kind.StoreTagWriting next (slot, tag, acts, is) l = absurd (subst (λ a. Leaves (found w a) a) acts l)
load_seen w who p kind.StoreHeap next (addr, value, acts, is) l = absurd (subst (λ a. Leaves (found w a) a) acts l)
load_seen w who p kind.StoreTagComplete next (slot, tag, acts, is) l = absurd (subst (λ a. Leaves (found w a) a) acts l)

-- what is learned of the answer, without the rest of the world
tells_by : (w next : World) (p : Process) (progress : Progress) → IsQuiet progress → (start : ℕ) → start ≡ start_after w p → LearnsBy w next p progress
    → TellsOn (given_by w) (board_with w.history w.tags) p (record { caller = record p.caller { start = start_after w p }; progress = progress })
tells_by w next p answer.Going quiet start is learns = tt
tells_by w next p (answer.Started first) quiet start is learns = (learns.0, learns.2)
tells_by w next p (answer.Value value) quiet start is learns = learns.1
tells_by w next p (answer.Stopped (Met entry)) quiet start is learns = learns
tells_by w next p (answer.Stopped (Overrun entry seen)) quiet start is learns = learns
tells_by w next p (answer.Stamped stamp) quiet start is learns = absurd quiet
tells_by w next p (answer.Later (Lost index)) quiet start is learns = learns
tells_by w next p (answer.Later (Unpublished entry tag)) quiet start is learns = learns
tells_by w next p (answer.Later (SlotBusy entry tag)) quiet start is learns = learns
tells_by w next p (answer.Later (Order entry tag)) quiet start is learns = learns
tells_by w next p (answer.Completed stamp) quiet start is learns = absurd quiet
tells_by w next p (answer.Worn index) quiet start is learns = learns

front_up : (p : Process) (progress : Progress) → p.front ≤ front_after p progress
front_up p (answer.Stopped stop) = omega arith
front_up p (answer.Worn index) = omega arith
front_up p (answer.Completed stamp) = omega arith
front_up p answer.Going = omega arith
front_up p (answer.Started start) = omega arith
front_up p (answer.Value value) = omega arith
front_up p (answer.Stamped stamp) = omega arith
front_up p (answer.Later later) = omega arith

module _ (keeps : StepsKeep) (absorbs : MayAbsorb) (stays : StartStays) (exists : StepExists) (w : World) (s : Sound w) (who : ℕ) (p q : Process)
    (here : get_elem? w.processes who ≡ some p)
    (may : MayBecome (given_by w) p q) (agree : q.caller.state ≡ state.Stamped → Agrees q.reads (state_at w.opening w.history q.caller.start))
    (owned : q.owned ≡ p.owned) (front : front_of p ≤ front_of q)
    (rests : q.caller.state ≡ state.Idle → q.caller.start ≤ q.front)
    (leaves : Leaves (found w (next_action w.shape q.caller)) (next_action w.shape q.caller)) where
  -- first the caller becomes what it is by now
  abbrev between : World
  between = with_process w who q

  between_sound : Sound between
  between_sound = may w who refl s here

  now_here : get_elem? between.processes who ≡ some q
  now_here = set_here w.processes who q p here

  abbrev word : ℕ
  word = found w (next_action w.shape q.caller)

  asks : is_open q.caller.stage ≡ true
  asks = load_open w.shape q q.caller.stage (leaves_finds word (next_action w.shape q.caller) leaves)

  abbrev new : Process
  new = moved_on w.shape w.opening w.history q word

  abbrev after : World
  after = with_process w who new

  -- and then it makes its step
  steps : (kind : Kind) × (next : World) × Steps between who kind next
  steps = exists between who q now_here asks

  same : steps.2.process ≡ q
  same = some-injective steps.2.process q (sym steps.2.here ∙ now_here)

  next_is : steps.1 ≡ after
  next_is =
      load_seen between who q steps.0 steps.1 (subst (λ x. StepsTo between who x steps.0 steps.1) same steps.2.steps) leaves
      ∙ ap (λ l. record w { processes = l }) (set_twice w.processes who q new)

  learned : Sound steps.1 × Learns between steps.1 steps.2.process
  learned = keeps steps.0 between steps.1 who between_sound steps.2

  after_sound : Sound after
  after_sound = subst Sound next_is learned.0

  learns : Learns between steps.1 q
  learns = subst (Learns between steps.1) same learned.1

  me : IsProcess w.shape w.opening w.regions (board_of after after_sound.complete) new
  me = after_sound.each who new (set_here w.processes who new p here)

  left_now : Left q (absorbed w.shape q.caller word)
  left_now = left w.shape q rests word (between_sound.each who q now_here).machine leaves

  tells : TellsOn (given_by w) (board_with w.history w.tags) q (absorbed w.shape q.caller word)
  tells = tells_by between steps.1 q (absorbed w.shape q.caller word).progress left_now.quiet (start_after between q) refl learns

  raised : front_of q ≤ front_of new
  raised =
      let up = front_up q (absorbed w.shape q.caller word).progress in
      by_state q.caller.state refl up
    where
      by_state : (st : _) → q.caller.state ≡ st → q.front ≤ new.front → front_of q ≤ front_of new
      by_state state.Active is up = omega (
        arith,
        up,
        stays between who q between_sound now_here asks (λ idle. let e : state.Active ≡ state.Idle = sym is ∙ idle in cc),
      )
      by_state state.Stamped is up = omega (
        arith,
        up,
        stays between who q between_sound now_here asks (λ idle. let e : state.Stamped ≡ state.Idle = sym is ∙ idle in cc),
      )
      by_state state.Idle is up =
          elim (left_now.begins is) [
            | inl stayed ↦ omega (arith, up, stayed)
            | inr (start, started) ↦
                let told = subst (λ (x : Progress). LearnsBy between steps.1 q x) started learns in
                omega (arith, up, told.0, told.2, rests is)
          ]

  kept : new.caller.state ≡ state.Stamped → KeepsCommit q new
  kept is = keeps_commit w.opening w.history q q.caller.stage (absorbed w.shape q.caller word) (left_now.stamped is)

  -- a stamped caller has read what it had
  agrees : (st : PassState) → new.caller.state ≡ st → new.caller.state ≢ state.Idle → Agrees new.reads (state_at w.opening w.history new.caller.start)
  agrees state.Idle is busy = absurd (busy is)
  agrees state.Active is busy = me.reader.agree is
  agrees state.Stamped is busy =
      let same = (kept is).same in
      subst (λ (a : Attempt). Agrees a.reads (state_at w.opening w.history a.start)) (sym same) (agree (kept is).was)

  some_entry : IsCounted (absorbed w.shape q.caller word).progress
  some_entry = counted w.shape q.caller (between_sound.each who q now_here).machine word

  -- what is complete has a tag that says so
  past : (entry : ℕ) → 1 ≤ entry → tag_of w.shape (board_with w.history w.tags) entry < 4 * entry + 3 → front_of new < entry
  past entry counts low =
      elim (cases_lt after_sound.complete entry) [
        | inl later ↦ omega (arith, later, me.since.known, me.reader.behind)
        | inr done ↦ absurd (omega (arith, after_sound.board.done entry counts done, low))
      ]

  ahead_of : (progress : Progress) → IsCounted progress
      → TellsOn (given_by w) (board_with w.history w.tags) q (record { caller = (absorbed w.shape q.caller word).caller; progress = progress })
      → IsAhead (front_of new) progress
  ahead_of (answer.Later (Unpublished entry tag)) counts told = past entry counts (omega (arith, told.0, told.1))
  ahead_of (answer.Later (SlotBusy entry tag)) counts told = past entry counts (omega (arith, told.0, told.1))
  ahead_of (answer.Later (Order entry tag)) counts told = past entry counts (omega (arith, told.0, told.1))
  ahead_of (answer.Later (Lost index)) counts told = tt
  ahead_of answer.Going counts told = tt
  ahead_of (answer.Started first) counts told = tt
  ahead_of (answer.Value value) counts told = tt
  ahead_of (answer.Stopped stop) counts told = tt
  ahead_of (answer.Stamped stamp) counts told = tt
  ahead_of (answer.Completed stamp) counts told = tt
  ahead_of (answer.Worn index) counts told = tt

  pub loaded : LoadedIn (given_by w) w who p q word
  loaded =
      record {
        sound = after_sound;
        can = absorbs between who q between_sound now_here asks;
        index = λ is. ap (found w) is ∙ s.indexed;
        tells = tells;
        ahead = ahead_of (absorbed w.shape q.caller word).progress some_entry tells;
        stays = left_now.stays;
        stamped = kept;
        owned = quiet_owned w.opening w.history q (absorbed w.shape q.caller word).progress left_now.quiet ∙ owned;
        rests = left_now.rests;
        start = λ busy. stays between who q between_sound now_here asks busy;
        front = omega (arith, front, raised);
        reached = omega (arith, me.since.known, me.reader.behind, after_sound.board.counted);
        process_is = record {
          machine = me.machine;
          since = me.since.since;
          agree = agrees new.caller.state refl;
          follows = me.lawful.follows;
          publishes = me.lawful.publishes;
          committed = λ is. own_commit w.shape (board_of after after_sound.complete) new new.caller.stage me.machine.stage is me.own;
        };
        legal = s.board.legal;
        rules = s.board.rules;
        lasts = s.board.lived;
      }
