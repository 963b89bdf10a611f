-- A store of a caller, over the world that the table stands for.
use Rattle.std.proofs.Common.{◌≡◌, ◌≢◌, ℕ, ◌-◌, ◌+◌, ◌*◌, ◌<◌, ◌≤◌, max, true, List, [], length, set, Some, slice_get, Contains, refl, sym, ◌∙◌, ap, subst, arith}
use mathlib.Core.Option.{some, some-injective}
use lib.ListN.{get_elem?}
use Rattle.tx_model.specs.declared.gate.Region.{Region}
use Rattle.tx_model.specs.declared.pass.PassState.TheVariants as state
use Rattle.tx_model.specs.declared.history.Commit.{Commit}
use Rattle.tx_model.specs.History.{state_at, IsLegal}
use Rattle.tx_model.specs.Attempt as attempts
use Rattle.tx_model.specs.Rule.{AttemptFollows, FollowsRules}
use Rattle.tx_model.specs.Pass.{OwnsRegion}
use Rattle.tx_model.proofs.lemmas.Lists.{set_here}
use Rattle.ring_core.specs.declared.shape.Shape.{Shape}
use Rattle.ring_core.specs.declared.caller.Caller.{Caller}
use Rattle.ring_core.specs.declared.action.Action.{Action}
use Rattle.ring_core.specs.declared.action.Action.TheVariants as action
use Rattle.ring_core.specs.declared.action.Progress.TheVariants.{Completed}
use Rattle.ring_core.specs.declared.kind.Kind.{Kind}
use Rattle.ring_core.specs.declared.stage.Stage.{Stage}
use Rattle.ring_core.specs.declared.stage.Stage.TheVariants.{Closed, BeginIndex, BeginTag, ReadHeap, Check, StampSlot, StampSwap, Turn, Between}
use Rattle.ring_core.specs.declared.stage.CheckStage.{CheckStage}
use Rattle.ring_core.specs.declared.stage.CheckStage.TheVariants.{Index, First, Words, Second}
use Rattle.ring_core.specs.declared.stage.TurnStage.{TurnStage}
use Rattle.ring_core.specs.declared.stage.TurnStage.TheVariants.{Filling, Signature, Writing, Earlier, EarlierWords, EarlierAgain, Heap, Before, Complete}
use Rattle.ring_core.specs.Request.{is_open, next_action, action_at, check_action, turn_action}
use Rattle.ring_core.specs.Outcomes.{Outcome, made, goes, idle, absorbed, outcome_at, turn_after}
use Rattle.ring_core.specs.Sound as core
use Rattle.ring_core.specs.Words.{CanAbsorb}
use Rattle.ring_worlds.specs.declared.process.Process.{Process}
use Rattle.ring_worlds.specs.World.{World, attempt_of, commit_of, board_of, moved_on, process_after, with_process}
use Rattle.ring_worlds.specs.Own.{IsOwn, IsOwnAt}
use Rattle.ring_worlds.specs.Sound.{Sound, IsProcess}
use Rattle.ring_worlds.specs.Steps.{Steps, StepsTo, found}
use Rattle.ring_worlds.specs.Laws.{StepsKeep, MayAbsorb, StepExists}
use Rattle.ring_worlds.proofs.lemmas.Lists.{set_twice}
use Rattle.ring_words.specs.Ring.{Given, given_by, front_of}
use Rattle.ring_words.specs.Pass.{MayBecome}
use Rattle.ring_words.specs.Stores.{IsStore}
use Rattle.ring_words.proofs.StoredWords.{with_store, store_leads}

-- ---- the machine
-- a store of a turn goes on, or completes the commit. `stage` is the caller's
pub data Stored (shape : Shape) (c : Caller) (stage : Stage) (o : Outcome) : Type 0 where
  goes_on : (next : TurnStage) → o ≡ goes c (Turn next) → Stored shape c stage o
  completes : stage ≡ Turn Complete → o ≡ made (idle shape c) (Completed c.stamp) → Stored shape c stage o

-- the stages of a turn at which a word is stored
module _ (shape : Shape) (c : Caller) where
  none_checks : (inner : CheckStage) → IsStore (check_action shape inner) → ⊥
  none_checks Index store = store
  none_checks (First walk) store = store
  none_checks (Words walk word) store = store
  none_checks (Second walk) store = store

  -- at one of them
  pub at_turn : (P : Stage → Type 0) → ((inner : TurnStage) → IsStore (turn_action shape c inner) → P (Turn inner)) → (stage : Stage)
      → IsStore (action_at shape c stage) → P stage
  at_turn P turn Closed store = absurd store
  at_turn P turn BeginIndex store = absurd store
  at_turn P turn (BeginTag top at) store = absurd store
  at_turn P turn (ReadHeap addr) store = absurd store
  at_turn P turn (Check why inner) store = absurd (none_checks inner store)
  at_turn P turn (StampSlot top) store = absurd store
  at_turn P turn (StampSwap top) store = absurd store
  at_turn P turn (Turn inner) store = turn inner store
  at_turn P turn (Between inner) store = absurd store

  stored_in : (inner : TurnStage) (word : ℕ) → IsStore (turn_action shape c inner) → Stored shape c (Turn inner) (turn_after shape c inner word)
  stored_in Filling word store = goes_on _ refl
  stored_in (Signature j) word store = goes_on _ refl
  stored_in Writing word store = goes_on _ refl
  stored_in (Earlier at) word store = absurd store
  stored_in (EarlierWords at j) word store = absurd store
  stored_in (EarlierAgain at) word store = absurd store
  stored_in (Heap index) word store = goes_on _ refl
  stored_in Before word store = absurd store
  stored_in Complete word store = completes refl refl

  pub stored_at : (word : ℕ) (stage : Stage) → IsStore (action_at shape c stage) → Stored shape c stage (outcome_at shape c stage word)
  stored_at word = at_turn (λ stage. Stored shape c stage (outcome_at shape c stage word)) (λ inner. stored_in inner word)

  pub store_open : (stage : Stage) → IsStore (action_at shape c stage) → is_open stage ≡ true
  store_open = at_turn (λ stage. is_open stage ≡ true) (λ inner store. refl)

-- the caller whose commit is complete
abbrev pub completed : Shape → List ℕ → List Commit → Process → Process
completed shape opening history q =
    record {
      caller = idle shape q.caller;
      front = max q.front q.caller.stamp;
      reads = [];
      sealed = [];
      published = [];
      owned = attempts.owned_after (state_at opening history q.caller.stamp) (attempt_of q) q.owned;
    }

-- what holds of the caller that goes on, and of the one whose commit is complete, holds of the caller after a store
pub after_store : (shape : Shape) (opening : List ℕ) (history : List Commit) (q : Process) (stage : Stage) (P : Process → Type 0)
    → ((next : TurnStage) → P (record q { caller = record q.caller { stage = Turn next } })) → P (completed shape opening history q)
    → (o : Outcome) → Stored shape q.caller stage o → P (process_after opening history q stage o)
after_store shape opening history q stage P going ended o (goes_on next is) =
    subst (λ (x : Outcome). P (process_after opening history q stage x)) (sym is) (going next)
after_store shape opening history q stage P going ended o (completes last is) =
    subst (λ (x : Outcome). P (process_after opening history q stage x)) (sym is) ended

-- a store finds 0
none_found : (w : World) (a : Action) → IsStore a → found w a ≡ 0
none_found w (action.StoreTag slot tag) store = refl
none_found w (action.StoreSig slot word value) store = refl
none_found w (action.StoreHeap addr value) store = refl
none_found w action.LoadIndex store = absurd store
none_found w (action.LoadTag slot) store = absurd store
none_found w (action.LoadSig slot word) store = absurd store
none_found w (action.LoadHeap addr) store = absurd store
none_found w (action.SwapIndex from) store = absurd store
none_found w action.Idle store = absurd store

store_twice : (w : World) (who : ℕ) (q new : Process) (a : Action) → IsStore a → with_store (with_process w who q) who new a ≡ with_store w who new a
store_twice w who q new (action.StoreTag slot tag) store =
    ap (λ l. record w { tags = set w.tags slot tag; processes = l }) (set_twice w.processes who q new)
store_twice w who q new (action.StoreSig slot word value) store =
    ap (λ l. record w { sigs = set w.sigs (slot * w.shape.sig_words + word) value; processes = l }) (set_twice w.processes who q new)
store_twice w who q new (action.StoreHeap addr value) store =
    ap (λ l. record w { heap = set w.heap addr value; processes = l }) (set_twice w.processes who q new)
store_twice w who q new action.LoadIndex store = absurd store
store_twice w who q new (action.LoadTag slot) store = absurd store
store_twice w who q new (action.LoadSig slot word) store = absurd store
store_twice w who q new (action.LoadHeap addr) store = absurd store
store_twice w who q new (action.SwapIndex from) store = absurd store
store_twice w who q new action.Idle store = absurd store

-- such a world has the same history, and the callers
pub store_keeps : (P : World → Type 0) (w : World) (who : ℕ) (new : Process) (a : Action) → IsStore a
    → ((tags sigs heap : List ℕ) → P (record w { tags = tags; sigs = sigs; heap = heap; processes = set w.processes who new })) → P (with_store w who new a)
store_keeps P w who new (action.StoreTag slot tag) store holds = holds (set w.tags slot tag) w.sigs w.heap
store_keeps P w who new (action.StoreSig slot word value) store holds = holds w.tags (set w.sigs (slot * w.shape.sig_words + word) value) w.heap
store_keeps P w who new (action.StoreHeap addr value) store holds = holds w.tags w.sigs (set w.heap addr value)
store_keeps P w who new action.LoadIndex store holds = absurd store
store_keeps P w who new (action.LoadTag slot) store holds = absurd store
store_keeps P w who new (action.LoadSig slot word) store holds = absurd store
store_keeps P w who new (action.LoadHeap addr) store holds = absurd store
store_keeps P w who new (action.SwapIndex from) store holds = absurd store
store_keeps P w who new action.Idle store holds = absurd store

-- ---- the world
-- what a store leaves of a caller whose machine is this one by now
pub record StoredIn (given : Given) (w : World) (who : ℕ) (q : Process) : Type 0 where
  pub sound : Sound (with_store w who (moved_on given.shape given.opening w.history q 0) (next_action given.shape q.caller))
  pub can : CanAbsorb given.shape q.caller 0
  pub was : core.IsStamped given.shape q.caller.state q.caller.writes q.caller.start q.caller.stamp
  pub leads : Stored given.shape q.caller q.caller.stage (absorbed given.shape q.caller 0)
  -- its commit is in the history, and what it knew to be complete is before it
  pub there : slice_get w.history (q.caller.stamp - 1) ≡ Some (commit_of q)
  pub newer : front_of q < q.caller.stamp
  -- the caller after it
  pub machine : core.IsSound given.shape (moved_on given.shape given.opening w.history q 0).caller
  pub since : (moved_on given.shape given.opening w.history q 0).caller.state ≢ state.Idle
      → (moved_on given.shape given.opening w.history q 0).front ≤ (moved_on given.shape given.opening w.history q 0).caller.start
  pub follows : AttemptFollows given.opening given.regions (attempt_of (moved_on given.shape given.opening w.history q 0))
  pub publishes : (region : Region) → Contains (moved_on given.shape given.opening w.history q 0).published region
      → OwnsRegion (moved_on given.shape given.opening w.history q 0).owned region
  pub reached : front_of (moved_on given.shape given.opening w.history q 0) ≤ length w.history
  pub legal : IsLegal given.opening w.history
  pub rules : FollowsRules given.opening given.regions w.history
  pub lasts : length w.history ≤ given.shape.life

module _ (keeps : StepsKeep) (absorbs : MayAbsorb) (exists : StepExists) (w : World) (s : Sound w) (who : ℕ) (p q : Process)
    (here : get_elem? w.processes who ≡ some p) (may : MayBecome (given_by w) p q) (stores : IsStore (next_action w.shape q.caller)) where
  -- first the caller becomes what it is by now
  abbrev between : World
  between = with_process w who q

  between_sound : Sound between
  between_sound = may w who refl s here

  now_here : get_elem? between.processes who ≡ some q
  now_here = set_here w.processes who q p here

  me_now : IsProcess w.shape w.opening w.regions (board_of w between_sound.complete) q
  me_now = between_sound.each who q now_here

  asks : is_open q.caller.stage ≡ true
  asks = store_open w.shape q.caller q.caller.stage stores

  none : found w (next_action w.shape q.caller) ≡ 0
  none = none_found w (next_action w.shape q.caller) stores

  abbrev new : Process
  new = moved_on w.shape w.opening w.history q 0

  abbrev after : World
  after = with_store w who new (next_action w.shape q.caller)

  -- and then it makes its step
  steps : (kind : Kind) × (next : World) × Steps between who kind next
  steps = exists between who q now_here asks

  same : steps.2.process ≡ q
  same = some-injective steps.2.process q (sym steps.2.here ∙ now_here)

  next_is : steps.1 ≡ after
  next_is =
      store_leads between who q steps.0 steps.1 (subst (λ x. StepsTo between who x steps.0 steps.1) same steps.2.steps) stores
      ∙ store_twice w who q new (next_action w.shape q.caller) stores

  after_sound : Sound after
  after_sound = subst Sound next_is (keeps steps.0 between steps.1 who between_sound steps.2).0

  -- its stage in the turn
  is_stamped : core.IsStamped w.shape q.caller.state q.caller.writes q.caller.start q.caller.stamp
  is_stamped =
      at_turn w.shape q.caller
      (λ stage. core.IsStage w.shape q.caller stage → core.IsStamped w.shape q.caller.state q.caller.writes q.caller.start q.caller.stamp)
      (λ inner store at. at.0) q.caller.stage stores me_now.machine.stage

  own : (inner : TurnStage) × IsOwn w.shape (board_of w between_sound.complete) q inner
  own =
      at_turn w.shape q.caller
      (λ stage. IsOwnAt w.shape (board_of w between_sound.complete) q stage → (inner : TurnStage) × IsOwn w.shape (board_of w between_sound.complete) q inner)
      (λ inner store at. (inner, at)) q.caller.stage stores me_now.own

  -- the caller after the step stands beside a board with the same history
  record Stands : Type 0 where
    complete : ℕ
    counted : complete ≤ length w.history
    tags : List ℕ
    sigs : List ℕ
    me : IsProcess w.shape w.opening w.regions (record { history = w.history; tags = tags; sigs = sigs; complete = complete }) new

  stands : Stands
  stands =
      store_keeps (λ x. Sound x → Stands) w who new (next_action w.shape q.caller) stores
      (λ tags sigs heap sound. record {
        complete = sound.complete;
        counted = sound.board.counted;
        tags = tags;
        sigs = sigs;
        me = sound.each who new (set_here w.processes who new p here);
      }) after_sound

  pub stored : StoredIn (given_by w) w who q
  stored =
      record {
        sound = after_sound;
        can = subst (CanAbsorb w.shape q.caller) none (absorbs between who q between_sound now_here asks);
        was = is_stamped;
        leads = stored_at w.shape q.caller 0 q.caller.stage stores;
        there = own.1.there;
        newer = omega (arith, me_now.since.known, me_now.reader.behind, own.1.newer);
        machine = stands.me.machine;
        since = stands.me.since.since;
        follows = stands.me.lawful.follows;
        publishes = stands.me.lawful.publishes;
        reached = omega (arith, stands.me.since.known, stands.me.reader.behind, stands.counted);
        legal = s.board.legal;
        rules = s.board.rules;
        lasts = s.board.lived;
      }
