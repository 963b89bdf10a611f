-- Steps that change no word: loads, and an exchange that finds another index.
use Rattle.std.proofs.Common.{◌≡◌, ◌≢◌, ℕ, ◌+◌, ◌-◌, ◌*◌, ◌%◌, ◌<◌, ◌≤◌, true, List, [], length, set, Contains, refl, sym, ◌∙◌, ap, subst, arith, inl, inr, mod-lt}
use mathlib.Core.Option.{some}
use lib.ListN.{get_elem?}
use Rattle.std.proofs.lemmas.Bool.{cases_lt}
use Rattle.std.proofs.lemmas.List.{append-nil, length-set}
use Rattle.std.proofs.lemmas.Option.{slice_get_within}
use Rattle.tx_model.specs.declared.history.Commit.{Commit}
use Rattle.tx_model.specs.declared.view.Owned.{Owned}
use Rattle.tx_model.specs.declared.pass.PassState.TheVariants as state
use Rattle.tx_model.specs.Words.{addresses}
use Rattle.ring_sig.specs.Signature.{IsSignatureOf}
use Rattle.ring_sig.specs.Laws.{SignaturesMeet}
use Rattle.ring_core.specs.declared.shape.Shape.{Shape}
use Rattle.ring_core.specs.declared.action.Action.{Action}
use Rattle.ring_core.specs.declared.action.Action.TheVariants as action
use Rattle.ring_core.specs.declared.stage.Stage.{Stage}
use Rattle.ring_core.specs.declared.stage.Stage.TheVariants.{Closed, BeginIndex, BeginTag, ReadHeap, Check, StampSlot, StampSwap, Turn, Between}
use Rattle.ring_core.specs.declared.stage.TurnStage.{TurnStage}
use Rattle.ring_core.specs.declared.stage.TurnStage.TheVariants.{Filling, Signature, Writing, Earlier, EarlierWords, EarlierAgain, Heap, Before, Complete}
use Rattle.ring_core.specs.Sound as core
use Rattle.ring_core.specs.declared.action.Progress.{Progress}
use Rattle.ring_core.specs.declared.action.Progress.TheVariants as answer
use Rattle.ring_core.specs.Laws.{StepKeeps}
use Rattle.ring_core.specs.Request.{is_open, action_at, next_action}
use Rattle.ring_core.specs.Words.{CanAbsorb}
use Rattle.ring_core.specs.declared.stage.Purpose.{Purpose}
use Rattle.ring_core.specs.declared.stage.Purpose.TheVariants.{Read, Stamp}
use Rattle.ring_core.specs.declared.stage.Walk.{Walk}
use Rattle.ring_core.specs.Outcomes.{Outcome, checked, outcome_at}
use Rattle.ring_worlds.specs.declared.process.Process.{Process}
use Rattle.ring_worlds.specs.World.{World, Board, tag_of, moved_at, moved_on, front_after, owned_after, process_after}
use Rattle.ring_worlds.specs.Board.{IsLater}
use Rattle.ring_worlds.specs.Reader.{Knows, IsSince}
use Rattle.ring_worlds.specs.Answers.{Keeps}
use Rattle.ring_worlds.specs.Own.{IsOwn, IsOwnAt}
use Rattle.ring_worlds.specs.Memory.{IsMemory, Told}
use Rattle.ring_worlds.specs.Sound.{Sound, IsProcess}
use Rattle.ring_worlds.specs.Steps.{found_in, found, seen}
use Rattle.ring_worlds.proofs.lemmas.Outcomes as outcomes
use Rattle.ring_worlds.proofs.board.Owns.{IsAtHeap, turn_owns}
use Rattle.ring_worlds.proofs.reads.Compare.{slot_loaded, word_loaded}
use Rattle.ring_worlds.proofs.reads.Stages.{is_complete, wide}
use Rattle.ring_worlds.proofs.reads.Steps.{Does, does}
use Rattle.ring_worlds.proofs.memory.Needs.{Stores}
use Rattle.ring_worlds.proofs.memory.Moves.{kept, not_writing}
use Rattle.ring_worlds.proofs.memory.Turns.{turn_kept}
use Rattle.ring_worlds.proofs.worlds.Needs.{b, commit_here, needs}
use Rattle.ring_worlds.proofs.worlds.Loaded.{comes}
use Rattle.ring_worlds.proofs.worlds.Lawful.{lawful_at}
use Rattle.ring_worlds.proofs.worlds.Since.{since_at}
use Rattle.ring_worlds.proofs.worlds.Changed.{each_after, apart_after, belongs_after, own_apart_after, owner_later}

-- the next step loads a word, or is an exchange that finds another index
abbrev pub IsLoad : ℕ → Stage → Type 0
IsLoad index Closed = ⊥
IsLoad index (Between stage) = ⊥
IsLoad index (StampSwap top) = index ≢ top
IsLoad index (Turn Filling) = ⊥
IsLoad index (Turn (Signature j)) = ⊥
IsLoad index (Turn Writing) = ⊥
IsLoad index (Turn (Heap k)) = ⊥
IsLoad index (Turn Complete) = ⊥
IsLoad index _ = Unit {0}

-- ---- what a step of an open request finds and answers
module _ (keeps : StepKeeps) (w : World) (s : Sound w) (who : ℕ) (p : Process) (here : get_elem? w.processes who ≡ some p)
    (opened : is_open p.caller.stage ≡ true) where
  pub me : IsProcess w.shape w.opening w.regions (b w s) p
  me = s.each who p here

  pub stamp_within : p.caller.state ≡ state.Stamped → p.caller.stamp ≤ length w.history
  stamp_within stamped = let c = commit_here w s who p here stamped in let at = slice_get_within w.history (p.caller.stamp - 1) _ c.there in
      omega (arith, at, c.later)

  abbrev pub word : ℕ
  word = found w (next_action w.shape p.caller)

  done : Does w.shape s.opened.limits w.opening w.regions (b w s) s.board w.heap p me.machine.sized
      (λ addr inside free agree. comes w s p.reads p.caller.start me.reader.behind addr inside free agree) stamp_within p.caller.stage
  done =
      does w.shape s.opened.limits w.opening w.regions (b w s) s.board w.heap p me.machine.sized
      (λ addr inside free agree. comes w s p.reads p.caller.start me.reader.behind addr inside free agree) stamp_within p.caller.stage me.since.known opened
      me.machine.stage me.reader

  same_word : (a : Action) → found_in w.shape (length w.history) (b w s) w.heap a ≡ found w a
  same_word action.LoadIndex = sym s.indexed
  same_word (action.LoadTag slot) = refl
  same_word (action.LoadSig slot j) = refl
  same_word (action.LoadHeap addr) = refl
  same_word (action.SwapIndex from) = sym s.indexed
  same_word (action.StoreTag slot tag) = refl
  same_word (action.StoreSig slot j value) = refl
  same_word (action.StoreHeap addr value) = refl
  same_word action.Idle = refl

  pub can : CanAbsorb w.shape p.caller word
  can = subst (λ n. CanAbsorb w.shape p.caller n) (same_word (next_action w.shape p.caller)) done.can

  pub told : Keeps w.shape w.opening w.regions (b w s) p p.caller.stage (outcome_at w.shape p.caller p.caller.stage word)
  told = subst (λ n. Keeps w.shape w.opening w.regions (b w s) p p.caller.stage (outcome_at w.shape p.caller p.caller.stage n))
      (same_word (next_action w.shape p.caller)) done.keeps

  pub machine : core.IsSound w.shape (outcome_at w.shape p.caller p.caller.stage word).caller
  machine = (keeps w.shape s.opened.limits p.caller me.machine word can).0

-- no answer lowers the front
pub front_up : (p : Process) (progress : Progress) → p.front ≤ front_after p progress
front_up p (answer.Stopped stop) = omega arith
front_up p (answer.Worn index) = omega arith
front_up p (answer.Completed stamp) = omega arith
front_up p answer.Going = omega arith
front_up p (answer.Started start) = omega arith
front_up p (answer.Value value) = omega arith
front_up p (answer.Stamped stamp) = omega arith
front_up p (answer.Later later) = omega arith

-- ---- what a load leaves of its caller
module _ (shape : Shape) (opening : List ℕ) (history : List Commit) (p : Process) where
  -- only the last store of a turn changes what it owns
  pub same_owned : (stage : Stage) (found : ℕ) → stage ≢ Turn Complete → (moved_at shape opening history p stage found).owned ≡ p.owned
  same_owned Closed found not = refl
  same_owned (Between at) found not = refl
  same_owned BeginIndex index not = outcomes.begins_from shape p.caller (λ o. owned_after opening history p o.progress ≡ p.owned) (λ top at. refl)
      (λ start. refl) index index
  same_owned (BeginTag top at) tag not = outcomes.begins_at shape p.caller (λ o. owned_after opening history p o.progress ≡ p.owned) (λ t a. refl)
      (λ start. refl) top at tag
  same_owned (ReadHeap addr) value not = refl
  same_owned (Check why at) found not = outcomes.checks shape p.caller (λ o. owned_after opening history p o.progress ≡ p.owned) why (λ loaded next. refl)
      (ended why) (λ stop. refl) (λ index. refl) (λ is entry tag. refl) at found
    where
      ended : (purpose : Purpose) (walk : Walk) → owned_after opening history p (checked p.caller purpose walk).progress ≡ p.owned
      ended (Read addr value) walk = refl
      ended Stamp walk = refl
  same_owned (StampSlot top) tag not = outcomes.slots shape p.caller (λ o. owned_after opening history p o.progress ≡ p.owned) top tag (λ entry. refl) refl
  same_owned (StampSwap top) found not = outcomes.swaps shape p.caller (λ o. owned_after opening history p o.progress ≡ p.owned) top found (λ won. refl)
      (λ lost. refl)
  same_owned (Turn stage) found not =
      outcomes.turns shape p.caller (λ o. owned_after opening history p o.progress ≡ p.owned) (λ loaded next. refl) (λ next entry tag. refl) stage found
      (λ last. absurd (not (ap Turn last)))

-- ---- outside of a turn no caller is stamped after its step
module _ (shape : Shape) (opening : List ℕ) (history : List Commit) (p : Process) (board : Board) where
  abbrev pub Leaves : Stage → Outcome → Type 0
  Leaves stage o = (o.caller.state ≢ state.Stamped) × IsOwnAt shape board (process_after opening history p stage o) o.caller.stage

  abbrev pub IsOutside : ℕ → Stage → Type 0
  IsOutside found Closed = ⊥
  IsOutside found (Between stage) = ⊥
  IsOutside found (StampSwap top) = found ≢ top
  IsOutside found (Turn stage) = ⊥
  IsOutside found _ = Unit {0}

  idle_not : state.Idle ≢ state.Stamped
  idle_not e = cc

  active_not : state.Active ≢ state.Stamped
  active_not e = cc

  pub outside : (stage : Stage) (found : ℕ) → IsOutside found stage → core.IsStage shape p.caller stage → Leaves stage (outcome_at shape p.caller stage found)
  outside Closed found out staged = absurd out
  outside (Between at) found out staged = absurd out
  outside (Turn at) found out staged = absurd out
  outside BeginIndex index out staged =
      outcomes.begins_from shape p.caller (Leaves BeginIndex) (λ top at. (λ e. idle_not (sym staged ∙ e), tt)) (λ start. (λ e. active_not e, tt)) index index
  outside (BeginTag top at) tag out staged =
      outcomes.begins_at shape p.caller (Leaves (BeginTag top at)) (λ t a. (λ e. idle_not (sym staged.0 ∙ e), tt)) (λ start. (λ e. active_not e, tt)) top at tag
  outside (ReadHeap addr) value out staged = (λ e. active_not (sym staged.0 ∙ e), tt)
  outside (Check why at) found out staged =
      outcomes.checks shape p.caller (Leaves (Check why at)) why (λ loaded next. (not, tt)) (ended why) (λ stop. (λ e. idle_not e, tt))
      (λ index. (λ e. idle_not e, tt)) (λ is entry tag. (not, tt)) at found
    where
      not : p.caller.state ≢ state.Stamped
      not e = active_not (sym staged.0 ∙ e)

      ended : (purpose : Purpose) (walk : Walk) → Leaves (Check why at) (checked p.caller purpose walk)
      ended (Read addr value) walk = (not, tt)
      ended Stamp walk = (not, tt)
  outside (StampSlot top) tag out staged =
      outcomes.slots shape p.caller (Leaves (StampSlot top)) top tag (λ entry. (λ e. active_not (sym staged.active ∙ e), tt))
      (λ e. active_not (sym staged.active ∙ e), tt)
  outside (StampSwap top) found out staged =
      outcomes.swaps shape p.caller (Leaves (StampSwap top)) top found (λ won. absurd (out won)) (λ lost. (λ e. active_not (sym staged.active ∙ e), tt))

  -- in a turn, but for its last store, it stays so
  pub stays_stamped : (stage : TurnStage) (found : ℕ) → stage ≢ Complete
      → ((moved_at shape opening history p (Turn stage) found).caller.state ≡ p.caller.state)
      × ((moved_at shape opening history p (Turn stage) found).caller.stamp ≡ p.caller.stamp)
  stays_stamped stage found not =
      outcomes.turns shape p.caller (λ o. (o.caller.state ≡ p.caller.state) × (o.caller.stamp ≡ p.caller.stamp)) (λ loaded next. (refl, refl))
      (λ next entry tag. (refl, refl)) stage found (λ last. absurd (not last))

-- ---- the world after a load
module _ (keeps : StepKeeps) (law : SignaturesMeet) (w : World) (s : Sound w) (who : ℕ) (p : Process) (here : get_elem? w.processes who ≡ some p)
    (opened : is_open p.caller.stage ≡ true) (loads : IsLoad w.index p.caller.stage) where
  abbrev board : Board
  board = b w s

  abbrev at : ℕ
  at = word keeps w s who p here opened

  abbrev q : Process
  q = moved_on w.shape w.opening w.history p at

  mine : IsProcess w.shape w.opening w.regions board p
  mine = me keeps w s who p here opened

  not_last : (stage : Stage) → IsLoad w.index stage → stage ≢ Turn Complete
  not_last stage l e = subst (IsLoad w.index) e l

  same_board : IsLater w.shape board board
  same_board = record {
    history = ([], sym (append-nil w.history));
    complete = omega arith;
    tags = λ slot inside. omega arith;
    words = λ slot j inside below. inl refl;
  }

  owned_same : q.owned ≡ p.owned
  owned_same = same_owned w.shape w.opening w.history p p.caller.stage at (not_last p.caller.stage loads)

  since : IsSince board q
  since = since_at w.shape w.opening w.regions board p mine.since mine.reader.behind p.caller.stage at opened (not_last p.caller.stage loads)
      mine.machine.stage (told keeps w s who p here opened)

  -- ---- by the stage
  abbrev found_at : Stage → ℕ
  found_at stage = found w (action_at w.shape p.caller stage)

  abbrev next : Stage → Process
  next stage = moved_at w.shape w.opening w.history p stage (found_at stage)

  record Goes (stage : Stage) : Type 0 where
    own : IsOwnAt w.shape board (next stage) (next stage).caller.stage
    was : (next stage).caller.state ≡ state.Stamped → (p.caller.state ≡ state.Stamped) × ((next stage).caller.stamp ≡ p.caller.stamp)
    still : p.caller.state ≡ state.Stamped → ((next stage).caller.state ≡ state.Stamped) × ((next stage).caller.stamp ≡ p.caller.stamp)
    memory : p.caller.stage ≡ stage → IsMemory w.shape s.complete (record w { processes = set w.processes who q })

  out : (stage : Stage) → IsOutside w.shape w.opening w.history p board (found_at stage) stage → core.IsStage w.shape p.caller stage
      → p.caller.state ≢ state.Stamped → Goes stage
  out stage is_out staged not =
      let leaves = outside w.shape w.opening w.history p board stage (found_at stage) is_out staged in
      record {
        own = leaves.1;
        was = λ e. absurd (leaves.0 e);
        still = λ e. absurd (not e);
        memory = λ is.
            let free : q.caller.state ≢ state.Stamped = λ e. leaves.0 (subst (λ (x : Stage). (next x).caller.state ≡ state.Stamped) is e) in
            kept w.shape s.complete w s.memory who p q here owned_same (λ j stamped. absurd (free stamped))
            (not_writing w.shape s.complete w.history s.memory.counts q.caller (machine keeps w s who p here opened) free) w.index w.tags w.sigs;
      }

  turn : (stage : TurnStage) → IsAtHeap w.shape s.opened.limits w.opening w.regions board s.board p stage → Stores stage
      → core.IsStage w.shape p.caller (Turn stage) → IsOwn w.shape board p stage → stage ≢ Complete
      → ((entry : ℕ) → stage ≡ Before → found_at (Turn stage) ≡ tag_of w.shape board (p.caller.stamp - 1))
      → Told w.shape s.complete w.history p.caller stage (found_at (Turn stage)) → Goes (Turn stage)
  turn stage heap stores fits own not_complete before tells =
      let stamped = fits.0.stamped in
      let stays = stays_stamped w.shape w.opening w.history p board stage (found_at (Turn stage)) not_complete in
      record {
        own = (turn_owns w.shape s.opened.limits w.opening w.regions board s.board p stage (found_at (Turn stage)) heap own (omega (arith, fits.0.wrote))
            before (stamp_within keeps w s who p here opened stamped)).0;
        was = λ e. (stamped, stays.1);
        still = λ e. (stays.0 ∙ stamped, stays.1);
        memory = λ is.
            subst (λ found. IsMemory w.shape s.complete (record w { processes = set w.processes who (moved_on w.shape w.opening w.history p found) }))
            (ap found_at (sym is))
            (turn_kept law w.shape w s.complete (needs w s) s.memory who p stage (found_at (Turn stage)) w.tags w.sigs here is stores tells);
      }

  complete_if : (entry : ℕ) → entry ≤ length w.history → 4 * entry + 3 ≤ tag_of w.shape board entry → entry ≤ s.complete
  complete_if entry within tag = is_complete w.shape s.opened.limits w.opening w.regions board s.board entry within tag

  -- the last word of a signature makes it whole
  signature : (entry j : ℕ) → core.IsStage w.shape p.caller (Turn (EarlierWords entry j))
      → Knows w.shape w.opening w.regions board p (Turn (EarlierWords entry j))
      → Told w.shape s.complete w.history p.caller (EarlierWords entry j) (found_at (Turn (EarlierWords entry j)))
  signature entry j fits known last =
      elim (cases_lt (4 * entry + 3) (tag_of w.shape board entry)) [
        | inl refilled ↦ inl (complete_if entry (omega (arith, known.0)) (omega (arith, refilled)))
        | inr current ↦ inr (λ commit there.
            let first : 1 ≤ entry = let f = fits.1.0.0 in omega (arith, f) in
            let long = wide w.shape s.opened.limits w.opening w.regions board s.board p p.caller.stage mine.machine.sized mine.reader in
            let value : ℕ = found_at (Turn (EarlierWords entry j)) in
            let words = word_loaded w.shape w.opening w.regions board s.board p.caller.loaded entry j fits.1.1 long known.1 in
            let slot : entry % w.shape.ring < w.shape.ring = mod-lt entry (let e = s.opened.limits.some_entry in omega (arith, e)) in
            subst (λ sig. IsSignatureOf (addresses commit.writes) sig)
            (sym (slot_loaded w.shape w.opening w.regions board s.board (set p.caller.loaded j value) (entry % w.shape.ring) slot
            (omega (arith, length-set p.caller.loaded j value, long)) (λ k below. words (omega (arith, current)) k (omega (arith, below, last)))))
            (s.board.signed entry commit first there (s.board.published entry first known.0) (omega (arith, current))))
      ]

  by_stage : (stage : Stage) → IsLoad w.index stage → core.IsStage w.shape p.caller stage → IsOwnAt w.shape board p stage
      → Knows w.shape w.opening w.regions board p stage → Goes stage
  by_stage Closed l staged own known = absurd l
  by_stage (Between at) l staged own known = absurd l
  by_stage BeginIndex l staged own known = out BeginIndex tt staged (λ e. idle_not w.shape w.opening w.history p board (sym staged ∙ e))
  by_stage (BeginTag top entry) l staged own known = out (BeginTag top entry) tt staged (λ e. idle_not w.shape w.opening w.history p board (sym staged.0 ∙ e))
  by_stage (ReadHeap addr) l staged own known = out (ReadHeap addr) tt staged (λ e. active_not w.shape w.opening w.history p board (sym staged.0 ∙ e))
  by_stage (Check why where_) l staged own known = out (Check why where_) tt staged (λ e. active_not w.shape w.opening w.history p board (sym staged.0 ∙ e))
  by_stage (StampSlot top) l staged own known = out (StampSlot top) tt staged (λ e. active_not w.shape w.opening w.history p board (sym staged.active ∙ e))
  by_stage (StampSwap top) l staged own known = out (StampSwap top) l staged (λ e. active_not w.shape w.opening w.history p board (sym staged.active ∙ e))
  by_stage (Turn Filling) l staged own known = absurd l
  by_stage (Turn (Signature j)) l staged own known = absurd l
  by_stage (Turn Writing) l staged own known = absurd l
  by_stage (Turn (Heap k)) l staged own known = absurd l
  by_stage (Turn Complete) l staged own known = absurd l
  by_stage (Turn (Earlier entry)) l staged own known =
      turn (Earlier entry) tt tt staged own (λ e. cc) (λ e is. absurd cc)
      (λ tag. complete_if entry (let at' = staged.1.1 in let wi = stamp_within keeps w s who p here opened staged.0.stamped in omega (arith, at', wi)) tag)
  by_stage (Turn (EarlierWords entry j)) l staged own known =
      turn (EarlierWords entry j) tt tt staged own (λ e. cc) (λ e is. absurd cc) (signature entry j staged known)
  by_stage (Turn (EarlierAgain entry)) l staged own known =
      turn (EarlierAgain entry) tt tt staged own (λ e. cc) (λ e is. absurd cc)
      (λ tag. complete_if entry (let at' = staged.1.1 in let wi = stamp_within keeps w s who p here opened staged.0.stamped in omega (arith, at', wi)) tag)
  by_stage (Turn Before) l staged own known = turn Before tt tt staged own (λ e. cc) (λ e is. refl) tt

  goes : Goes p.caller.stage
  goes = by_stage p.caller.stage loads mine.machine.stage mine.own mine.reader.knows

  pub now : IsProcess w.shape w.opening w.regions board q
  now =
      record {
        machine = machine keeps w s who p here opened;
        since = since;
        reader = (told keeps w s who p here opened).reader;
        own = goes.own;
        lawful = lawful_at w.shape w.opening w.regions w.history p mine.lawful mine.machine p.caller.stage at opened mine.machine.stage mine.lawful.asks;
        owns = λ o among. owner_later w.shape w.opening w.regions s.opened.limits.some_entry board board s.board same_board refl p q front_rises o
            (mine.owns o (subst (λ (l : List Owned). Contains l o) owned_same among));
      }
    where
      front_rises : p.front ≤ q.front
      front_rises = front_up p (outcome_at w.shape p.caller p.caller.stage at).progress

  pub seen_sound : Sound (seen w who p at)
  seen_sound =
      record {
        complete = s.complete;
        opened = record { limits = s.opened.limits; regions = s.opened.regions; room = s.opened.room; heap = s.opened.heap };
        indexed = s.indexed;
        board = s.board;
        each = each_after w.processes who p q here now (λ i o away there. s.each i o there);
        apart = apart_after w.processes who p q here s.apart (λ e. inl (goes.was e));
        belongs = λ k above below. belongs_after w.processes who p q here k (λ stamped is. let g = goes.still stamped in (g.0, g.1 ∙ is))
            (s.belongs k above below);
        own_apart = own_apart_after w.processes who p q here owned_same s.own_apart;
        memory = goes.memory refl;
      }
