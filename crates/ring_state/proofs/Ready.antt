-- In a sound world the next step of a caller may be made.
use Rattle.std.proofs.Common.{◌≡◌, ℕ, ◌+◌, ◌*◌, ◌%◌, ◌<◌, ◌≤◌, length, map, true, sym, ◌∙◌, ap, subst, arith, get_or}
use Rattle.std.proofs.lemmas.List.{length-map}
use Rattle.std.proofs.lemmas.Nat.{mul-le}
use Rattle.tx_model.specs.Words.{no_word}
use Rattle.ring_core.specs.declared.shape.Shape.{Shape}
use Rattle.ring_core.specs.declared.caller.Caller.{Caller}
use Rattle.ring_core.specs.declared.action.Action.{Action}
use Rattle.ring_core.specs.declared.stage.Stage.{Stage}
use Rattle.ring_core.specs.declared.stage.Stage.TheVariants.{Closed, BeginIndex, BeginTag, ReadHeap, Check, StampSlot, StampSwap, Turn, Between}
use Rattle.ring_core.specs.declared.stage.Purpose.{Purpose}
use Rattle.ring_core.specs.declared.stage.CheckStage.{CheckStage}
use Rattle.ring_core.specs.declared.stage.CheckStage.TheVariants.{Index, First, Words, Second}
use Rattle.ring_core.specs.declared.stage.TurnStage.{TurnStage}
use Rattle.ring_core.specs.declared.stage.TurnStage.TheVariants.{Filling, Signature, Writing, Earlier, EarlierWords, EarlierAgain, Heap, Before, Complete}
use Rattle.ring_core.specs.Request.{is_open, next_action, action_at, check_action, turn_action}
use Rattle.ring_core.specs.Sound.{IsSound, IsStage, IsCheckStage, IsTurnStage}
use Rattle.ring_core.specs.Words.{CanAbsorb}
use Rattle.ring_worlds.specs.declared.process.Process.{Process}
use Rattle.ring_state.specs.declared.plain.Plain.{Plain}
use Rattle.ring_worlds.specs.Laws.{MayAbsorb}
use Rattle.ring_worlds.specs.Runs.{resting}
use Rattle.ring_worlds.specs.Steps.{found}
use Rattle.ring_state.specs.Plain.{MemberView, process_of, resting_member}
use Rattle.ring_state.specs.Kept.{world_of, member_at, IsKept, IsInside, IsReady}
use Rattle.ring_worlds.specs.Calls.{process_at}
use Rattle.ring_worlds.specs.Calls.{IsAsking}
use Rattle.ring_worlds.proofs.lemmas.Elements.{below_length, get_there, get_either}
use Rattle.ring_state.proofs.lemmas.Stepping.{process_here, shape_here}

below_rows : (slot ring words word : ℕ) → slot < ring → word < words → slot * words + word < ring * words
below_rows slot ring words word row stage =
    let rows : (slot + 1) * words ≤ ring * words = mul-le (slot + 1) words ring words (omega arith) (omega arith) in grind arith

module _ (d : Plain) (kept : IsKept d) where
  slots : d.shape.ring ≡ length d.tags.items
  slots = sym kept.sound.board.slots

  slot_below : (entry : ℕ) → entry % d.shape.ring < length d.tags.items
  slot_below entry = let some = kept.sound.opened.limits.some_entry in let e = slots in omega arith

  word_below : (entry word : ℕ) → word < d.shape.sig_words → entry % d.shape.ring * d.shape.sig_words + word < length d.sigs.items
  word_below entry word below =
      let some = kept.sound.opened.limits.some_entry in
      let slot : entry % d.shape.ring < d.shape.ring = omega arith in
      let words = kept.sound.board.words in
      omega (arith, below_rows (entry % d.shape.ring) d.shape.ring d.shape.sig_words word slot below)

  heap_below : (addr : ℕ) → addr < d.shape.heap → addr < length d.heap.items
  heap_below addr below = let room = kept.sound.opened.heap in omega arith

  module _ (c : Caller) (sound : IsSound d.shape c) where
    check_inside : (purpose : Purpose) (stage : CheckStage) → IsCheckStage d.shape c.start purpose stage → IsInside d (check_action d.shape stage)
    check_inside purpose Index at = tt
    check_inside purpose (First walk) at = slot_below walk.at
    check_inside purpose (Words walk word) at = word_below walk.at word at.1
    check_inside purpose (Second walk) at = slot_below walk.at

    turn_inside : (stage : TurnStage) → IsTurnStage d.shape c stage → IsInside d (turn_action d.shape c stage)
    turn_inside Filling at = slot_below c.stamp
    turn_inside (Signature word) at = word_below c.stamp word at
    turn_inside Writing at = slot_below c.stamp
    turn_inside (Earlier entry) at = slot_below entry
    turn_inside (EarlierWords entry word) at = word_below entry word at.1
    turn_inside (EarlierAgain entry) at = slot_below entry
    turn_inside (Heap index) at = heap_below _ (sound.sized.within index no_word at)
    turn_inside Before at = slot_below _
    turn_inside Complete at = slot_below c.stamp

    inside_at : (stage : Stage) → is_open stage ≡ true → IsStage d.shape c stage → IsInside d (action_at d.shape c stage)
    inside_at Closed asks at = absurd cc
    inside_at BeginIndex asks at = tt
    inside_at (BeginTag top entry) asks at = slot_below entry
    inside_at (ReadHeap addr) asks at = heap_below addr at.1
    inside_at (Check purpose stage) asks at = check_inside purpose stage at.2
    inside_at (StampSlot top) asks at = slot_below _
    inside_at (StampSwap top) asks at =
        let index = kept.sound.indexed in
        let lived = kept.sound.board.lived in
        let life = kept.sound.opened.limits.life in
        omega arith
    inside_at (Turn stage) asks at = turn_inside stage at.1
    inside_at (Between stage) asks at = absurd cc

  module _ (who : ℕ) (asking : IsAsking (world_of d) who) where
    pub at_asking : process_at (world_of d) who ≡ asking.process
    at_asking = get_there (map process_of d.members.items) who asking.process (resting d.shape) asking.here

    pub here_asking : who < length d.members.items
    here_asking = omega (arith, below_length (map process_of d.members.items) who asking.process asking.here, length-map d.members.items process_of)

    pub ready_for : MayAbsorb → (action : Action) → next_action d.shape (process_at (world_of d) who).caller ≡ action → IsReady d who action
    ready_for absorbs action is =
        let p = asking.process in
        let sound = (kept.sound.each who p asking.here).machine in
        let next : next_action d.shape p.caller ≡ action = ap (λ (q : Process). next_action d.shape q.caller) (sym at_asking) ∙ is in
        record {
          here = here_asking;
          shapes = kept.shapes;
          next = is;
          fits = subst (λ (q : Process). CanAbsorb d.shape q.caller (found (world_of d) action)) (sym at_asking)
              (subst (λ a. CanAbsorb d.shape p.caller (found (world_of d) a)) next (absorbs (world_of d) who p kept.sound asking.here asking.asks));
          inside = subst (IsInside d) next (inside_at p.caller sound p.caller.stage asking.asks sound.stage);
        }

module _ (d : Plain) (kept : IsKept d) (who : ℕ) (asking : IsAsking (world_of d) who) (old : MemberView) (there : old ≡ get_or d.members.items who old) where
  next_there : (action : Action) → action ≡ next_action old.machine.shape old.machine.caller → next_action d.shape (process_at (world_of d) who).caller ≡ action
  next_there action is =
      let here = here_asking d kept who asking in
      let same : old ≡ member_at d who = there ∙ get_either d.members.items who old (resting_member d.shape) here in
      sym (is ∙ ap (λ (m : MemberView). next_action m.machine.shape m.machine.caller) same
      ∙ ap (λ (shape : Shape). next_action shape (member_at d who).machine.caller) (shape_here d who kept.shapes here)
      ∙ ap (λ (p : Process). next_action d.shape p.caller) (sym (process_here d who)))

  pub ready_there : MayAbsorb → (action : Action) → action ≡ next_action old.machine.shape old.machine.caller → IsReady d who action
  ready_there absorbs action is = ready_for d kept who asking absorbs action (next_there action is)
