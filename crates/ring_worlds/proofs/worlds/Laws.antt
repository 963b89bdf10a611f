-- The laws of the ten kinds of step.
use Rattle.std.proofs.Common.{◌≡◌, ℕ, ◌+◌, ◌*◌, ◌%◌, ◌≤◌, true, [], ◌∷◌, cond, slice_index, refl, sym, ◌∙◌, ap, subst, arith, inl, inr, eq-eqb}
use mathlib.Core.Option.{some}
use lib.ListN.{get_elem?}
use Rattle.std.proofs.lemmas.List.{length-append}
use Rattle.std.proofs.lemmas.Option.{slice_get_within}
use Rattle.tx_model.specs.declared.pass.PassState.TheVariants as state
use Rattle.tx_model.specs.Words.{word_at}
use Rattle.ring_sig.specs.Laws.{SignaturesMeet}
use Rattle.ring_core.specs.declared.action.Action.{Action}
use Rattle.ring_core.specs.declared.action.Action.TheVariants as action
use Rattle.ring_core.specs.declared.action.Progress.TheVariants as answer
use Rattle.ring_core.specs.declared.action.Later.TheVariants.{Lost}
use Rattle.ring_core.specs.declared.kind.Kind.TheVariants as kind
use Rattle.ring_core.specs.declared.stage.Stage.{Stage}
use Rattle.ring_core.specs.declared.stage.Stage.TheVariants as stages
use Rattle.ring_core.specs.declared.stage.TurnStage.TheVariants.{Filling, Signature, Writing, Heap, Complete}
use Rattle.ring_core.specs.Sound as core
use Rattle.ring_core.specs.Laws.{StepKeeps}
use Rattle.ring_core.specs.Request.{is_open, action_at, next_action}
use Rattle.ring_core.specs.Outcomes.{made, ends, outcome_at}
use Rattle.ring_worlds.specs.declared.process.Process.{Process}
use Rattle.ring_worlds.specs.World.{World, commit_of}
use Rattle.ring_worlds.specs.Sound.{Sound}
use Rattle.ring_worlds.specs.Steps.{found, seen, with_tag, with_sig, with_heap, with_commit, Loads, StoresTag, answer_of}
use Rattle.ring_worlds.specs.Learns.{JoinsHistory, IsWrittenBack, LearnsBy, Learns}
use Rattle.ring_worlds.specs.Laws.{StepsKeep, KindKeeps, MayAbsorb}
use Rattle.ring_worlds.proofs.memory.Loads.{word_is_from}
use Rattle.ring_worlds.proofs.worlds.Needs.{as_many, needs}
use Rattle.ring_worlds.proofs.worlds.Seen.{IsLoad, can, word, seen_sound}
use Rattle.ring_worlds.proofs.worlds.Answers.{plain_answer, learns}
use Rattle.ring_worlds.proofs.worlds.Kinds.{stage_of, opened_of}
use Rattle.ring_worlds.proofs.worlds.Swap.{board_now, commit_sound}
use Rattle.ring_worlds.proofs.worlds.Stores.{fills_sound, signature_sound, writes_sound, heap_sound}
use Rattle.ring_worlds.proofs.worlds.Complete.{complete_sound, complete_is}

module _ (keeps : StepKeeps) (law : SignaturesMeet) where
  -- ---- loads, and an exchange that finds another index
  module _ (w : World) (s : Sound w) (who : ℕ) (p : Process) (here : get_elem? w.processes who ≡ some p) (opened : is_open p.caller.stage ≡ true)
      (loads : IsLoad w.index p.caller.stage) where
    swap_finds : (top : ℕ) → p.caller.stage ≡ stages.StampSwap top → found w (next_action w.shape p.caller) ≡ w.index
    swap_finds top is = ap (λ (stage : Stage). found w (action_at w.shape p.caller stage)) is

    load_keeps : (next : World) → next ≡ seen w who p (found w (next_action w.shape p.caller)) → Sound next × Learns w next p
    load_keeps next is = (
      subst Sound (sym is) (seen_sound keeps law w s who p here opened loads),
      learns keeps w s who p here opened next (plain_answer w.shape p.caller w.index p.caller.stage (word keeps w s who p here opened) loads swap_finds),
    )

  -- the word that an action finds, as the next one of the caller
  loaded : (w next : World) (who : ℕ) (p : Process) (a : Action) → Loads w who p a next → next ≡ seen w who p (found w (next_action w.shape p.caller))
  loaded w next who p a (is, now) = now ∙ ap (λ (x : Action). seen w who p (found w x)) (sym is)

  load_index : KindKeeps kind.LoadIndex
  load_index w next who s step =
      let p : Process = step.process in
      load_keeps w s who p step.here (opened_of w.index p.caller.stage kind.LoadIndex step.is_kind)
      (stage_of w.index p.caller.stage kind.LoadIndex step.is_kind) next (loaded w next who p action.LoadIndex step.steps)

  load_tag : KindKeeps kind.LoadTag
  load_tag w next who s step =
      let p : Process = step.process in
      load_keeps w s who p step.here (opened_of w.index p.caller.stage kind.LoadTag step.is_kind) (stage_of w.index p.caller.stage kind.LoadTag step.is_kind)
      next (loaded w next who p (action.LoadTag step.steps.0) step.steps.1)

  load_sig : KindKeeps kind.LoadSig
  load_sig w next who s step =
      let p : Process = step.process in
      let (slot, j, now) = step.steps in
      load_keeps w s who p step.here (opened_of w.index p.caller.stage kind.LoadSig step.is_kind) (stage_of w.index p.caller.stage kind.LoadSig step.is_kind)
      next (loaded w next who p (action.LoadSig slot j) now)

  load_heap : KindKeeps kind.LoadHeap
  load_heap w next who s step =
      let p : Process = step.process in
      load_keeps w s who p step.here (opened_of w.index p.caller.stage kind.LoadHeap step.is_kind)
      (stage_of w.index p.caller.stage kind.LoadHeap step.is_kind) next (loaded w next who p (action.LoadHeap step.steps.0) step.steps.1)

  -- ---- the exchange
  module _ (w : World) (s : Sound w) (who : ℕ) (p : Process) (here : get_elem? w.processes who ≡ some p) (top : ℕ)
      (is : p.caller.stage ≡ stages.StampSwap top) where
    from_here : (from : ℕ) → next_action w.shape p.caller ≡ action.SwapIndex from → top ≡ from
    from_here from e = let same : action.SwapIndex top ≡ action.SwapIndex from = sym (ap (action_at w.shape p.caller) is) ∙ e in cc

    won : (next : World) → w.index ≡ top → next ≡ with_commit w who p → Sound next × Learns w next p
    won next same now = (
      subst Sound (sym now) (commit_sound keeps w s who p here top is same),
      subst (LearnsBy w next p) (sym answered) joins,
    )
      where
        answered : answer_of w p ≡ answer.Stamped (top + 1)
        answered =
            ap (λ (stage : Stage). (outcome_at w.shape p.caller stage (found w (action_at w.shape p.caller stage))).progress) is
            ∙ ap (λ test. (cond test (made (record p.caller { state = state.Stamped; stamp = top + 1; stage = stages.Between Filling })
            (answer.Stamped (top + 1))) (ends p.caller (answer.Later (Lost w.index)))).progress) (eq-eqb w.index top same)

        joins : JoinsHistory w next p (top + 1)
        joins =
            let mine = s.each who p here in
            let stamping = subst (core.IsStage w.shape p.caller) is mine.machine.stage in
            subst (λ (x : World). JoinsHistory w x p (top + 1)) (sym now)
            (record {
              history = refl;
              last = let long = length-append w.history (commit_of p ∷ []) in omega (arith, long, same, s.indexed);
              legal = (board_now keeps w s who p here top is same).legal;
              after_front = omega (arith, mine.since.known, s.board.counted, same, s.indexed);
              after_start = omega (arith, stamping.after);
            })

  swap_index : KindKeeps kind.SwapIndex
  swap_index w next who s step =
      let p : Process = step.process in
      let (top, is) = stage_of w.index p.caller.stage kind.SwapIndex step.is_kind in
      let (from, acts, now) = step.steps in
      let same = from_here w s who p step.here top is from acts in
      elim now [
        | inl (found_it, after) ↦ won w s who p step.here top is next (found_it ∙ sym same) after
        | inr (other, after) ↦
            let word_is : found w (next_action w.shape p.caller) ≡ w.index = ap (found w) acts in
            load_keeps w s who p step.here (ap is_open is) (subst (IsLoad w.index) (sym is) (λ e. other (e ∙ same))) next
            (after ∙ ap (seen w who p) (sym word_is))
      ]

  -- ---- stores
  module _ (w : World) (s : Sound w) (who : ℕ) (p : Process) (here : get_elem? w.processes who ≡ some p) where
    -- a store that isn't the last one tells nothing
    silent : (next : World) (stage : Stage) → p.caller.stage ≡ stage
        → (outcome_at w.shape p.caller stage (found w (action_at w.shape p.caller stage))).progress ≡ answer.Going → Learns w next p
    silent next stage is going =
        subst (LearnsBy w next p) (sym (ap (λ (x : Stage). (outcome_at w.shape p.caller x (found w (action_at w.shape p.caller x))).progress) is ∙ going)) tt

    acts_at : (stage : Stage) (a : Action) → p.caller.stage ≡ stage → next_action w.shape p.caller ≡ a → action_at w.shape p.caller stage ≡ a
    acts_at stage a is e = sym (ap (action_at w.shape p.caller) is) ∙ e

    tag_is : (next : World) (slot tag : ℕ) → StoresTag w who p next
        → ((s' t' : ℕ) → next_action w.shape p.caller ≡ action.StoreTag s' t' → (slot ≡ s') × (tag ≡ t')) → next ≡ with_tag w who p slot tag
    tag_is next slot tag (s', t', acts, now) same = let e = same s' t' acts in now ∙ ap (λ n. with_tag w who p n t') (sym e.0)
        ∙ ap (with_tag w who p slot) (sym e.1)

    tags_same : (stage : Stage) (slot tag : ℕ) → p.caller.stage ≡ stage → action_at w.shape p.caller stage ≡ action.StoreTag slot tag
        → (s' t' : ℕ) → next_action w.shape p.caller ≡ action.StoreTag s' t' → (slot ≡ s') × (tag ≡ t')
    tags_same stage slot tag is at s' t' e = let same : action.StoreTag slot tag ≡ action.StoreTag s' t' = sym at
        ∙ acts_at stage (action.StoreTag s' t') is e in (cc, cc)

  store_tag_filling : KindKeeps kind.StoreTagFilling
  store_tag_filling w next who s step =
      let p : Process = step.process in
      let is = stage_of w.index p.caller.stage kind.StoreTagFilling step.is_kind in
      let now = tag_is w s who p step.here next _ _ step.steps (tags_same w s who p step.here (stages.Turn Filling) _ _ is refl) in
      (subst Sound (sym now) (fills_sound keeps law w s who p step.here is), silent w s who p step.here next (stages.Turn Filling) is refl)

  store_tag_writing : KindKeeps kind.StoreTagWriting
  store_tag_writing w next who s step =
      let p : Process = step.process in
      let is = stage_of w.index p.caller.stage kind.StoreTagWriting step.is_kind in
      let now = tag_is w s who p step.here next _ _ step.steps (tags_same w s who p step.here (stages.Turn Writing) _ _ is refl) in
      (subst Sound (sym now) (writes_sound keeps law w s who p step.here is), silent w s who p step.here next (stages.Turn Writing) is refl)

  store_sig : KindKeeps kind.StoreSig
  store_sig w next who s step =
      let p : Process = step.process in
      let (j, is) = stage_of w.index p.caller.stage kind.StoreSig step.is_kind in
      let (slot, at, value, acts, now) = step.steps in
      let same : action.StoreSig (p.caller.stamp % w.shape.ring) j (slice_index p.caller.write_sig j) ≡ action.StoreSig slot at value =
      acts_at w s who p step.here (stages.Turn (Signature j)) _ is acts in
      let slots : p.caller.stamp % w.shape.ring ≡ slot = cc in
      let places : j ≡ at = cc in
      let values : slice_index p.caller.write_sig j ≡ value = cc in
      let here_now : next ≡ with_sig w who p (p.caller.stamp % w.shape.ring) j (slice_index p.caller.write_sig j) =
      now ∙ ap (λ n. with_sig w who p n at value) (sym slots) ∙ ap (λ n. with_sig w who p (p.caller.stamp % w.shape.ring) n value) (sym places)
      ∙ ap (with_sig w who p (p.caller.stamp % w.shape.ring) j) (sym values) in
      (subst Sound (sym here_now) (signature_sound keeps law w s who p step.here j is), silent w s who p step.here next (stages.Turn (Signature j)) is refl)

  store_heap : KindKeeps kind.StoreHeap
  store_heap w next who s step =
      let p : Process = step.process in
      let (index, is) = stage_of w.index p.caller.stage kind.StoreHeap step.is_kind in
      let (addr, value, acts, now) = step.steps in
      let write = word_at p.caller.writes index in
      let same : action.StoreHeap write.addr write.value ≡ action.StoreHeap addr value = acts_at w s who p step.here (stages.Turn (Heap index)) _ is acts in
      let addresses : write.addr ≡ addr = cc in
      let values : write.value ≡ value = cc in
      let here_now : next ≡ with_heap w who p write.addr write.value = now ∙ ap (λ n. with_heap w who p n value) (sym addresses)
      ∙ ap (with_heap w who p write.addr) (sym values) in
      (subst Sound (sym here_now) (heap_sound keeps law w s who p step.here index is), silent w s who p step.here next (stages.Turn (Heap index)) is refl)

  -- ---- the last store
  module _ (w : World) (s : Sound w) (who : ℕ) (p : Process) (here : get_elem? w.processes who ≡ some p) (is : p.caller.stage ≡ stages.Turn Complete) where
    abbrev after : World
    after = with_tag w who p (p.caller.stamp % w.shape.ring) (4 * p.caller.stamp + 3)

    now_sound : Sound after
    now_sound = complete_sound keeps w s who p here is

    stamp_complete : p.caller.stamp ≤ now_sound.complete
    unfolding now_sound
    stamp_complete = let e = complete_is keeps w s who p here is in omega (arith, e)

    written : IsWrittenBack w after p.caller.stamp
    written =
        record {
          complete = record {
            happened = omega (arith, stamp_complete, now_sound.board.counted);
            complete = λ entry first upto. now_sound.board.done entry first (omega (arith, upto, stamp_complete));
          };
          words = λ addr value free there.
              word_is_from after.shape after now_sound.complete (needs after now_sound) now_sound.memory p.caller.stamp addr value stamp_complete
              (let below = slice_get_within after.heap addr value there in omega (arith, below, as_many after now_sound)) free there;
        }

  store_tag_complete : KindKeeps kind.StoreTagComplete
  store_tag_complete w next who s step =
      let p : Process = step.process in
      let is = stage_of w.index p.caller.stage kind.StoreTagComplete step.is_kind in
      let now = tag_is w s who p step.here next _ _ step.steps (tags_same w s who p step.here (stages.Turn Complete) _ _ is refl) in
      let answered : answer_of w p ≡ answer.Completed p.caller.stamp =
      ap (λ (x : Stage). (outcome_at w.shape p.caller x (found w (action_at w.shape p.caller x))).progress) is in (
        subst Sound (sym now) (now_sound w s who p step.here is),
        subst (LearnsBy w next p) (sym answered) (refl, subst (λ (x : World). IsWrittenBack w x p.caller.stamp) (sym now) (written w s who p step.here is)),
      )

  pub each_kind : StepsKeep
  each_kind kind.LoadIndex = load_index
  each_kind kind.LoadTag = load_tag
  each_kind kind.LoadSig = load_sig
  each_kind kind.LoadHeap = load_heap
  each_kind kind.SwapIndex = swap_index
  each_kind kind.StoreTagFilling = store_tag_filling
  each_kind kind.StoreSig = store_sig
  each_kind kind.StoreTagWriting = store_tag_writing
  each_kind kind.StoreHeap = store_heap
  each_kind kind.StoreTagComplete = store_tag_complete

  -- ---- the word found
  pub may_absorb : MayAbsorb
  may_absorb w who p s here opened = can keeps w s who p here opened
