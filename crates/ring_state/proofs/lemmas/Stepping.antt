-- What a step leaves of a stored world, and of the world that it stands for.
use Rattle.std.proofs.Common.{◌≡◌, ◌≢◌, ℕ, ◌+◌, ◌*◌, ◌<◌, ◌==◌, List, [], ◌∷◌, ◌++◌, length, get_or, set, map, Result, Ok, Err, IfOk, OnErr, Vec, refl, sym, ◌∙◌, ap, subst, ⊎_elim, eq-eqb}
use Rattle.std.proofs.lemmas.Bool.{cond_both, cond-true, eqb-true}
use Rattle.std.proofs.lemmas.List.{map-set, set-get_or}
use Rattle.std.proofs.Math.ListN.{get_or-map}
use Rattle.std.specs.Vec.{with_item}
use Rattle.std.specs.declared.alloc.Global.{Global}
use Rattle.tx_model.specs.declared.gate.Region.{Region}
use Rattle.tx_model.specs.declared.history.Commit.{Commit}
use Rattle.tx_model.specs.declared.view.Owned.{Owned}
use Rattle.tx_model.specs.declared.pass.Memory.{Memory}
use Rattle.ring_core.specs.declared.action.Action.{Action}
use Rattle.ring_core.specs.declared.action.Action.TheVariants as action
use Rattle.ring_core.specs.declared.action.Progress.{Progress}
use Rattle.ring_core.specs.declared.action.Progress.TheVariants as answer
use Rattle.ring_core.specs.declared.shape.Shape.{Shape}
use Rattle.ring_core.specs.Request.{next_action}
use Rattle.ring_core.specs.Outcomes.{Outcome, absorbed}
use Rattle.ring_core.specs.Words.{CanAbsorb}
use Rattle.ring_worlds.specs.declared.process.Process.{Process}
use Rattle.ring_state.specs.declared.plain.Plain.{Plain}
use Rattle.ring_worlds.specs.World.{front_after, reads_after, noted_after, owned_after, process_after, moved_on, commit_of}
use Rattle.ring_worlds.specs.Steps.{found, seen}
use Rattle.ring_state.specs.Plain.{MemberView, process_of, resting_member, member_after, after_word}
use Rattle.ring_state.specs.Kept.{world_of, member_at, with_member, HaveShape, IsReady, landed, IsLoading, HasTaken, HasStepped, IsSame}
use Rattle.ring_worlds.specs.Calls.{process_at}
use Rattle.ring_worlds.proofs.lemmas.Lists.{at_set}
use Rattle.ring_worlds.proofs.lemmas.Elements.{elem_there, get_either}

nothing_noted : {X : Type 0} (progress : Progress) → [] ≡ noted_after {X = X} [] progress
nothing_noted (answer.Started start) = refl
nothing_noted _ = refl

module _ (opening : List ℕ) (history : List Commit) (m : MemberView) where
  nothing_owned : (progress : Progress) → [] ≡ owned_after opening history (process_of m) progress
  nothing_owned (answer.Completed stamp) = refl
  nothing_owned _ = refl

  -- the stored caller after an outcome, with what else a caller of a world has
  abbrev with_rest : Outcome → List Region → List Region → List Owned → Process
  with_rest o sealed published owned = record {
    caller = o.caller;
    front = front_after (process_of m) o.progress;
    reads = reads_after m.machine.caller.stage m.reads o.progress;
    sealed = sealed;
    published = published;
    owned = owned;
  }

  -- a stored caller moves as a caller of a world does
  after_stored : (o : Outcome) → process_of (member_after m o) ≡ process_after opening history (process_of m) m.machine.caller.stage o
  after_stored o =
      ap (λ sealed. with_rest o sealed [] []) (nothing_noted o.progress)
      ∙ ap (λ published. with_rest o (noted_after [] o.progress) published []) (nothing_noted o.progress)
      ∙ ap (with_rest o (noted_after [] o.progress) (noted_after [] o.progress)) (nothing_owned o.progress)

-- ---- a caller of the stored world
module _ (d : Plain) (who : ℕ) where
  pub process_here : process_at (world_of d) who ≡ process_of (member_at d who)
  process_here = get_or-map process_of d.members.items who (resting_member d.shape)

  pub same_member : world_of (with_member d who (member_at d who)) ≡ world_of d
  same_member = ap (λ members. record (world_of d) { processes = map process_of members }) (set-get_or d.members.items who (resting_member d.shape))

  module _ (shapes : HaveShape d) where
    pub shapes_with : (m : MemberView) → m.machine.shape ≡ d.shape → HaveShape (with_member d who m)
    shapes_with m e i x at = ⊎_elim (λ t. ap (λ (y : MemberView). y.machine.shape) (sym t.1) ∙ e) (λ t. shapes i x t.1) (at_set d.members.items who i m x at)

    module _ (here : who < length d.members.items) where
      pub shape_here : (member_at d who).machine.shape ≡ d.shape
      shape_here = shapes who (member_at d who) (elem_there d.members.items who (resting_member d.shape) here)

      moved_here : (opening : List ℕ) (history : List Commit) (word : ℕ)
          → process_of (after_word (member_at d who) word) ≡ moved_on d.shape opening history (process_at (world_of d) who) word
      moved_here opening history word =
          let m = member_at d who in
          after_stored opening history m (absorbed m.machine.shape m.machine.caller word)
          ∙ ap (λ (shape : Shape). moved_on shape opening history (process_of m) word) shape_here
          ∙ ap (λ (p : Process). moved_on d.shape opening history p word) (sym process_here)

      pub moved_members : (opening : List ℕ) (history : List Commit) (word : ℕ)
          → map process_of (set d.members.items who (after_word (member_at d who) word))
          ≡ set (map process_of d.members.items) who (moved_on d.shape opening history (process_at (world_of d) who) word)
      moved_members opening history word =
          map-set process_of d.members.items who (after_word (member_at d who) word)
          ∙ ap (set (map process_of d.members.items) who) (moved_here opening history word)

      pub same_kept : IsSame (world_of d) (with_member d who (member_at d who))
      same_kept = record { world = same_member; shapes = shapes_with (member_at d who) shape_here }

      -- a machine answers as that of the world
      pub answers_here : (word : ℕ)
          → (absorbed (member_at d who).machine.shape (member_at d who).machine.caller word).progress
          ≡ (absorbed d.shape (process_at (world_of d) who).caller word).progress
      answers_here word =
          ap (λ (shape : Shape). (absorbed shape (member_at d who).machine.caller word).progress) shape_here
          ∙ ap (λ (p : Process). (absorbed d.shape p.caller word).progress) (sym process_here)

      pub fits_here : (word : ℕ) → CanAbsorb d.shape (process_at (world_of d) who).caller word
          → CanAbsorb (member_at d who).machine.shape (member_at d who).machine.caller word
      fits_here word fits =
          subst (λ (shape : Shape). CanAbsorb shape (member_at d who).machine.caller word) (sym shape_here)
          (subst (λ (p : Process). CanAbsorb d.shape p.caller word) process_here fits)

      -- a caller that has taken in a word
      pub took : (word : ℕ) (old new : MemberView) (result : Result Progress Memory) → old ≡ get_or d.members.items who old
          → IfOk result (λ _. new ≡ after_word old word)
          → IfOk result (λ progress. progress ≡ (absorbed old.machine.shape old.machine.caller word).progress)
          → IfOk result (λ progress. HasTaken d who word progress (with_member d who new))
      took word old new (Ok progress) there step answer =
          let same : old ≡ member_at d who = there ∙ get_either d.members.items who old (resting_member d.shape) here in
          record {
            member = ap (with_member d who) (step ∙ ap (λ m. after_word m word) same);
            answer = answer ∙ ap (λ (m : MemberView). (absorbed m.machine.shape m.machine.caller word).progress) same ∙ answers_here word;
          }
      took word old new (Err e) there step answer = tt

      pub unchanged : (old new : MemberView) (result : Result Progress Memory) → old ≡ get_or d.members.items who old → OnErr result (new ≡ old)
          → OnErr result (IsSame (world_of d) (with_member d who new))
      unchanged old new (Ok progress) there same = tt
      unchanged old new (Err e) there same =
          let kept : new ≡ member_at d who = same ∙ there ∙ get_either d.members.items who old (resting_member d.shape) here in
          subst (λ m. IsSame (world_of d) (with_member d who m)) (sym kept) same_kept

      -- the shape of the machine stays
      shapes_taken : (word : ℕ) (progress : Progress) (taken : Plain) → HasTaken d who word progress taken → HaveShape taken
      shapes_taken word progress taken t = subst HaveShape (sym t.member) (shapes_with (after_word (member_at d who) word) shape_here)

      stepped_by : (action : Action) (word : ℕ) (progress : Progress) (taken next : Plain)
          → next_action d.shape (process_at (world_of d) who).caller ≡ action → word ≡ found (world_of d) action
          → HasTaken d who word progress taken → HaveShape next → world_of next ≡ landed (world_of d) who (process_at (world_of d) who) action
          → HasStepped (world_of d) who progress next
      stepped_by action word progress taken next is finds t shapes world = record {
        world = world ∙ ap (landed (world_of d) who (process_at (world_of d) who)) (sym is);
        shapes = shapes;
        answer = t.answer ∙ ap (λ v. (absorbed d.shape (process_at (world_of d) who).caller v).progress) (finds ∙ ap (found (world_of d)) (sym is));
      }

-- ---- the steps
module _ (d : Plain) (who : ℕ) where
  pub loads : (action : Action) (word : ℕ) → IsReady d who action
      → landed (world_of d) who (process_at (world_of d) who) action ≡ seen (world_of d) who (process_at (world_of d) who) word
      → word ≡ found (world_of d) action → IsLoading d who word
  loads action word ready stays finds =
      record {
        here = ready.here;
        shapes = ready.shapes;
        fits = subst (CanAbsorb d.shape (process_at (world_of d) who).caller) (sym finds) ready.fits;
        finds = finds ∙ ap (found (world_of d)) (sym ready.next);
        stays = ap (landed (world_of d) who (process_at (world_of d) who)) ready.next ∙ stays;
      }

  -- a load of the word that is found
  pub loads_found : (action : Action) (word : ℕ) → IsReady d who action
      → landed (world_of d) who (process_at (world_of d) who) action ≡ seen (world_of d) who (process_at (world_of d) who) (found (world_of d) action)
      → word ≡ found (world_of d) action → IsLoading d who word
  loads_found action word ready stays finds = loads action word ready (stays ∙ ap (seen (world_of d) who (process_at (world_of d) who)) (sym finds)) finds

  -- a swap that finds another index
  pub loses : (from : ℕ) → IsReady d who (action.SwapIndex from) → d.index ≢ from → IsLoading d who d.index
  loses from ready other =
      loads (action.SwapIndex from) d.index ready
      (cond_both (d.index == from) _ _ (λ next. next ≡ seen (world_of d) who (process_at (world_of d) who) d.index)
      (λ yes. absurd (other (eqb-true d.index from yes))) (λ no. refl))
      refl

  pub loaded : (word : ℕ) (result : Result Progress Memory) (next : Plain) → IsLoading d who word
      → IfOk result (λ progress. HasTaken d who word progress next) → IfOk result (λ progress. HasStepped (world_of d) who progress next)
  loaded word (Ok progress) next l t = record {
    world =
        ap world_of t.member ∙ ap (λ processes. record (world_of d) { processes = processes })
        (moved_members d who l.shapes l.here d.opening d.history.items word) ∙ sym l.stays;
    shapes = shapes_taken d who l.shapes l.here word progress next t;
    answer = t.answer ∙ ap (λ v. (absorbed d.shape (process_at (world_of d) who).caller v).progress) l.finds;
  }
  loaded word (Err e) next l t = tt

  pub stores_tag : (slot tag : ℕ) (progress : Progress) (taken : Plain) → IsReady d who (action.StoreTag slot tag) → HasTaken d who 0 progress taken
      → HasStepped (world_of d) who progress (record taken { tags = with_item taken.tags slot tag })
  stores_tag slot tag progress taken ready t =
      stepped_by d who ready.shapes ready.here (action.StoreTag slot tag) 0 progress taken (record taken { tags = with_item taken.tags slot tag }) ready.next
      refl t (shapes_taken d who ready.shapes ready.here 0 progress taken t)
      (ap (λ (t : Plain). world_of (record t { tags = with_item t.tags slot tag })) t.member
      ∙ ap (λ processes. record (world_of d) { tags = set d.tags.items slot tag; processes = processes })
      (moved_members d who ready.shapes ready.here d.opening d.history.items 0))

  pub stores_sig : (slot word value : ℕ) (progress : Progress) (taken : Plain) → IsReady d who (action.StoreSig slot word value)
      → HasTaken d who 0 progress taken
      → HasStepped (world_of d) who progress (record taken { sigs = with_item taken.sigs (slot * taken.shape.sig_words + word) value })
  stores_sig slot word value progress taken ready t =
      stepped_by d who ready.shapes ready.here (action.StoreSig slot word value) 0 progress taken
      (record taken { sigs = with_item taken.sigs (slot * taken.shape.sig_words + word) value }) ready.next refl t
      (shapes_taken d who ready.shapes ready.here 0 progress taken t)
      (ap (λ (t : Plain). world_of (record t { sigs = with_item t.sigs (slot * t.shape.sig_words + word) value })) t.member
      ∙ ap (λ processes. record (world_of d) { sigs = set d.sigs.items (slot * d.shape.sig_words + word) value; processes = processes })
      (moved_members d who ready.shapes ready.here d.opening d.history.items 0))

  pub stores_heap : (addr value : ℕ) (progress : Progress) (taken : Plain) → IsReady d who (action.StoreHeap addr value) → HasTaken d who 0 progress taken
      → HasStepped (world_of d) who progress (record taken { heap = with_item taken.heap addr value })
  stores_heap addr value progress taken ready t =
      stepped_by d who ready.shapes ready.here (action.StoreHeap addr value) 0 progress taken (record taken { heap = with_item taken.heap addr value })
      ready.next refl t (shapes_taken d who ready.shapes ready.here 0 progress taken t)
      (ap (λ (t : Plain). world_of (record t { heap = with_item t.heap addr value })) t.member
      ∙ ap (λ processes. record (world_of d) { heap = set d.heap.items addr value; processes = processes })
      (moved_members d who ready.shapes ready.here d.opening d.history.items 0))

  -- a swap that succeeds
  pub swaps : (from : ℕ) (progress : Progress) (taken : Plain) (history : Vec Commit Global) → IsReady d who (action.SwapIndex from) → d.index ≡ from
      → HasTaken d who d.index progress taken
      → history.items ≡ taken.history.items ++ commit_of (process_of (member_at d who)) ∷ []
      → HasStepped (world_of d) who progress (record taken { history = history; index = d.index + 1 })
  swaps from progress taken history ready same t joined =
      let w = world_of d in
      let p = process_at w who in
      let commits : history.items ≡ d.history.items ++ commit_of p ∷ [] =
      joined ∙ ap (λ (t : Plain). t.history.items ++ commit_of (process_of (member_at d who)) ∷ []) t.member
      ∙ ap (λ (q : Process). d.history.items ++ commit_of q ∷ []) (sym (process_here d who)) in
      stepped_by d who ready.shapes ready.here (action.SwapIndex from) d.index progress taken (record taken { history = history; index = d.index + 1 })
      ready.next refl t
      (shapes_taken d who ready.shapes ready.here d.index progress taken t)
      (ap (λ (t : Plain). world_of (record t { history = history; index = d.index + 1 })) t.member
      ∙ ap (λ processes. record w { index = d.index + 1; history = history.items; processes = processes })
      (moved_members d who ready.shapes ready.here d.opening d.history.items d.index)
      ∙ ap (λ commits. record (seen w who p d.index) { index = d.index + 1; history = commits }) commits
      ∙ sym (cond-true (d.index == from) _ _ (eq-eqb d.index from same)))

-- with more room the history is the same
module _ (d : Plain) (history : Vec Commit Global) where
  pub reserved : history.items ≡ d.history.items → world_of (record d { history = history }) ≡ world_of d
  reserved same = ap (λ commits. record (world_of d) { history = commits }) same

  pub reserved_ready : (who from : ℕ) → IsReady d who (action.SwapIndex from) → IsReady (record d { history = history }) who (action.SwapIndex from)
  reserved_ready who from ready = record {
    here = ready.here;
    shapes = ready.shapes;
    next = ready.next;
    fits = ready.fits;
    inside = ready.inside;
  }
