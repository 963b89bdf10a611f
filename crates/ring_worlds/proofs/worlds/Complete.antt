-- The last store of a turn: one more commit is complete. What it sealed is its caller's from here on, and what it published no longer.
use Rattle.std.proofs.Common.{◌≡◌, ◌≢◌, ℕ, ◌+◌, ◌-◌, ◌*◌, ◌%◌, ◌≤◌, Bool, true, not, List, length, map, set, slice_get, drop, Some, Contains, refl, sym, ◌∙◌, ap, subst, arith, inl, inr}
use mathlib.Core.Option.{some}
use lib.ListN.{get_elem?}
use Rattle.std.specs.List.{filter}
use Rattle.std.proofs.lemmas.Bool.{cases_lt, false≢true}
use Rattle.std.proofs.lemmas.List.{length-take, length-drop}
use Rattle.std.proofs.lemmas.List.Elements.{Contains-append_cases}
use Rattle.std.proofs.lemmas.Option.{slice_get_within, get_or_from_slice_get}
use Rattle.tx_model.specs.declared.gate.Region.{Region}
use Rattle.tx_model.specs.declared.view.Owned.{Owned}
use Rattle.tx_model.specs.declared.pass.PassState.TheVariants as state
use Rattle.tx_model.specs.Made.{no_region, region_at, IsIn}
use Rattle.tx_model.specs.Rule.{HaveOwnGates}
use Rattle.tx_model.specs.Memory.{words_in}
use Rattle.tx_model.specs.History.{state_at}
use Rattle.tx_model.specs.Attempt.{has_region, just_sealed}
use Rattle.tx_model.proofs.lemmas.Regions.{same_word, has_region_of}
use Rattle.ring_core.specs.declared.stage.Stage.{Stage}
use Rattle.ring_core.specs.declared.stage.Stage.TheVariants as stages
use Rattle.ring_core.specs.declared.stage.TurnStage.{TurnStage}
use Rattle.ring_core.specs.declared.stage.TurnStage.TheVariants.{Complete}
use Rattle.ring_core.specs.Sound as core
use Rattle.ring_core.specs.Laws.{StepKeeps}
use Rattle.ring_core.specs.Request.{is_open, action_at}
use Rattle.ring_worlds.specs.declared.process.Process.{Process}
use Rattle.ring_worlds.specs.World.{World, Board, moved_at, moved_on, commit_of}
use Rattle.ring_worlds.specs.Board.{IsBoard, IsLater}
use Rattle.ring_worlds.specs.Reader.{IsReader}
use Rattle.ring_worlds.specs.Own.{IsOwn, IsOwnAt, completed}
use Rattle.ring_worlds.specs.Owner.{IsOwner}
use Rattle.ring_worlds.specs.Sound.{Sound, IsProcess, IsLawful, OwnApart}
use Rattle.ring_worlds.specs.Steps.{found}
use Rattle.ring_worlds.proofs.board.Stores as board_stores
use Rattle.ring_worlds.proofs.board.Owns.{own_completed, slot_inside}
use Rattle.ring_worlds.proofs.reads.Later.{reader_later, tag_rises}
use Rattle.ring_worlds.proofs.memory.Completes as memory
use Rattle.ring_worlds.proofs.memory.LastStored.{state_long}
use Rattle.ring_worlds.proofs.worlds.Regions.{IsSealedAt, seals_gate, stays_sealed, sealed_since}
use Rattle.ring_worlds.proofs.worlds.Needs.{b, ruled, commit_here, sealed_known, unowned, needs}
use Rattle.ring_worlds.proofs.worlds.Lawful.{lawful_at}
use Rattle.ring_worlds.proofs.worlds.Changed.{each_after, apart_after, belongs_after, process_later}
use Rattle.ring_worlds.proofs.worlds.Seen.{me, word, told, machine, stamp_within}
use Rattle.ring_worlds.proofs.worlds.OwnedLists.{AreOwnedApart, apart_filter, apart_append}
use Rattle.ring_worlds.proofs.lemmas.Lists.{at_set}
use Rattle.ring_worlds.proofs.lemmas.Members.{filter_from, filter_passes, map_from, map_at, index_in, among_at}

idle_not_stamped : state.Idle ≢ state.Stamped
idle_not_stamped e = cc

-- regions with gates of their own: a gate tells the index
own_indexes : (regions : List Region) → HaveOwnGates regions → (i j : ℕ) (one other : Region) → slice_get regions i ≡ Some one
    → slice_get regions j ≡ Some other → one.gate ≡ other.gate → i ≡ j
own_indexes regions apart i j one other at at' same =
    let here : region_at regions i ≡ one = get_or_from_slice_get regions i one no_region at in
    let here' : region_at regions j ≡ other = get_or_from_slice_get regions j other no_region at' in
    let gates : (region_at regions i).gate ≡ (region_at regions j).gate = ap (λ (r : Region). r.gate) here ∙ same ∙ ap (λ (r : Region). r.gate) (sym here') in
    elim (cases_lt i j) [
      | inl before ↦ absurd (apart i j before (slice_get_within regions j other at') gates)
      | inr not_before ↦
          elim (cases_lt j i) [
            | inl after ↦ absurd (apart j i after (slice_get_within regions i one at) (sym gates))
            | inr not_after ↦ omega (arith, not_before, not_after)
          ]
    ]

module _ (keeps : StepKeeps) (w : World) (s : Sound w) (who : ℕ) (p : Process) (here : get_elem? w.processes who ≡ some p)
    (is : p.caller.stage ≡ stages.Turn Complete) where
  abbrev pub board : Board
  board = b w s

  abbrev stamp : ℕ
  stamp = p.caller.stamp

  opened : is_open p.caller.stage ≡ true
  opened = ap is_open is

  mine : IsProcess w.shape w.opening w.regions board p
  mine = me keeps w s who p here opened

  fits : core.IsStamped w.shape p.caller.state p.caller.writes p.caller.start p.caller.stamp × core.IsTurnStage w.shape p.caller Complete
  fits = subst (core.IsStage w.shape p.caller) is mine.machine.stage

  own : IsOwn w.shape board p Complete
  own = subst (IsOwnAt w.shape board p) is mine.own

  pub next_one : s.complete + 1 ≡ stamp
  next_one = own.tag.1

  within : stamp ≤ length w.history
  within = stamp_within keeps w s who p here opened fits.0.stamped

  -- the caller's commit is the next one
  there : slice_get w.history s.complete ≡ Some (commit_of p)
  there = subst (λ k. slice_get w.history k ≡ Some (commit_of p)) (let e : stamp - 1 ≡ s.complete = omega (arith, next_one) in e) own.there

  abbrev pub later : Board
  later = completed w.shape board stamp

  pub board_now : IsBoard w.shape w.opening w.regions later
  board_now = board_stores.completes w.shape w.opening w.regions s.opened.limits.some_entry board s.board p own

  on : IsLater w.shape board later
  on = tag_rises w.shape board (stamp % w.shape.ring) (4 * stamp + 3) stamp (let t = own.tag.0 in omega (arith, t)) (omega (arith, next_one))
      (slot_inside w.shape s.opened.limits w.opening w.regions board s.board p)

  abbrev pub now : Process
  now = moved_at w.shape w.opening w.history p (stages.Turn Complete) 0

  same_now : moved_on w.shape w.opening w.history p 0 ≡ now
  same_now = ap (λ stage. moved_at w.shape w.opening w.history p stage 0) is

  from_step : (P : Process → Type 0) → P (moved_on w.shape w.opening w.history p (word keeps w s who p here opened)) → P now
  from_step P holds = subst P (ap (moved_on w.shape w.opening w.history p) (ap (λ stage. found w (action_at w.shape p.caller stage)) is) ∙ same_now) holds

  -- ---- owned regions
  abbrev state_now : List ℕ
  state_now = state_at w.opening w.history stamp

  at_stamp : (P : ℕ → Type 0) → P (s.complete + 1) → P stamp
  at_stamp P holds = subst P next_one holds

  -- a region whose gate was sealed stays so, if the commit doesn't publish it
  owner_kept : (o : Process) (q : Process) → o.front ≤ q.front → (x : Owned) → (Contains p.published x.region → ⊥)
      → IsOwner w.opening w.regions board o x → IsOwner w.opening w.regions later q x
  owner_kept o q front x unpublished owner =
      let sealed : IsSealedAt w.opening w.regions w.history (ruled w s) x.region owner.ownable.region stamp =
      at_stamp (IsSealedAt w.opening w.regions w.history (ruled w s) x.region owner.ownable.region)
      (stays_sealed w.opening w.regions w.history (ruled w s) x.region owner.ownable.region s.complete (commit_of p) there owner.still unpublished) in
      record {
        ownable = owner.ownable;
        entry = owner.entry;
        some = owner.some;
        noted = omega (arith, owner.noted, front);
        commit = owner.commit;
        there = owner.there;
        seals = owner.seals;
        still = sealed;
        kept = sealed_since w.opening w.regions w.history (ruled w s) x.region owner.ownable.region s.complete stamp (omega (arith, next_one)) owner.still
            sealed ∙ owner.kept;
      }

  region_long : (region : Region) → Contains w.regions region → length (words_in state_now region) ≡ region.len
  region_long region known =
      let lies = (s.opened.regions.lie_in region known).1 in
      let long = state_long w.opening w.history stamp in
      let dropped = length-drop region.base state_now in
      let taken = length-take region.len (drop region.base state_now) in
      omega (arith, lies, long, dropped, taken)

  -- a region that the commit sealed
  new_owner : (region : Region) → Contains p.sealed region → IsOwner w.opening w.regions later now (just_sealed state_now region)
  new_owner region seals =
      let known = sealed_known w s who p region here seals in
      record {
        ownable = record { region = known; sealed_words = region_long region known; words = region_long region known };
        entry = stamp;
        some = omega (arith, next_one);
        noted = omega arith;
        commit = commit_of p;
        there = own.there;
        seals = seals;
        still = at_stamp (IsSealedAt w.opening w.regions w.history (ruled w s) region known)
            (seals_gate w.opening w.regions w.history (ruled w s) region known s.complete (commit_of p) there seals);
        kept = refl;
      }

  abbrev keeps_region : Owned → Bool
  keeps_region o = not (has_region p.published o.region)

  not_published : (o : Owned) → keeps_region o ≡ true → Contains p.published o.region → ⊥
  not_published o passes published = false≢true (sym (ap not (has_region_of p.published o.region published)) ∙ passes)

  owns_now : (o : Owned) → Contains now.owned o → IsOwner w.opening w.regions later now o
  owns_now o among =
      elim (Contains-append_cases (filter keeps_region p.owned) (map (just_sealed state_now) p.sealed) o among) [
        | inl old ↦ owner_kept p now (omega arith) o (not_published o (filter_passes keeps_region p.owned o old))
            (mine.owns o (filter_from keeps_region p.owned o old))
        | inr new ↦ let (region, seals, made) = map_from (just_sealed state_now) p.sealed o new in
            subst (IsOwner w.opening w.regions later now) made (new_owner region seals)
      ]

  now_sound : IsProcess w.shape w.opening w.regions later now
  now_sound =
      let sound = from_step (λ x. core.IsSound w.shape x.caller) (machine keeps w s who p here opened) in
      record {
        machine = sound;
        since = record { known = omega (arith, mine.since.known, next_one); since = λ e. absurd (e refl) };
        reader = reader_later w.shape w.opening w.regions s.opened.limits.some_entry board later s.board on now sound
            (from_step (IsReader w.shape w.opening w.regions board) (told keeps w s who p here opened).reader);
        own = tt;
        lawful = from_step (IsLawful w.opening w.regions) (lawful_at w.shape w.opening w.regions w.history p mine.lawful mine.machine p.caller.stage
            (word keeps w s who p here opened) opened mine.machine.stage mine.lawful.asks);
        owns = owns_now;
      }

  -- ---- the others
  -- what they own this commit doesn't publish
  others_unpublished : (i : ℕ) (o : Process) → i ≢ who → get_elem? w.processes i ≡ some o → (x : Owned) → Contains o.owned x → Contains p.published x.region → ⊥
  others_unpublished i o away theirs x among published =
      let (k, mine', below, at, same) = mine.lawful.publishes x.region published in
      let among' : Contains p.owned mine' = (k, below, at) in
      let (l, at') = index_in o.owned x among in
      let (m, at'') = index_in p.owned mine' among' in
      let known = ((s.each i o theirs).owns x among).ownable.region in
      let some_word = (s.opened.regions.lie_in x.region known).0 in
      let inside : IsIn x.region.base x.region = (omega arith, omega (arith, some_word)) in
      away (s.own_apart i who o p l m x mine' x.region.base theirs here at' at'' inside (subst (IsIn x.region.base) (sym same) inside)).0

  other_at : (i : ℕ) (o : Process) → i ≢ who → get_elem? w.processes i ≡ some o → (at : TurnStage) → o.caller.state ≡ state.Stamped
      → IsOwn w.shape board o at → IsOwn w.shape later o at
  other_at i o away theirs at stamped own' =
      let ne = s.apart i who o p theirs here away stamped fits.0.stamped in
      let c = commit_here w s i o theirs stamped in
      let short = slice_get_within w.history (o.caller.stamp - 1) _ c.there in
      let slots : o.caller.stamp % w.shape.ring ≢ stamp % w.shape.ring =
      λ same. ne (board_stores.alone w.shape w.opening w.regions s.opened.limits.some_entry board s.board o.caller.stamp stamp own'.newer
      (omega (arith, short, c.later)) own.newer within same) in
      own_completed w.shape s.opened.limits.some_entry board o stamp slots at (sym next_one) ne
      (λ last. ne (let t = (subst (IsOwn w.shape board o) last own').tag in sym t.1 ∙ next_one)) own'

  other_own : (i : ℕ) (o : Process) → i ≢ who → get_elem? w.processes i ≡ some o → (stage : Stage) → core.IsStage w.shape o.caller stage
      → IsOwnAt w.shape board o stage → IsOwnAt w.shape later o stage
  other_own i o away theirs (stages.Turn at) staged own' = other_at i o away theirs at staged.0.stamped own'
  other_own i o away theirs (stages.Between at) staged own' = other_at i o away theirs at staged.0.stamped own'
  other_own i o away theirs stages.Closed staged own' = tt
  other_own i o away theirs stages.BeginIndex staged own' = tt
  other_own i o away theirs (stages.BeginTag top entry) staged own' = tt
  other_own i o away theirs (stages.ReadHeap addr) staged own' = tt
  other_own i o away theirs (stages.Check why at) staged own' = tt
  other_own i o away theirs (stages.StampSlot top) staged own' = tt
  other_own i o away theirs (stages.StampSwap top) staged own' = tt

  -- ---- no word is owned twice
  -- a region that it seals was nobody's
  new_alone : (region : Region) (addr : ℕ) → Contains p.sealed region → IsIn addr region → (i : ℕ) (o : Process) (x : Owned)
      → get_elem? w.processes i ≡ some o → Contains o.owned x → IsIn addr x.region → ⊥
  new_alone region addr seals inside i o x theirs among inside' =
      unowned w s who p region addr here fits.0.stamped (sym next_one) seals inside
      (record { who = i; process = o; here = theirs; owned = x; among = among; inside = inside' })

  sealed_apart : AreOwnedApart (map (just_sealed state_now) p.sealed)
  sealed_apart k l o other addr at at' inside inside' =
      let one = region_at k o at in
      let two = region_at l other at' in
      let same : one.0 ≡ two.0 = same_word w.opening w.regions one.0 two.0 addr s.opened.regions (sealed_known w s who p one.0 here one.1)
      (sealed_known w s who p two.0 here two.1)
      (subst (λ (x : Owned). IsIn addr x.region) (sym one.3) inside) (subst (λ (x : Owned). IsIn addr x.region) (sym two.3) inside') in
      same_index k l one.0 two.0 one.2 two.2 (ap (λ (r : Region). r.gate) same)
    where
      region_at : (j : ℕ) (x : Owned) → slice_get (map (just_sealed state_now) p.sealed) j ≡ Some x
          → (region : Region) × Contains p.sealed region × (slice_get p.sealed j ≡ Some region) × (just_sealed state_now region ≡ x)
      region_at j x e = let (region, at'', made) = map_at (just_sealed state_now) p.sealed j x e in (region, among_at p.sealed j region at'', at'', made)

      same_index : (i j : ℕ) (r t : Region) → slice_get p.sealed i ≡ Some r → slice_get p.sealed j ≡ Some t → r.gate ≡ t.gate → i ≡ j
      same_index i j r t e f same = own_indexes p.sealed mine.lawful.follows.uses.sealed_once i j r t e f same

  own_apart_old : AreOwnedApart p.owned
  own_apart_old k l o other addr at at' inside inside' = (s.own_apart who who p p k l o other addr here here at at' inside inside').1

  mine_apart : AreOwnedApart now.owned
  mine_apart =
      apart_append (filter keeps_region p.owned) (map (just_sealed state_now) p.sealed) (apart_filter keeps_region p.owned own_apart_old) sealed_apart
      (λ o other addr among among' inside inside'.
      let (region, seals, made) = map_from (just_sealed state_now) p.sealed other among' in
      new_alone region addr seals (subst (λ (x : Owned). IsIn addr x.region) (sym made) inside') who p o here (filter_from keeps_region p.owned o among) inside)

  -- a region of it and one of another
  cross : (j : ℕ) (c : Process) → j ≢ who → get_elem? w.processes j ≡ some c → (o other : Owned) (addr : ℕ) → Contains now.owned o
      → Contains c.owned other → IsIn addr o.region → IsIn addr other.region → ⊥
  cross j c away theirs o other addr among among' inside inside' =
      elim (Contains-append_cases (filter keeps_region p.owned) (map (just_sealed state_now) p.sealed) o among) [
        | inl old ↦
            let (k, at) = index_in p.owned o (filter_from keeps_region p.owned o old) in
            let (l, at') = index_in c.owned other among' in
            away (sym (s.own_apart who j p c k l o other addr here theirs at at' inside inside').0)
        | inr new ↦
            let (region, seals, made) = map_from (just_sealed state_now) p.sealed o new in
            new_alone region addr seals (subst (λ (x : Owned). IsIn addr x.region) (sym made) inside) j c other theirs among' inside'
      ]

  own_apart_now : OwnApart (set w.processes who now)
  own_apart_now i j a c k l o other addr e f at at' inside inside' =
      elim (at_set w.processes who i now a e) [
        | inl (same, is') ↦
            elim (at_set w.processes who j now c f) [
              | inl (same', is'') ↦ (
                same ∙ sym same',
                mine_apart k l o other addr (subst (λ (x : Process). slice_get x.owned k ≡ Some o) (sym is') at)
                    (subst (λ (x : Process). slice_get x.owned l ≡ Some other) (sym is'') at') inside inside',
              )
              | inr (away, theirs) ↦ absurd (cross j c away theirs o other addr
                  (subst (λ (x : Process). Contains x.owned o) (sym is') (among_at a.owned k o at)) (among_at c.owned l other at') inside inside')
            ]
        | inr (away, theirs) ↦
            elim (at_set w.processes who j now c f) [
              | inl (same', is'') ↦ absurd (cross i a away theirs other o addr
                  (subst (λ (x : Process). Contains x.owned other) (sym is'') (among_at c.owned l other at')) (among_at a.owned k o at) inside' inside)
              | inr (away', theirs') ↦ s.own_apart i j a c k l o other addr theirs theirs' at at' inside inside'
            ]
      ]

  -- ---- the world after it
  pub complete_sound : Sound (record w {
    tags = set w.tags (stamp % w.shape.ring) (4 * stamp + 3);
    processes = set w.processes who (moved_on w.shape w.opening w.history p 0);
  })
  complete_sound =
      record {
        complete = stamp;
        opened = record { limits = s.opened.limits; regions = s.opened.regions; room = s.opened.room; heap = s.opened.heap };
        indexed = s.indexed;
        board = board_now;
        each = each_after w.processes who p (moved_on w.shape w.opening w.history p 0) here
            (subst (IsProcess w.shape w.opening w.regions later) (sym same_now) now_sound)
            (λ i o away theirs. let old = s.each i o theirs in
            process_later w.shape w.opening w.regions s.opened.limits.some_entry board later s.board on o old
            (other_own i o away theirs o.caller.stage old.machine.stage old.own)
            (λ x among. owner_kept o o (omega arith) x (others_unpublished i o away theirs x among) (old.owns x among)));
        apart = apart_after w.processes who p (moved_on w.shape w.opening w.history p 0) here s.apart
            (λ e. absurd (idle_not_stamped (ap (λ (x : Process). x.caller.state) (sym same_now) ∙ e)));
        belongs = λ k above below. belongs_after w.processes who p (moved_on w.shape w.opening w.history p 0) here k
            (λ stamped eq. absurd (omega (arith, eq, above))) (s.belongs k (omega (arith, above, next_one)) below);
        own_apart = subst (λ (x : Process). OwnApart (set w.processes who x)) (sym same_now) own_apart_now;
        memory = memory.completes w.shape w s.complete (needs w s) s.memory who p here is (set w.tags (stamp % w.shape.ring) (4 * stamp + 3));
      }

  -- its commit is the last of the complete ones
  pub complete_is : complete_sound.complete ≡ stamp
  unfolding complete_sound
  complete_is = refl
