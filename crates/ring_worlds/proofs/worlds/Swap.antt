-- An exchange that finds the index that it expects: the caller's commit joins the history.
use Rattle.std.proofs.Common.{◌≡◌, ◌≢◌, ℕ, ◌+◌, ◌-◌, ◌*◌, ◌%◌, ◌<◌, ◌≤◌, ◌++◌, true, [], ◌∷◌, cond, length, map, set, slice_get, get_or, Some, Contains, refl, sym, ◌∙◌, ap, subst, arith, inl, inr, mod-lt, eq-eqb}
use mathlib.Core.Option.{some}
use lib.ListN.{get_elem?}
use Rattle.std.proofs.lemmas.Bool.{cases_lt}
use Rattle.std.proofs.lemmas.List.{length-append, length-map, get_or-map, get_or_default}
use Rattle.std.proofs.lemmas.Option.{slice_get_within, slice_get-get_or}
use Rattle.tx_model.specs.declared.gate.Region.{Region}
use Rattle.tx_model.specs.declared.history.Commit.{Commit}
use Rattle.tx_model.specs.declared.view.Owned.{Owned}
use Rattle.tx_model.specs.declared.pass.PassState.TheVariants as state
use Rattle.tx_model.specs.Words.{word_at}
use Rattle.tx_model.specs.Made.{no_region, region_at, IsIn}
use Rattle.tx_model.specs.Rule.{HaveOwnGates, FollowsRule}
use Rattle.tx_model.proofs.lemmas.Rule.{commit_follows}
use Rattle.tx_model.proofs.lemmas.Gates.{closed_after}
use Rattle.tx_model.proofs.lemmas.Regions.{same_gate}
use Rattle.ring_core.specs.declared.action.Progress.TheVariants as answer
use Rattle.ring_core.specs.declared.action.Later.TheVariants.{Lost}
use Rattle.ring_core.specs.declared.stage.Stage.{Stage}
use Rattle.ring_core.specs.declared.stage.Stage.TheVariants as stages
use Rattle.ring_core.specs.declared.stage.TurnStage.{TurnStage}
use Rattle.ring_core.specs.declared.stage.TurnStage.TheVariants.{Filling, Signature, Writing, Earlier, EarlierWords, EarlierAgain, Heap, Before, Complete}
use Rattle.ring_core.specs.Sound as core
use Rattle.ring_core.specs.Laws.{StepKeeps}
use Rattle.ring_core.specs.Request.{is_open, action_at}
use Rattle.ring_core.specs.Outcomes.{made, ends}
use Rattle.ring_worlds.specs.declared.process.Process.{Process}
use Rattle.ring_worlds.specs.World.{World, Board, tag_of, moved_at, moved_on, process_after, attempt_of, commit_of}
use Rattle.ring_worlds.specs.Board.{IsBoard, IsLater}
use Rattle.ring_worlds.specs.Reader.{Knows, IsChecked, IsReader}
use Rattle.ring_worlds.specs.Own.{TagFits, IsOwn, IsOwnAt}
use Rattle.ring_worlds.specs.Memory.{IsOwned}
use Rattle.ring_worlds.specs.Owner.{IsOwner}
use Rattle.ring_worlds.specs.Sound.{Sound, IsProcess, IsLawful, HaveOwnStamps, Belongs, OwnApart}
use Rattle.ring_worlds.specs.Steps.{found, with_commit}
use Rattle.ring_worlds.proofs.reads.HeapLoad.{joins}
use Rattle.ring_worlds.proofs.reads.Later.{reader_later, commit_joins}
use Rattle.ring_worlds.proofs.memory.Swaps as memory
use Rattle.ring_worlds.proofs.worlds.Needs.{b, commit_here, needs, has_word}
use Rattle.ring_worlds.proofs.worlds.Lawful.{lawful_at}
use Rattle.ring_worlds.proofs.worlds.Changed.{each_after, apart_after, belongs_after, own_apart_after, owner_later, process_later}
use Rattle.ring_worlds.proofs.worlds.Seen.{me, word, told, machine}
use Rattle.ring_worlds.proofs.lemmas.Lists.{set_here, get_earlier, get_last}

-- ---- the regions that one caller owns have gates of their own
module _ (w : World) (s : Sound w) (who : ℕ) (p : Process) (here : get_elem? w.processes who ≡ some p) where
  pub own_gates : HaveOwnGates (map (λ (o : Owned). o.region) p.owned)
  own_gates i j before below same =
      let long : length (map (λ (o : Owned). o.region) p.owned) ≡ length p.owned = length-map p.owned (λ (o : Owned). o.region) in
      let one = at i (omega (arith, before, below, long)) in
      let other = at j (omega (arith, below, long)) in
      let ownable = λ (o : Owned) (among : Contains p.owned o). ((s.each who p here).owns o among).ownable.region in
      let region : one.0.region ≡ other.0.region = same_gate w.regions one.0.region other.0.region s.opened.regions.gates_apart (ownable one.0 one.2)
      (ownable other.0 other.2)
      (ap (λ (r : Region). r.gate) (sym one.3) ∙ same ∙ ap (λ (r : Region). r.gate) other.3) in
      let some_word = (s.opened.regions.lie_in other.0.region (ownable other.0 other.2)).0 in
      let inside : IsIn other.0.region.base other.0.region = (omega arith, omega (arith, some_word)) in
      let apart = s.own_apart who who p p i j one.0 other.0 other.0.region.base here here one.1 other.1 (subst (IsIn other.0.region.base) (sym region) inside)
      inside in
      let e = apart.1 in omega (arith, e, before)
    where
      no_owned : Owned
      no_owned = record { region = no_region; at_sealing = []; now = [] }

      at : (k : ℕ) → k < length p.owned
          → (o : Owned) × (slice_get p.owned k ≡ Some o) × Contains p.owned o × (region_at (map (λ (x : Owned). x.region) p.owned) k ≡ o.region)
      at k small =
          let o : Owned = get_or p.owned k no_owned in (
            o,
            slice_get-get_or p.owned k no_owned small,
            (k, small, get_or_default p.owned k o no_owned small),
            get_or-map (λ (x : Owned). x.region) p.owned k no_owned no_region small,
          )

-- ---- a commit joins
module _ (keeps : StepKeeps) (w : World) (s : Sound w) (who : ℕ) (p : Process) (here : get_elem? w.processes who ≡ some p) (top : ℕ)
    (is : p.caller.stage ≡ stages.StampSwap top) (same_index : w.index ≡ top) where
  abbrev board : Board
  board = b w s

  opened : is_open p.caller.stage ≡ true
  opened = ap is_open is

  mine : IsProcess w.shape w.opening w.regions board p
  mine = me keeps w s who p here opened

  stamping : core.IsStamping w.shape p.caller.state p.caller.writes p.caller.start top
  stamping = subst (core.IsStage w.shape p.caller) is mine.machine.stage

  at_top : top ≡ length w.history
  at_top = sym same_index ∙ s.indexed

  found_index : word keeps w s who p here opened ≡ w.index
  found_index = ap (λ stage. found w (action_at w.shape p.caller stage)) is

  checked : IsChecked w.shape w.opening w.regions board p.caller.start p.reads (length w.history) × (length w.history + 1 ≤ s.complete + w.shape.ring)
  checked = subst (λ n. IsChecked w.shape w.opening w.regions board p.caller.start p.reads n × (n + 1 ≤ s.complete + w.shape.ring)) at_top
      (subst (Knows w.shape w.opening w.regions board p) is mine.reader.knows)

  abbrev commit : Commit
  commit = commit_of p

  rule : FollowsRule w.opening w.regions commit
  rule =
      commit_follows w.opening w.regions (attempt_of p) p.owned s.opened.regions mine.lawful.follows (λ o among. (mine.owns o among).ownable)
      (own_gates w s who p here) mine.lawful.publishes

  abbrev later : Board
  later = record board { history = w.history ++ commit ∷ [] }

  long : length later.history ≡ length w.history + 1
  long = length-append w.history (commit ∷ [])

  pub board_now : IsBoard w.shape w.opening w.regions later
  board_now =
      joins w.shape w.opening w.regions s.opened.limits.some_entry board s.board p commit refl rule checked.0
      (omega (arith, mine.reader.behind, s.board.counted)) (omega (arith, stamping.free, at_top)) checked.1

  on : IsLater w.shape board later
  on = commit_joins w.shape board commit

  -- the caller after it
  abbrev won : Process
  won = record p { caller = record p.caller { state = state.Stamped; stamp = top + 1; stage = stages.Between Filling } }

  pub is_won : moved_on w.shape w.opening w.history p w.index ≡ won
  is_won =
      ap (λ stage. moved_at w.shape w.opening w.history p stage w.index) is
      ∙ ap (λ test. process_after w.opening w.history p (stages.StampSwap top)
      (cond test (made (record p.caller { state = state.Stamped; stamp = top + 1; stage = stages.Between Filling }) (answer.Stamped (top + 1)))
      (ends p.caller (answer.Later (Lost w.index)))))
      (eq-eqb w.index top same_index)

  -- what holds of the caller after it, as of the step
  from_step : (P : Process → Type 0) → P (moved_on w.shape w.opening w.history p (word keeps w s who p here opened)) → P won
  from_step P holds = subst P (ap (λ n. moved_on w.shape w.opening w.history p n) found_index ∙ is_won) holds

  active_not_stamped : p.caller.state ≢ state.Stamped
  active_not_stamped e = let no : state.Active ≡ state.Stamped = sym stamping.active ∙ e in cc

  in_slot : (entry : ℕ) → tag_of w.shape board entry ≤ 4 * length w.history + 3
  in_slot entry = s.board.tagged (entry % w.shape.ring) (mod-lt entry (let e = s.opened.limits.some_entry in omega (arith, e)))

  own_joins : (o : Process) (stage : TurnStage) → IsOwn w.shape board o stage → IsOwn w.shape later o stage
  own_joins o stage own = record {
    newer = own.newer;
    there = get_earlier w.history (commit ∷ []) (o.caller.stamp - 1) (commit_of o) own.there;
    tag = same stage own.tag;
  }
    where
      same : (x : TurnStage) → TagFits w.shape board o.caller.stamp o.caller.write_sig x → TagFits w.shape later o.caller.stamp o.caller.write_sig x
      same Filling f = f
      same (Signature j) f = f
      same Writing f = f
      same (Earlier entry) f = f
      same (EarlierWords entry j) f = f
      same (EarlierAgain entry) f = f
      same (Heap index) f = f
      same Before f = f
      same Complete f = f

  own_joins_at : (o : Process) (stage : Stage) → IsOwnAt w.shape board o stage → IsOwnAt w.shape later o stage
  own_joins_at o stages.Closed own = tt
  own_joins_at o stages.BeginIndex own = tt
  own_joins_at o (stages.BeginTag first entry) own = tt
  own_joins_at o (stages.ReadHeap addr) own = tt
  own_joins_at o (stages.Check why stage) own = tt
  own_joins_at o (stages.StampSlot first) own = tt
  own_joins_at o (stages.StampSwap first) own = tt
  own_joins_at o (stages.Turn stage) own = own_joins o stage own
  own_joins_at o (stages.Between stage) own = own_joins o stage own

  owners : (o : Process) → ((x : Owned) → Contains o.owned x → IsOwner w.opening w.regions board o x) → (q : Process) → o.front ≤ q.front
      → (x : Owned) → Contains o.owned x → IsOwner w.opening w.regions later q x
  owners o owns q front x among = owner_later w.shape w.opening w.regions s.opened.limits.some_entry board later s.board on refl o q front x (owns x among)

  now : IsProcess w.shape w.opening w.regions later won
  now =
      record {
        machine = from_step (λ (x : Process). core.IsSound w.shape x.caller) (machine keeps w s who p here opened);
        since = record {
          known = mine.since.known;
          since = λ e. mine.since.since
              (λ idle. let no : state.Active ≡ state.Idle = sym stamping.active ∙ idle in cc);
        };
        reader = reader_later w.shape w.opening w.regions s.opened.limits.some_entry board later s.board on won
            (from_step (λ (x : Process). core.IsSound w.shape x.caller) (machine keeps w s who p here opened))
            (from_step (λ (x : Process). IsReader w.shape w.opening w.regions board x) (told keeps w s who p here opened).reader);
        own = record {
          newer = omega (arith, s.board.counted, at_top);
          there = get_last w.history commit (top + 1 - 1) (omega (arith, at_top));
          tag = let t = in_slot (top + 1) in omega (arith, t, at_top);
        };
        lawful = from_step (λ (x : Process). IsLawful w.opening w.regions x)
            (lawful_at w.shape w.opening w.regions w.history p mine.lawful mine.machine p.caller.stage (word keeps w s who p here opened) opened
            mine.machine.stage mine.lawful.asks);
        owns = owners p mine.owns won (omega arith);
      }

  -- no write lies in an owned region: its gate was sealed before
  spared : (j : ℕ) → j < length p.caller.writes → ¬ IsOwned w.processes (word_at p.caller.writes j).addr
  spared j below own =
      let owner = (s.each own.who own.process own.here).owns own.owned own.among in
      let known = (s.each own.who own.process own.here).since.known in
      closed_after w.opening w.regions later.history own.owned.region (owner.entry - 1) (length w.history) owner.commit commit (word_at p.caller.writes j).addr
      (record { well_formed = s.opened.regions; legal = board_now.legal; rules = board_now.rules })
      (omega (arith, owner.some, owner.noted, known, s.board.counted))
      (get_earlier w.history (commit ∷ []) (owner.entry - 1) owner.commit owner.there) (get_last w.history commit (length w.history) refl) (inl owner.seals)
      (has_word p.caller.writes j below) own.inside

  pub commit_sound : Sound (with_commit w who p)
  commit_sound =
      record {
        complete = s.complete;
        opened = record { limits = s.opened.limits; regions = s.opened.regions; room = s.opened.room; heap = s.opened.heap };
        indexed = omega (arith, s.indexed, long);
        board = board_now;
        each = subst (λ (q : Process). (i : ℕ) (o : Process) → get_elem? (set w.processes who q) i ≡ some o → IsProcess w.shape w.opening w.regions later o)
            (sym is_won)
            (each_after w.processes who p won here now (λ i o away there. let old = s.each i o there in
            process_later w.shape w.opening w.regions s.opened.limits.some_entry board later s.board on o old (own_joins_at o o.caller.stage old.own)
            (owners o old.owns o (omega arith))));
        apart = subst (λ (q : Process). HaveOwnStamps (set w.processes who q)) (sym is_won)
            (apart_after w.processes who p won here s.apart (λ e. inr (λ i o there stamped eq.
            let c = commit_here w s i o there stamped in
            let at = slice_get_within w.history (o.caller.stamp - 1) _ c.there in
            omega (arith, at, c.later, eq, at_top))));
        belongs = λ k above below. subst (λ (q : Process). Belongs (set w.processes who q) k) (sym is_won) (elim (cases_lt k (length w.history)) [
          | inl old ↦ belongs_after w.processes who p won here k (λ stamped e. absurd (active_not_stamped stamped)) (s.belongs k above old)
          | inr new ↦ record {
            who = who;
            process = won;
            here = set_here w.processes who won p here;
            stamped = refl;
            stamp = omega (arith, new, below, long, at_top);
          }
        ]);
        own_apart = subst (λ (q : Process). OwnApart (set w.processes who q)) (sym is_won) (own_apart_after w.processes who p won here refl s.own_apart);
        memory = memory.swaps w.shape w s.complete (needs w s) s.memory who p top here is same_index spared;
      }
