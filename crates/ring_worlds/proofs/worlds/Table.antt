-- The load of the index on a table, from the law of its kind on worlds.
use Rattle.std.proofs.Common.{◌≡◌, ℕ, zero, suc, List, [], ◌∷◌, Option, Some, map, set, true, refl, sym, ◌∙◌, ap, subst, inl, inr}
use mathlib.Core.Option.{some, some-injective, some-ne-none}
use lib.ListN.{get_elem?}
use Rattle.std.proofs.lemmas.List.{append-nil}
use Rattle.tx_model.specs.declared.gate.Region.{Region}
use Rattle.tx_model.specs.History.{IsBeginning}
use Rattle.ring_core.specs.declared.shape.Shape.{Shape}
use Rattle.ring_core.specs.declared.action.Action.TheVariants.{LoadIndex}
use Rattle.ring_core.specs.declared.kind.Kind.TheVariants as kind
use Rattle.ring_core.specs.declared.stage.Stage.{Stage}
use Rattle.ring_core.specs.declared.stage.Stage.TheVariants.{Closed, BeginIndex, BeginTag, ReadHeap, Check, StampSlot, StampSwap, Turn, Between}
use Rattle.ring_core.specs.declared.stage.CheckStage.TheVariants.{Index, First, Words, Second}
use Rattle.ring_core.specs.declared.stage.TurnStage.TheVariants.{Filling, Signature, Writing, Earlier, EarlierWords, EarlierAgain, Heap, Before, Complete}
use Rattle.ring_core.specs.Kinds.{kind_at}
use Rattle.ring_core.specs.Request.{is_open, action_at, next_action}
use Rattle.ring_core.specs.Words.{CanAbsorb}
use Rattle.ring_worlds.specs.declared.process.Process.{Process}
use Rattle.ring_worlds.specs.World.{World, moved_on, with_process}
use Rattle.ring_worlds.specs.Sound.{Sound}
use Rattle.ring_worlds.specs.Steps.{Steps, found, seen}
use Rattle.ring_worlds.specs.Laws.{KindKeeps, MayAbsorb}
use Rattle.ring_worlds.specs.Table.{Knowledge, words_of, process_of, MayBecome, HasLoadedIndex, IndexLoadOnTable}
use Rattle.ring_worlds.proofs.lemmas.Lists.{at_map, at_set, map_set, set_here, set_twice}

-- the stages at which the index is loaded
loads_index : (shape : Shape) (p : Process) (stage : Stage) → action_at shape p.caller stage ≡ LoadIndex
    → (kind_at stage ≡ Some kind.LoadIndex) × (is_open stage ≡ true)
loads_index shape p BeginIndex e = (refl, refl)
loads_index shape p (Check why Index) e = (refl, refl)
loads_index shape p Closed e = absurd cc
loads_index shape p (Between stage) e = absurd cc
loads_index shape p (BeginTag top at) e = absurd cc
loads_index shape p (ReadHeap addr) e = absurd cc
loads_index shape p (Check why (First walk)) e = absurd cc
loads_index shape p (Check why (Words walk word)) e = absurd cc
loads_index shape p (Check why (Second walk)) e = absurd cc
loads_index shape p (StampSlot top) e = absurd cc
loads_index shape p (StampSwap top) e = absurd cc
loads_index shape p (Turn Filling) e = absurd cc
loads_index shape p (Turn (Signature j)) e = absurd cc
loads_index shape p (Turn Writing) e = absurd cc
loads_index shape p (Turn (Earlier at)) e = absurd cc
loads_index shape p (Turn (EarlierWords at j)) e = absurd cc
loads_index shape p (Turn (EarlierAgain at)) e = absurd cc
loads_index shape p (Turn (Heap at)) e = absurd cc
loads_index shape p (Turn Before) e = absurd cc
loads_index shape p (Turn Complete) e = absurd cc

-- over the world that the table stands for
module _ (law : KindKeeps kind.LoadIndex) (absorbs : MayAbsorb) (w : World) (s : Sound w) (seats : List (Option Knowledge)) (seat : ℕ) (before : Knowledge)
    (moved : Process) (callers : map (process_of w.shape) seats ≡ w.processes)
    (known : (i : ℕ) (k : Knowledge) → get_elem? seats i ≡ some (Some k) → IsBeginning k.history w.history) (here : get_elem? seats seat ≡ some (Some before))
    (may : MayBecome before.process moved) (acts : next_action w.shape moved.caller ≡ LoadIndex) where
  is_caller : get_elem? w.processes seat ≡ some before.process
  is_caller = subst (λ l. get_elem? l seat ≡ some before.process) callers (at_map (process_of w.shape) seats seat (Some before) here)

  -- first the caller becomes what it was moved to
  abbrev between : World
  between = with_process w seat moved

  between_sound : Sound between
  between_sound = may w seat s is_caller

  moved_here : get_elem? between.processes seat ≡ some moved
  moved_here = set_here w.processes seat moved before.process is_caller

  loads : (kind_at moved.caller.stage ≡ Some kind.LoadIndex) × (is_open moved.caller.stage ≡ true)
  loads = loads_index w.shape moved moved.caller.stage acts

  -- and then it loads the index
  abbrev after : World
  after = seen between seat moved w.index

  step : Steps between seat kind.LoadIndex after
  step = record { process = moved; here = moved_here; is_kind = loads.0; steps = (acts, refl) }

  found_is : found between (next_action w.shape moved.caller) ≡ w.index
  found_is = ap (found between) acts

  pub loaded : HasLoadedIndex w.shape w.regions w.opening (words_of w) seats seat before moved
  loaded =
      let now : Knowledge = record { process = moved_on w.shape w.opening w.history moved w.index; history = w.history } in
      record {
        history = w.history;
        longer = known seat before here;
        long = sym s.indexed;
        can = subst (CanAbsorb w.shape moved.caller) found_is (absorbs between seat moved between_sound moved_here loads.1);
        rule = record {
          world = after;
          made = (refl, refl, refl);
          sound = (law between after seat between_sound step).0;
          stands = refl;
          callers =
              map_set (process_of w.shape) seats seat (Some now)
              ∙ ap (λ l. set l seat now.process) callers
              ∙ sym (set_twice w.processes seat moved now.process);
          known = λ i k e. elim (at_set seats seat i (Some now) (Some k) e) [
            | inl (at, is) ↦ subst (λ (x : Knowledge). IsBeginning x.history w.history) (let same : now ≡ k = cc in same) ([], sym (append-nil w.history))
            | inr (other, was) ↦ known i k was
          ];
        };
      }

pub index_load_on_table : KindKeeps kind.LoadIndex → MayAbsorb → IndexLoadOnTable
index_load_on_table law absorbs shape regions opening words seats seat before moved table here may acts =
    let w : World = table.world in
    subst (λ (x : Shape). HasLoadedIndex x regions opening words seats seat before moved) table.made.0
    (subst (λ (x : List Region). HasLoadedIndex w.shape x opening words seats seat before moved) table.made.1
    (subst (λ (x : List ℕ). HasLoadedIndex w.shape w.regions x words seats seat before moved) table.made.2
    (subst (λ (x : List ℕ). HasLoadedIndex w.shape w.regions w.opening x seats seat before moved) (sym table.stands)
    (loaded law absorbs w table.sound seats seat before moved (subst (λ (x : Shape). map (process_of x) seats ≡ w.processes) (sym table.made.0) table.callers)
    table.known here may
    (subst (λ (x : Shape). next_action x moved.caller ≡ LoadIndex) (sym table.made.0) acts)))))
