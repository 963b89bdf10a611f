-- The rule of the table: its words and the views of its seats are a sound world.
use Rattle.std.specs.Prelude.{◌≡◌, ◌≢◌, ◌⊎◌, ℕ, ◌≤◌, ◌++◌, nat_lt, List, [], ◌∷◌, map, length, max, Option, Some, None, Contains, if◌then◌else◌}
use mathlib.Core.Option.{some}
use lib.ListN.{get_elem?}
use Rattle.atomic_table.specs.Table.{State}
use Rattle.tx_model.specs.declared.gate.Region.{Region}
use Rattle.tx_model.specs.declared.gate.TheConstants.{GATE_SEALED}
use Rattle.tx_model.specs.declared.history.Commit.{Commit}
use Rattle.tx_model.specs.declared.pass.PassState.TheVariants.{Idle, Stamped}
use Rattle.tx_model.specs.History.{HasWriters, IsBeginning, IsGoodHistory}
use Rattle.tx_model.specs.Shares.{Name, AreJoined, AreApartWithin, kept_half, given_half, joined}
use Rattle.tx_model.specs.Holders.{AreNamed, HaveAll, HaveOnce}
use Rattle.tx_model.specs.Made.{Made}
use Rattle.tx_model.specs.Calls.{merged}
use Rattle.tx_model.specs.Rule.{gate_at}
use Rattle.tx_model.specs.Pass.{AreStamps, OwnsRegion}
use Rattle.ring_core.specs.declared.shape.Shape.{Shape}
use Rattle.ring_core.specs.Outcomes.{idle}
use Rattle.ring_worlds.specs.declared.process.Process.{Process}
use Rattle.ring_worlds.specs.World.{World}
use Rattle.ring_worlds.specs.Sound.{Sound}
use Rattle.ring_worlds.specs.Runs.{resting}
use Rattle.ring_worlds.specs.Table.{words_of}
use Rattle.ring_words.specs.declared.table.About.{About}
use Rattle.ring_words.specs.declared.table.Knowledge.{Knowledge}

-- what a ring is made with: the part that the steps of callers depend on
pub record Given : Type 0 where
  pub shape : Shape
  pub opening : List ℕ
  pub regions : List Region

abbrev pub given_by : World → Given
given_by w = record { shape = w.shape; opening = w.opening; regions = w.regions }

abbrev pub given_of : {S : Type 0} → About S → Given
given_of about = record { shape = about.shape; opening = about.opening.value.items; regions = about.regions.value.items }

-- the same in the words of the contract of memories
abbrev pub made_of : {S : Type 0} → About S → Made S
made_of about = record { sense = about.sense.value; opening = about.opening.value.items; regions = about.regions.value.items; life = about.shape.life }

-- so many commits a caller knows to be complete: what it was told, and what its attempt reads from
abbrev pub front_of : Process → ℕ
front_of p = max p.front p.caller.start

-- ---- views
abbrev pub first_known : {S : Type 0} → About S → Option (Knowledge S)
first_known about =
    Some (record { about = about; process = resting about.shape; history = []; other = []; mine = []; share = [] ∷ []; steps = 0; found = 0; kind = None })

-- a caller that knows so many commits to be complete, and has no attempt
abbrev pub rested : Shape → Process → ℕ → Process
rested shape p front = record { caller = idle shape p.caller; front = front; reads = []; sealed = []; published = []; owned = p.owned }

abbrev pub fresh : Shape → ℕ → Process
fresh shape front = record (resting shape) { front = front }

-- two callers without an attempt as one, which knows what either knew
abbrev pub both_processes : Shape → Process → Process → Process
both_processes shape p q = record (rested shape p (max (front_of p) (front_of q))) { owned = p.owned ++ q.owned }

abbrev pub longer : List Commit → List Commit → List Commit
longer history other = if nat_lt (length history) (length other) then other else history

abbrev pub shorter : List Commit → List Commit → List Commit
shorter history other = if nat_lt (length history) (length other) then history else other

module _ {S : Type 0} where
  -- a seat that was joined into another stands for a caller that has done nothing
  abbrev pub process_of : Shape → Option (Knowledge S) → Process
  process_of shape None = resting shape
  process_of shape (Some known) = known.process

  abbrev pub share_of : Option (Knowledge S) → List Name
  share_of None = []
  share_of (Some known) = known.share

  abbrev pub mine_of : Option (Knowledge S) → List ℕ
  mine_of None = []
  mine_of (Some known) = known.mine

  -- a seat that is split keeps what it knows
  abbrev pub kept_part : Knowledge S → Knowledge S
  kept_part k = record k { share = kept_half k.share }

  -- the other one knows as much, and has done nothing
  abbrev pub given_part : Knowledge S → Knowledge S
  given_part k =
      record {
        about = k.about;
        process = fresh k.about.shape (front_of k.process);
        history = k.history;
        other = [];
        mine = [];
        share = given_half k.share;
        steps = 0;
        found = 0;
        kind = None;
      }

  -- two seats as one, which knows what either knew, and has what both had
  abbrev pub both_parts : Knowledge S → Knowledge S → Knowledge S
  both_parts k m =
      record {
        about = k.about;
        process = both_processes k.about.shape k.process m.process;
        history = longer k.history m.history;
        other = shorter k.history m.history;
        mine = merged k.mine m.mine;
        share = joined k.share m.share;
        steps = k.steps;
        found = k.found;
        kind = k.kind;
      }

  abbrev pub left_known : Option (Knowledge S) → Option (Knowledge S)
  left_known None = None
  left_known (Some k) = Some (kept_part k)

  abbrev pub right_known : Option (Knowledge S) → Option (Knowledge S)
  right_known None = None
  right_known (Some k) = Some (given_part k)

  abbrev pub both_known : Option (Knowledge S) → Option (Knowledge S) → Option (Knowledge S)
  both_known None other = None
  both_known (Some k) None = Some k
  both_known (Some k) (Some m) = Some (both_parts k m)

-- ---- the rule
-- the commit of a stamped caller is the last of its own, and the others are complete
pub record IsLast (p : Process) (mine : List ℕ) : Type 0 where
  pub before : List ℕ
  pub last : mine ≡ before ++ p.caller.stamp ∷ []
  pub complete : (own : ℕ) → Contains before own → own ≤ front_of p

-- what holds of a view by itself: what is known to be complete has happened, own commits are complete but for that of a stamped caller, the names are in order
pub record IsPlain {S : Type 0} (k : Knowledge S) : Type 0 where
  pub reached : front_of k.process ≤ length k.history
  pub rested : k.process.caller.state ≡ Idle → k.process.caller.start ≤ k.process.front
  pub mine : AreStamps (length k.history) k.mine
  pub settled : k.process.caller.state ≢ Stamped → (own : ℕ) → Contains k.mine own → own ≤ front_of k.process
  pub stamped : k.process.caller.state ≡ Stamped → IsLast k.process k.mine
  pub named : k.share ≢ []
  pub joined : AreJoined k.share
  pub apart : AreApartWithin k.share

-- what a seat knows of the history is a beginning of it
pub record IsSeat {S : Type 0} (about : About S) (history : List Commit) (k : Knowledge S) : Type 0 where
  pub told : k.about ≡ about
  pub known : IsBeginning k.history history
  pub other : IsBeginning k.other history
  pub shorter : length k.other ≤ length k.history
  pub plain : IsPlain k

-- the caller owns the region, or has a commit that seals it and isn't complete yet
abbrev pub Holds : Process → Region → Type 0
Holds p region = OwnsRegion p.owned region ⊎ ((p.caller.state ≡ Stamped) × Contains p.sealed region)

-- some caller does
pub record HasOwner {S : Type 0} (views : List (Option (Knowledge S))) (region : Region) : Type 0 where
  pub seat : ℕ
  pub knowledge : Knowledge S
  pub here : get_elem? views seat ≡ some (Some knowledge)
  pub owns : Holds knowledge.process region

-- there is a sound world, which has the table's words and the callers of its seats
pub record IsRing {S : Type 0} (good : S → List ℕ → List ℕ → Type 0) (budget : S → List ℕ → ℕ) (about : About S)
    (s : State ℕ (Option (Knowledge S))) : Type 0 where
  pub world : World
  pub made : given_by world ≡ given_of about
  pub sound : Sound world
  pub words : s.words ≡ words_of world
  pub callers : map (process_of about.shape) s.views ≡ world.processes
  -- each commit wrote something, and led from a good state to a good one with a lower budget
  pub writers : HasWriters world.history
  pub good_states : IsGoodHistory (good (made_of about).sense (made_of about).opening) (budget (made_of about).sense) (made_of about).opening world.history
  pub seats : (i : ℕ) (k : Knowledge S) → get_elem? s.views i ≡ some (Some k) → IsSeat about world.history k
  -- the names of different seats are apart, and each commit is one seat's own
  pub names : AreNamed share_of s.views
  pub all : HaveAll mine_of s.views (length world.history)
  pub once : HaveOnce mine_of s.views
  -- a region whose gate is sealed in the last state has an owner
  pub owners : (region : Region) → Contains (made_of about).regions region
      → gate_at (made_of about).opening world.history (length world.history) region ≡ GATE_SEALED → HasOwner s.views region
