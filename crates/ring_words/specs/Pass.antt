-- What a pass of the ring stands for.
use Rattle.std.specs.Prelude.{◌≡◌, ◌≢◌, ℕ, ◌*◌, List, [], ◌∷◌, Option, Some}
use mathlib.Core.Option.{some}
use lib.ListN.{get_elem?}
use Rattle.atomic_table.specs.declared.shared.Seat.{Seat}
use Rattle.atomic_table.specs.Seated.{TableId}
use Rattle.tx_model.specs.declared.gate.Region.{Region}
use Rattle.tx_model.specs.declared.history.Commit.{Commit}
use Rattle.tx_model.specs.declared.pass.PassState.{PassState}
use Rattle.tx_model.specs.declared.pass.PassState.TheVariants.{Idle, Active, Stamped}
use Rattle.tx_model.specs.declared.pass.Stop.{Stop}
use Rattle.tx_model.specs.declared.pass.Stop.TheVariants.{Met, Overrun}
use Rattle.tx_model.specs.declared.view.Attempt.{Attempt}
use Rattle.tx_model.specs.declared.view.PassView.{PassView}
use Rattle.tx_model.specs.Rule.{AttemptFollows}
use Rattle.tx_model.specs.Made.{Made, IsMade}
use Rattle.tx_model.specs.Opacity.{ShowsConflict, ShowsOverrun}
use Rattle.tx_model.specs.Pass.{IsPass}
use Rattle.ring_core.specs.declared.shape.Shape.{Shape}
use Rattle.ring_core.specs.declared.caller.Caller.{Caller}
use Rattle.ring_core.specs.declared.kind.Kind.{Kind}
use Rattle.ring_core.specs.declared.action.Progress.{Progress}
use Rattle.ring_core.specs.declared.stage.Stage.{Stage}
use Rattle.ring_core.specs.declared.stage.Stage.TheVariants.{StampSwap}
use Rattle.ring_core.specs.Machine.{Machine, IsClosed, at_stage}
use Rattle.ring_core.specs.Outcomes.{made, opening, absorbed}
use Rattle.ring_core.specs.Sound as core
use Rattle.ring_worlds.specs.declared.process.Process.{Process}
use Rattle.ring_worlds.specs.World.{World, attempt_of, with_process}
use Rattle.ring_worlds.specs.Sound.{Sound}
use Rattle.ring_worlds.specs.Runs.{resting}
use Rattle.ring_words.specs.declared.table.About.{About}
use Rattle.ring_words.specs.declared.table.Knowledge.{Knowledge}
use Rattle.ring_words.specs.declared.pass.Note.{Note}
use Rattle.ring_words.specs.declared.pass.RingPass.{RingPass}
use Rattle.ring_words.specs.declared.ring.Ring.{Ring}
use Rattle.ring_words.specs.Ring.{Given, given_by, given_of, made_of, front_of, process_of}
pub use Rattle.ring_words.specs.Known.{history_known, front_known, owned_known, steps_known, found_known, kind_known, view_known}
use Rattle.ring_words.specs.Sealings.{seals_of}
use Rattle.ring_words.specs.Told.{KeepsCommit, Knows, Loaded, Swapped}

-- a caller of no ring
abbrev pub nobody : Process
nobody = resting (record { ring = 1; sig_words = 1; heap = 1; life = 1 })

-- ---- the caller since its last step
-- what is noted of an attempt, where there is one
abbrev pub noted_in : {X : Type 0} → PassState → List X → List X
noted_in Idle noted = []
noted_in Active noted = noted
noted_in Stamped noted = noted

-- what the last attempt read from is complete
abbrev pub front_in : PassState → Process → ℕ
front_in Idle p = front_of p
front_in Active p = p.front
front_in Stamped p = p.front

-- the caller with this machine, which is in this state
abbrev pub process_by : PassState → Process → Caller → Process
process_by state p c =
    record {
      caller = c;
      front = front_in state p;
      reads = noted_in state p.reads;
      sealed = noted_in state p.sealed;
      published = noted_in state p.published;
      owned = p.owned;
    }

abbrev pub process_with : Process → Caller → Process
process_with p c = process_by c.state p c

-- what a caller does without a step keeps every world of this ring sound
abbrev pub MayBecome : Given → Process → Process → Type 0
MayBecome given p q = (w : World) (who : ℕ) → given_by w ≡ given → Sound w → get_elem? w.processes who ≡ some p → Sound (with_process w who q)

-- what a caller has become by moves alone: a stamped one stays so, with its commit
pub record HasMoved (given : Given) (p q : Process) : Type 0 where
  pub may : MayBecome given p q
  pub machine : core.IsSound given.shape q.caller
  pub stays : p.caller.state ≡ Stamped → q.caller.state ≡ Stamped
  pub stamped : q.caller.state ≡ Stamped → KeepsCommit p q
  pub active : q.caller.state ≡ Active → p.caller.state ≡ Active
  pub start : q.caller.start ≡ p.caller.start
  pub follows : AttemptFollows given.opening given.regions (attempt_of q)

-- ---- a pass
module _ {S : Type 0} where
  abbrev pub process_now : RingPass S → Process
  process_now pass = process_with (process_of pass.local.shape pass.seat.me.0) pass.local.caller

  abbrev pub view_of : RingPass S → PassView
  view_of pass = view_known pass.local.caller.state pass.seat.me.0

  abbrev pub attempt_now : RingPass S → Attempt
  attempt_now pass = attempt_of (process_now pass)

  -- how many steps it has made, the word that the last one found, and its kind
  abbrev pub steps_made : RingPass S → ℕ
  steps_made pass = steps_known pass.seat.me.0

  abbrev pub last_found : RingPass S → ℕ
  last_found pass = found_known pass.seat.me.0

  abbrev pub last_kind : RingPass S → Option Kind
  last_kind pass = kind_known pass.seat.me.0

  -- the pass with another machine
  abbrev pub with_local : RingPass S → Machine → RingPass S
  with_local pass local = record { local = local; seat = pass.seat; seals = pass.seals }

  -- the pass with a request open at this stage
  abbrev pub staged : RingPass S → Stage → RingPass S
  staged pass stage = with_local pass (at_stage pass.local stage)

-- a seat at the table whose caller isn't stamped
pub record IsSeatOf {S : Type 0} (good : S → List ℕ → List ℕ → Type 0) (budget : S → List ℕ → ℕ) (about : About S) (table : TableId)
    (seat : Seat ℕ (Option (Knowledge S))) : Type 0 where
  pub at_table : seat.table_id ≡ table
  pub no_slot : seat.me.1 ≡ []
  pub knowledge : Knowledge S
  pub known : seat.me.0 ≡ Some knowledge
  pub told : knowledge.about ≡ about
  pub settled : knowledge.other ≡ []
  pub knows : Knows good budget knowledge
  pub free : knowledge.process.caller.state ≢ Stamped
  -- no call of the ring seals a region
  pub unowned : knowledge.process.owned ≡ []
  pub unsealed : knowledge.process.sealed ≡ []

-- a pass at the table, also in the middle of a request
pub record IsSeated {S : Type 0} (good : S → List ℕ → List ℕ → Type 0) (budget : S → List ℕ → ℕ) (about : About S) (table : TableId)
    (pass : RingPass S) : Type 0 where
  pub at_table : pass.seat.table_id ≡ table
  pub no_slot : pass.seat.me.1 ≡ []
  pub shaped : pass.local.shape ≡ about.shape
  pub knowledge : Knowledge S
  pub known : pass.seat.me.0 ≡ Some knowledge
  pub told : knowledge.about ≡ about
  pub settled : knowledge.other ≡ []
  pub knows : Knows good budget knowledge
  pub moved : HasMoved (given_of about) knowledge.process (process_with knowledge.process pass.local.caller)
  -- no call of the ring seals a region
  pub unowned : knowledge.process.owned ≡ []
  pub unsealed : knowledge.process.sealed ≡ []

-- a pass of this ring, between two calls
pub record IsPassOf {S : Type 0} (allows : S → List Region → Type 0) (good : S → List ℕ → List ℕ → Type 0) (budget : S → List ℕ →
    ℕ) (about : About S) (table : TableId) (pass : RingPass S) : Type 0 where
  pub is_made : IsMade allows good (made_of about)
  pub seated : IsSeated good budget about table pass
  pub closed : IsClosed pass.local
  -- so many of its own commits seal a region
  pub counted : pass.seals ≡ seals_of (view_of pass).history (view_of pass).mine
  pub is_pass : IsPass good budget (made_of about) (view_of pass) (attempt_now pass)

-- one step of a pass: its seat found a word, and its machine took it in
pub record Stepped {S : Type 0} (good : S → List ℕ → List ℕ → Type 0) (budget : S → List ℕ → ℕ) (old new : RingPass S) (progress : Progress) : Type 0 where
  pub word : ℕ
  pub seat : Loaded good budget (process_now old) word old.seat.me new.seat.me
  pub outcome : made new.local.caller progress ≡ absorbed old.local.shape old.local.caller word
  pub same_table : new.seat.table_id ≡ old.seat.table_id
  pub shape : new.local.shape ≡ old.local.shape
  pub seals : new.seals ≡ old.seals

-- the seat of a pass found a word, which its machine has yet to take in
pub record Found {S : Type 0} (good : S → List ℕ → List ℕ → Type 0) (budget : S → List ℕ → ℕ) (old new : RingPass S) (word : ℕ) : Type 0 where
  pub seat : Loaded good budget (process_now old) word old.seat.me new.seat.me
  pub same_table : new.seat.table_id ≡ old.seat.table_id
  pub seals : new.seals ≡ old.seals

-- the swap of a pass: its seat found an index, and its machine took it in
pub record Exchanged {S : Type 0} (good : S → List ℕ → List ℕ → Type 0) (budget : S → List ℕ → ℕ) (old new : RingPass S) (progress : Progress) : Type 0 where
  pub from : ℕ
  pub stage : old.local.caller.stage ≡ StampSwap from
  pub word : ℕ
  pub seat : Swapped good budget (process_now old) from word old.seat.me new.seat.me
  pub outcome : made new.local.caller progress ≡ absorbed old.local.shape old.local.caller word
  pub same_table : new.seat.table_id ≡ old.seat.table_id
  pub shape : new.local.shape ≡ old.local.shape
  pub seals : new.seals ≡ old.seals

-- ---- what the calls speak of
abbrev pub made_with : {S : Type 0} → S → List ℕ → List Region → ℕ → Made S
made_with sense opening regions life = record { sense = sense; opening = opening; regions = regions; life = life }

abbrev pub shape_with : ℕ → ℕ → ℕ → ℕ → Shape
shape_with ring sig_words heap life = record { ring = ring; sig_words = sig_words; heap = heap; life = life }

-- the pass that a history begins with
abbrev pub first_pass : PassView
first_pass = record { state = Idle; history = []; front = 0; mine = []; owned = []; share = [] ∷ [] }

-- what shows that an attempt had to stop
abbrev pub shows_in : Shape → List Commit → ℕ → List ℕ → Stop → Type 0
shows_in shape history start read (Met stamp) = ShowsConflict (64 * shape.sig_words) history start read stamp
shows_in shape history start read (Overrun stamp seen) = ShowsOverrun shape.ring history start stamp seen

module _ {S : Type 0} where
  -- what the ring was made with
  abbrev pub made_by : Ring S → Made S
  made_by ring = made_of ring.words.shared.key

  abbrev pub shape_by : Ring S → Shape
  shape_by ring = ring.words.shared.key.shape

  abbrev pub shows_by : Ring S → List Commit → ℕ → List ℕ → Stop → Type 0
  shows_by ring = shows_in (shape_by ring)

  -- the pass is one of this ring, with what a sense says of its memories
  abbrev pub IsOf : (S → List Region → Type 0) → (S → List ℕ → List ℕ → Type 0) → (S → List ℕ → ℕ) → Ring S → RingPass S → Type 0
  IsOf allows good budget ring pass = IsPassOf allows good budget ring.words.shared.key ring.words.shared.table_id pass

  -- what was noted, as a pass without an attempt
  abbrev pub seat_view : Seat ℕ (Option (Knowledge S)) → PassView
  seat_view seat = view_known Idle seat.me.0

  abbrev pub note_view : Note S → PassView
  note_view note = seat_view note.seat

  abbrev pub IsNoteOf : (S → List ℕ → List ℕ → Type 0) → (S → List ℕ → ℕ) → Ring S → Note S → Type 0
  IsNoteOf good budget ring note = IsSeatOf good budget ring.words.shared.key ring.words.shared.table_id note.seat × ((note_view note).mine ≡ [])

  -- its caller has done nothing yet
  abbrev pub IsResting : About S → Seat ℕ (Option (Knowledge S)) → Type 0
  IsResting about seat = (process_of about.shape seat.me.0).caller ≡ opening about.shape
