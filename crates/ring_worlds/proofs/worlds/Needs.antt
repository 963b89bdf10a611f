-- A sound world gives the part on memory what it needs.
use Rattle.std.proofs.Common.{◌≡◌, ◌⊎◌, ℕ, ◌+◌, ◌-◌, ◌*◌, ◌<◌, ◌≤◌, ◌==◌, List, Some, length, slice_get, Contains, IsTrue, refl, sym, ◌∙◌, subst, arith, inl, inr}
use mathlib.Core.Option.{some}
use lib.ListN.{get_elem?}
use Rattle.std.proofs.lemmas.Bool.{eqb-true}
use Rattle.std.proofs.lemmas.List.{get_or_default}
use Rattle.std.proofs.lemmas.List.Folds.{Any-from_list_any}
use Rattle.tx_model.specs.declared.gate.Region.{Region}
use Rattle.tx_model.specs.declared.view.Owned.{Owned}
use Rattle.tx_model.specs.declared.history.Commit.{Commit}
use Rattle.tx_model.specs.declared.pass.PassState.TheVariants as state
use Rattle.tx_model.specs.declared.word.Word.{Word}
use Rattle.tx_model.specs.Words.{no_word, word_at, HasAddress}
use Rattle.tx_model.specs.Made.{IsIn}
use Rattle.tx_model.specs.declared.gate.TheConstants.{GATE_SEALED}
use Rattle.tx_model.specs.History.{state_at}
use Rattle.tx_model.specs.Attempt.{has_region}
use Rattle.tx_model.specs.RuleLaws.{IsRuled}
use Rattle.tx_model.proofs.lemmas.Gates.{closed_after}
use Rattle.tx_model.proofs.lemmas.Regions.{same_word, same_gate}
use Rattle.ring_core.specs.declared.shape.Shape.{Shape}
use Rattle.ring_core.specs.declared.stage.Stage.{Stage}
use Rattle.ring_core.specs.declared.stage.Stage.TheVariants as stages
use Rattle.ring_core.specs.declared.stage.TurnStage.{TurnStage}
use Rattle.ring_core.specs.declared.stage.TurnStage.TheVariants.{Filling, Signature, Writing, Earlier, EarlierWords, EarlierAgain, Heap, Before, Complete}
use Rattle.ring_core.specs.Sound as core
use Rattle.ring_worlds.specs.declared.process.Process.{Process}
use Rattle.ring_worlds.specs.World.{World, Board, board_of, tag_of, commit_of}
use Rattle.ring_worlds.specs.Own.{TagFits, IsOwn, IsOwnAt}
use Rattle.ring_worlds.specs.Stored.{stored_in, stored_at}
use Rattle.ring_worlds.specs.Memory.{IsOwned}
use Rattle.ring_worlds.specs.Sound.{Sound}
use Rattle.ring_worlds.proofs.memory.Needs.{Needs, HasCommit}
use Rattle.ring_worlds.proofs.worlds.Regions.{not_sealed_again}

-- a word of a list has its address
pub has_word : (words : List Word) (j : ℕ) → j < length words → HasAddress words (word_at words j).addr
has_word words j below = (j, word_at words j, below, get_or_default words j (word_at words j) no_word below, refl)

-- ---- a stamped caller is at a stage of a turn
module _ (shape : Shape) (b : Board) (p : Process) where
  pub has_commit : (stage : Stage) → p.caller.state ≡ state.Stamped → core.IsStage shape p.caller stage → IsOwnAt shape b p stage
      → p.caller.stage ≡ stage → HasCommit b.complete b.history p
  has_commit (stages.Turn stage) stamped fits own is = record { later = own.newer; there = own.there; last = last stage own is }
    where
      last : (at : TurnStage) → IsOwn shape b p at → p.caller.stage ≡ stages.Turn at → p.caller.stage ≡ stages.Turn Complete → p.caller.stamp ≡ b.complete + 1
      last at o here e = same at o (let h : stages.Turn at ≡ stages.Turn Complete = sym here ∙ e in cc)
        where
          same : (x : TurnStage) → IsOwn shape b p x → x ≡ Complete → p.caller.stamp ≡ b.complete + 1
          same x o' eq = let tag = (subst (IsOwn shape b p) eq o').tag in sym tag.1
  has_commit (stages.Between stage) stamped fits own is = record
      { later = own.newer; there = own.there; last = λ e. absurd (let h : stages.Between stage ≡ stages.Turn Complete = sym is ∙ e in cc) }
  has_commit stages.Closed stamped fits own is = absurd (fits stamped)
  has_commit stages.BeginIndex stamped fits own is = absurd (let e : state.Stamped ≡ state.Idle = sym stamped ∙ fits in cc)
  has_commit (stages.BeginTag top at) stamped fits own is = absurd (let e : state.Stamped ≡ state.Idle = sym stamped ∙ fits.0 in cc)
  has_commit (stages.ReadHeap addr) stamped fits own is = absurd (let e : state.Stamped ≡ state.Active = sym stamped ∙ fits.0 in cc)
  has_commit (stages.Check purpose at) stamped fits own is = absurd (let e : state.Stamped ≡ state.Active = sym stamped ∙ fits.0 in cc)
  has_commit (stages.StampSlot top) stamped fits own is = absurd (let e : state.Stamped ≡ state.Active = sym stamped ∙ fits.active in cc)
  has_commit (stages.StampSwap top) stamped fits own is = absurd (let e : state.Stamped ≡ state.Active = sym stamped ∙ fits.active in cc)

  -- where it has stored a word, its tag is `writing`
  begun_at : (stage : TurnStage) → TagFits shape b p.caller.stamp p.caller.write_sig stage → 0 < stored_in p.caller stage
      → tag_of shape b p.caller.stamp ≡ 4 * p.caller.stamp + 2
  begun_at Filling f none = absurd (omega (arith, none))
  begun_at (Signature j) f none = absurd (omega (arith, none))
  begun_at Writing f none = absurd (omega (arith, none))
  begun_at (Earlier entry) f stores = f
  begun_at (EarlierWords entry j) f stores = f
  begun_at (EarlierAgain entry) f stores = f
  begun_at (Heap index) f stores = f
  begun_at Before f stores = f
  begun_at Complete f stores = f.0

  pub has_begun : (stage : Stage) → IsOwnAt shape b p stage → 0 < stored_at p.caller stage → tag_of shape b p.caller.stamp ≡ 4 * p.caller.stamp + 2
  has_begun (stages.Turn stage) own stores = begun_at stage own.tag stores
  has_begun (stages.Between stage) own stores = begun_at stage own.tag stores
  has_begun stages.Closed own stores = absurd (omega (arith, stores))
  has_begun stages.BeginIndex own stores = absurd (omega (arith, stores))
  has_begun (stages.BeginTag top at) own stores = absurd (omega (arith, stores))
  has_begun (stages.ReadHeap addr) own stores = absurd (omega (arith, stores))
  has_begun (stages.Check purpose at) own stores = absurd (omega (arith, stores))
  has_begun (stages.StampSlot top) own stores = absurd (omega (arith, stores))
  has_begun (stages.StampSwap top) own stores = absurd (omega (arith, stores))

-- ---- a sound world
module _ (w : World) (s : Sound w) where
  abbrev pub b : Board
  b = board_of w s.complete

  pub ruled : IsRuled w.opening w.regions w.history
  ruled = record { well_formed = s.opened.regions; legal = s.board.legal; rules = s.board.rules }

  pub as_many : length w.heap ≡ length w.opening
  as_many = s.opened.heap ∙ sym s.opened.room

  pub commit_here : (i : ℕ) (p : Process) → get_elem? w.processes i ≡ some p → p.caller.state ≡ state.Stamped → HasCommit s.complete w.history p
  commit_here i p here stamped = let me = s.each i p here in has_commit w.shape b p p.caller.stage stamped me.machine.stage me.own refl

  pub known : (i : ℕ) (p : Process) (o : Owned) → get_elem? w.processes i ≡ some p → Contains p.owned o → Contains w.regions o.region
  known i p o here among = ((s.each i p here).owns o among).ownable.region

  pub sealed_known : (i : ℕ) (p : Process) (region : Region) → get_elem? w.processes i ≡ some p → Contains p.sealed region → Contains w.regions region
  sealed_known i p region here among = ((s.each i p here).lawful.follows.uses.seals region among).0

  lies : (region : Region) → Contains w.regions region → region.base + region.len ≤ length w.heap
  lies region among = let l = (s.opened.regions.lie_in region among).1 in omega (arith, l, as_many)

  -- a published region is one of those with its gate
  published_is : (one : Commit) (region : Region) (i : ℕ) → slice_get w.history i ≡ Some one → Contains w.regions region
      → IsTrue (has_region one.published region) → Contains one.published region
  published_is one region i there among is =
      let (k, other, below, at, gate) = Any-from_list_any (λ (x : Region). x.gate == region.gate) one.published is in
      let publishes : Contains one.published other = (k, below, at) in
      let same = same_gate w.regions other region s.opened.regions.gates_apart ((s.board.rules i one there).uses.publishes other publishes).0 among
      (eqb-true _ _ gate) in
      subst (Contains one.published) same publishes

  closed : (i k : ℕ) (one other : Commit) (region : Region) (j : ℕ) → i < k → slice_get w.history i ≡ Some one
      → slice_get w.history k ≡ Some other → Contains w.regions region → Contains one.sealed region ⊎ IsTrue (has_region one.published region)
      → j < length other.writes → ¬ IsIn (word_at other.writes j).addr region
  closed i k one other region j before there there' among ends below inside =
      closed_after w.opening w.regions w.history region i k one other (word_at other.writes j).addr ruled before there there'
      (elim ends [
        | inl sealed ↦ inl sealed
        | inr published ↦ inr (published_is one region i there among published)
      ]) (has_word other.writes j below) inside

  -- a region that the next commit to complete seals is nobody's: its gate would be sealed before
  pub unowned : (i : ℕ) (p : Process) (region : Region) (addr : ℕ) → get_elem? w.processes i ≡ some p → p.caller.state ≡ state.Stamped
      → p.caller.stamp ≡ s.complete + 1 → Contains p.sealed region → IsIn addr region → ¬ IsOwned w.processes addr
  unowned i p region addr here stamped next seals inside own =
      let owner = (s.each own.who own.process own.here).owns own.owned own.among in
      let same : own.owned.region ≡ region = same_word w.opening w.regions own.owned.region region addr s.opened.regions owner.ownable.region
      (sealed_known i p region here seals) own.inside inside in
      let commit = commit_here i p here stamped in
      let there : slice_get w.history s.complete ≡ Some (commit_of p) =
      subst (λ k. slice_get w.history k ≡ Some (commit_of p)) (let e : p.caller.stamp - 1 ≡ s.complete = omega (arith, next) in e) commit.there in
      not_sealed_again w.opening w.regions w.history ruled region (sealed_known i p region here seals) s.complete (commit_of p) there
      (subst (λ (r : Region). slice_get (state_at w.opening w.history s.complete) r.gate ≡ Some GATE_SEALED) same owner.still) seals

  pub needs : Needs w.shape s.complete w
  needs =
      record {
        limits = s.opened.limits;
        indexed = s.indexed;
        reached = s.board.counted;
        once = λ k commit there. (s.board.rules k commit there).placed.apart;
        each = λ i p here.
            let me = s.each i p here in
            record { machine = me.machine; behind = me.reader.behind; signed = me.machine.sized.signed; own = λ stamped. commit_here i p here stamped };
        apart = s.apart;
        lies = λ i p o here among. lies o.region (known i p o here among);
        sealed_lies = λ i p region here among. lies region (sealed_known i p region here among);
        known = known;
        sealed_known = sealed_known;
        closed = closed;
        alone = s.own_apart;
        unowned = unowned;
        sized = as_many;
        belongs = s.belongs;
        finished = s.board.done;
        begun = λ i p here stamped stores. has_begun w.shape b p p.caller.stage (s.each i p here).own stores;
      }
