-- A region that a caller owns is its own.
use Rattle.std.proofs.Common.{◌≡◌, ◌≢◌, ℕ, ◌+◌, ◌-◌, ◌<◌, ◌≤◌, List, Some, set, Contains, sym, ◌∙◌, ap, subst, arith, inl, inr}
use mathlib.Core.Option.{some}
use lib.ListN.{get_elem?}
use Rattle.std.proofs.lemmas.Bool.{cases_lt}
use Rattle.tx_model.specs.declared.gate.TheConstants.{GATE_UNUSED, GATE_OPEN, GATE_SEALED, GATE_PACKED}
use Rattle.tx_model.specs.declared.view.Owned.{Owned}
use Rattle.tx_model.specs.declared.pass.PassState.TheVariants as state
use Rattle.tx_model.specs.Words.{value_of, HasAddress}
use Rattle.tx_model.specs.Made.{IsIn}
use Rattle.tx_model.specs.History.{state_at}
use Rattle.tx_model.specs.Rule.{WasOpen}
use Rattle.tx_model.specs.RuleLaws.{IsRuled}
use Rattle.tx_model.proofs.lemmas.Values.{value_agrees}
use Rattle.ring_core.specs.declared.kind.Kind.{Kind}
use Rattle.ring_core.specs.declared.kind.Kind.TheVariants as kind
use Rattle.ring_worlds.specs.declared.process.Process.{Process}
use Rattle.ring_worlds.specs.World.{World}
use Rattle.ring_worlds.specs.Owner.{IsOwner}
use Rattle.ring_worlds.specs.Memory.{IsOwned}
use Rattle.ring_worlds.specs.Sound.{Sound, IsProcess}
use Rattle.ring_worlds.specs.Steps.{StepsTo}
use Rattle.ring_worlds.specs.Laws.{StepsKeep, IsPrivate, OwnedIsPrivate, OthersLeaveOwned}
use Rattle.ring_worlds.proofs.lemmas.Lists.{set_else}
use Rattle.ring_worlds.proofs.worlds.Needs.{b}
use Rattle.ring_worlds.proofs.worlds.Regions.{IsSealedAt, seals_gate, sealed_between}

module _ (w : World) (s : Sound w) (who : ℕ) (p : Process) (o : Owned) (here : get_elem? w.processes who ≡ some p) (owns : Contains p.owned o) where
  owner : IsOwner w.opening w.regions (b w s) p o
  owner = (s.each who p here).owns o owns

  ruled : IsRuled w.opening w.regions w.history
  ruled = record { well_formed = s.opened.regions; legal = s.board.legal; rules = s.board.rules }

  owned_at : (addr : ℕ) → IsIn addr o.region → IsOwned w.processes addr
  owned_at addr inside = record { who = who; process = p; here = here; owned = o; among = owns; inside = inside }

  sealed_then : IsSealedAt w.opening w.regions w.history ruled o.region owner.ownable.region owner.entry
  sealed_then =
      subst (IsSealedAt w.opening w.regions w.history ruled o.region owner.ownable.region)
      (let n : owner.entry - 1 + 1 ≡ owner.entry = omega (arith, owner.some) in n)
      (seals_gate w.opening w.regions w.history ruled o.region owner.ownable.region (owner.entry - 1) owner.commit owner.there owner.seals)

  module _ (i : ℕ) (q : Process) (addr : ℕ) (there : get_elem? w.processes i ≡ some q) (active : q.caller.state ≡ state.Active) (inside : IsIn addr o.region)
      (has : HasAddress q.reads addr) where
    reader : IsProcess w.shape w.opening w.regions (b w s) q
    reader = s.each i q there

    -- the gate was read as it is in a state with the region sealed
    read_as : owner.entry ≤ q.caller.start → (value : ℕ) → value_of q.reads o.region.gate ≡ Some value → value ≡ GATE_SEALED
    read_as since value read =
        sealed_between w.opening w.regions w.history ruled o.region owner.ownable.region owner.entry q.caller.start s.complete value since
        reader.reader.behind sealed_then owner.still
        (value_agrees q.reads (state_at w.opening w.history q.caller.start) o.region.gate value (reader.reader.agree active) read)

    was_open : owner.entry ≤ q.caller.start → WasOpen q.reads q.caller.writes o.region → ⊥
    was_open since (inl read) = let e = read_as since GATE_OPEN read in omega (arith, e)
    was_open since (inr (read, wrote)) = let e = read_as since GATE_UNUSED read in omega (arith, e)

    not_since : owner.entry ≤ q.caller.start → ⊥
    not_since since =
        elim (reader.lawful.follows.uses.reads_inside o.region addr owner.ownable.region inside has) [
          | inl opened ↦ was_open since opened
          | inr packed ↦ let e = read_as since GATE_PACKED packed in omega (arith, e)
        ]

    read_before : q.caller.start < owner.entry
    read_before =
        elim (cases_lt q.caller.start owner.entry) [
          | inl before ↦ before
          | inr since ↦ absurd (not_since since)
        ]

  private_to : IsPrivate w o
  private_to =
      record {
        contents = s.memory.contents who p o here owns;
        entry = owner.entry;
        commit = owner.commit;
        number = owner.some;
        there = owner.there;
        seals = owner.seals;
        readers = read_before;
        writers = λ i q index there stamped from below inside. s.memory.spared i q index there stamped from below (owned_at _ inside);
      }

pub owned_is_private : OwnedIsPrivate
owned_is_private w who p o s here owns = private_to w s who p o here owns

-- ---- the steps of others
module _ (w next : World) (who other : ℕ) (away : who ≢ other) (p q : Process) (here : get_elem? w.processes who ≡ some p) where
  others_stay : (r : Process) → next.processes ≡ set w.processes other r → get_elem? next.processes who ≡ some p
  others_stay r is = ap (λ (l : List Process). get_elem? l who) is ∙ set_else w.processes other who r away ∙ here

  stays : (k : Kind) → StepsTo w other q k next → get_elem? next.processes who ≡ some p
  stays kind.LoadIndex (action, is) = others_stay _ (ap (λ (x : World). x.processes) is)
  stays kind.LoadTag (slot, loads) = others_stay _ (ap (λ (x : World). x.processes) loads.1)
  stays kind.LoadSig (slot, word, loads) = others_stay _ (ap (λ (x : World). x.processes) loads.1)
  stays kind.LoadHeap (addr, loads) = others_stay _ (ap (λ (x : World). x.processes) loads.1)
  stays kind.SwapIndex (from, action, inl (same, is)) = others_stay _ (ap (λ (x : World). x.processes) is)
  stays kind.SwapIndex (from, action, inr (not, is)) = others_stay _ (ap (λ (x : World). x.processes) is)
  stays kind.StoreTagFilling (slot, tag, action, is) = others_stay _ (ap (λ (x : World). x.processes) is)
  stays kind.StoreSig (slot, word, value, action, is) = others_stay _ (ap (λ (x : World). x.processes) is)
  stays kind.StoreTagWriting (slot, tag, action, is) = others_stay _ (ap (λ (x : World). x.processes) is)
  stays kind.StoreHeap (addr, value, action, is) = others_stay _ (ap (λ (x : World). x.processes) is)
  stays kind.StoreTagComplete (slot, tag, action, is) = others_stay _ (ap (λ (x : World). x.processes) is)

pub others_leave_owned : StepsKeep → OthersLeaveOwned
others_leave_owned keeps w next who other k p o s step away here owns =
    let after = (keeps k w next other s step).0 in
    after.memory.contents who p o (stays w next who other away p step.process here k step.steps) owns ∙ sym (s.memory.contents who p o here owns)
