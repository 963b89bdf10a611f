-- A world in which one caller has changed, beside the same board or a later one.
use Rattle.std.proofs.Common.{◌≡◌, ◌≢◌, ◌⊎◌, ℕ, ◌+◌, ◌-◌, ◌≤◌, List, set, slice_get, Some, Contains, sym, ◌∙◌, ap, subst, arith, inl, inr}
use mathlib.Core.Option.{some, some-injective}
use lib.ListN.{get_elem?}
use Rattle.std.proofs.lemmas.Bool.{cases_eq}
use Rattle.tx_model.specs.declared.gate.Region.{Region}
use Rattle.tx_model.specs.declared.gate.TheConstants.{GATE_SEALED}
use Rattle.tx_model.specs.declared.view.Owned.{Owned}
use Rattle.tx_model.specs.declared.pass.PassState.TheVariants.{Stamped}
use Rattle.tx_model.specs.Memory.{words_in}
use Rattle.tx_model.specs.History.{state_at}
use Rattle.tx_model.proofs.lemmas.Histories.{state_stays}
use Rattle.ring_core.specs.declared.shape.Shape.{Shape}
use Rattle.ring_worlds.specs.declared.process.Process.{Process}
use Rattle.ring_worlds.specs.World.{Board}
use Rattle.ring_worlds.specs.Board.{IsBoard, IsLater}
use Rattle.ring_worlds.specs.Own.{IsOwnAt}
use Rattle.ring_worlds.specs.Owner.{IsOwner}
use Rattle.ring_worlds.specs.Sound.{IsProcess, HaveOwnStamps, Belongs, OwnApart}
use Rattle.ring_worlds.proofs.reads.Later.{reader_later}
use Rattle.ring_worlds.proofs.lemmas.Lists.{at_set, set_here, set_else, get_earlier}

module _ (processes : List Process) (who : ℕ) (p q : Process) (here : get_elem? processes who ≡ some p) where
  -- what holds of each caller
  pub each_after : {P : Process → Type 0} → P q → ((i : ℕ) (o : Process) → i ≢ who → get_elem? processes i ≡ some o → P o) → (i : ℕ) (o : Process)
      → get_elem? (set processes who q) i ≡ some o → P o
  each_after {P} mine others i o e =
      elim (at_set processes who i q o e) [
        | inl (same, is) ↦ subst P is mine
        | inr (other, was) ↦ others i o other was
      ]

  -- the stamp that it has now was its own, or is a new one
  abbrev pub HasOwnStamp : Type 0
  HasOwnStamp = q.caller.state ≡ Stamped → ((p.caller.state ≡ Stamped) × (q.caller.stamp ≡ p.caller.stamp))
      ⊎ ((i : ℕ) (o : Process) → get_elem? processes i ≡ some o → o.caller.state ≡ Stamped → o.caller.stamp ≢ q.caller.stamp)

  pub apart_after : HaveOwnStamps processes → HasOwnStamp → HaveOwnStamps (set processes who q)
  apart_after apart own i j a c e f ne sa sc =
      elim (at_set processes who i q a e) [
        | inl (at, is) ↦
            elim (at_set processes who j q c f) [
              | inl (at', is') ↦ absurd (ne (at ∙ sym at'))
              | inr (away, was) ↦ λ eq. mine_apart j c away was sc (subst (λ (x : Process). x.caller.state ≡ Stamped) (sym is) sa)
                  (sym eq ∙ ap (λ (x : Process). x.caller.stamp) (sym is))
            ]
        | inr (away, was) ↦
            elim (at_set processes who j q c f) [
              | inl (at', is') ↦ λ eq. mine_apart i a away was sa (subst (λ (x : Process). x.caller.state ≡ Stamped) (sym is') sc)
                  (eq ∙ ap (λ (x : Process). x.caller.stamp) (sym is'))
              | inr (away', was') ↦ apart i j a c was was' ne sa sc
            ]
      ]
    where
      mine_apart : (j : ℕ) (c : Process) → j ≢ who → get_elem? processes j ≡ some c → c.caller.state ≡ Stamped → q.caller.state ≡ Stamped
          → c.caller.stamp ≢ q.caller.stamp
      mine_apart j c away was sc sq =
          elim (own sq) [
            | inl (stamped, same) ↦ λ eq. apart j who c p was here away sc stamped (eq ∙ same)
            | inr new ↦ new j c was sc
          ]

  pub belongs_after : (k : ℕ) → (p.caller.state ≡ Stamped → p.caller.stamp ≡ k + 1 → (q.caller.state ≡ Stamped) × (q.caller.stamp ≡ k + 1))
      → Belongs processes k → Belongs (set processes who q) k
  belongs_after k still belongs =
      elim (cases_eq belongs.who who) [
        | inl same ↦
            let is : belongs.process ≡ p = some-injective belongs.process p (sym belongs.here ∙ ap (get_elem? processes) same ∙ here) in
            let now = still (subst (λ (x : Process). x.caller.state ≡ Stamped) is belongs.stamped)
            (subst (λ (x : Process). x.caller.stamp ≡ k + 1) is belongs.stamp) in
            record { who = who; process = q; here = set_here processes who q p here; stamped = now.0; stamp = now.1 }
        | inr other ↦ record {
          who = belongs.who;
          process = belongs.process;
          here = set_else processes who belongs.who q other
              ∙ belongs.here;
          stamped = belongs.stamped;
          stamp = belongs.stamp;
        }
      ]

  pub own_apart_after : q.owned ≡ p.owned → OwnApart processes → OwnApart (set processes who q)
  own_apart_after owns apart i j a c k l o other addr e f at at' inside inside' =
      elim (at_set processes who i q a e) [
        | inl (same, is) ↦
            elim (at_set processes who j q c f) [
              | inl (same', is') ↦ let r = apart who who p p k l o other addr here here (was a is k o at) (was c is' l other at') inside inside' in
                  (same ∙ sym same', r.1)
              | inr (away, there) ↦ absurd (away (sym (apart who j p c k l o other addr here there (was a is k o at) at' inside inside').0))
            ]
        | inr (away, there) ↦
            elim (at_set processes who j q c f) [
              | inl (same', is') ↦ absurd (away (apart i who a p k l o other addr there here at (was c is' l other at') inside inside').0)
              | inr (away', there') ↦ apart i j a c k l o other addr there there' at at' inside inside'
            ]
      ]
    where
      was : (x : Process) → q ≡ x → (k : ℕ) (o : Owned) → slice_get x.owned k ≡ Some o → slice_get p.owned k ≡ Some o
      was x is k o at = subst (λ (l : List Owned). slice_get l k ≡ Some o) (ap (λ (y : Process). y.owned) (sym is) ∙ owns) at

-- ---- beside a later board
module _ (shape : Shape) (opening : List ℕ) (regions : List Region) (some_entry : 1 ≤ shape.ring) (b later : Board) (ok : IsBoard shape opening regions b)
    (on : IsLater shape b later) where
  -- where no further entry is complete
  pub owner_later : later.complete ≡ b.complete → (p q : Process) → p.front ≤ q.front → (o : Owned) → IsOwner opening regions b p o
      → IsOwner opening regions later q o
  owner_later same p q front o owner =
      let state : state_at opening later.history later.complete ≡ state_at opening b.history b.complete =
      ap (state_at opening later.history) same ∙ state_stays opening b.history later.history b.complete on.history ok.counted in
      record {
        ownable = owner.ownable;
        entry = owner.entry;
        some = owner.some;
        noted = omega (arith, owner.noted, front);
        commit = owner.commit;
        there = subst (λ h. slice_get h (owner.entry - 1) ≡ Some owner.commit) (sym on.history.1)
            (get_earlier b.history on.history.0 (owner.entry - 1) owner.commit owner.there);
        seals = owner.seals;
        still = subst (λ m. slice_get m o.region.gate ≡ Some GATE_SEALED) (sym state) owner.still;
        kept = subst (λ m. words_in m o.region ≡ o.at_sealing) (sym state) owner.kept;
      }

  pub process_later : (p : Process) → IsProcess shape opening regions b p → IsOwnAt shape later p p.caller.stage
      → ((o : Owned) → Contains p.owned o → IsOwner opening regions later p o) → IsProcess shape opening regions later p
  process_later p me own owns =
      record {
        machine = me.machine;
        since = record { known = omega (arith, me.since.known, on.complete); since = me.since.since };
        reader = reader_later shape opening regions some_entry b later ok on p me.machine me.reader;
        own = own;
        lawful = me.lawful;
        owns = owns;
      }
