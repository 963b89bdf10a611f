-- A store of an owner.
use mathlib.Core.Option.{some, some-injective}
use lib.ListN.{get_elem?}
use Rattle.std.proofs.Common.{◌≡◌, ◌≢◌, ◌⊎◌, ℕ, zero, suc, ◌-◌, ◌<◌, ◌≤◌, List, [], ◌∷◌, length, set, take, drop, slice_get, Some, Contains, refl, sym, ◌∙◌, ap, subst, arith, inl, inr}
use Rattle.std.proofs.lemmas.Bool.{cases_eq}
use Rattle.std.proofs.lemmas.Option.{slice_get_within}
use Rattle.tx_model.specs.declared.gate.Region.{Region}
use Rattle.tx_model.specs.declared.view.Owned.{Owned}
use Rattle.tx_model.specs.declared.pass.PassState.TheVariants as state
use Rattle.ring_core.specs.declared.shape.Shape.{Shape}
use Rattle.ring_worlds.specs.declared.process.Process.{Process}
use Rattle.ring_worlds.specs.World.{World}
use Rattle.ring_worlds.specs.Moves.{with_owned}
use Rattle.ring_worlds.proofs.memory.Needs.{Needs}
use Rattle.ring_worlds.specs.Memory.{IsMemory, IsWriting, IsOwned}
use Rattle.ring_worlds.proofs.memory.Owners.{stays_in}
use Rattle.tx_model.specs.Words.{word_at}
use Rattle.tx_model.specs.Made.{IsIn}
use Rattle.tx_model.specs.Memory.{words_in}
use Rattle.ring_worlds.proofs.lemmas.Lists.{at_set, set_here, set_else, get_changed, get_kept}
use Rattle.ring_worlds.proofs.lemmas.Members.{index_in, among_at}

-- a store inside a region changes its words
take_put : (len at value : ℕ) (xs : List ℕ) → take len (set xs at value) ≡ set (take len xs) at value
take_put zero at value xs = refl
take_put (suc len) zero value [] = refl
take_put (suc len) (suc at) value [] = refl
take_put (suc len) zero value (x ∷ xs) = refl
take_put (suc len) (suc at) value (x ∷ xs) = ap (λ (l : List ℕ). x ∷ l) (take_put len at value xs)

drop_put : (base at value : ℕ) (xs : List ℕ) → base ≤ at → drop base (set xs at value) ≡ set (drop base xs) (at - base) value
drop_put zero at value xs from = let e : at ≡ at - 0 = omega arith in ap (λ k. set xs k value) e
drop_put (suc base) at value [] from = refl
drop_put (suc base) zero value (x ∷ xs) from = absurd (omega (arith, from))
drop_put (suc base) (suc at) value (x ∷ xs) from =
    let e : at - base ≡ suc at - suc base = omega arith in
    drop_put base at value xs (omega (arith, from)) ∙ ap (λ k. set (drop base xs) k value) e

pub changes_in : (memory : List ℕ) (region : Region) (at value : ℕ) → IsIn at region
    → words_in (set memory at value) region ≡ set (words_in memory region) (at - region.base) value
changes_in memory region at value inside =
    ap (take region.len) (drop_put region.base at value memory inside.0) ∙ take_put region.len (at - region.base) value (drop region.base memory)

module _ (shape : Shape) (w : World) (complete : ℕ) (ring : Needs shape complete w) (mem : IsMemory shape complete w) (who : ℕ) (p : Process) (index : ℕ)
    (o : Owned) (addr value : ℕ)
    (here : get_elem? w.processes who ≡ some p) (mine : slice_get p.owned index ≡ Some o) (inside : IsIn addr o.region)
    (idle : p.caller.state ≢ state.Stamped) where
  abbrev changed : Owned
  changed = record o { now = set o.now (addr - o.region.base) value }

  abbrev q : Process
  q = record p { owned = set p.owned index changed }

  abbrev processes : List Process
  processes = set w.processes who q

  index_below : index < length p.owned
  index_below = slice_get_within p.owned index o mine

  -- one of the owned regions after the store is the changed one, or as it was
  owned_cases : (x : Owned) → Contains (set p.owned index changed) x → (changed ≡ x) ⊎ ((k : ℕ) × (k ≢ index) × (slice_get p.owned k ≡ Some x))
  owned_cases x among =
      let (k, at) = index_in (set p.owned index changed) x among in
      elim (cases_eq k index) [
        | inl same ↦ inl (let now = get_changed p.owned index changed index_below in
            let at' : slice_get (set p.owned index changed) index ≡ Some x = subst (λ j. slice_get (set p.owned index changed) j ≡ Some x) same at in cc)
        | inr other ↦ inr (k, other, sym (get_kept p.owned index k changed other) ∙ at)
      ]

  was : (a : ℕ) → IsOwned processes a → IsOwned w.processes a
  was a own =
      elim (at_set w.processes who own.who q own.process own.here) [
        | inl (same, is) ↦
            elim (owned_cases own.owned (subst (λ (r : Process). Contains r.owned own.owned) (sym is) own.among)) [
              | inl made ↦ record {
                who = who;
                process = p;
                here = here;
                owned = o;
                among = among_at p.owned index o mine;
                inside = subst (λ (x : Owned). IsIn a x.region) (sym made) own.inside;
              }
              | inr (k, other, at) ↦ record {
                who = who;
                process = p;
                here = here;
                owned = own.owned;
                among = among_at p.owned k own.owned at;
                inside = own.inside;
              }
            ]
        | inr (other, at) ↦ record { who = own.who; process = own.process; here = at; owned = own.owned; among = own.among; inside = own.inside }
      ]

  still : (a : ℕ) → IsOwned w.processes a → IsOwned processes a
  still a own =
      elim (cases_eq own.who who) [
        | inl same ↦
            let me : own.process ≡ p = some-injective own.process p (sym own.here ∙ ap (get_elem? w.processes) same ∙ here) in
            let (k, at) = index_in p.owned own.owned (subst (λ (r : Process). Contains r.owned own.owned) me own.among) in
            elim (cases_eq k index) [
              | inl first ↦
                  let that : o ≡ own.owned = (let at' : slice_get p.owned index ≡ Some own.owned = subst (λ j. slice_get p.owned j ≡ Some own.owned) first
                  at in let m = mine in cc) in
                  record {
                    who = who;
                    process = q;
                    here = set_here w.processes who q p here;
                    owned = changed;
                    among = among_at (set p.owned index changed) index changed (get_changed p.owned index changed index_below);
                    inside =
                        subst (λ (x : Owned). IsIn a x.region) (sym that) own.inside;
                  }
              | inr other ↦ record {
                who = who;
                process = q;
                here = set_here w.processes who q p here;
                owned = own.owned;
                among = among_at (set p.owned index changed) k own.owned (get_kept p.owned index k changed other ∙ at);
                inside = own.inside;
              }
            ]
        | inr other ↦ record {
          who = own.who;
          process = own.process;
          here = set_else w.processes who own.who q other
              ∙ own.here;
          owned = own.owned;
          among = own.among;
          inside = own.inside;
        }
      ]

  owned_now : IsOwned processes addr
  owned_now = still addr (record { who = who; process = p; here = here; owned = o; among = among_at p.owned index o mine; inside = inside })

  pub stores : IsMemory shape complete (with_owned w who p index o addr value)
  stores =
      record {
        counts = mem.counts;
        sized = mem.sized;
        whole = mem.whole;
        partly = mem.partly;
        waited = mem.waited;
        heap = λ a free. get_kept w.heap addr a value (λ e. free (subst (λ b. IsOwned processes b) (sym e) owned_now)) ∙ mem.heap a (λ own. free (still a own));
        contents = λ i r x e among. elim (at_set w.processes who i q r e) [
          | inl (same, is) ↦
              elim (owned_cases x (subst (λ (s : Process). Contains s.owned x) (sym is) among)) [
                | inl made ↦
                    subst (λ (y : Owned). words_in (set w.heap addr value) y.region ≡ y.now) made
                    (changes_in w.heap o.region addr value inside ∙ ap (λ (l : List ℕ). set l (addr - o.region.base) value)
                    (mem.contents who p o here (among_at p.owned index o mine)))
                | inr (k, other, at) ↦
                    stays_in w.heap x.region addr value (λ there. other (ring.alone who who p p k index x o addr here here at mine there inside).1)
                    ∙ mem.contents who p x here (among_at p.owned k x at)
              ]
          | inr (other, before) ↦
              let (k, at) = index_in r.owned x among in
              stays_in w.heap x.region addr value (λ there. other (ring.alone i who r p k index x o addr before here at mine there inside).0)
              ∙ mem.contents i r x before among
        ];
        spared = λ i r j e stamped from below own. elim (at_set w.processes who i q r e) [
          | inl (same, is) ↦ idle (subst (λ (s : Process). s.caller.state ≡ state.Stamped) (sym is) stamped)
          | inr (other, before) ↦ mem.spared i r j before stamped from below (was (word_at r.caller.writes j).addr own)
        ];
        writing = λ i r e. elim (at_set w.processes who i q r e) [
          | inl (same, is) ↦ subst (λ (s : Process). IsWriting shape complete w.history mem.counts s.caller) is
              (let before = mem.writing who p here in record { counted = before.counted; cleared = before.cleared })
          | inr (other, before) ↦ mem.writing i r before
        ];
      }
