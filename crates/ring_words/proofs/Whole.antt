-- A seat whose share is the whole is the only one: it knows all, and owns each region that is sealed.
use Rattle.std.proofs.Common.{◌≡◌, ◌≢◌, ℕ, zero, suc, ◌≤◌, List, [], length, Contains, Option, Some, None, refl, sym, ◌∙◌, ap, subst, arith, inl, inr}
use Rattle.std.proofs.lemmas.Option.{get_or_from_slice_get}
use mathlib.Core.Option.{some, some-injective}
use lib.ListN.{get_elem?}
use native.Mathlib.Decide.{ℕ_discrete}
use Rattle.atomic_table.specs.Table.{State}
use Rattle.atomic_table.proofs.Lists.{at_map}
use Rattle.tx_model.specs.declared.gate.Region.{Region}
use Rattle.tx_model.specs.declared.gate.TheConstants.{GATE_SEALED}
use Rattle.tx_model.specs.declared.history.Commit.{Commit}
use Rattle.tx_model.specs.declared.view.Owned.{Owned}
use Rattle.tx_model.specs.declared.pass.PassState.TheVariants.{Stamped}
use Rattle.tx_model.specs.History.{state_at}
use Rattle.tx_model.specs.Rule.{gate_at}
use Rattle.tx_model.specs.Pass.{IsWhole, KnowsAll, OwnsRegion, OwnsSealed}
use Rattle.tx_model.proofs.lemmas.Stamps.{stamps_all, stamps_within}
use Rattle.tx_model.proofs.lemmas.Histories.{whole_beginning}
use Rattle.tx_model.proofs.lemmas.Holders.{whole_alone, whole_has_all}
use Rattle.ring_worlds.specs.World.{board_of}
use Rattle.ring_worlds.specs.Sound.{IsProcess}
use Rattle.ring_words.specs.declared.table.About.{About}
use Rattle.ring_words.specs.declared.table.Knowledge.{Knowledge}
use Rattle.ring_words.specs.Ring.{Given, made_of, front_of, process_of, share_of, mine_of, IsRing}
use Rattle.ring_words.specs.Told.{KnowsWhole, pass_in}

some_same : {X : Type 0} {x y : X} → Some x ≡ Some y → x ≡ y
some_same e = cc

module _ {S : Type 0} (good : S → List ℕ → List ℕ → Type 0) (budget : S → List ℕ → ℕ) (about : About S) (s : State ℕ (Option (Knowledge S)))
    (r : IsRing good budget about s) (id : ℕ) (k : Knowledge S) (at : get_elem? s.views id ≡ some (Some k)) where
  -- the seat's caller is the world's
  pub caller_here : get_elem? r.world.processes id ≡ some k.process
  caller_here = subst (λ l. get_elem? l id ≡ some k.process) r.callers (at_map (process_of about.shape) s.views id (Some k) at)

  abbrev me : IsProcess r.world.shape r.world.opening r.world.regions (board_of r.world r.sound.complete) k.process
  me = r.sound.each id k.process caller_here

  module _ (whole : IsWhole (pass_in k.process.caller.state k)) (free : k.process.caller.state ≢ Stamped) where
    -- another living seat has a name, so it is the only one
    pub lonely : (i : ℕ) (other : Knowledge S) → get_elem? s.views i ≡ some (Some other) → i ≡ id
    lonely i other e =
        elim (ℕ_discrete i id) [
          | yes same ↦ same
          | no apart ↦ absurd ((r.seats i other e).plain.named (whole_alone share_of s.views r.names id (Some k) at whole i (Some other) e apart))
        ]

    -- so it has all commits
    has_all : (stamp : ℕ) → 1 ≤ stamp → stamp ≤ length r.world.history → Contains k.mine stamp
    has_all = whole_has_all share_of s.views r.names id (Some k) at whole mine_of (length r.world.history) nothing r.all
      where
        nothing : (i : ℕ) (other : Option (Knowledge S)) → get_elem? s.views i ≡ some other → share_of other ≡ [] → mine_of other ≡ []
        nothing i None e nameless = refl
        nothing i (Some other) e nameless = absurd ((r.seats i other e).plain.named nameless)

    last_known : (n : ℕ) → length r.world.history ≡ n → (length r.world.history ≤ length k.history) × (length r.world.history ≤ front_of k.process)
    last_known zero e = (omega (arith, e), omega (arith, e))
    last_known (suc n) e =
        let plain = (r.seats id k at).plain in
        let has = has_all (length r.world.history) (omega (arith, e)) (omega arith) in
        ((stamps_within (length k.history) k.mine plain.mine (length r.world.history) has).1, plain.settled free (length r.world.history) has)

    pub whole_history : k.history ≡ r.world.history
    whole_history = whole_beginning k.history r.world.history (r.seats id k at).known (last_known (length r.world.history) refl).0

    pub whole_front : front_of k.process ≡ length k.history
    whole_front =
        let last = last_known (length r.world.history) refl in
        omega (arith, last.1, (r.seats id k at).plain.reached, ap length whole_history)

    -- all commits are complete
    pub whole_complete : r.sound.complete ≡ length r.world.history
    whole_complete =
        let last = last_known (length r.world.history) refl in
        omega (arith, last.1, me.since.known, me.reader.behind, r.sound.board.counted)

    knows_all : KnowsAll (pass_in k.process.caller.state k)
    knows_all =
        record {
          front = whole_front;
          mine = stamps_all (length k.history) k.mine (r.seats id k at).plain.mine
              (λ stamp least most. has_all stamp least (omega (arith, most, ap length whole_history)));
        }

    -- the gate of a region that it owns is sealed in the last state
    still : (o : Owned) → Contains k.process.owned o → gate_at (made_of about).opening r.world.history (length r.world.history) o.region ≡ GATE_SEALED
    still o among =
        let sealed = (me.owns o among).still in
        subst (λ (g : Given). gate_at g.opening r.world.history (length r.world.history) o.region ≡ GATE_SEALED) r.made
        (ap (λ n. gate_at r.world.opening r.world.history n o.region) (sym whole_complete)
        ∙ get_or_from_slice_get (state_at r.world.opening r.world.history r.sound.complete) o.region.gate GATE_SEALED 0 sealed)

    owns_sealed : OwnsSealed (made_of about).opening (made_of about).regions (pass_in k.process.caller.state k)
    owns_sealed region among = (
      (λ sealed.
          let owner = r.owners region among (subst (λ (h : List Commit). gate_at (made_of about).opening h (length h) region ≡ GATE_SEALED)
          whole_history sealed) in
          let here = lonely owner.seat owner.knowledge owner.here in
          let same : owner.knowledge ≡ k = some_same (some-injective (Some owner.knowledge) (Some k) (sym owner.here ∙ ap (get_elem? s.views) here ∙ at)) in
          elim owner.owns [
            | inl owns ↦ subst (λ (x : Knowledge S). OwnsRegion x.process.owned region) same owns
            | inr (stamped, seals) ↦ absurd (free (sym (ap (λ (x : Knowledge S). x.process.caller.state) same) ∙ stamped))
          ]),
      (λ (i, o, below, there, is).
          subst (λ (h : List Commit). gate_at (made_of about).opening h (length h) region ≡ GATE_SEALED) (sym whole_history)
          (subst (λ (x : Region). gate_at (made_of about).opening r.world.history (length r.world.history) x ≡ GATE_SEALED) is (still o (i, below, there)))),
    )

    whole_told : KnowsAll (pass_in k.process.caller.state k) × OwnsSealed (made_of about).opening (made_of about).regions (pass_in k.process.caller.state k)
    whole_told = (knows_all, owns_sealed)

  pub whole_knows : KnowsWhole k
  whole_knows whole free =
      subst (λ (a : About S). KnowsAll (pass_in k.process.caller.state k) ×
      OwnsSealed (made_of a).opening (made_of a).regions (pass_in k.process.caller.state k))
      (sym (r.seats id k at).told) (whole_told whole free)
