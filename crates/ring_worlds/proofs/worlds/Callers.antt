-- Callers that join, that are spent, and that become others.
use Rattle.std.proofs.Common.{◌≡◌, ◌≢◌, ◌⊎◌, ℕ, zero, suc, ◌++◌, List, [], ◌∷◌, Contains, sym, ◌∙◌, subst, inl, inr}
use mathlib.Core.Option.{some, some-injective, some-ne-none}
use lib.ListN.{get_elem?}
use Rattle.tx_model.specs.declared.view.Owned.{Owned}
use Rattle.tx_model.specs.declared.pass.PassState.TheVariants as state
use Rattle.ring_core.specs.Laws as core_laws
use Rattle.ring_core.specs.Outcomes.{opening}
use Rattle.ring_worlds.specs.declared.process.Process.{Process}
use Rattle.ring_worlds.specs.World.{World}
use Rattle.ring_worlds.specs.Memory.{IsOwned, IsWriting}
use Rattle.ring_worlds.specs.Runs.{resting}
use Rattle.ring_worlds.specs.Sound.{Sound}
use Rattle.ring_worlds.specs.Laws.{JoinKeeps, SpendKeeps, BecomeKeeps}
use Rattle.ring_worlds.proofs.memory.Moves.{not_writing}
use Rattle.ring_worlds.proofs.worlds.Needs.{b}
use Rattle.ring_worlds.proofs.worlds.Opens.{rests}
use Rattle.ring_worlds.proofs.worlds.Moves.{becomes_free}
use Rattle.ring_worlds.proofs.lemmas.Members.{contains_none, among_at}

-- an element of a longer list was there, or is the last one
at_end : {X : Type 0} (xs : List X) (x y : X) (i : ℕ) → get_elem? (xs ++ x ∷ []) i ≡ some y → (get_elem? xs i ≡ some y) ⊎ (x ≡ y)
at_end [] x y zero e = inr (some-injective x y e)
at_end [] x y (suc i) e = absurd (some-ne-none y (sym e))
at_end (z ∷ zs) x y zero e = inl e
at_end (z ∷ zs) x y (suc i) e = at_end zs x y i e

still_there : {X : Type 0} (xs : List X) (x y : X) (i : ℕ) → get_elem? xs i ≡ some y → get_elem? (xs ++ x ∷ []) i ≡ some y
still_there [] x y i e = absurd (some-ne-none y (sym e))
still_there (z ∷ zs) x y zero e = e
still_there (z ∷ zs) x y (suc i) e = still_there zs x y i e

idle_not : state.Idle ≢ state.Stamped
idle_not e = cc

module _ (law : core_laws.OpeningIsSound) (w : World) (s : Sound w) where
  abbrev more : List Process
  more = w.processes ++ resting w.shape ∷ []

  -- a stamped one, and an owner, was there before
  stamped_was : (i : ℕ) (p : Process) → get_elem? more i ≡ some p → p.caller.state ≡ state.Stamped → get_elem? w.processes i ≡ some p
  stamped_was i p e stamped =
      elim (at_end w.processes (resting w.shape) p i e) [
        | inl was ↦ was
        | inr is ↦ absurd (idle_not (subst (λ (x : Process). x.caller.state ≡ state.Stamped) (sym is) stamped))
      ]

  owner_was : (i : ℕ) (p : Process) (o : Owned) → get_elem? more i ≡ some p → Contains p.owned o → get_elem? w.processes i ≡ some p
  owner_was i p o e among =
      elim (at_end w.processes (resting w.shape) p i e) [
        | inl was ↦ was
        | inr is ↦ absurd (contains_none o (subst (λ (x : Process). Contains x.owned o) (sym is) among))
      ]

  owned_was : (addr : ℕ) → IsOwned more addr → IsOwned w.processes addr
  owned_was addr own = record {
    who = own.who;
    process = own.process;
    here = owner_was own.who own.process own.owned own.here own.among;
    owned = own.owned;
    among = own.among;
    inside = own.inside;
  }

  owned_is : (addr : ℕ) → IsOwned w.processes addr → IsOwned more addr
  owned_is addr own = record {
    who = own.who;
    process = own.process;
    here = still_there w.processes (resting w.shape) own.process own.who own.here;
    owned = own.owned;
    among = own.among;
    inside = own.inside;
  }

  each_more : {P : Process → Type 0} → P (resting w.shape) → ((i : ℕ) (p : Process) → get_elem? w.processes i ≡ some p → P p)
      → (i : ℕ) (p : Process) → get_elem? more i ≡ some p → P p
  each_more {P} last others i p e =
      elim (at_end w.processes (resting w.shape) p i e) [
        | inl was ↦ others i p was
        | inr is ↦ subst P is last
      ]

  pub join_sound : Sound (record w { processes = more })
  join_sound =
      record {
        complete = s.complete;
        opened = record { limits = s.opened.limits; regions = s.opened.regions; room = s.opened.room; heap = s.opened.heap };
        indexed = s.indexed;
        board = s.board;
        each = each_more (rests law w.shape s.opened.limits w.opening w.regions (b w s)) s.each;
        apart = λ i j p q e f ne stamped stamped'. s.apart i j p q (stamped_was i p e stamped) (stamped_was j q f stamped') ne stamped stamped';
        belongs = λ k above below.
            let old = s.belongs k above below in
            record {
              who = old.who;
              process = old.process;
              here = still_there w.processes (resting w.shape) old.process old.who old.here;
              stamped = old.stamped;
              stamp = old.stamp;
            };
        own_apart = λ i j p q k l o other addr e f at at' inside inside'.
            s.own_apart i j p q k l o other addr (owner_was i p o e (among_at p.owned k o at)) (owner_was j q other f (among_at q.owned l other at')) at at'
            inside inside';
        memory = record {
          counts = s.memory.counts;
          sized = s.memory.sized;
          whole = s.memory.whole;
          partly = s.memory.partly;
          waited = s.memory.waited;
          heap = λ addr free. s.memory.heap addr (λ own. free (owned_is addr own));
          contents = λ i p o e among. s.memory.contents i p o (owner_was i p o e among) among;
          spared = λ i p j e stamped from below own. s.memory.spared i p j (stamped_was i p e stamped) stamped from below (owned_was _ own);
          writing = each_more {P = λ p. IsWriting w.shape s.complete w.history s.memory.counts p.caller}
              (not_writing w.shape s.complete w.history s.memory.counts (opening w.shape) (law w.shape s.opened.limits) idle_not) s.memory.writing;
        };
      }

pub join_keeps : core_laws.OpeningIsSound → JoinKeeps
join_keeps law w s = join_sound law w s

pub spend_keeps : core_laws.OpeningIsSound → SpendKeeps
spend_keeps law w who p s here is_idle nothing =
    becomes_free w s who p here (resting w.shape) (rests law w.shape s.opened.limits w.opening w.regions (b w s)) (sym nothing)
    (λ stamped. idle_not (sym is_idle ∙ stamped)) idle_not

pub become_keeps : BecomeKeeps
become_keeps w who p q s here mine owns free free' = becomes_free w s who p here q mine owns free free'
