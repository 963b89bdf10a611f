-- The world before the first step is sound.
use Rattle.std.proofs.Common.{◌≡◌, ◌≢◌, ℕ, zero, suc, ◌*◌, ◌<◌, ◌≤◌, List, [], replicate, Contains, refl, sym, subst, arith, inl}
use mathlib.Core.Option.{some, some-injective, some-ne-none}
use lib.ListN.{get_elem?, get_or-replicate}
use Rattle.std.proofs.lemmas.List.{length-replicate}
use Rattle.std.proofs.lemmas.Option.{slice_get_within, get_or_from_slice_get}
use Rattle.tx_model.specs.declared.gate.Region.{Region}
use Rattle.tx_model.specs.declared.view.Owned.{Owned}
use Rattle.tx_model.specs.declared.pass.PassState.TheVariants as state
use Rattle.tx_model.proofs.lemmas.Rule.{start_follows}
use Rattle.ring_sig.proofs.Lemmas.{empty_signature}
use Rattle.ring_core.specs.declared.shape.Shape.{Shape}
use Rattle.ring_core.specs.Shape.{IsShape}
use Rattle.ring_core.specs.Outcomes.{opening}
use Rattle.ring_core.specs.Laws as core_laws
use Rattle.ring_worlds.specs.declared.process.Process.{Process}
use Rattle.ring_worlds.specs.World.{World, Board, board_of}
use Rattle.ring_worlds.specs.Board.{IsBoard}
use Rattle.ring_worlds.specs.Memory.{IsWriting, IsMemory}
use Rattle.ring_worlds.specs.Sound.{Sound, IsProcess}
use Rattle.ring_worlds.specs.Runs.{resting, opening_world, MayOpen}
use Rattle.ring_worlds.specs.Laws.{OpeningIsSound}
use Rattle.ring_worlds.proofs.memory.Moves.{not_writing}
use Rattle.ring_worlds.proofs.lemmas.Members.{contains_none}

each_same : {X : Type 0} (n : ℕ) (x y : X) (i : ℕ) → get_elem? (replicate n x) i ≡ some y → x ≡ y
each_same zero x y i e = absurd (some-ne-none y (sym e))
each_same (suc n) x y zero e = some-injective x y e
each_same (suc n) x y (suc i) e = each_same n x y i e

idle_not : state.Idle ≢ state.Stamped
idle_not e = cc

-- ---- a caller that has done nothing yet, beside any board
module _ (law : core_laws.OpeningIsSound) (shape : Shape) (good : IsShape shape) (words : List ℕ) (regions : List Region) where
  pub rests : (b : Board) → IsProcess shape words regions b (resting shape)
  rests b =
      record {
        machine = law shape good;
        since = record { known = omega arith; since = λ e. absurd (e refl) };
        reader = record {
          behind = omega arith;
          signed = empty_signature shape.sig_words;
          ruled = λ addr among. absurd (contains_none addr among);
          fresh = λ e. refl;
          agree = λ e. absurd cc;
          knows = tt;
        };
        own = tt;
        lawful = record {
          follows = start_follows words regions 0;
          asks = tt;
          publishes = λ region among. absurd (contains_none region among);
          quiet = λ e. (refl, refl);
        };
        owns = λ o among. absurd (contains_none o among);
      }

  module _ (callers : ℕ) (may : MayOpen shape regions words) where
    abbrev w : World
    w = opening_world shape regions words callers

    abbrev b : Board
    b = board_of w 0

    board : IsBoard shape words regions b
    board =
        record {
          slots = length-replicate shape.ring 0;
          words = length-replicate (shape.ring * shape.sig_words) 0;
          lived = omega arith;
          legal = λ k commit there. absurd cc;
          rules = λ k commit there. absurd cc;
          named = λ slot below. record {
            entry = 0;
            tag = inl (refl, get_or-replicate {A = ℕ} shape.ring slot 0 0 below);
            greatest = λ later past upto at. absurd (let none : later ≤ 0 = upto in omega (arith, none, past));
          };
          tagged = λ slot below. omega (arith, get_or-replicate {A = ℕ} shape.ring slot 0 0 below);
          published = λ i first below. absurd (let none : i < 0 = below in omega (arith, none));
          counted = omega arith;
          near = omega arith;
          done = λ i first upto. absurd (let none : i ≤ 0 = upto in omega (arith, none, first));
          undone = λ i above upto. absurd (let none : i ≤ 0 = upto in omega (arith, none, above));
          signed = λ i commit first there low high. absurd cc;
          refilled = λ i first upto past. absurd (let none : i ≤ 0 = upto in omega (arith, none, first));
        }

    free : (i : ℕ) (p : Process) → get_elem? w.processes i ≡ some p → p.caller.state ≢ state.Stamped
    free i p e stamped = idle_not (subst (λ (x : Process). x.caller.state ≡ state.Stamped) (sym (each_same callers (resting shape) p i e)) stamped)

    owns_none : (i : ℕ) (p : Process) (o : Owned) → get_elem? w.processes i ≡ some p → Contains p.owned o → ⊥
    owns_none i p o e among = contains_none o (subst (λ (x : Process). Contains x.owned o) (sym (each_same callers (resting shape) p i e)) among)

    memory : IsMemory shape 0 w
    memory =
        record {
          counts = [];
          sized = refl;
          whole = λ k c early there. absurd (omega (arith, early));
          partly = λ k n c late there stored. absurd cc;
          waited = λ i k n one two before there there' stored some'. absurd cc;
          heap = λ addr free'. refl;
          contents = λ i p o e among. absurd (owns_none i p o e among);
          spared = λ i p j e stamped from below own. free i p e stamped;
          writing = λ i p e. subst (λ (x : Process). IsWriting shape 0 [] [] x.caller) (each_same callers (resting shape) p i e)
              (not_writing shape 0 [] [] (opening shape) (law shape good) idle_not);
        }

    pub opening_sound : Sound w
    opening_sound =
        record {
          complete = 0;
          opened = record { limits = may.limits; regions = may.well_formed; room = may.room; heap = may.room };
          indexed = refl;
          board = board;
          each = λ i p e. subst (IsProcess shape words regions b) (each_same callers (resting shape) p i e) (rests b);
          apart = λ i j p q e f ne stamped stamped'. absurd (free i p e stamped);
          belongs = λ k above below. absurd (let none : k < 0 = below in omega (arith, none));
          own_apart = λ i j p q k l o other addr e f at at'. absurd
              (owns_none i p o e (k, slice_get_within p.owned k o at, get_or_from_slice_get p.owned k o o at));
          memory = memory;
        }

pub opens : core_laws.OpeningIsSound → OpeningIsSound
opens law shape regions words callers may = opening_sound law shape may.limits words regions callers may
