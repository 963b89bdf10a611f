-- A seat that looks knows that its two histories are beginnings of one.
use Rattle.std.proofs.Common.{◌≡◌, ℕ, List, [], length, set, slice_index, Option, Some, refl, sym, ◌∙◌, ap, subst, arith, inl, inr}
use mathlib.Core.Option.{some}
use lib.ListN.{get_elem?}
use lib.Seq.{map-set, set-get_or}
use Rattle.atomic_table.specs.Table.{State, Step, keeps, stepped, Allows}
use Rattle.tx_model.specs.declared.gate.Region.{Region}
use Rattle.tx_model.proofs.lemmas.Holders.{each_view, names_kept, once_kept, all_kept, still_there}
use Rattle.tx_model.proofs.lemmas.Histories.{beginnings}
use Rattle.ring_worlds.proofs.lemmas.Lists.{set_again}
use Rattle.ring_words.specs.declared.table.About.{About}
use Rattle.ring_words.specs.declared.table.Knowledge.{Knowledge}
use Rattle.ring_words.specs.Ring.{process_of, share_of, mine_of, Holds, HasOwner, IsRing, IsSeat}
use Rattle.ring_words.specs.Told.{Sat, Looks, Looked}
use Rattle.ring_words.proofs.Whole.{caller_here, whole_knows}

some_same : {X : Type 0} {x y : X} → Some x ≡ Some y → x ≡ y
some_same e = cc

module _ {S : Type 0} (good : S → List ℕ → List ℕ → Type 0) (budget : S → List ℕ → ℕ) (about : About S) where
  module _ (s : State ℕ (Option (Knowledge S))) (r : IsRing good budget about s) (id : ℕ) (old : Knowledge S)
      (at : get_elem? s.views id ≡ some (Some old)) where
    abbrev settled : Knowledge S
    settled = record old { other = [] }

    seat : IsSeat about r.world.history old
    seat = r.seats id old at

    seat_settled : IsSeat about r.world.history settled
    seat_settled =
        record {
          told = seat.told;
          known = seat.known;
          other = (r.world.history, refl);
          shorter = omega arith;
          plain = record {
            reached = seat.plain.reached;
            rested = seat.plain.rested;
            mine = seat.plain.mine;
            settled = seat.plain.settled;
            stamped = seat.plain.stamped;
            named = seat.plain.named;
            joined = seat.plain.joined;
            apart = seat.plain.apart;
          };
        }

    still_owned : (region : Region) → HasOwner s.views region → HasOwner (set s.views id (Some settled)) region
    still_owned region owner =
        elim (still_there s.views id (Some old) (Some settled) at owner.seat (Some owner.knowledge) owner.here) [
          | inl there ↦ record { seat = owner.seat; knowledge = owner.knowledge; here = there; owns = owner.owns }
          | inr (was, there) ↦
              record { seat = id; knowledge = settled; here = there; owns = subst (λ (x : Knowledge S). Holds x.process region) (some_same was) owner.owns }
        ]

    look_keeps : IsRing good budget about (stepped s 0 (slice_index s.words 0) id [] (Some settled) keeps)
    look_keeps =
        record {
          world = r.world;
          made = r.made;
          sound = r.sound;
          words = set-get_or s.words 0 0 ∙ r.words;
          callers = map-set (process_of about.shape) s.views id (Some settled) ∙ ap (λ l. set l id old.process) r.callers
              ∙ set_again r.world.processes id old.process (caller_here good budget about s r id old at);
          writers = r.writers;
          good_states = r.good_states;
          seats = λ i k e. each_view s.views id (Some old) (Some settled) at (λ j known. (k : Knowledge S) → known ≡ Some k → IsSeat about r.world.history k)
              (λ k same. subst (IsSeat about r.world.history) (some_same same) seat_settled)
              (λ j known there k same. r.seats j k (there ∙ ap some same)) i (Some k) e k refl;
          names = names_kept s.views id (Some old) (Some settled) at share_of refl r.names;
          all = all_kept s.views id (Some old) (Some settled) at mine_of (length r.world.history) (λ own has. has) r.all;
          once = once_kept s.views id (Some old) (Some settled) at mine_of refl r.once;
          owners = λ region among sealed. still_owned region (r.owners region among sealed);
        }

    tells : Looked good budget (Some old, []) (Some settled, [])
    tells =
        record {
          old = old;
          before = refl;
          now = refl;
          slots = refl;
          other = beginnings old.other old.history r.world.history seat.other seat.known seat.shorter;
          plain = seat.plain;
          whole = whole_knows good budget about s r id old at;
        }

  pub looks_around : (slots id : ℕ) (me : Sat S) (old : Knowledge S) (st : Step ℕ) → me ≡ (Some old, []) →
      Allows (IsRing good budget about) slots id me 0 (λ n. n) (Looks good budget st me)
  looks_around slots id me old st is =
      subst (λ (m : Sat S). Allows (IsRing good budget about) slots id m 0 (λ n. n) (Looks good budget st m)) (sym is)
      (λ s r long at bound. (Some (settled s r id old at), keeps, tt, look_keeps s r id old at, tells s r id old at))
