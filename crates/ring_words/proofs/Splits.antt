-- A seat that is split keeps the rule.
use Rattle.std.proofs.Common.{◌≡◌, ◌≢◌, ℕ, ◌++◌, List, [], ◌∷◌, length, map, set, Option, Some, refl, sym, ◌∙◌, ap, subst, arith, inl, inr}
use mathlib.Core.Option.{some}
use mathlib.Core.List.{map-append}
use lib.ListN.{get_elem?}
use lib.Seq.{map-set}
use Rattle.atomic_table.specs.Table.{State, Splits}
use Rattle.atomic_table.proofs.Lists.{at_last}
use Rattle.tx_model.specs.declared.gate.Region.{Region}
use Rattle.tx_model.specs.declared.pass.PassState.TheVariants as state
use Rattle.tx_model.specs.ShareLaws.{SplitApart, SplitOthers, HalvesNormal, HalvesNotEmpty}
use Rattle.tx_model.proofs.lemmas.Holders.{SplitOrigin, as_before, kept, given, split_origin, names_split, all_split, once_split, still_there}
use Rattle.tx_model.proofs.lemmas.Lists.{at_longer}
use Rattle.ring_core.specs.Laws.{OpeningIsSound}
use Rattle.ring_core.specs.Outcomes.{opening}
use Rattle.ring_worlds.specs.declared.process.Process.{Process}
use Rattle.ring_worlds.specs.World.{World, board_of}
use Rattle.ring_worlds.specs.Sound.{Sound}
use Rattle.ring_worlds.specs.Runs.{resting}
use Rattle.ring_worlds.specs.Laws.{JoinKeeps, BecomeKeeps}
use Rattle.ring_worlds.proofs.lemmas.Lists.{set_again}
use Rattle.ring_words.specs.declared.table.About.{About}
use Rattle.ring_words.specs.declared.table.Knowledge.{Knowledge}
use Rattle.ring_words.specs.Ring.{kept_part, given_part, Given, front_of, fresh, process_of, share_of, mine_of, left_known, right_known, IsRing, IsSeat, Holds, HasOwner}
use Rattle.ring_words.proofs.Halves.{plain_left, plain_right}
use Rattle.ring_words.proofs.Whole.{caller_here}
use Rattle.ring_words.proofs.Rests.{rests_beside}

some_same : {X : Type 0} {x y : X} → Some x ≡ Some y → x ≡ y
some_same e = cc

idle_free : state.Idle ≢ state.Stamped
idle_free e = cc

set_last : {X : Type 0} (xs : List X) (x y : X) → set (xs ++ x ∷ []) (length xs) y ≡ xs ++ y ∷ []
set_last [] x y = refl
set_last (z ∷ zs) x y = ap (λ l. z ∷ l) (set_last zs x y)

-- ---- a further caller, which knows so many commits to be complete as another one does
module _ (law : OpeningIsSound) (joins : JoinKeeps) (becomes : BecomeKeeps) (w : World) (s : Sound w) (who : ℕ) (p : Process)
    (here : get_elem? w.processes who ≡ some p) where
  abbrev front : ℕ
  front = front_of p

  abbrev joined : World
  joined = record w { processes = w.processes ++ resting w.shape ∷ [] }

  pub further_sound : Sound (record w { processes = w.processes ++ fresh w.shape front ∷ [] })
  further_sound =
      let js = joins w s in
      let old = js.each who p (at_longer w.processes (resting w.shape ∷ []) who p here) in
      let last = at_last w.processes (resting w.shape) (length w.processes) refl in
      let rests = js.each (length w.processes) (resting w.shape) last in
      let fits = rests_beside w.shape (opening w.shape) (law w.shape s.opened.limits) refl tt w.opening w.regions (board_of joined js.complete)
      (resting w.shape) rests front (omega arith) (omega arith) (omega (arith, old.since.known, old.reader.behind)) in
      subst (λ l. Sound (record w { processes = l })) (set_last w.processes (resting w.shape) (fresh w.shape front))
      (becomes joined (length w.processes) (resting w.shape) (fresh w.shape front) js last fits refl idle_free idle_free)

module _ (halves_apart : SplitApart) (others_apart : SplitOthers) (normal : HalvesNormal) (not_empty : HalvesNotEmpty) (law : OpeningIsSound)
    (joins : JoinKeeps) (becomes : BecomeKeeps) {S : Type 0} (good : S → List ℕ → List ℕ → Type 0) (budget : S → List ℕ → ℕ) where
  module _ (old : Knowledge S) (s : State ℕ (Option (Knowledge S))) (r : IsRing good budget old.about s) (id : ℕ)
      (at : get_elem? s.views id ≡ some (Some old)) where
    abbrev about : About S
    about = old.about

    abbrev w : World
    w = r.world

    abbrev left : Knowledge S
    left = kept_part old

    abbrev right : Knowledge S
    right = given_part old

    abbrev views : List (Option (Knowledge S))
    views = set s.views id (Some left) ++ Some right ∷ []

    abbrev Origin : ℕ → Option (Knowledge S) → Type 0
    Origin = SplitOrigin s.views id (Some old) (Some left) (Some right) at

    origin : (i : ℕ) (known : Option (Knowledge S)) → get_elem? views i ≡ some known → Origin i known
    origin = split_origin s.views id (Some old) (Some left) (Some right) at

    seat : IsSeat about w.history old
    seat = r.seats id old at

    seat_left : IsSeat about w.history left
    seat_left = record {
      told = refl;
      known = seat.known;
      other = seat.other;
      shorter = seat.shorter;
      plain = plain_left halves_apart normal not_empty old seat.plain;
    }

    seat_right : IsSeat about w.history right
    seat_right = record {
      told = refl;
      known = seat.known;
      other = (w.history, refl);
      shorter = omega arith;
      plain = plain_right halves_apart normal not_empty old seat.plain;
    }

    seats : (i : ℕ) (k : Knowledge S) → get_elem? views i ≡ some (Some k) → IsSeat about w.history k
    seats i k e = go (origin i (Some k) e)
      where
        go : Origin i (Some k) → IsSeat about w.history k
        go (as_before ne below there) = r.seats i k there
        go (kept here is) = subst (IsSeat about w.history) (some_same is) seat_left
        go (given last is) = subst (IsSeat about w.history) (some_same is) seat_right

    -- the callers are those before and the further one
    callers : map (process_of about.shape) views ≡ w.processes ++ fresh about.shape (front_of old.process) ∷ []
    callers =
        map-append (process_of about.shape) (set s.views id (Some left)) (Some right ∷ [])
        ∙ ap (λ l. l ++ fresh about.shape (front_of old.process) ∷ []) (map-set (process_of about.shape) s.views id (Some left) ∙
        ap (λ l. set l id old.process) r.callers
        ∙ set_again w.processes id old.process (caller_here good budget about s r id old at))

    sound : Sound (record w { processes = w.processes ++ fresh about.shape (front_of old.process) ∷ [] })
    sound =
        subst (λ (g : Given). Sound (record w { processes = w.processes ++ fresh g.shape (front_of old.process) ∷ [] })) r.made
        (further_sound law joins becomes w r.sound id old.process (caller_here good budget about s r id old at))

    still_owned : (region : Region) → HasOwner s.views region → HasOwner views region
    still_owned region owner =
        elim (still_there s.views id (Some old) (Some left) at owner.seat (Some owner.knowledge) owner.here) [
          | inl there ↦
              record {
                seat = owner.seat;
                knowledge = owner.knowledge;
                here = at_longer (set s.views id (Some left)) (Some right ∷ []) owner.seat (Some owner.knowledge) there;
                owns = owner.owns;
              }
          | inr (was, there) ↦
              let same : owner.knowledge ≡ old = some_same was in
              record {
                seat = id;
                knowledge = left;
                here = at_longer (set s.views id (Some left)) (Some right ∷ []) id (Some left) there;
                owns = subst (λ (x : Knowledge S). Holds x.process region) same owner.owns;
              }
        ]

    pub split_keeps : IsRing good budget about record { words = s.words; homes = s.homes; views = views }
    split_keeps =
        record {
          world = record w { processes = w.processes ++ fresh about.shape (front_of old.process) ∷ [] };
          made = r.made;
          sound = sound;
          words = r.words;
          callers = callers;
          writers = r.writers;
          good_states = r.good_states;
          seats = seats;
          names = names_split s.views id (Some old) (Some left) (Some right) at share_of (halves_apart old.share seat.plain.apart).2
              (others_apart old.share) r.names;
          all = all_split s.views id (Some old) (Some left) (Some right) at mine_of refl (length w.history) r.all;
          once = once_split s.views id (Some old) (Some left) (Some right) at mine_of refl refl r.once;
          owners = λ region among sealed. still_owned region (r.owners region among sealed);
        }

  pub splits_seat : (about : About S) (id : ℕ) (me : Option (Knowledge S)) (old : Knowledge S) → me ≡ Some old → old.about ≡ about →
      Splits (IsRing good budget about) id me (left_known me) (right_known me)
  splits_seat its id me old is told =
      subst (λ (m : Option (Knowledge S)). Splits (IsRing good budget its) id m (left_known m) (right_known m)) (sym is)
      (subst (λ (a : About S). Splits (IsRing good budget a) id (Some old) (left_known (Some old)) (right_known (Some old))) told
      (λ s r at. split_keeps old s r id at))
