-- A swap of the index keeps the rule: where it finds the index that it expects, the caller's commit is the last of the history and of the seat's own.
use Rattle.std.proofs.Common.{◌≡◌, ◌≢◌, ◌⊎◌, ℕ, ◌+◌, ◌≤◌, ◌++◌, eqb, List, [], ◌∷◌, length, set, slice_index, Contains, Option, Some, None, refl, sym, ◌∙◌, ap, subst, arith, inl, inr}
use Rattle.std.proofs.lemmas.List.{length_push}
use mathlib.Core.Option.{some}
use lib.ListN.{get_elem?}
use lib.Seq.{map-set}
use prog.Atomic.{either}
use Rattle.atomic_table.specs.Table.{State, Step, stepped, Act, keeps, Valid, carried_after, Allows}
use Rattle.atomic_table.proofs.Lists.{exchanged}
use Rattle.tx_model.specs.declared.gate.Region.{Region}
use Rattle.tx_model.specs.declared.gate.TheConstants.{GATE_SEALED}
use Rattle.tx_model.specs.declared.history.Commit.{Commit}
use Rattle.tx_model.specs.declared.pass.PassState.TheVariants as state
use Rattle.tx_model.specs.Attempt.{Fits, MayCommit}
use Rattle.tx_model.specs.History.{state_at, IsGoodHistory, IsBeginning}
use Rattle.tx_model.specs.Rule.{gate_at}
use Rattle.tx_model.specs.Holders.{HaveAll}
use Rattle.tx_model.specs.Pass.{AreStamps, OwnsRegion}
use Rattle.tx_model.proofs.lemmas.Holders.{each_view, still_there, names_kept, once_more, all_more}
use Rattle.tx_model.proofs.lemmas.Lists.{set_here}
use Rattle.tx_model.proofs.lemmas.Histories.{beginning_then, beginning_of_itself, beginning_length, good_more, writers_more}
use Rattle.tx_model.proofs.lemmas.Stamps.{stamps_more, stamps_wider, stamps_within}
use Rattle.ring_core.specs.declared.stage.Stage.TheVariants.{StampSwap}
use Rattle.ring_core.specs.declared.action.Action.{Action}
use Rattle.ring_core.specs.declared.action.Action.TheVariants as action
use Rattle.ring_core.specs.Request.{next_action, action_at}
use Rattle.ring_core.specs.Words.{CanAbsorb}
use Rattle.ring_worlds.specs.declared.process.Process.{Process}
use Rattle.ring_worlds.specs.World.{World, attempt_of, commit_of, moved_on}
use Rattle.ring_worlds.specs.Laws.{StepsKeep, MayAbsorb, StartStays, StepExists}
use Rattle.ring_worlds.proofs.lemmas.Members.{contains_none}
use Rattle.ring_words.specs.declared.table.About.{About}
use Rattle.ring_words.specs.declared.table.Knowledge.{Knowledge}
use Rattle.ring_words.specs.Ring.{Given, given_by, given_of, made_of, front_of, process_of, share_of, mine_of, IsRing, IsSeat, IsPlain, HasOwner}
use Rattle.ring_words.specs.Told.{Sat, IsKnown, Won, found_expected, found_other, Loaded, Swaps, Knows, after_won}
use Rattle.ring_words.specs.Layout.{index_at}
use Rattle.ring_words.proofs.WorldSwaps.{WonIn, won, with_one, won_world, wins}
use Rattle.ring_words.proofs.Loads.{IsLoading}
use Rattle.ring_words.proofs.Loads as loads
use Rattle.ring_words.proofs.Finds.{Leaves}
use Rattle.ring_words.proofs.Whole.{caller_here}

some_same : {X : Type 0} {x y : X} → Some x ≡ Some y → x ≡ y
some_same e = cc

none_some : {X : Type 0} {x : X} → None ≡ Some x → ⊥
none_some e = cc

stamped_idle : state.Stamped ≢ state.Idle
stamped_idle e = cc

-- what a swap asks of the caller: what each step asks, and that each good memory that fits its attempt is led to a good one
pub record IsSwapping {S : Type 0} (good : S → List ℕ → List ℕ → Type 0) (budget : S → List ℕ → ℕ) (about : About S) (known : List Commit)
    (p q : Process) (top : ℕ) : Type 0 where
  pub loading : IsLoading (given_of about) known p q
  pub at : q.caller.stage ≡ StampSwap top
  pub free : q.caller.state ≢ state.Stamped
  pub unowned : q.owned ≡ []
  pub may : MayCommit (good (made_of about).sense (made_of about).opening) (budget (made_of about).sense) (attempt_of q) q.owned

module _ (steps : StepsKeep) (absorbs : MayAbsorb) (stays : StartStays) (exists : StepExists) {S : Type 0} (good : S → List ℕ → List ℕ →
    Type 0) (budget : S → List ℕ → ℕ) where
  module _ (old : Knowledge S) (q : Process) (top : ℕ) (s : State ℕ (Option (Knowledge S))) (r : IsRing good budget old.about s) (id : ℕ)
      (here : get_elem? s.views id ≡ some (Some old)) (is : IsSwapping good budget old.about old.history old.process q top) where
    abbrev about : About S
    about = old.about

    abbrev given : Given
    given = given_of old.about

    abbrev w : World
    w = r.world

    abbrev n : ℕ
    n = slice_index s.words 0

    found_is : n ≡ w.index
    found_is = ap (λ words. slice_index words 0) r.words

    was_free : old.process.caller.state ≢ state.Stamped
    was_free was = is.free (is.loading.stays was)

    -- ---- it finds the index that it expects
    module _ (hit : n ≡ top) where
      in_world : (g : Given) → given_by w ≡ g → IsLoading g old.history old.process q → WonIn g w id q top
      in_world g made loading =
          subst (λ (g : Given). IsLoading g old.history old.process q → WonIn g w id q top) made
          (λ l. wins steps absorbs w r.sound id old.process q (caller_here good budget about s r id old here) l.may top is.at (sym found_is ∙ hit)) loading

      took : WonIn given w id q top
      took = in_world given r.made is.loading

      abbrev new : Knowledge S
      new = after_won old q n w.history

      -- with its process written out
      process_is : new.process ≡ won q top
      process_is = ap (moved_on given.shape given.opening w.history q) hit ∙ took.moved

      long : length (with_one w q) ≡ n + 1
      long = omega (arith, length_push w.history (commit_of q), took.last, hit)

      seat : IsSeat about w.history old
      seat = r.seats id old here

      goes_on : (h : List Commit) → IsBeginning h w.history → IsBeginning h (with_one w q)
      goes_on h begins = beginning_then h w.history (with_one w q) begins (commit_of q ∷ [], refl)

      known_long : length old.history ≤ length w.history
      known_long = beginning_length old.history w.history seat.known

      mine : AreStamps (length (with_one w q)) new.mine
      mine =
          let wide = stamps_wider (length old.history) n old.mine (omega (arith, known_long, took.last, hit)) seat.plain.mine in
          subst (λ count. AreStamps count new.mine) (sym long) (stamps_more n old.mine wide)

      fronts : front_of q ≡ front_of new.process
      fronts = ap front_of (sym process_is)

      stamped : new.process.caller.state ≡ state.Stamped
      stamped = ap (λ (x : Process). x.caller.state) process_is

      number_is : n + 1 ≡ new.process.caller.stamp
      number_is = omega (arith, hit, ap (λ (x : Process). x.caller.stamp) process_is)

      counted : length w.history ≡ n
      counted = omega (arith, took.last, hit)

      plain : IsPlain new
      plain =
          record {
            reached = omega (arith, fronts, took.reached, long, took.last, hit);
            rested = λ idle. absurd (stamped_idle (sym stamped ∙ idle));
            mine = mine;
            settled = λ free own has. absurd (free stamped);
            stamped = λ e. record {
              before = old.mine;
              last = ap (λ k. old.mine ++ k ∷ []) number_is;
              complete = λ own has. omega (arith, seat.plain.settled was_free own has, is.loading.front, fronts);
            };
            named = seat.plain.named;
            joined = seat.plain.joined;
            apart = seat.plain.apart;
          }

      now_seat : IsSeat about (with_one w q) new
      now_seat = record {
        told = refl;
        known = beginning_of_itself (with_one w q);
        other = (with_one w q, refl);
        shorter = omega arith;
        plain = plain;
      }

      other_seat : (k : Knowledge S) → IsSeat about w.history k → IsSeat about (with_one w q) k
      other_seat k was = record {
        told = was.told;
        known = goes_on k.history was.known;
        other = goes_on k.other was.other;
        shorter = was.shorter;
        plain = was.plain;
      }

      -- nobody had the new number
      within : (i : ℕ) (one : Option (Knowledge S)) (number : ℕ) → get_elem? s.views i ≡ some one → Contains (mine_of one) number → number ≤ n
      within i None number e has = absurd (contains_none number has)
      within i (Some k) number e has =
          let other = r.seats i k e in
          omega (
            arith,
            (stamps_within (length k.history) k.mine other.plain.mine number has).1,
            beginning_length k.history w.history other.known,
            took.last,
            hit,
          )

      still_owned : (region : Region) → HasOwner s.views region → HasOwner (set s.views id (Some new)) region
      still_owned region owner =
          elim (still_there s.views id (Some old) (Some new) here owner.seat (Some owner.knowledge) owner.here) [
            | inl there ↦ record { seat = owner.seat; knowledge = owner.knowledge; here = there; owns = owner.owns }
            | inr (was, there) ↦
                let same : owner.knowledge ≡ old = some_same was in
                elim owner.owns [
                  | inl owns ↦
                      let none : owner.knowledge.process.owned ≡ [] = ap (λ (x : Knowledge S). x.process.owned) same ∙ sym is.loading.owned ∙ is.unowned in
                      absurd (no_region region (subst (λ owned. OwnsRegion owned region) none owns))
                  | inr (stamped, seals) ↦ absurd (was_free (sym (ap (λ (x : Knowledge S). x.process.caller.state) same) ∙ stamped))
                ]
          ]
        where
          no_region : (region : Region) → OwnsRegion [] region → ⊥
          no_region region (i, o, below, there, same) = omega (arith, below)

      owned_now : (region : Region) → Contains (made_of about).regions region
          → Contains q.sealed region ⊎ (gate_at (made_of about).opening w.history (length w.history) region ≡ GATE_SEALED)
          → HasOwner (set s.views id (Some new)) region
      owned_now region among (inl seals) =
          record {
            seat = id;
            knowledge = new;
            here = set_here s.views id (Some new) (Some old) here;
            owns = inr (stamped, subst (λ (x : Process). Contains x.sealed region) (sym process_is) seals);
          }
      owned_now region among (inr sealed) = still_owned region (r.owners region among sealed)

      -- the state before the commit fits the attempt
      fits : Fits (state_at (made_of about).opening w.history (length w.history)) (attempt_of q) q.owned
      fits = record { reads = took.agree; contents = λ o among. absurd (contains_none o (subst (λ owned. Contains owned o) is.unowned among)) }

      good_states : IsGoodHistory (good (made_of about).sense (made_of about).opening) (budget (made_of about).sense) (made_of about).opening (with_one w q)
      good_states =
          let good_one = is.may (state_at (made_of about).opening w.history (length w.history)) (r.good_states.states (length w.history) (omega arith)) fits in
          good_more (made_of about).opening w.history (commit_of q) (good (made_of about).sense (made_of about).opening) (budget (made_of about).sense)
          r.good_states good_one.0 good_one.1

      pub rule : IsRing good budget about (stepped s 0 (top + 1) id [] (Some new) keeps)
      rule =
          record {
            world = won_world w id q top;
            made = r.made;
            sound = took.sound;
            words = ap (λ words. set words 0 (top + 1)) r.words;
            callers = map-set (process_of about.shape) s.views id (Some new) ∙ ap (λ l. set l id new.process) r.callers ∙ ap (set w.processes id) process_is;
            writers = writers_more (made_of about).opening w.history (commit_of q) r.writers took.writer;
            good_states = good_states;
            seats = λ i k e. each_view s.views id (Some old) (Some new) here (λ j known. (k : Knowledge S) → known ≡ Some k → IsSeat about (with_one w q) k)
                (λ k same. subst (IsSeat about (with_one w q)) (some_same same) now_seat)
                (λ j known there k same. other_seat k (r.seats j k (there ∙ ap some same))) i (Some k) e k refl;
            names = names_kept s.views id (Some old) (Some new) here share_of refl r.names;
            all = subst (λ count. HaveAll mine_of (set s.views id (Some new)) count) (sym long)
                (all_more s.views id (Some old) (Some new) here mine_of n refl
                (subst (λ count. HaveAll mine_of s.views count) counted r.all));
            once = once_more s.views id (Some old) (Some new) here mine_of n refl within r.once;
            owners = λ region among sealed. owned_now region among (took.gates region among sealed);
          }

      knows : Knows good budget new
      knows =
          record {
            history_is = record {
              legal = took.legal;
              writers = writers_more (made_of about).opening w.history (commit_of q) r.writers took.writer;
              rules = took.rules;
              good_states = good_states;
              lasts = took.lasts;
            };
            process_is = subst (IsKnown given (with_one w q)) (sym process_is) took.known;
            plain = plain;
            whole = λ whole free. absurd (free stamped);
          }

      pub tells : Won good budget q n (Some old, []) (Some new, [])
      tells =
          record {
            old = old;
            before = refl;
            slots = refl;
            step = record {
              history = w.history;
              now = refl;
              longer = seat.known;
              last = omega (arith, hit, took.last);
              can = subst (CanAbsorb given.shape q.caller) (sym hit) took.can;
              front = omega (arith, is.loading.front, fronts);
              owned = ap (λ (x : Process). x.owned) process_is ∙ is.loading.owned;
              fits = fits;
              knows = knows;
            };
          }

    -- ---- it finds another one
    swap_next : next_action given.shape q.caller ≡ action.SwapIndex top
    swap_next = ap (action_at given.shape q.caller) is.at

    abbrev index : ℕ
    index = index_at given.shape (next_action given.shape q.caller)

    index_is : index ≡ 0
    index_is = ap (index_at given.shape) swap_next

    abbrev Missed : ℕ → Type 0
    Missed k =
        (v : Option (Knowledge S)) × (a : Act ℕ) × Valid s.homes [] a × IsRing good budget about (stepped s k (slice_index s.words k) id [] v a)
        × Loaded good budget q (slice_index s.words k) (Some old, []) (v, carried_after [] a)

    missed : n ≢ top → Missed 0
    missed ne =
        let leaves = subst (λ (a : Action). Leaves (slice_index s.words (index_at given.shape a)) a) (sym swap_next) ne in
        subst Missed index_is (
          Some (loads.new steps absorbs stays exists good budget old q s r id here is.loading leaves),
          keeps,
          tt,
          loads.rule steps absorbs stays exists good budget old q s r id here is.loading leaves,
          loads.tells steps absorbs stays exists good budget old q s r id here is.loading leaves,
        )

    -- ---- either way
    abbrev Goes : Step ℕ → ℕ → Type 0
    Goes st m =
        (v : Option (Knowledge S)) × (a : Act ℕ) × Valid s.homes [] a × IsRing good budget about (stepped s 0 m id [] v a)
        × Swaps good budget q st (Some old, []) n (v, carried_after [] a)

    pub goes : (st : Step ℕ) → st.first ≡ top → Goes st (either (eqb n top) (top + 1) n)
    goes st expects =
        exchanged n top (top + 1) (Goes st)
        (λ hit. (Some (new hit), keeps, tt, rule hit, found_expected (hit ∙ sym expects) (tells hit)))
        (λ ne. let (v, a, valid, kept, told) = missed ne in (v, a, valid, kept, found_other (λ same. ne (same ∙ expects)) told))

  pub may_swap : (about : About S) (slots id : ℕ) (me : Sat S) (old : Knowledge S) (q : Process) (top : ℕ) (st : Step ℕ) → me.0 ≡ Some old → me.1 ≡ [] →
      old.about ≡ about → IsSwapping good budget about old.history old.process q top → st.first ≡ top
      → Allows (IsRing good budget about) slots id me 0 (λ n. either (eqb n top) (top + 1) n) (Swaps good budget q st me)
  may_swap its slots id me old q top st same bare is_its swapping expects =
      subst (λ (m : Sat S). Allows (IsRing good budget its) slots id m 0 (λ n. either (eqb n top) (top + 1) n) (Swaps good budget q st m))
      (λ i. (sym same i, sym bare i))
      (subst (λ (a : About S). IsSwapping good budget a old.history old.process q top →
      Allows (IsRing good budget a) slots id (Some old, []) 0 (λ n. either (eqb n top) (top + 1) n) (Swaps good budget q st (Some old, []))) is_its
      (λ is s r long at bound. goes old q top s r id at is st expects) swapping)
