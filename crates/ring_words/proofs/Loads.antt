-- A load of a seat keeps the rule, and tells the seat what it is to know.
use Rattle.std.proofs.Common.{◌≡◌, ℕ, ◌≤◌, ◌++◌, List, [], ◌∷◌, length, set, slice_index, Contains, Option, Some, refl, sym, ◌∙◌, ap, subst, arith, inl, inr}
use mathlib.Core.Option.{some}
use lib.ListN.{get_elem?}
use lib.Seq.{map-set, set-get_or}
use Rattle.atomic_table.specs.Table.{State, Step, keeps, stepped, Allows}
use Rattle.tx_model.specs.declared.gate.Region.{Region}
use Rattle.tx_model.specs.declared.pass.PassState.TheVariants as state
use Rattle.tx_model.specs.declared.history.Commit.{Commit}
use Rattle.tx_model.specs.declared.view.Attempt.{Attempt}
use Rattle.tx_model.specs.Memory.{Agrees}
use Rattle.tx_model.specs.History.{state_at}
use Rattle.tx_model.specs.Pass.{OwnsRegion}
use Rattle.tx_model.proofs.lemmas.Holders.{each_view, still_there, names_kept, once_kept, all_kept}
use Rattle.tx_model.proofs.lemmas.Lists.{set_here}
use Rattle.tx_model.proofs.lemmas.Histories.{beginning_of_itself, beginning_length, state_stays}
use Rattle.tx_model.proofs.lemmas.Stamps.{stamps_wider}
use Rattle.ring_core.specs.Request.{next_action}
use Rattle.ring_worlds.specs.declared.process.Process.{Process}
use Rattle.ring_worlds.specs.World.{World, with_process}
use Rattle.ring_worlds.specs.Laws.{StepsKeep, MayAbsorb, StartStays, StepExists}
use Rattle.ring_words.specs.declared.table.About.{About}
use Rattle.ring_words.specs.declared.table.Knowledge.{Knowledge}
use Rattle.ring_words.specs.Ring.{Given, given_by, given_of, front_of, process_of, share_of, mine_of, IsRing, IsSeat, IsPlain, IsLast, HasOwner}
use Rattle.ring_words.specs.Told.{Sat, KeepsCommit, Loaded, Loads, Knows, after_step}
use Rattle.ring_words.specs.Layout.{index_at, IsLoad}
use Rattle.ring_words.specs.Pass.{MayBecome}
use Rattle.ring_words.proofs.Finds.{Leaves, load_leaves, leaves_finds}
use Rattle.ring_words.proofs.WorldLoads.{LoadedIn, loaded}
use Rattle.ring_words.proofs.Words.{next_inside, word_here}
use Rattle.ring_words.proofs.Whole.{caller_here, whole_knows}
use Rattle.ring_words.proofs.Alone.{earlier_complete}

some_same : {X : Type 0} {x y : X} → Some x ≡ Some y → x ≡ y
some_same e = cc

-- what a caller has become, whose seat is about to make a step
pub record IsLoading (given : Given) (known : List Commit) (p q : Process) : Type 0 where
  pub may : MayBecome given p q
  pub stays : p.caller.state ≡ state.Stamped → q.caller.state ≡ state.Stamped
  pub stamped : q.caller.state ≡ state.Stamped → KeepsCommit p q
  pub started : q.caller.start ≤ length known
  pub agree : q.caller.state ≡ state.Stamped → Agrees q.reads (state_at given.opening known q.caller.start)
  pub owned : q.owned ≡ p.owned
  pub front : front_of p ≤ front_of q
  pub rests : q.caller.state ≡ state.Idle → q.caller.start ≤ q.front

module _ (steps : StepsKeep) (absorbs : MayAbsorb) (stays : StartStays) (exists : StepExists) {S : Type 0} (good : S → List ℕ → List ℕ →
    Type 0) (budget : S → List ℕ → ℕ) where
  module _ (old : Knowledge S) (q : Process) (s : State ℕ (Option (Knowledge S))) (r : IsRing good budget old.about s) (id : ℕ)
      (at : get_elem? s.views id ≡ some (Some old)) (is : IsLoading (given_of old.about) old.history old.process q)
      (leaves : Leaves (slice_index s.words (index_at (given_of old.about).shape (next_action (given_of old.about).shape q.caller)))
      (next_action (given_of old.about).shape q.caller)) where
    abbrev about : About S
    about = old.about

    abbrev given : Given
    given = given_of old.about

    abbrev w : World
    w = r.world

    abbrev index : ℕ
    index = index_at given.shape (next_action given.shape q.caller)

    abbrev n : ℕ
    n = slice_index s.words index

    abbrev pub new : Knowledge S
    new = after_step old q n w.history

    abbrev Leaving : Given → Type 0
    Leaving g = Leaves (slice_index s.words (index_at g.shape (next_action g.shape q.caller))) (next_action g.shape q.caller)

    -- over the world the word is the one found there
    found_given : (g : Given) → given_by w ≡ g → IsLoading g old.history old.process q → Leaving g →
        LoadedIn g w id old.process q (slice_index s.words (index_at g.shape (next_action g.shape q.caller)))
    found_given g made loading leaving =
        subst (λ (g : Given). IsLoading g old.history old.process q → Leaving g →
        LoadedIn g w id old.process q (slice_index s.words (index_at g.shape (next_action g.shape q.caller)))) made here loading leaving
      where
        here : IsLoading (given_by w) old.history old.process q → Leaving (given_by w) →
            LoadedIn (given_by w) w id old.process q (slice_index s.words (index_at w.shape (next_action w.shape q.caller)))
        here loading leaving =
            let next = next_action w.shape q.caller in
            let there = caller_here good budget about s r id old at in
            let sound = (loading.may w id refl r.sound there).each id q (set_here w.processes id q old.process there) in
            let inside = next_inside w.shape r.sound.opened.limits q.caller sound.machine in
            let is_found = ap (λ words. slice_index words (index_at w.shape next)) r.words ∙
            word_here w r.sound next (leaves_finds (slice_index s.words (index_at w.shape next)) next leaving) inside in
            subst (LoadedIn (given_by w) w id old.process q) (sym is_found)
            (loaded steps absorbs stays exists w r.sound id old.process q there loading.may
            (λ is. subst (Agrees q.reads) (sym (state_stays w.opening old.history w.history q.caller.start (r.seats id old at).known loading.started))
            (loading.agree is))
            loading.owned loading.front loading.rests (subst (λ n. Leaves n next) is_found leaving))

    took : LoadedIn given w id old.process q n
    took = found_given given r.made is leaves

    seat : IsSeat about w.history old
    seat = r.seats id old at

    known_long : length old.history ≤ length w.history
    known_long = beginning_length old.history w.history seat.known

    -- the commit of a stamped caller is still the last of its own
    last : new.process.caller.state ≡ state.Stamped → IsLast new.process old.mine
    last now =
        let kept = took.stamped now in
        let before = is.stamped kept.was in
        let own = seat.plain.stamped before.was in
        record {
          before = own.before;
          last = own.last ∙ ap (λ n. own.before ++ n ∷ []) (sym before.stamp ∙ sym kept.stamp);
          complete = λ number has. omega (arith, own.complete number has, took.front);
        }

    plain : IsPlain new
    plain =
        record {
          reached = took.reached;
          rested = took.rests;
          mine = stamps_wider (length old.history) (length w.history) old.mine known_long seat.plain.mine;
          settled = λ free own has. omega (arith, seat.plain.settled (λ was. free (took.stays (is.stays was))) own has, took.front);
          stamped = last;
          named = seat.plain.named;
          joined = seat.plain.joined;
          apart = seat.plain.apart;
        }

    now_seat : IsSeat about w.history new
    now_seat =
        record {
          told = refl;
          known = beginning_of_itself w.history;
          other = (w.history, refl);
          shorter = omega arith;
          plain = plain;
        }

    -- who owns the region before the load owns it after it
    still_owned : (region : Region) → HasOwner s.views region → HasOwner (set s.views id (Some new)) region
    still_owned region owner =
        elim (still_there s.views id (Some old) (Some new) at owner.seat (Some owner.knowledge) owner.here) [
          | inl there ↦ record { seat = owner.seat; knowledge = owner.knowledge; here = there; owns = owner.owns }
          | inr (was, there) ↦
              let same : owner.knowledge ≡ old = some_same was in
              elim owner.owns [
                | inl owns ↦
                    record {
                      seat = id;
                      knowledge = new;
                      here = there;
                      owns = inl (subst (λ owned. OwnsRegion owned region) (ap (λ (x : Knowledge S). x.process.owned) same ∙ sym took.owned) owns);
                    }
                | inr (stamped, seals) ↦
                    let was = is.stays (sym (ap (λ (x : Knowledge S). x.process.caller.state) same) ∙ stamped) in
                    let now = took.stays was in
                    let sealed = ap (λ (a : Attempt). a.sealed) ((took.stamped now).same ∙ (is.stamped was).same)
                    ∙ ap (λ (x : Knowledge S). x.process.sealed) (sym same) in
                    record {
                      seat = id;
                      knowledge = new;
                      here = there;
                      owns = inr (now, subst (λ l. Contains l region) (sym sealed) seals);
                    }
              ]
        ]

    pub rule : IsRing good budget about (stepped s index n id [] (Some new) keeps)
    rule =
        record {
          world = with_process w id new.process;
          made = r.made;
          sound = took.sound;
          words = set-get_or s.words index 0 ∙ r.words;
          callers = map-set (process_of about.shape) s.views id (Some new) ∙ ap (λ l. set l id new.process) r.callers;
          writers = r.writers;
          good_states = r.good_states;
          seats = λ i k e. each_view s.views id (Some old) (Some new) at (λ j known. (k : Knowledge S) → known ≡ Some k → IsSeat about w.history k)
              (λ k same. subst (IsSeat about w.history) (some_same same) now_seat) (λ j known there k same. r.seats j k (there ∙ ap some same)) i
              (Some k) e k refl;
          names = names_kept s.views id (Some old) (Some new) at share_of refl r.names;
          all = all_kept s.views id (Some old) (Some new) at mine_of (length w.history) (λ own has. has) r.all;
          once = once_kept s.views id (Some old) (Some new) at mine_of refl r.once;
          owners = λ region among sealed. still_owned region (r.owners region among sealed);
        }

    now_at : get_elem? (set s.views id (Some new)) id ≡ some (Some new)
    now_at = set_here s.views id (Some new) (Some old) at

    knows : Knows good budget new
    knows =
        record {
          history_is = record { legal = took.legal; writers = r.writers; rules = took.rules; good_states = r.good_states; lasts = took.lasts };
          process_is = took.process_is;
          plain = plain;
          whole = whole_knows good budget about (stepped s index n id [] (Some new) keeps) rule id new now_at;
        }

    pub tells : Loaded good budget q n (Some old, []) (Some new, [])
    tells =
        record {
          old = old;
          before = refl;
          slots = refl;
          step = record {
            history = w.history;
            now = refl;
            longer = seat.known;
            can = took.can;
            index = took.index;
            tags = w.tags;
            tells = took.tells;
            start = took.start;
            front = took.front;
            ahead = took.ahead;
            owned = took.owned;
            stamped = took.stamped;
            knows = knows;
            alone = earlier_complete good budget about s r id old at;
          };
        }

  pub may_load : (about : About S) (slots id : ℕ) (me : Sat S) (old : Knowledge S) (q : Process) (st : Step ℕ) → me.0 ≡ Some old → me.1 ≡ [] →
      old.about ≡ about → IsLoading (given_of about) old.history old.process q → IsLoad (next_action about.shape q.caller)
      → Allows (IsRing good budget about) slots id me (index_at about.shape (next_action about.shape q.caller)) (λ n. n) (Loads good budget q st me)
  may_load its slots id me old q st same none is_its loading loads =
      subst (λ (m : Sat S). Allows (IsRing good budget its) slots id m (index_at its.shape (next_action its.shape q.caller)) (λ n. n)
      (Loads good budget q st m)) (λ i. (sym same i, sym none i))
      (subst (λ (a : About S). IsLoading (given_of a) old.history old.process q → IsLoad (next_action a.shape q.caller) →
      Allows (IsRing good budget a) slots id (Some old, []) (index_at a.shape (next_action a.shape q.caller)) (λ n. n)
      (Loads good budget q st (Some old, []))) is_its
      (λ l loads' s r long at bound.
      let leaves = load_leaves (slice_index s.words (index_at old.about.shape (next_action old.about.shape q.caller)))
      (next_action old.about.shape q.caller) loads' in
      (Some (new old q s r id at l leaves), keeps, tt, rule old q s r id at l leaves, tells old q s r id at l leaves)) loading loads)
