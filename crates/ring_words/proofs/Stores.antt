-- A store of a stamped caller's turn keeps the rule.
use Rattle.std.proofs.Common.{◌≡◌, ◌≢◌, ℕ, ◌-◌, ◌++◌, ◌∷◌, ◌≤◌, not, map, List, [], length, set, slice_get, Contains, Option, Some, refl, sym, ◌∙◌, ap, subst, arith, inl, inr}
use Rattle.std.specs.List.{filter}
use Rattle.std.proofs.lemmas.List.Elements.{Contains-push_cases}
use mathlib.Core.Option.{some}
use lib.ListN.{get_elem?}
use lib.Seq.{map-set}
use Rattle.atomic_table.specs.Table.{State, Step, keeps, stepped, Allows}
use Rattle.tx_model.specs.declared.gate.Region.{Region}
use Rattle.tx_model.specs.declared.history.Commit.{Commit}
use Rattle.tx_model.specs.declared.view.Owned.{Owned}
use Rattle.tx_model.specs.declared.pass.PassState.TheVariants as state
use Rattle.tx_model.specs.Memory.{Agrees}
use Rattle.tx_model.specs.History.{state_at, HasWriters, IsGoodHistory}
use Rattle.tx_model.specs.Pass.{OwnsRegion}
use Rattle.tx_model.specs.Rule.{gate_at}
use Rattle.tx_model.specs.Holders.{HaveAll}
use Rattle.tx_model.specs.declared.gate.TheConstants.{GATE_SEALED}
use Rattle.tx_model.specs.Attempt as attempts
use Rattle.tx_model.proofs.lemmas.Holders.{each_view, still_there, names_kept, once_kept, all_kept}
use Rattle.tx_model.proofs.lemmas.Lists.{set_here}
use Rattle.tx_model.proofs.lemmas.Histories.{beginning_of_itself, beginning_length, state_stays}
use Rattle.tx_model.proofs.lemmas.Stamps.{stamps_wider}
use Rattle.ring_core.specs.declared.shape.Shape.{Shape}
use Rattle.ring_core.specs.declared.caller.Caller.{Caller}
use Rattle.ring_core.specs.declared.stage.Stage.TheVariants.{Turn}
use Rattle.ring_core.specs.declared.stage.TurnStage.{TurnStage}
use Rattle.ring_core.specs.Request.{next_action}
use Rattle.ring_core.specs.declared.stage.Stage.{Stage}
use Rattle.ring_core.specs.Outcomes.{Outcome, absorbed}
use Rattle.ring_worlds.specs.declared.process.Process.{Process}
use Rattle.ring_worlds.specs.World.{World, Board, attempt_of, commit_of, moved_on}
use Rattle.ring_worlds.specs.Sound.{Sound}
use Rattle.ring_worlds.specs.Table.{words_of}
use Rattle.ring_worlds.specs.Laws.{StepsKeep, MayAbsorb, StepExists}
use Rattle.ring_worlds.proofs.lemmas.Members.{contains_none}
use Rattle.ring_words.specs.declared.table.About.{About}
use Rattle.ring_words.specs.declared.table.Knowledge.{Knowledge}
use Rattle.ring_words.specs.Ring.{Given, given_by, given_of, made_of, front_of, process_of, share_of, mine_of, IsRing, IsSeat, IsPlain, IsLast, HasOwner}
use Rattle.ring_words.specs.Told.{Sat, KeepsCommit, IsAhead, Knows, TellsOn, Loaded, Stores, after_step, board_with}
use Rattle.ring_words.specs.Layout.{index_at}
use Rattle.ring_words.specs.Stores.{IsStore, word_stored}
use Rattle.ring_words.specs.Pass.{MayBecome}
use Rattle.ring_words.proofs.StoredWords.{with_store, words_after}
use Rattle.ring_words.proofs.WorldStores.{Stored, goes_on, completes, StoredIn, stored, completed, after_store, store_keeps}
use Rattle.ring_words.proofs.Words.{next_inside}
use Rattle.ring_words.proofs.Whole.{caller_here, whole_knows}
use Rattle.ring_words.proofs.Alone.{earlier_complete}

some_same : {X : Type 0} {x y : X} → Some x ≡ Some y → x ≡ y
some_same e = cc

stamped_busy : state.Stamped ≢ state.Idle
stamped_busy e = cc

-- a store says nothing of other entries
says_by : (given : Given) (b : Board) (q : Process) (stage : Stage) (o : Outcome) → Stored given.shape q.caller stage o → TellsOn given b q o
says_by given b q stage o (goes_on next is) = subst (TellsOn given b q) (sym is) tt
says_by given b q stage o (completes last is) = subst (TellsOn given b q) (sym is) tt

-- and waits for none
ahead_by : (front : ℕ) (shape : Shape) (c : Caller) (stage : Stage) (o : Outcome) → Stored shape c stage o → IsAhead front o.progress
ahead_by front shape c stage o (goes_on next is) = subst (λ (x : Outcome). IsAhead front x.progress) (sym is) tt
ahead_by front shape c stage o (completes last is) = subst (λ (x : Outcome). IsAhead front x.progress) (sym is) tt

owns_nothing : (region : Region) → OwnsRegion [] region → ⊥
owns_nothing region (i, o, below, here, is) = omega (arith, below)

-- what a caller has become whose seat is about to store a word: it was stamped, and its attempt is the same
pub record IsStoring (given : Given) (history : List Commit) (p q : Process) : Type 0 where
  pub may : MayBecome given p q
  pub was : p.caller.state ≡ state.Stamped
  pub stamp : q.caller.stamp ≡ p.caller.stamp
  pub start : q.caller.start ≤ length history
  pub front : front_of p ≤ front_of q
  pub agree : Agrees q.reads (state_at given.opening history q.caller.start)
  pub stores : IsStore (next_action given.shape q.caller)
  -- no call of the ring seals a region
  pub was_unowned : p.owned ≡ []
  pub was_unsealed : p.sealed ≡ []
  pub unowned : q.owned ≡ []
  pub unsealed : q.sealed ≡ []

-- who owns nothing and seals nothing has nothing after its commit
pub none_after : (memory : List ℕ) (q : Process) → q.owned ≡ [] → q.sealed ≡ [] → attempts.owned_after memory (attempt_of q) q.owned ≡ []
none_after memory q unowned unsealed =
    ap (λ (l : List Owned). filter (λ (o : Owned). not (attempts.has_region q.published o.region)) l ++ map (attempts.just_sealed memory) q.sealed) unowned
    ∙ ap (λ (l : List Region). map (attempts.just_sealed memory) l) unsealed

module _ (steps : StepsKeep) (absorbs : MayAbsorb) (exists : StepExists) {S : Type 0} (good : S → List ℕ → List ℕ → Type 0) (budget : S → List ℕ → ℕ)
    (old : Knowledge S) (q : Process) (s : State ℕ (Option (Knowledge S))) (r : IsRing good budget old.about s) (id : ℕ)
    (at : get_elem? s.views id ≡ some (Some old)) (is : IsStoring (given_of old.about) old.history old.process q) where
  abbrev about : About S
  about = old.about

  abbrev given : Given
  given = given_of old.about

  abbrev w : World
  w = r.world

  abbrev index : ℕ
  index = index_at given.shape (next_action given.shape q.caller)

  abbrev value : ℕ
  value = word_stored (next_action given.shape q.caller)

  abbrev new : Knowledge S
  new = after_step old q 0 w.history

  -- over the world
  record InWorld (g : Given) : Type 0 where
    taken : StoredIn g w id q
    words : set s.words (index_at g.shape (next_action g.shape q.caller)) (word_stored (next_action g.shape q.caller))
        ≡ words_of (with_store w id (moved_on g.shape g.opening w.history q 0) (next_action g.shape q.caller))

  in_world : InWorld given
  in_world = subst (λ (g : Given). IsStoring g old.history old.process q → InWorld g) r.made here is
    where
      here : IsStoring (given_by w) old.history old.process q → InWorld (given_by w)
      here storing =
          let there = caller_here good budget about s r id old at in
          let machine = ((storing.may w id refl r.sound there).each id q (set_here w.processes id q old.process there)).machine in
          let inside = next_inside w.shape r.sound.opened.limits q.caller machine in
          let a = next_action w.shape q.caller in
          record {
            taken = stored steps absorbs exists w r.sound id old.process q there storing.may storing.stores;
            words = ap (λ words. set words (index_at w.shape a) (word_stored a)) r.words
                ∙ words_after w r.sound id (moved_on w.shape w.opening w.history q 0) a storing.stores inside;
          }

  abbrev took : StoredIn given w id q
  took = in_world.taken

  seat : IsSeat about w.history old
  seat = r.seats id old at

  known_long : length old.history ≤ length w.history
  known_long = beginning_length old.history w.history seat.known

  -- ---- the caller after the store
  by_cases : (P : Process → Type 0) → ((next : TurnStage) → P (record q { caller = record q.caller { stage = Turn next } }))
      → P (completed given.shape given.opening w.history q) → P new.process
  by_cases P going ended =
      after_store given.shape given.opening w.history q q.caller.stage P going ended (absorbed given.shape q.caller 0) took.leads

  pub rests : new.process.caller.state ≡ state.Idle → new.process.caller.start ≤ new.process.front
  rests =
      by_cases (λ x. x.caller.state ≡ state.Idle → x.caller.start ≤ x.front) (λ next idle. absurd (stamped_busy (sym took.was.stamped ∙ idle)))
      (λ idle. omega (arith, took.was.after))

  raised : front_of q ≤ front_of new.process
  raised = by_cases (λ x. front_of q ≤ front_of x) (λ next. omega arith) (omega arith)

  pub owned : new.process.owned ≡ []
  owned = by_cases (λ x. x.owned ≡ []) (λ next. is.unowned) (none_after _ q is.unowned is.unsealed)

  pub agree : new.process.caller.state ≢ state.Idle → Agrees new.process.reads (state_at given.opening w.history new.process.caller.start)
  agree =
      by_cases (λ x. x.caller.state ≢ state.Idle → Agrees x.reads (state_at given.opening w.history x.caller.start))
      (λ next busy. subst (Agrees q.reads) (sym (state_stays given.opening old.history w.history q.caller.start seat.known is.start)) is.agree)
      (λ busy. absurd (busy refl))

  pub committed : new.process.caller.state ≡ state.Stamped → slice_get w.history (new.process.caller.stamp - 1) ≡ Some (commit_of new.process)
  committed =
      by_cases (λ x. x.caller.state ≡ state.Stamped → slice_get w.history (x.caller.stamp - 1) ≡ Some (commit_of x)) (λ next stamped. took.there)
      (λ stamped. absurd (stamped_busy (sym stamped)))

  -- its own commits
  last_mine : IsLast old.process old.mine
  last_mine = seat.plain.stamped is.was

  own_complete : (front : ℕ) → front_of old.process ≤ front → old.process.caller.stamp ≤ front → (own : ℕ) → Contains old.mine own → own ≤ front
  own_complete front up reached own has =
      elim (Contains-push_cases last_mine.before old.process.caller.stamp own (subst (λ l. Contains l own) last_mine.last has)) [
        | inl before ↦ let below = last_mine.complete own before in omega (arith, below, up)
        | inr same ↦ omega (arith, same, reached)
      ]

  pub plain : IsPlain new
  plain =
      record {
        reached = took.reached;
        rested = rests;
        mine = stamps_wider (length old.history) (length w.history) old.mine known_long seat.plain.mine;
        settled = by_cases (λ x. x.caller.state ≢ state.Stamped → (own : ℕ) → Contains old.mine own → own ≤ front_of x)
            (λ next free. absurd (free took.was.stamped))
            (λ free own has. own_complete (front_of (completed given.shape given.opening w.history q)) (omega (arith, is.front))
            (omega (arith, is.stamp)) own has);
        stamped = by_cases (λ x. x.caller.state ≡ state.Stamped → IsLast x old.mine)
            (λ next stamped. record {
              before = last_mine.before;
              last = last_mine.last ∙ ap (λ n. last_mine.before ++ n ∷ []) (sym is.stamp);
              complete = λ own has. let below = last_mine.complete own has in omega (arith, below, is.front);
            }) (λ stamped. absurd (stamped_busy (sym stamped)));
        named = seat.plain.named;
        joined = seat.plain.joined;
        apart = seat.plain.apart;
      }

  now_seat : IsSeat about w.history new
  now_seat = record { told = refl; known = beginning_of_itself w.history; other = (w.history, refl); shorter = omega arith; plain = plain }

  -- who owns the region before the store owns it after it
  still_owned : (region : Region) → HasOwner s.views region → HasOwner (set s.views id (Some new)) region
  still_owned region owner =
      elim (still_there s.views id (Some old) (Some new) at owner.seat (Some owner.knowledge) owner.here) [
        | inl there ↦ record { seat = owner.seat; knowledge = owner.knowledge; here = there; owns = owner.owns }
        | inr (was, there) ↦
            let same : owner.knowledge ≡ old = some_same was in
            elim owner.owns [
              | inl owns ↦
                  absurd (owns_nothing region (subst (λ l. OwnsRegion l region) (ap (λ (x : Knowledge S). x.process.owned) same ∙ is.was_unowned) owns))
              | inr (stamped, seals) ↦
                  absurd (contains_none region (subst (λ l. Contains l region) (ap (λ (x : Knowledge S). x.process.sealed) same ∙ is.was_unsealed) seals))
            ]
      ]

  abbrev pub after : State ℕ (Option (Knowledge S))
  after = stepped s index value id [] (Some new) keeps

  -- whatever the words are by now
  ring_with : (world : World) → given_by world ≡ given → Sound world → set s.words index value ≡ words_of world
      → world.history ≡ w.history → world.processes ≡ set w.processes id new.process → IsRing good budget about after
  ring_with world made sound words history processes =
      record {
        world = world;
        made = made;
        sound = sound;
        words = words;
        callers = map-set (process_of about.shape) s.views id (Some new) ∙ ap (λ l. set l id new.process) r.callers ∙ sym processes;
        writers = subst HasWriters (sym history) r.writers;
        good_states = subst (IsGoodHistory (good (made_of about).sense (made_of about).opening) (budget (made_of about).sense) (made_of about).opening)
            (sym history) r.good_states;
        seats = λ i k e. subst (λ h. IsSeat about h k) (sym history)
            (each_view s.views id (Some old) (Some new) at (λ j known. (k : Knowledge S) → known ≡ Some k → IsSeat about w.history k)
            (λ k same. subst (IsSeat about w.history) (some_same same) now_seat) (λ j known there k same. r.seats j k (there ∙ ap some same)) i
            (Some k) e k refl);
        names = names_kept s.views id (Some old) (Some new) at share_of refl r.names;
        all = subst (λ (h : List Commit). HaveAll mine_of (set s.views id (Some new)) (length h)) (sym history)
            (all_kept s.views id (Some old) (Some new) at mine_of (length w.history) (λ own has. has) r.all);
        once = once_kept s.views id (Some old) (Some new) at mine_of refl r.once;
        owners = λ region among sealed. still_owned region (r.owners region among
            (subst (λ (h : List Commit). gate_at (made_of about).opening h (length h) region ≡ GATE_SEALED) history sealed));
      }

  pub rule : IsRing good budget about after
  rule =
      store_keeps (λ x. Sound x → set s.words index value ≡ words_of x → IsRing good budget about after) w id new.process
      (next_action given.shape q.caller) is.stores
      (λ tags sigs heap sound words. ring_with (record w { tags = tags; sigs = sigs; heap = heap; processes = set w.processes id new.process }) r.made
      sound words refl refl) took.sound in_world.words

  -- ---- what the seat is told
  kept : new.process.caller.state ≡ state.Stamped → KeepsCommit q new.process
  kept =
      by_cases (λ x. x.caller.state ≡ state.Stamped → KeepsCommit q x)
      (λ next stamped. record { was = took.was.stamped; stamp = refl; same = refl }) (λ stamped. absurd (stamped_busy (sym stamped)))

  says : TellsOn given (board_with w.history w.tags) q (absorbed given.shape q.caller 0)
  says = says_by given (board_with w.history w.tags) q q.caller.stage (absorbed given.shape q.caller 0) took.leads

  knows : Knows good budget new
  knows =
      record {
        history_is = record { legal = took.legal; writers = r.writers; rules = took.rules; good_states = r.good_states; lasts = took.lasts };
        process_is = record {
          machine = took.machine;
          since = took.since;
          agree = agree;
          follows = took.follows;
          publishes = took.publishes;
          committed = committed;
        };
        plain = plain;
        whole = whole_knows good budget about after rule id new (set_here s.views id (Some new) (Some old) at);
      }

  pub tells : Loaded good budget q 0 (Some old, []) (Some new, [])
  tells =
      record {
        old = old;
        before = refl;
        slots = refl;
        step = record {
          history = w.history;
          now = refl;
          longer = seat.known;
          can = took.can;
          index = λ loads. absurd (subst IsStore loads is.stores);
          tags = w.tags;
          tells = says;
          start = λ busy. by_cases (λ x. q.caller.start ≤ x.caller.start) (λ next. omega arith) (omega arith);
          front = omega (arith, is.front, raised);
          ahead = ahead_by (front_of new.process) given.shape q.caller q.caller.stage (absorbed given.shape q.caller 0) took.leads;
          owned = owned ∙ sym is.was_unowned;
          stamped = kept;
          knows = knows;
          alone = earlier_complete good budget about s r id old at;
        };
      }

module _ (steps : StepsKeep) (absorbs : MayAbsorb) (exists : StepExists) {S : Type 0} (good : S → List ℕ → List ℕ → Type 0) (budget : S → List ℕ → ℕ) where
  pub may_store : (about : About S) (slots id : ℕ) (me : Sat S) (old : Knowledge S) (q : Process) (st : Step ℕ) → me.0 ≡ Some old → me.1 ≡ [] →
      old.about ≡ about → IsStoring (given_of about) old.history old.process q
      → Allows (IsRing good budget about) slots id me (index_at about.shape (next_action about.shape q.caller))
      (λ n. word_stored (next_action about.shape q.caller)) (λ n. Stores good budget q st me (word_stored (next_action about.shape q.caller)))
  may_store its slots id me old q st same none is_its storing =
      subst (λ (m : Sat S). Allows (IsRing good budget its) slots id m (index_at its.shape (next_action its.shape q.caller))
      (λ n. word_stored (next_action its.shape q.caller)) (λ n. Stores good budget q st m (word_stored (next_action its.shape q.caller))))
      (λ i. (sym same i, sym none i))
      (subst (λ (a : About S). IsStoring (given_of a) old.history old.process q →
      Allows (IsRing good budget a) slots id (Some old, []) (index_at a.shape (next_action a.shape q.caller))
      (λ n. word_stored (next_action a.shape q.caller)) (λ n. Stores good budget q st (Some old, []) (word_stored (next_action a.shape q.caller)))) is_its
      (λ l s r long at bound. (
        Some (new steps absorbs exists good budget old q s r id at l),
        keeps,
        tt,
        rule steps absorbs exists good budget old q s r id at l,
        tells steps absorbs exists good budget old q s r id at l,
      )) storing)
