-- The steps of a seat keep the rule: the lock is taken, a seat looks, and the lock is given back, with a commit or without.
use Rattle.std.proofs.Common.{◌≡◌, ◌≢◌, ℕ, eqb, get_or, ◌≤◌, List, [], ◌∷◌, length, slice_index, Contains, Option, Some, None, set, refl, sym, ◌∙◌, ap, subst, arith, inl, inr, length-set, get_or-set_same}
use mathlib.Core.Option.{some, none, some-injective}
use lib.ListN.{get_elem?}
use prog.Atomic.{either}
use Rattle.std.proofs.lemmas.Option.{same_Some}
use Rattle.atomic_table.specs.Table.{State, keeps, takes, gives, rest, step, stepped, Allows}
use Rattle.atomic_table.proofs.Lists.{set_again, exchanged}
use Rattle.atomic_table.proofs.Lists as slots
use Rattle.tx_model.specs.declared.history.Commit.{Commit}
use Rattle.tx_model.specs.declared.pass.PassState.{PassState}
use Rattle.tx_model.specs.declared.pass.PassState.TheVariants.{Idle, Active}
use Rattle.tx_model.specs.History.{IsBeginning}
use Rattle.tx_model.proofs.lemmas.Histories.{beginning_of_itself, beginning_then, beginning_length, beginnings}
use Rattle.tx_model.proofs.lemmas.Holders.{each_view, names_kept, once_kept, all_kept, all_more, once_more}
use Rattle.tx_model.proofs.lemmas.Lists.{at_set, set_here, set_else}
use Rattle.tx_model.proofs.lemmas.Stamps.{stamps_within}
use Rattle.turn_memory.specs.declared.table.About.{About}
use Rattle.turn_memory.specs.declared.table.Knowledge.{Knowledge}
use Rattle.turn_memory.specs.Heap.{HeapView}
use Rattle.turn_memory.specs.Lock.{GoodOf, BudgetOf, knowing, share_of, mine_of, IsTable, IsSeat, IsHistory, IsFree, IsTaken, HoldsLast, HaveShares, AreLearned, Takes, Took, Looked, Learned, Releases, Publishes, LeadsOn, Sat, active_with, idle_again, with_commit, pass_of, made_of}
use Rattle.turn_memory.proofs.Views.{idle_not_active, plain_active, plain_idle, grown_length, plain_published, history_beginning, history_published, holds_published}
use Rattle.turn_memory.proofs.Whole.{whole_knows, whole_knows_active}

-- the slot that was taken first
pub first_slot : {x y : HeapView} {more others : List (ℕ × Option HeapView)} → (0, Some x) ∷ more ≡ (0, Some y) ∷ others → x ≡ y
first_slot e = same_Some _ _ (ap (λ (p : ℕ × Option HeapView). p.1) (ap (λ (held : List (ℕ × Option HeapView)). get_or held 0 (0, None)) e))

learned_more : {known other history longer : List Commit} → AreLearned history known other → IsBeginning history longer → AreLearned longer known other
learned_more was more = record { known = beginning_then _ _ _ was.known more; other = beginning_then _ _ _ was.other more; shorter = was.shorter }

module _ {S : Type 0} where
  abbrev pub state_of : Option (Knowledge S) → PassState
  state_of known = (pass_of known).state

  -- what is known of a view: nothing of one that was joined into another
  abbrev pub IsSeated : About S → List Commit → Option (Knowledge S) → Type 0
  IsSeated about history None = Unit {0}
  IsSeated about history (Some knowledge) = IsSeat about history knowledge

  -- a view that changed is of a seat without the lock
  pub data Came (about : About S) (history : List Commit) (views : List (Option (Knowledge S))) (i : ℕ) (known : Option (Knowledge S)) : Type 0 where
    stayed : get_elem? views i ≡ some known → Came about history views i known
    changed : state_of known ≡ Idle → IsSeated about history known → Came about history views i known

  -- a view without the lock isn't one with it
  pub not_idle : (views : List (Option (Knowledge S))) {id : ℕ} {old : Option (Knowledge S)} → get_elem? views id ≡ some old → state_of old ≡ Idle
      → (i : ℕ) (known : Option (Knowledge S)) → get_elem? views i ≡ some known → state_of known ≡ Active → i ≢ id
  not_idle views {id} {old} at idle i known e active here =
      idle_not_active (sym idle ∙ ap state_of (some-injective old known (sym at ∙ ap (get_elem? views) (sym here) ∙ e)) ∙ active)

  -- one seat changed
  seats_set : {about : About S} {history : List Commit} (views : List (Option (Knowledge S))) (id : ℕ) (new : Knowledge S) → IsSeat about history new
      → ((i : ℕ) (knowledge : Knowledge S) → get_elem? views i ≡ some (Some knowledge) → i ≢ id → IsSeat about history knowledge)
      → (i : ℕ) (knowledge : Knowledge S) → get_elem? (set views id (Some new)) i ≡ some (Some knowledge) → IsSeat about history knowledge
  seats_set {about} {history} views id new seat others i knowledge e =
      elim (at_set views id i (Some new) (Some knowledge) e) [
        | inl (here, is) ↦ subst (IsSeat about history) (same_Some _ _ is) seat
        | inr (apart, there) ↦ others i knowledge there apart
      ]

  module _ {good : GoodOf S} {budget : BudgetOf S} {about : About S} {s : State (Option HeapView) (Option (Knowledge S))}
      (r : IsTable good budget about s) where
    -- nobody took the lock or gave it back
    pub record IsChange (views : List (Option (Knowledge S))) : Type 0 where
      pub came : (i : ℕ) (known : Option (Knowledge S)) → get_elem? views i ≡ some known → Came about r.history s.views i known
      pub busy : (i : ℕ) (known : Option (Knowledge S)) → get_elem? s.views i ≡ some known → state_of known ≡ Active → get_elem? views i ≡ some known
      pub shares : HaveShares views (length r.history)

    seat_came : (i : ℕ) (knowledge : Knowledge S) → Came about r.history s.views i (Some knowledge) → IsSeat about r.history knowledge
    seat_came i knowledge (stayed there) = r.seats i knowledge there
    seat_came i knowledge (changed idle seat) = seat

    was_active : (i : ℕ) (known : Option (Knowledge S)) → Came about r.history s.views i known → state_of known ≡ Active → get_elem? s.views i ≡ some known
    was_active i known (stayed there) active = there
    was_active i known (changed idle seat) active = absurd (idle_not_active (sym idle ∙ active))

    -- the word may change too, if it isn't 0
    pub views_keep : (words : List ℕ) (views : List (Option (Knowledge S))) → IsChange views → length words ≡ length s.words
        → (slice_index s.words 0 ≡ 0 → slice_index words 0 ≡ 0) → (slice_index s.words 0 ≢ 0 → slice_index words 0 ≢ 0)
        → IsTable good budget about (record { words = words; homes = s.homes; views = views })
    views_keep words views change long free_word taken_word =
        record {
          history = r.history;
          history_is = r.history_is;
          one_word = long ∙ r.one_word;
          one_slot = r.one_slot;
          seats = λ i knowledge e. seat_came i knowledge (change.came i (Some knowledge) e);
          shares = change.shares;
          lock = elim r.lock [
            | inl free ↦ inl (record {
              word = free_word free.word;
              heap = free.heap;
              home = free.home;
              last = free.last;
              nobody = λ i known e active. free.nobody i known (was_active i known (change.came i known e) active) active;
            })
            | inr taken ↦ inr (record {
              word = taken_word taken.word;
              away = taken.away;
              holder = taken.holder;
              busy = let (known, there, active) = taken.busy in (known, change.busy taken.holder known there active, active);
              only = λ i known e active. taken.only i known (was_active i known (change.came i known e) active) active;
            })
          ];
        }

    module _ (id : ℕ) {knowledge : Knowledge S} (at : get_elem? s.views id ≡ some (Some knowledge)) where
      seat : IsSeat about r.history knowledge
      seat = r.seats id knowledge at

      -- the same names and own commits
      shares_kept : (new : Knowledge S) → new.pass.share ≡ knowledge.pass.share → new.pass.mine ≡ knowledge.pass.mine
          → HaveShares (set s.views id (Some new)) (length r.history)
      shares_kept new share mine = record {
        names = names_kept s.views id (Some knowledge) (Some new) at share_of share r.shares.names;
        all = all_kept s.views id (Some knowledge) (Some new) at mine_of (length r.history) (λ stamp has. rw mine has) r.shares.all;
        once = once_kept s.views id (Some knowledge) (Some new) at mine_of mine r.shares.once;
      }

      -- ---- the lock is taken
      abbrev holding : Knowledge S
      holding = knowing knowledge.about (active_with r.history knowledge.pass)

      seat_holding : IsSeat about r.history holding
      seat_holding = record {
        told = seat.told;
        learned = record { known = beginning_of_itself r.history; other = (r.history, refl); shorter = omega arith };
        plain = plain_active r.history knowledge.pass seat.plain (beginning_length _ _ seat.learned.known);
        active = λ _. refl;
      }

      took : (free : IsFree (made_of about).opening r.history s) (n : ℕ) → n ≢ 0
          → IsTable good budget about (stepped s 0 n id [] (Some holding) (takes 0 (Some free.heap)))
      took free n ne =
          record {
            history = r.history;
            history_is = r.history_is;
            one_word = length-set s.words 0 n ∙ r.one_word;
            one_slot = length-set s.homes 0 none ∙ r.one_slot;
            seats = seats_set s.views id holding seat_holding (λ i k there apart. r.seats i k there);
            shares = shares_kept holding refl refl;
            lock = inr (record {
              word = λ zero. ne (sym (get_or-set_same s.words 0 n 0 (omega (arith, r.one_word))) ∙ zero);
              away = slots.set_here s.homes 0 none (omega (arith, r.one_slot));
              holder = id;
              busy = (Some holding, set_here s.views id (Some holding) _ at, refl);
              only = λ i known e. each_view s.views id (Some knowledge) (Some holding) at (λ j k. state_of k ≡ Active → j ≡ id) (λ _. refl)
                  (λ j k there active. absurd (free.nobody j k there active)) i known e;
            });
          }

      tells_taken : (held : List (ℕ × Option HeapView)) (free : IsFree (made_of about).opening r.history s)
          → Took good budget knowledge held (Some holding, (0, Some free.heap) ∷ held)
      tells_taken held free = record {
        history = r.history;
        heap = free.heap;
        now = refl;
        longer = seat.learned.known;
        is_known = record { history_is = rw seat.told r.history_is; plain = seat_holding.plain; whole = whole_knows_active r id at };
        last = rw seat.told free.last;
      }

      -- it isn't free, and the seat keeps what it knows
      waits : IsTaken (made_of about).opening r.history s → (n : ℕ) → n ≢ 0 → IsTable good budget about (stepped s 0 n id [] (Some knowledge) keeps)
      waits taken n ne =
          rw (set_again s.views id (Some knowledge) at)
          (views_keep (set s.words 0 n) s.views (record { came = λ i known e. stayed e; busy = λ i known e active. e; shares = r.shares })
          (length-set s.words 0 n) (λ free. absurd (taken.word free))
          (λ _ zero. ne (sym (get_or-set_same s.words 0 n 0 (omega (arith, r.one_word))) ∙ zero)))

      -- ---- an idle seat looks
      module _ (idle : knowledge.pass.state ≡ Idle) where
        abbrev settled : Knowledge S
        settled = knowing knowledge.about knowledge.pass

        seat_settled : IsSeat about r.history settled
        seat_settled = record {
          told = seat.told;
          learned = record { known = seat.learned.known; other = (r.history, refl); shorter = omega arith };
          plain = seat.plain;
          active = seat.active;
        }

        looks : IsTable good budget about (stepped s 0 (slice_index s.words 0) id [] (Some settled) keeps)
        looks =
            rw (set_same s.words)
            (views_keep s.words (set s.views id (Some settled)) (record {
              came = λ i known e. elim (at_set s.views id i (Some settled) known e) [
                | inl (here, is) ↦ subst (Came about r.history s.views i) is (changed idle seat_settled)
                | inr (apart, there) ↦ stayed there
              ];
              busy = λ i known e active. set_else s.views id i (Some settled) (not_idle s.views at idle i known e active) ∙ e;
              shares = shares_kept settled refl refl;
            }) refl (λ free. free) (λ taken. taken))
          where
            set_same : (words : List ℕ) → set words 0 (slice_index words 0) ≡ words
            set_same [] = refl
            set_same (x ∷ xs) = refl

        tells_looked : Learned good budget knowledge [] (Some settled, [])
        tells_looked = record {
          now = refl;
          other = beginnings knowledge.other knowledge.pass.history r.history seat.learned.other seat.learned.known seat.learned.shorter;
          is_known = record {
            history_is = rw seat.told (history_beginning (made_of about) knowledge.pass.history r.history seat.learned.known r.history_is);
            plain = seat.plain;
            whole = whole_knows r id at;
          };
        }

      -- ---- the lock is given back
      module _ (active : knowledge.pass.state ≡ Active) where
        knows_all : knowledge.pass.history ≡ r.history
        knows_all = seat.active active

        others_wait : (i : ℕ) (known : Option (Knowledge S)) → get_elem? s.views i ≡ some known → i ≢ id → state_of known ≢ Active
        others_wait i known e apart is =
            elim r.lock [
              | inl free ↦ free.nobody id (Some knowledge) at active
              | inr taken ↦ apart (taken.only i known e is ∙ sym (taken.only id (Some knowledge) at active))
            ]

        -- over a history that may have gone on
        gives_back : (history : List Commit) (heap : HeapView) (new : Knowledge S) → IsBeginning r.history history → IsHistory good budget about history
            → new.pass.state ≡ Idle → IsSeat about history new → HaveShares (set s.views id (Some new)) (length history)
            → HoldsLast (made_of about).opening history heap → IsTable good budget about (stepped s 0 0 id ((0, Some heap) ∷ []) (Some new) gives)
        gives_back history heap new more history_is idle seat_new shares last =
            record {
              history = history;
              history_is = history_is;
              one_word = length-set s.words 0 0 ∙ r.one_word;
              one_slot = length-set s.homes 0 (some (Some heap)) ∙ r.one_slot;
              seats = seats_set s.views id new seat_new (λ i k there apart. wider i k there apart (r.seats i k there));
              shares = shares;
              lock = inl (record {
                word = get_or-set_same s.words 0 0 0 (omega (arith, r.one_word));
                heap = heap;
                home = slots.set_here s.homes 0 (some (Some heap)) (omega (arith, r.one_slot));
                last = last;
                nobody = λ i known e is. elim (at_set s.views id i (Some new) known e) [
                  | inl (here, same) ↦ idle_not_active (sym idle ∙ ap state_of same ∙ is)
                  | inr (apart, there) ↦ others_wait i known there apart is
                ];
              });
            }
          where
            -- a seat without the lock still knows a beginning of a history that went on
            wider : (i : ℕ) (k : Knowledge S) → get_elem? s.views i ≡ some (Some k) → i ≢ id → IsSeat about r.history k → IsSeat about history k
            wider i k there apart was = record {
              told = was.told;
              learned = learned_more was.learned more;
              plain = was.plain;
              active = λ is. absurd (others_wait i (Some k) there apart is);
            }

        abbrev rested : Knowledge S
        rested = record { about = knowledge.about; pass = idle_again knowledge.pass; other = knowledge.other }

        released : (heap : HeapView) → HoldsLast (made_of knowledge.about).opening knowledge.pass.history heap
            → IsTable good budget about (stepped s 0 0 id ((0, Some heap) ∷ []) (Some rested) gives)
        released heap last =
            gives_back r.history heap rested (beginning_of_itself r.history) r.history_is refl
            (record {
              told = seat.told;
              learned = seat.learned;
              plain = plain_idle knowledge.pass seat.plain;
              active = λ is. absurd (idle_not_active is);
            }) (shares_kept rested refl refl) (rw (seat.told, knows_all) at last)

        -- ---- with one more commit
        module _ (heap : HeapView) (may : LeadsOn good budget (made_of knowledge.about) knowledge.pass.history heap) where
          abbrev published : Knowledge S
          published = record { about = knowledge.about; pass = with_commit heap knowledge.pass; other = knowledge.other }

          abbrev grown : List Commit
          grown = published.pass.history

          leads : LeadsOn good budget (made_of about) knowledge.pass.history heap
          leads = rw seat.told at may

          -- a commit before the new one isn't greater than the count
          mine_within : (i : ℕ) (known : Option (Knowledge S)) (stamp : ℕ) → get_elem? s.views i ≡ some known → Contains (mine_of known) stamp
              → stamp ≤ length knowledge.pass.history
          mine_within i None stamp e (k, below, is) = absurd (omega (arith, below))
          mine_within i (Some other) stamp e has =
              let was = r.seats i other e in
              let least = (stamps_within (length other.pass.history) other.pass.mine was.plain.mine stamp has).1 in
              omega (arith, least, beginning_length _ _ was.learned.known, ap length knows_all)

          publishes : IsTable good budget about (stepped s 0 0 id ((0, Some heap) ∷ []) (Some published) gives)
          publishes =
              let count = length knowledge.pass.history in
              let more = subst (λ history. IsBeginning history grown) knows_all (_, refl) in
              gives_back grown heap published more (history_published (made_of about) knowledge.pass heap leads (rw knows_all r.history_is)) refl
              (record {
                told = seat.told;
                learned = record {
                  known = beginning_of_itself grown;
                  other = beginning_then _ _ _ seat.learned.other more;
                  shorter = omega (arith, seat.learned.shorter, grown_length heap knowledge.pass);
                };
                plain = plain_published heap knowledge.pass seat.plain;
                active = λ is. absurd (idle_not_active is);
              })
              (record {
                names = names_kept s.views id (Some knowledge) (Some published) at share_of refl r.shares.names;
                all = rw (grown_length heap knowledge.pass)
                    (all_more s.views id (Some knowledge) (Some published) at mine_of count refl (rw knows_all r.shares.all));
                once = once_more s.views id (Some knowledge) (Some published) at mine_of count refl mine_within r.shares.once;
              })
              (holds_published (made_of about) knowledge.pass heap leads)

  -- ---- what the seats may do
  module _ (good : GoodOf S) (budget : BudgetOf S) (about : About S) where
    -- a step that leaves the word taken, whatever it was
    pub takes_lock : (slots id : ℕ) (me : Sat S) (f : ℕ → ℕ) (knowledge : Knowledge S) → me.0 ≡ Some knowledge → ((n : ℕ) → f n ≢ 0)
        → Allows (IsTable good budget about) slots id me 0 f (Takes good budget (step 0 0 0 0 none) me)
    takes_lock slots id (known, held) f knowledge is ne =
        rw is (λ s r long at bound.
        elim r.lock [
          | inl free ↦ (
            Some (holding r id at),
            takes 0 (Some free.heap),
            free.home,
            took r id at free (f _) (ne _),
            ((λ _. (knowledge, refl, tells_taken r id at held free)), λ nonzero. absurd (nonzero free.word)),
          )
          | inr taken ↦ (Some knowledge, keeps, tt, waits r id at taken (f _) (ne _), ((λ zero. absurd (taken.word zero)), λ _. refl))
        ])

    pub looks_around : (slots id : ℕ) (me : Sat S) (old : Knowledge S) → me ≡ (Some old, []) → old.pass.state ≡ Idle
        → Allows (IsTable good budget about) slots id me 0 (λ n. n) (λ found. Looked good budget me)
    looks_around slots id me old is idle =
        rw is (λ s r long at bound. (Some (settled r id at idle), keeps, tt, looks r id at idle, (old, refl, tells_looked r id at idle)))

    pub gives_lock : (slots id : ℕ) (me : Sat S) (old : Knowledge S) (heap : HeapView) → me ≡ (Some old, (0, Some heap) ∷ []) → old.pass.state ≡ Active
        → HoldsLast (made_of old.about).opening old.pass.history heap
        → Allows (IsTable good budget about) slots id me 0 (λ _. 0) (Releases (step 0 0 0 0 none) me)
    gives_lock slots id me old heap is active last =
        rw is (λ s r long at bound. (Some (rested r id at active), gives, tt, released r id at active heap last, refl))

    pub publishes_commit : (slots id : ℕ) (me : Sat S) (old : Knowledge S) (heap : HeapView) → me ≡ (Some old, (0, Some heap) ∷ [])
        → old.pass.state ≡ Active → LeadsOn good budget (made_of old.about) old.pass.history heap
        → Allows (IsTable good budget about) slots id me 0 (λ _. 0) (Publishes (step 0 0 0 0 none) me)
    publishes_commit slots id me old heap is active may =
        rw is (λ s r long at bound. (
          Some (published r id at active heap may),
          gives,
          tt,
          publishes r id at active heap may,
          λ other same. ap (λ h. (Some (record { about = old.about; pass = with_commit h old.pass; other = old.other }), [])) (first_slot same),
        ))

-- a word that is 0 becomes 1, and any other stays
pub taken_if_free : (n : ℕ) → either (eqb n 0) 1 n ≢ 0
taken_if_free n = exchanged n 0 1 (λ m. m ≢ 0) (λ free. λ e. omega (arith, e)) (λ ne. ne)

-- the slot that was taken, with the heap in it again
pub filled : {S : Type 0} (before me : Sat S) (heap : HeapView) {old : Option HeapView} → before.1 ≡ (0, old) ∷ []
    → me ≡ (before.0, (0, Some heap) ∷ rest before.1) → me ≡ (before.0, (0, Some heap) ∷ [])
filled before me heap slot is = is ∙ λ k. (before.0, (0, Some heap) ∷ rest (slot k))
