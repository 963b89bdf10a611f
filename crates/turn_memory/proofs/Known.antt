-- What every pass of the memory knows: as it is made, as it begins, is split and joined, and as the memory is closed.
use Rattle.std.proofs.Common.{◌≡◌, ◌≢◌, ℕ, ◌≤◌, List, [], ◌∷◌, length, Contains, Option, Some, None, refl, sym, ◌∙◌, ap, subst, arith, inl, inr}
use mathlib.Core.Option.{some, some-injective}
use lib.ListN.{get_elem?}
use Rattle.std.proofs.lemmas.List.{get_or_default, length-map}
use Rattle.std.proofs.lemmas.Option.{same_Some, none-some}
use Rattle.atomic_table.specs.Seated.{TableId}
use Rattle.atomic_table.specs.Table.{rest, Final, Seen}
use Rattle.tx_model.specs.declared.gate.Region.{Region}
use Rattle.tx_model.specs.declared.pass.PassState.TheVariants.{Idle, Active}
use Rattle.tx_model.specs.declared.view.Attempt.{Attempt}
use Rattle.tx_model.specs.declared.view.Owned.{Owned}
use Rattle.tx_model.specs.declared.view.PassView.{PassView}
use Rattle.tx_model.specs.Attempt.{starting_at}
use Rattle.tx_model.specs.Calls.{Began, Joined, left_of, right_of}
use Rattle.tx_model.specs.History.{IsBeginning}
use Rattle.tx_model.specs.Made.{IsMade}
use Rattle.tx_model.specs.Pass.{IsPass, IsAttempt, OwnsRegion, IsWhole}
use Rattle.tx_model.specs.Shares.{Name, kept_half, given_half}
use Rattle.tx_model.proofs.lemmas.Histories.{beginning_of_itself, beginning_length}
use Rattle.tx_model.proofs.lemmas.Passes.{active_not_idle}
use Rattle.tx_model.proofs.lemmas.Rule.{start_follows}
use Rattle.turn_memory.specs.declared.table.About.{About}
use Rattle.turn_memory.specs.declared.table.Knowledge.{Knowledge}
use Rattle.turn_memory.specs.declared.pass.TurnPass.{TurnPass}
use Rattle.turn_memory.specs.Heap.{HeapView, resting, words_of}
use Rattle.turn_memory.specs.Lock.{GoodOf, BudgetOf, knowing, made_of, attempt_on, left_known, right_known, both_known, both_passes, shorter, last_state, active_with, Sat, IsKnown, IsPlain, IsTable, HoldsLast, Took, TookLock, Learned, Looked}
use Rattle.turn_memory.specs.TurnPass.{IsBuilt, IsResting, HasHeap, IsPassOf, IsOpen, view_of, attempt_of, attempt_with}
use Rattle.turn_memory.proofs.Steps.{first_slot}
use Rattle.turn_memory.proofs.Views.{idle_not_active, HalfLaws, plain_left, plain_right, by_which}
use Rattle.turn_memory.proofs.Whole.{whole_heap}

nothing : {X : Type 0} (x : X) → Contains [] x → ⊥
nothing x (k, below, is) = omega (arith, below)

module _ {S : Type 0} {good : GoodOf S} {budget : BudgetOf S} {about : About S} where
  -- ---- what is known of a pass is what holds of every memory's
  module _ {view : PassView} (known : IsKnown good budget about view) where
    none_owned : (o : Owned) → Contains view.owned o → ⊥
    none_owned o has = nothing o (rw known.plain.owned at has)

    owns_none : (region : Region) → OwnsRegion view.owned region → ⊥
    owns_none region owns = let (i, o, below, same, is) = owns in omega (arith, below, ap length known.plain.owned)

    -- with an attempt that reads from the last state
    with_attempt : (attempt : Attempt) → (view.state ≡ Idle → attempt ≡ starting_at attempt.start)
        → (view.state ≢ Idle → IsAttempt (made_of about).opening (made_of about).regions view attempt × (attempt.start ≡ length view.history))
        → IsPass good budget (made_of about) view attempt
    with_attempt attempt idle working =
        record {
          legal = known.history_is.legal;
          writers = known.history_is.writers;
          rules = known.history_is.rules;
          good_states = known.history_is.good_states;
          lasts = known.history_is.lasts;
          front = omega (arith, known.plain.front);
          mine = known.plain.mine;
          settled = λ not own (i, below, is). omega (arith, (known.plain.mine.within i below).1, get_or_default view.mine i 0 own below, is, known.plain.front);
          stamped = λ is. absurd (known.plain.not_stamped is);
          named = known.plain.names.some;
          joined = known.plain.names.joined;
          names_apart = known.plain.names.apart;
          owns = λ o has. absurd (none_owned o has);
          owns_once = λ i j before below.
              absurd (omega (arith, below, ap (λ (owned : List Owned). length owned) known.plain.owned, length-map view.owned (λ (o : Owned). o.region)));
          owners = λ o has. absurd (none_owned o has);
          idle = idle;
          attempting = λ not. (working not).0;
          whole = λ whole not. known.whole whole;
          sealed = λ whole not region has.
              ((λ sealed. absurd (known.history_is.unsealed (length view.history) (omega arith) region has sealed)), λ owns. absurd (owns_none region owns));
          last = λ whole active. (working (active_not_idle view.state active)).1;
        }

    pub pass_resting : view.state ≡ Idle → IsPass good budget (made_of about) view (starting_at (length view.history))
    pass_resting idle = with_attempt (starting_at (length view.history)) (λ _. refl) (λ not. absurd (not idle))

    pub pass_working : view.state ≡ Active → (heap : HeapView) → IsOpen (made_of about).opening (made_of about).regions view.history heap
        → IsPass good budget (made_of about) view (attempt_on view.history heap)
    pass_working active heap is_open =
        with_attempt (attempt_on view.history heap) (λ idle. absurd (idle_not_active (sym idle ∙ active)))
        (λ not. (
          record {
            started = omega arith;
            from_one = record { reads = is_open.reads; contents = λ o has. absurd (none_owned o has) };
            follows = is_open.follows;
            owns = λ region has. absurd (nothing region has);
            room = is_open.few;
          },
          refl,
        ))

  -- ---- a pass by what its seat knows
  module _ {table : TableId} where
    module _ {pass : TurnPass S} (p : IsBuilt good budget about table pass) where
      pub knows_view : pass.seat.me.0 ≡ Some (knowing about p.view)
      knows_view =
          elim p.doing [
            | inl rest ↦ ap (λ (m : Sat S). m.0) rest.me
            | inr (heap, work) ↦ ap (λ (m : Sat S). m.0) work.me
          ]

      pub rests : (view_of pass).state ≡ Idle → IsResting about p.view pass
      rests idle =
          elim p.doing [
            | inl rest ↦ rest
            | inr (heap, work) ↦ absurd (idle_not_active (sym (rw knows_view at idle) ∙ work.active))
          ]

      pub works : (view_of pass).state ≡ Active → {heap : HeapView} → pass.heap ≡ Some heap → HasHeap about p.view pass heap
      works active has =
          elim p.doing [
            | inl rest ↦ absurd (idle_not_active (sym rest.idle ∙ rw knows_view at active))
            | inr (heap, work) ↦ subst (HasHeap about p.view pass) (same_Some _ _ (sym work.has_heap ∙ has)) work
          ]

      -- the parts of a pass make it one of the memory
      pub pass_knows : {allows : S → List Region → Type 0} → IsMade allows good (made_of about) → IsPassOf allows good budget about table pass
      pass_knows made = record {
        is_made = made;
        built = p;
        is_pass = elim p.doing [
          | inl rest ↦ rw (rest.me, rest.no_heap) (pass_resting p.is_known rest.idle)
          | inr (heap, work) ↦ rw (work.me, work.has_heap) (pass_working p.is_known work.active heap work.open_on)
        ];
      }

      -- what a call leaves, by what the seat knew and knows, and the heap that the pass had
      pub as_seen : (now : TurnPass S) {view : PassView} {held : List (ℕ × Option HeapView)} {heap : Option HeapView}
          → now.seat.me ≡ (Some (knowing about view), held) → pass.heap ≡ heap → (Leaves : PassView → PassView → Attempt → Type 0)
          → Leaves p.view view (attempt_with p.view.history heap) → Leaves (view_of pass) (view_of now) (attempt_of pass)
      as_seen now me has Leaves it = rw (knows_view, me, has) it

      -- what the halves are seen as
      pub kept_view : (half : TurnPass S) → half.seat.me ≡ (left_known pass.seat.me.0, pass.seat.me.1) → view_of half ≡ left_of (view_of pass)
      kept_view half me = rw (me, knows_view) refl

      pub given_view : (half : TurnPass S) → half.seat.me ≡ (right_known pass.seat.me.0, []) → view_of half ≡ right_of (view_of pass)
      given_view half me = rw (me, knows_view) refl

      -- ---- an attempt begins when the lock was taken
      module _ (rest_of : IsResting about p.view pass) {mid : Sat S} (told : TookLock good budget pass.seat.me mid) where
        pub took : Took good budget (knowing about p.view) [] mid
        took = let (old, before, it) = told in rw (same_Some _ _ (sym before ∙ knows_view), rest_of.me) at it

        pub took_slot : mid.1 ≡ (0, Some took.heap) ∷ rest mid.1
        took_slot = ap (λ (m : Sat S). m.1) took.now ∙ ap (λ (m : Sat S). (0, Some took.heap) ∷ rest m.1) (sym took.now)

        module _ (now : TurnPass S) {found : Option HeapView} {heap : HeapView} (seat : now.seat.table_id ≡ pass.seat.table_id)
            (is_found : mid.1 ≡ (0, found) ∷ rest mid.1) (is : found ≡ Some heap) (me : now.seat.me ≡ (mid.0, (0, None) ∷ rest mid.1))
            (has : now.heap ≡ Some (resting (words_of heap) heap.commits)) where
          found_is : took.heap ≡ heap
          found_is = first_slot (sym took_slot ∙ is_found ∙ ap (λ (o : Option HeapView). (0, o) ∷ rest mid.1) is)

          me_is : now.seat.me ≡ (Some (knowing about (active_with took.history p.view)), (0, None) ∷ [])
          me_is = me ∙ ap (λ (m : Sat S). (m.0, (0, None) ∷ rest m.1)) took.now

          -- nothing was read from the last state
          opens_last : IsOpen (made_of about).opening (made_of about).regions took.history (resting (words_of heap) heap.commits)
          opens_last =
              let last = subst (HoldsLast (made_of about).opening took.history) found_is took.last in
              record {
                last = last.words;
                few = omega arith;
                reads = λ k d below. absurd (omega (arith, below));
                follows = start_follows (made_of about).opening (made_of about).regions (length took.history);
                commits = last.commits;
                unsealed = rw last.words (took.is_known.history_is.unsealed (length took.history) (omega arith));
              }

          pub began_built : IsBuilt good budget about table now
          began_built = record {
            seat = seat ∙ p.seat;
            view = active_with took.history p.view;
            is_known = took.is_known;
            doing = inr (_, record { active = refl; me = me_is; has_heap = has; open_on = opens_last });
          }

          pub began : Began (view_of pass) (view_of now) (attempt_of now)
          began =
              let longer : p.view.front ≤ length took.history = omega (arith, p.is_known.plain.front, beginning_length _ _ took.longer) in
              rw (knows_view, me_is, has) (record {
                active = refl;
                later = record { history = took.longer; front = longer; mine = refl; owned = refl; share = refl };
                fresh = longer;
                empty = refl;
              })

      -- ---- the halves of a pass
      module _ (rest_of : IsResting about p.view pass) (law : HalfLaws) (half : TurnPass S) (seat : half.seat.table_id ≡ pass.seat.table_id) where
        no_half_whole : (share : List Name) → (kept_half share ≡ [] ∷ [] → ⊥) × (given_half share ≡ [] ∷ [] → ⊥)
        no_half_whole [] = ((λ is. cc), (λ is. cc))
        no_half_whole (name ∷ names) = ((λ is. cc), (λ is. cc))

        half_built : (view : PassView) → view.history ≡ p.view.history → view.state ≡ Idle → IsPlain view → (IsWhole view → ⊥)
            → half.seat.me ≡ (Some (knowing about view), []) → half.heap ≡ None → IsBuilt good budget about table half
        half_built view history idle plain not_whole me heap = record {
          seat = seat ∙ p.seat;
          view = view;
          is_known = record { history_is = rw history p.is_known.history_is; plain = plain; whole = λ whole. absurd (not_whole whole) };
          doing = inl (record { idle = idle; me = me; no_heap = heap });
        }

        pub kept_built : half.seat.me ≡ (left_known pass.seat.me.0, pass.seat.me.1) → half.heap ≡ pass.heap → IsBuilt good budget about table half
        kept_built me heap =
            half_built (left_of p.view) refl rest_of.idle (plain_left law p.view p.is_known.plain) (no_half_whole p.view.share).0
            (me ∙ ap (λ (m : Sat S). (left_known m.0, m.1)) rest_of.me) (heap ∙ rest_of.no_heap)

        pub given_built : half.seat.me ≡ (right_known pass.seat.me.0, []) → half.heap ≡ None → IsBuilt good budget about table half
        given_built me heap =
            half_built (right_of p.view) refl refl (plain_right law p.view p.is_known.plain) (no_half_whole p.view.share).1
            (me ∙ ap (λ (m : Sat S). (right_known m.0, [])) rest_of.me) heap

      -- ---- the memory is closed
      module _ (rest_of : IsResting about p.view pass) (whole : IsWhole (view_of pass)) (words : List ℕ) (slots : List (Option HeapView))
          (last : Final (Seen (IsTable good budget about) pass.seat.id pass.seat.me.0) words slots) {taken : Option HeapView}
          (is : get_elem? slots 0 ≡ some taken) where
        -- the heap that was at home
        found : (heap : HeapView) × (taken ≡ Some heap) × HoldsLast (made_of about).opening p.view.history heap
        found =
            let (s, seen, w, n, there) = last in
            let (heap, home, holds) = whole_heap seen.0 pass.seat.id (seen.1 ∙ ap some knows_view) (rw knows_view at whole) rest_of.idle in
            (heap, some-injective taken (Some heap) (sym is ∙ there 0 (Some heap) home), holds)

        pub closed_slot : taken ≡ None → ⊥
        closed_slot none = none-some found.0 (sym none ∙ found.1)

        pub closed_words : (heap : HeapView) → taken ≡ Some heap → words_of heap ≡ last_state (made_of about) (view_of pass).history
        closed_words heap has = rw knows_view (ap words_of (same_Some _ _ (sym has ∙ found.1)) ∙ found.2.words)

    -- ---- two passes became one
    module _ {pass other : TurnPass S} (p : IsBuilt good budget about table pass) (q : IsBuilt good budget about table other)
        (rest_of : IsResting about p.view pass) {mid : Sat S} (joined_me : mid ≡ (both_known pass.seat.me.0 other.seat.me.0, pass.seat.me.1)) where
      abbrev joined : Knowledge S
      joined = record { about = about; pass = both_passes p.view q.view; other = shorter p.view.history q.view.history }

      pub mid_me : mid ≡ (Some joined, [])
      mid_me = joined_me ∙ λ i. (both_known (knows_view p i) (knows_view q i), (rest_of.me i).1)

      module _ (now : TurnPass S) (looked : Looked good budget mid now.seat.me) where
        learned : Learned good budget joined [] now.seat.me
        learned = let (old, before, it) = looked in rw (same_Some _ _ (sym before ∙ ap (λ (m : Sat S). m.0) mid_me), mid_me) at it

        pub joined_built : now.seat.table_id ≡ table → now.heap ≡ pass.heap → IsBuilt good budget about table now
        joined_built seat same_heap = record {
          seat = seat;
          view = joined.pass;
          is_known = learned.is_known;
          doing = inl (record { idle = rest_of.idle; me = learned.now; no_heap = same_heap ∙ rest_of.no_heap });
        }

        -- the shorter history begins the longer one
        pub are_joined : Joined (view_of pass) (view_of other) (view_of now)
        are_joined =
            rw (knows_view p, knows_view q, learned.now)
            (by_which (λ one two. IsBeginning two one → Joined p.view q.view (record joined.pass { history = one; front = length one })) p.view.history
            q.view.history
            (λ len begins. record {
              idle = rest_of.idle;
              history = begins;
              other_history = beginning_of_itself q.view.history;
              no_longer = inr refl;
              front = omega (arith, len, p.is_known.plain.front, q.is_known.plain.front);
              mine = refl;
              owned = refl;
              share = refl;
            })
            (λ len begins. record {
              idle = rest_of.idle;
              history = beginning_of_itself p.view.history;
              other_history = begins;
              no_longer = inl refl;
              front = omega (arith, len, p.is_known.plain.front, q.is_known.plain.front);
              mine = refl;
              owned = refl;
              share = refl;
            })
            learned.other)
