-- A pass whose seat has taken in another one.
use Rattle.std.proofs.Common.{◌≡◌, ◌≢◌, ◌⊎◌, ℕ, ◌≤◌, false, List, [], length, Some, refl, sym, ◌∙◌, ap, subst, arith, inl, inr}
use Rattle.std.proofs.lemmas.Bool.{false≢true}
use Rattle.atomic_table.specs.Seated.{TableId}
use Rattle.atomic_table.specs.declared.shared.Seat.{Seat}
use Rattle.tx_model.specs.declared.pass.PassState.TheVariants as state
use Rattle.tx_model.specs.History.{IsBeginning}
use Rattle.tx_model.specs.Pass.{AreStamps}
use Rattle.tx_model.specs.Calls.{Joined}
use Rattle.tx_model.proofs.lemmas.Histories.{beginning_of_itself}
use Rattle.ring_core.specs.declared.shape.Shape.{Shape}
use Rattle.ring_core.specs.declared.caller.Caller.{Caller}
use Rattle.ring_core.specs.declared.stage.Stage.{Stage}
use Rattle.ring_core.specs.declared.stage.Stage.TheVariants.{Closed, BeginIndex, BeginTag, ReadHeap, Check, StampSlot, StampSwap, Turn, Between}
use Rattle.ring_core.specs.Machine.{IsClosed}
use Rattle.ring_core.specs.Request.{is_open}
use Rattle.ring_core.specs.Sound as core
use Rattle.ring_core.specs.Outcomes.{idle}
use Rattle.ring_worlds.specs.Laws.{BecomeKeeps}
use Rattle.ring_worlds.proofs.lemmas.Members.{contains_none}
use Rattle.ring_words.specs.declared.table.About.{About}
use Rattle.ring_words.specs.declared.table.Knowledge.{Knowledge}
use Rattle.ring_words.specs.declared.pass.RingPass.{RingPass}
use Rattle.ring_words.specs.Ring.{both_parts, given_of, made_of, both_known, longer, shorter, IsPlain}
use Rattle.ring_words.specs.Sealings.{seals_of}
use Rattle.ring_words.specs.Told.{Sat, IsHistory, IsKnown, Knows, KnowsWhole, Looked}
use Rattle.ring_words.specs.Pass.{IsSeated, IsSeatOf, view_of, view_known, seat_view}
use Rattle.ring_words.proofs.Sealings.{seals_few}
use Rattle.ring_words.proofs.Joins.{which, both_owned}
use Rattle.ring_words.proofs.Rests.{IsQuietStage, idle_sound, rest_follows, moved_to_rest}

idle_free : state.Idle ≢ state.Stamped
idle_free e = cc

stamped_not : state.Stamped ≢ state.Idle
stamped_not e = cc

some_same : {X : Type 0} {x y : X} → Some x ≡ Some y → x ≡ y
some_same e = cc

-- a machine without an attempt, and with no request open, is closed
quiet_at : (shape : Shape) (c : Caller) (stage : Stage) → c.state ≡ state.Idle → core.IsStage shape c stage → is_open stage ≡ false → IsQuietStage stage
quiet_at shape c Closed is is_stage closed = tt
quiet_at shape c BeginIndex is is_stage closed = tt
quiet_at shape c (BeginTag top at) is is_stage closed = absurd (false≢true (sym closed))
quiet_at shape c (ReadHeap addr) is is_stage closed = absurd (false≢true (sym closed))
quiet_at shape c (Check why at) is is_stage closed = absurd (false≢true (sym closed))
quiet_at shape c (StampSlot top) is is_stage closed = absurd (false≢true (sym closed))
quiet_at shape c (StampSwap top) is is_stage closed = absurd (false≢true (sym closed))
quiet_at shape c (Turn at) is is_stage closed = absurd (false≢true (sym closed))
quiet_at shape c (Between at) is is_stage closed = absurd (stamped_not (sym is_stage.0.stamped ∙ is))

-- the seat of a pass without an attempt
pub seat_at_rest : {S : Type 0} (good : S → List ℕ → List ℕ → Type 0) (budget : S → List ℕ → ℕ) (about : About S) (table : TableId) (pass : RingPass S)
    → IsSeated good budget about table pass → pass.local.caller.state ≡ state.Idle → IsSeatOf good budget about table pass.seat
seat_at_rest good budget about table pass p is_idle =
    record {
      at_table = p.at_table;
      no_slot = p.no_slot;
      knowledge = p.knowledge;
      known = p.known;
      told = p.told;
      settled = p.settled;
      knows = p.knows;
      free = λ was. idle_free (sym is_idle ∙ p.moved.stays was);
      unowned = p.unowned;
      unsealed = p.unsealed;
    }

-- the numbers of a seat are in order
pub seat_stamps : {S : Type 0} (good : S → List ℕ → List ℕ → Type 0) (budget : S → List ℕ → ℕ) (about : About S) (table : TableId)
    (seat : Seat ℕ _) → IsSeatOf good budget about table seat
    → AreStamps (length (seat_view seat).history) (seat_view seat).mine
seat_stamps good budget about table seat s =
    subst (λ known. AreStamps (length (view_known state.Idle known).history) (view_known state.Idle known).mine) (sym s.known) s.knows.plain.mine

-- and at most as many as the ring may have commits seal a region
pub seat_few : {S : Type 0} (good : S → List ℕ → List ℕ → Type 0) (budget : S → List ℕ → ℕ) (about : About S) (table : TableId) (seat : Seat ℕ _) →
    IsSeatOf good budget about table seat
    → seals_of (seat_view seat).history (seat_view seat).mine ≤ about.shape.life
seat_few good budget about table seat s =
    subst (λ known. seals_of (view_known state.Idle known).history (view_known state.Idle known).mine ≤ about.shape.life) (sym s.known)
    (omega (arith, seals_few s.knowledge.history s.knowledge.mine s.knows.plain.mine, s.knows.history_is.lasts, ap (λ (a : About _). a.shape.life) s.told))

module _ (becomes : BecomeKeeps) {S : Type 0} (good : S → List ℕ → List ℕ → Type 0) (budget : S → List ℕ → ℕ) (about : About S) (table : TableId)
    (pass : RingPass S) (p : IsSeated good budget about table pass) (closed : IsClosed pass.local) (is_idle : pass.local.caller.state ≡ state.Idle)
    (other : Seat ℕ _) (o : IsSeatOf good budget about table other) (mid : Sat S)
    (joined_me : mid ≡ (both_known pass.seat.me.0 other.me.0, pass.seat.me.1)) where
  abbrev k : Knowledge S
  k = p.knowledge

  abbrev m : Knowledge S
  m = o.knowledge

  abbrev both : Knowledge S
  both = both_parts k m

  abbrev now : Knowledge S
  now = record both { other = [] }

  pub mid_is : mid ≡ (Some both, [])
  mid_is = joined_me ∙ λ i. (both_known (p.known i) (o.known i), p.no_slot i)

  module _ (new : Seat ℕ _) (seals : ℕ) (same : new.table_id ≡ pass.seat.table_id) (looked : Looked good budget mid new.me) where
    old_is : looked.old ≡ both
    old_is = some_same (sym looked.before ∙ ap (λ (s : Sat S). s.0) mid_is)

    now_is : new.me.0 ≡ Some now
    now_is = looked.now ∙ ap (λ (x : Knowledge S). Some (record x { other = [] })) old_is

    history_is : IsHistory good budget k.about both.history
    history_is =
        elim (which k.history m.history) [
          | inl (is, is', len) ↦ subst (IsHistory good budget k.about) (sym is)
              (subst (λ (a : About S). IsHistory good budget a m.history) (o.told ∙ sym p.told) o.knows.history_is)
          | inr (is, is', len) ↦ subst (IsHistory good budget k.about) (sym is) p.knows.history_is
        ]

    sound : core.IsSound k.about.shape (idle k.about.shape k.process.caller)
    sound = idle_sound k.about.shape k.process.caller p.knows.process_is.machine

    process_is : IsKnown (given_of k.about) now.history now.process
    process_is =
        record {
          machine = sound;
          since = λ busy. absurd (busy refl);
          agree = λ busy. absurd (busy refl);
          follows = rest_follows k.about.shape (idle k.about.shape k.process.caller) sound refl (made_of k.about).opening (made_of k.about).regions
              now.process.front now.process.owned;
          publishes = λ region among. absurd (contains_none region among);
          committed = λ stamped. absurd (idle_free stamped);
        }

    plain : IsPlain now
    plain =
        let was = subst IsPlain old_is looked.plain in
        record {
          reached = was.reached;
          rested = was.rested;
          mine = was.mine;
          settled = was.settled;
          stamped = was.stamped;
          named = was.named;
          joined = was.joined;
          apart = was.apart;
        }

    knows : Knows good budget now
    knows = record { history_is = history_is; process_is = process_is; plain = plain; whole = subst KnowsWhole old_is looked.whole }

    owned : now.process.owned ≡ []
    owned = both_owned k.process.owned m.process.owned o.unowned ∙ p.unowned

    pub seated_taken : IsSeated good budget about table record { local = pass.local; seat = new; seals = seals }
    seated_taken =
        record {
          at_table = same ∙ p.at_table;
          no_slot = looked.slots ∙ ap (λ (s : Sat S). s.1) mid_is;
          shaped = p.shaped;
          knowledge = now;
          known = now_is;
          told = p.told;
          settled = refl;
          knows = knows;
          moved = moved_to_rest becomes (given_of about) now.process pass.local.caller p.moved.machine is_idle
              (quiet_at about.shape pass.local.caller pass.local.caller.stage is_idle p.moved.machine.stage closed) idle_free p.moved.start;
          unowned = owned;
          unsealed = refl;
        }

    -- ---- both in one
    short_begins : IsBeginning (shorter k.history m.history) (longer k.history m.history)
    short_begins = subst (λ (x : Knowledge S). IsBeginning x.other x.history) old_is looked.other

    first_begins : IsBeginning k.history both.history
    first_begins =
        elim (which k.history m.history) [
          | inl (is, is', len) ↦ subst (λ h. IsBeginning h both.history) is' short_begins
          | inr (is, is', len) ↦ subst (λ h. IsBeginning k.history h) (sym is) (beginning_of_itself k.history)
        ]

    second_begins : IsBeginning m.history both.history
    second_begins =
        elim (which k.history m.history) [
          | inl (is, is', len) ↦ subst (λ h. IsBeginning m.history h) (sym is) (beginning_of_itself m.history)
          | inr (is, is', len) ↦ subst (λ h. IsBeginning h both.history) is' short_begins
        ]

    one_of_both : (both.history ≡ k.history) ⊎ (both.history ≡ m.history)
    one_of_both =
        elim (which k.history m.history) [
          | inl (is, is', len) ↦ inr is
          | inr (is, is', len) ↦ inl is
        ]

    pub are_joined : Joined (view_of pass) (seat_view other) (view_of (record { local = pass.local; seat = new; seals = seals }))
    are_joined =
        subst (λ known. Joined (view_of pass) (seat_view other) (view_known pass.local.caller.state known)) (sym now_is)
        (subst (λ known. Joined (view_of pass) (view_known state.Idle known) (view_known pass.local.caller.state (Some now))) (sym o.known)
        (subst (λ known. Joined (view_known pass.local.caller.state known) (view_known state.Idle (Some m))
        (view_known pass.local.caller.state (Some now))) (sym p.known)
        (record {
          idle = is_idle;
          history = first_begins;
          other_history = second_begins;
          no_longer = one_of_both;
          front = omega arith;
          mine = refl;
          owned = refl;
          share = refl;
        })))
