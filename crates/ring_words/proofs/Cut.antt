-- The two seats that a split leaves.
use Rattle.std.proofs.Common.{◌≡◌, ◌≢◌, ℕ, max, List, [], refl, sym, ◌∙◌, ap, subst, arith}
use Rattle.atomic_table.specs.Seated.{TableId}
use Rattle.atomic_table.specs.declared.shared.Seat.{Seat}
use Rattle.tx_model.specs.declared.gate.Region.{Region}
use Rattle.tx_model.specs.declared.pass.PassState.TheVariants as state
use Rattle.tx_model.specs.ShareLaws.{SplitApart, HalvesNormal, HalvesNotEmpty}
use Rattle.tx_model.specs.Shares.{given_half}
use Rattle.tx_model.specs.Made.{IsMade}
use Rattle.tx_model.specs.Calls.{left_of, right_of}
use Rattle.ring_core.specs.declared.caller.Caller.{Caller}
use Rattle.ring_core.specs.Machine.{Machine}
use Rattle.ring_core.specs.Outcomes.{opening}
use Rattle.ring_core.specs.Request.{is_open}
use Rattle.ring_core.specs.Shape.{IsShape}
use Rattle.ring_core.specs.Laws.{OpeningIsSound}
use Rattle.ring_worlds.proofs.lemmas.Members.{contains_none}
use Rattle.ring_words.specs.declared.table.About.{About}
use Rattle.ring_words.specs.declared.table.Knowledge.{Knowledge}
use Rattle.ring_words.specs.declared.pass.RingPass.{RingPass}
use Rattle.ring_words.specs.Ring.{kept_part, given_part, given_of, made_of, front_of, fresh, left_known, right_known, process_of}
use Rattle.ring_words.specs.Sealings.{seals_of}
use Rattle.ring_words.specs.Told.{Sat, IsKnown, Knows}
use Rattle.ring_words.specs.Pass.{HasMoved, IsSeated, IsSeatOf, IsPassOf, IsResting, process_with, view_of, view_known, seat_view}
use Rattle.ring_words.proofs.Halves.{plain_left, plain_right, no_half_whole, no_given_whole}
use Rattle.ring_words.proofs.Rests.{rest_follows}
use Rattle.ring_words.proofs.Moves.{synced}
use Rattle.ring_words.proofs.Knows.{pass_knows}

idle_free : state.Idle ≢ state.Stamped
idle_free e = cc

module _ (halves_apart : SplitApart) (normal : HalvesNormal) (not_empty : HalvesNotEmpty) {S : Type 0} (good : S → List ℕ → List ℕ →
    Type 0) (budget : S → List ℕ → ℕ) where
  -- what the halves know
  knows_left : (k : Knowledge S) → Knows good budget k → Knows good budget (kept_part k)
  knows_left k knows =
      record {
        history_is = knows.history_is;
        process_is = knows.process_is;
        plain = plain_left halves_apart normal not_empty k knows.plain;
        whole = λ whole. absurd (no_half_whole k.share whole);
      }

  fresh_known : (law : OpeningIsSound) (k : Knowledge S) → IsShape k.about.shape →
      IsKnown (given_of k.about) k.history (fresh k.about.shape (front_of k.process))
  fresh_known law k limits =
      record {
        machine = law k.about.shape limits;
        since = λ busy. absurd (busy refl);
        agree = λ busy. absurd (busy refl);
        follows = rest_follows k.about.shape (opening k.about.shape) (law k.about.shape limits) refl (made_of k.about).opening (made_of k.about).regions 0 [];
        publishes = λ region among. absurd (contains_none region among);
        committed = λ stamped. absurd (idle_free stamped);
      }

  knows_right : (law : OpeningIsSound) (k : Knowledge S) → IsShape k.about.shape → Knows good budget k → Knows good budget (given_part k)
  knows_right law k limits knows =
      record {
        history_is = knows.history_is;
        process_is = fresh_known law k limits;
        plain = plain_right halves_apart normal not_empty k knows.plain;
        whole = λ whole. absurd (no_given_whole k.share whole);
      }

  module _ (about : About S) (table : TableId) (pass : RingPass S) (p : IsSeated good budget about table pass) where
    -- the pass that was split
    pub left_seated : (seat : Seat ℕ _) → seat.table_id ≡ pass.seat.table_id → seat.me ≡ (left_known pass.seat.me.0, pass.seat.me.1) →
        IsSeated good budget about table record { local = pass.local; seat = seat; seals = pass.seals }
    left_seated seat same is =
        record {
          at_table = same ∙ p.at_table;
          no_slot = ap (λ (m : Sat S). m.1) is ∙ p.no_slot;
          shaped = p.shaped;
          knowledge = kept_part p.knowledge;
          known = ap (λ (m : Sat S). m.0) is ∙ ap left_known p.known;
          told = p.told;
          settled = p.settled;
          knows = knows_left p.knowledge p.knows;
          moved = p.moved;
          unowned = p.unowned;
          unsealed = p.unsealed;
        }

    pub left_view : (seat : Seat ℕ _) → seat.me ≡ (left_known pass.seat.me.0, pass.seat.me.1) →
        view_of (record { local = pass.local; seat = seat; seals = pass.seals }) ≡ left_of (view_of pass)
    left_view seat is =
        ap (λ (m : Sat S). view_known pass.local.caller.state m.0) is
        ∙ ap (λ known. view_known pass.local.caller.state (left_known known)) p.known
        ∙ ap (λ known. left_of (view_known pass.local.caller.state known)) (sym p.known)

    -- the further seat
    pub right_seat : (law : OpeningIsSound) → IsShape about.shape → (seat : Seat ℕ _) → seat.table_id ≡ pass.seat.table_id →
        seat.me ≡ (right_known pass.seat.me.0, []) → IsSeatOf good budget about table seat
    right_seat law limits seat same is =
        record {
          at_table = same ∙ p.at_table;
          no_slot = ap (λ (m : Sat S). m.1) is;
          knowledge = given_part p.knowledge;
          known = ap (λ (m : Sat S). m.0) is ∙ ap right_known p.known;
          told = p.told;
          settled = refl;
          knows = knows_right law p.knowledge (subst (λ (a : About S). IsShape a.shape) (sym p.told) limits) p.knows;
          free = idle_free;
          unowned = refl;
          unsealed = refl;
        }

    pub right_view : (seat : Seat ℕ _) → seat.me ≡ (right_known pass.seat.me.0, []) → seat_view seat ≡ right_of (view_of pass)
    right_view seat is =
        ap (λ (m : Sat S). view_known state.Idle m.0) is
        ∙ ap (λ known. view_known state.Idle (right_known known)) p.known
        ∙ (λ i. record { state = state.Idle; history = p.knowledge.history; front = fronts i; mine = []; owned = []; share = given_half p.knowledge.share })
        ∙ ap (λ known. right_of (view_known pass.local.caller.state known)) (sym p.known)
      where
        fronts : max (front_of p.knowledge.process) 0 ≡ front_of p.knowledge.process
        fronts = omega arith

    pub right_rests : (seat : Seat ℕ _) → seat.me ≡ (right_known pass.seat.me.0, []) → IsResting about seat
    right_rests seat is =
        ap (λ (m : Sat S). (process_of about.shape m.0).caller) is
        ∙ ap (λ known. (process_of about.shape (right_known known)).caller) p.known
        ∙ ap (λ (a : About S). opening a.shape) p.told

-- a machine that has done nothing, on such a seat
module _ {S : Type 0} (allows : S → List Region → Type 0) (good : S → List ℕ → List ℕ → Type 0) (budget : S → List ℕ → ℕ) (about : About S)
    (table : TableId) where
  pub fresh_pass : IsMade allows good (made_of about) → (seat : Seat ℕ _) → IsSeatOf good budget about table seat → IsResting about seat →
      (seat_view seat).mine ≡ [] → (local : Machine) → local ≡ record { shape = about.shape; caller = opening about.shape }
      → IsPassOf allows good budget about table record { local = local; seat = seat; seals = 0 }
  fresh_pass is_made seat s rests none local is =
      pass_knows allows good budget about table record { local = local; seat = seat; seals = 0 } is_made
      (record {
        at_table = s.at_table;
        no_slot = s.no_slot;
        shaped = ap (λ (m : Machine). m.shape) is;
        knowledge = s.knowledge;
        known = s.known;
        told = s.told;
        settled = s.settled;
        knows = s.knows;
        moved = subst (λ (a : About S). HasMoved (given_of a) s.knowledge.process (process_with s.knowledge.process local.caller)) s.told
            (subst (λ (c : Caller). HasMoved (given_of s.knowledge.about) s.knowledge.process (process_with s.knowledge.process c)) (sym caller)
            (synced (given_of s.knowledge.about) s.knowledge.history s.knowledge.process s.knows.process_is s.knows.plain.rested));
        unowned = s.unowned;
        unsealed = s.unsealed;
      })
      (ap (λ (m : Machine). is_open m.caller.stage) is) (sym (ap (seals_of (seat_view seat).history) none))
    where
      caller : local.caller ≡ s.knowledge.process.caller
      caller = ap (λ (m : Machine). m.caller) is ∙ sym (sym (ap (λ known. (process_of about.shape known).caller) s.known) ∙ rests)
