-- A new table keeps the rule.
use Rattle.std.proofs.Common.{◌≡◌, ◌≢◌, ◌⊎◌, ℕ, zero, suc, ◌+◌, ◌*◌, ◌<◌, ◌≤◌, ◌++◌, List, [], ◌∷◌, length, map, replicate, slice_get, slice_index, Contains, Bool, Option, Some, None, Vec, Global, refl, sym, ◌∙◌, ap, subst, arith, inl, inr}
use lib.ListN.{replicate-append-replicate}
use Rattle.std.proofs.lemmas.List.{append_assoc}
use Rattle.atomic_table.specs.Seated.{TableId}
use Rattle.atomic_table.specs.Table as table
use Rattle.tx_model.specs.declared.gate.Region.{Region}
use Rattle.tx_model.specs.declared.gate.TheConstants.{GATE_SEALED}
use Rattle.tx_model.specs.declared.history.Commit.{Commit}
use Rattle.tx_model.specs.declared.pass.PassState.TheVariants as state
use Rattle.tx_model.specs.Shares.{Name, AreJoined}
use Rattle.tx_model.specs.History.{state_at}
use Rattle.tx_model.specs.Made.{Made, IsMade}
use Rattle.tx_model.specs.Rule.{gate_at}
use Rattle.tx_model.proofs.lemmas.Lists.{only_item}
use Rattle.ring_core.specs.declared.shape.Shape.{Shape}
use Rattle.ring_core.specs.Shape.{IsShape}
use Rattle.ring_core.specs.Machine.{Machine}
use Rattle.ring_core.specs.Outcomes.{opening}
use Rattle.ring_core.specs.Request.{is_open}
use Rattle.ring_sig.specs.Signature.{IsWordCount}
use Rattle.ring_worlds.specs.World.{board_of}
use Rattle.ring_worlds.specs.Sound.{Sound, IsProcess}
use Rattle.ring_worlds.specs.Runs.{resting, opening_world}
use Rattle.ring_worlds.specs.Laws.{OpeningIsSound}
use Rattle.ring_worlds.specs.Table.{words_of}
use Rattle.ring_worlds.proofs.lemmas.Members.{contains_none}
use Rattle.ring_words.specs.declared.table.About.{About}
use Rattle.ring_words.specs.declared.table.Knowledge.{Knowledge}
use Rattle.ring_words.specs.declared.pass.RingPass.{RingPass}
use Rattle.ring_words.specs.Ring.{first_known, made_of, given_of, mine_of, IsRing, IsSeat, IsPlain}
use Rattle.ring_words.specs.Sealings.{seals_of}
use Rattle.ring_words.specs.Told.{IsKnown, Knows, Sat}
use Rattle.ring_words.specs.Pass.{HasMoved, IsPassOf, history_known, process_with, made_with, shape_with}
use Rattle.ring_words.proofs.Whole.{whole_knows}
use Rattle.ring_words.proofs.Moves.{synced}
use Rattle.ring_words.proofs.Knows.{pass_knows}

some_same : {X : Type 0} {x y : X} → Some x ≡ Some y → x ≡ y
some_same e = cc

none_some : {X : Type 0} {x : X} → None ≡ Some x → ⊥
none_some e = cc

idle_free : state.Idle ≢ state.Stamped
idle_free e = cc

one_name : (k : ℕ) (letter : Bool) (name : Name) → k < 1 → Rattle.std.proofs.Common.get_or ([] ∷ []) k (letter ∷ name) ≡ letter ∷ name → ⊥
one_name zero letter name below is = cc
one_name (suc k) letter name below is = omega (arith, below)

whole_joined : AreJoined ([] ∷ [])
whole_joined letter name (k, below, is) other = one_name k letter name below is

no_entry : (k : ℕ) (commit : Commit) → slice_get {X = Commit} [] k ≡ Some commit → ⊥
no_entry zero commit there = none_some there
no_entry (suc k) commit there = none_some there

-- the index, the tags and the signature words are 0
pub zeros_first : (shape : Shape) (first : List ℕ) →
    replicate (1 + shape.ring + shape.ring * shape.sig_words) 0 ++ first ≡ words_of (opening_world shape [] first 1)
zeros_first shape first =
    let rows : ℕ = shape.ring * shape.sig_words in
    let all : 1 + shape.ring + rows ≡ suc (shape.ring + rows) = omega arith in
    ap (λ n. replicate n 0 ++ first) all
    ∙ ap (λ l. 0 ∷ (l ++ first)) (sym (replicate-append-replicate shape.ring rows 0))
    ∙ ap (λ l. 0 ∷ l) (append_assoc (replicate shape.ring 0) (replicate rows 0) first)

module _ (opens : OpeningIsSound) {S : Type 0} (allows : S → List Region → Type 0) (good : S → List ℕ → List ℕ → Type 0) (budget : S → List ℕ →
    ℕ) (about : About S) (made : IsMade allows good (made_of about)) (limits : IsShape about.shape)
    (room : length (made_of about).opening ≡ about.shape.heap) where
  abbrev first : Knowledge S
  first = record { about = about; process = resting about.shape; history = []; other = []; mine = []; share = [] ∷ []; steps = 0; found = 0; kind = None }

  pub first_plain : IsPlain first
  first_plain =
      record {
        reached = omega arith;
        rested = λ e. omega arith;
        mine = record { rise = λ i j before below. absurd (omega (arith, below)); within = λ i below. absurd (omega (arith, below)) };
        settled = λ free own has. absurd (contains_none own has);
        stamped = λ e. absurd (idle_free e);
        named = λ e. cc;
        joined = whole_joined;
        apart = ((λ other has. absurd (contains_none other has)), tt);
      }

  seat : IsSeat about [] first
  seat = record { told = refl; known = ([], refl); other = ([], refl); shorter = omega arith; plain = first_plain }

  -- no opening gate is sealed
  unsealed : (region : Region) → Contains (made_of about).regions region → gate_at (made_of about).opening [] 0 region ≢ GATE_SEALED
  unsealed region among is =
      elim (made.well_formed.gates_opening region among) [
        | inl unused ↦ omega (arith, is, unused)
        | inr used ↦ elim used [
          | inl open_gate ↦ omega (arith, is, open_gate)
          | inr packed ↦ omega (arith, is, packed)
        ]
      ]

  first_state : (k : ℕ) → k ≤ 0 → good (made_of about).sense (made_of about).opening (state_at (made_of about).opening [] k)
  first_state zero within = made.opening_good
  first_state (suc k) within = absurd (omega (arith, within))

  sound : Sound (opening_world about.shape (made_of about).regions (made_of about).opening 1)
  sound = opens about.shape (made_of about).regions (made_of about).opening 1 (record { limits = limits; room = room; well_formed = made.well_formed })

  pub new_keeps : (words : List ℕ) → words ≡ replicate (1 + about.shape.ring + about.shape.ring * about.shape.sig_words) 0 ++ (made_of about).opening
      → IsRing good budget about (table.opening words [] (first_known about))
  new_keeps words is =
      record {
        world = opening_world about.shape (made_of about).regions (made_of about).opening 1;
        made = refl;
        sound = sound;
        words = is ∙ zeros_first about.shape (made_of about).opening;
        callers = refl;
        writers = λ k commit there. absurd (no_entry k commit there);
        good_states = record { states = first_state; falls = λ k below. absurd (omega (arith, below)) };
        seats = λ i k e. subst (IsSeat about []) (some_same (only_item (first_known about) i (Some k) e).1) seat;
        names = λ i j known other e f apart. absurd (apart ((only_item (first_known about) i known e).0 ∙ sym (only_item (first_known about) j other f).0));
        all = λ own least most. absurd (omega (arith, least, most));
        once = λ i j known other own e f has has'. (only_item (first_known about) i known e).0 ∙ sym (only_item (first_known about) j other f).0;
        owners = λ region among sealed. absurd (unsealed region among sealed);
      }

  rule : IsRing good budget about (table.opening
      (replicate (1 + about.shape.ring + about.shape.ring * about.shape.sig_words) 0 ++ (made_of about).opening) [] (first_known about))
  rule = new_keeps (replicate (1 + about.shape.ring + about.shape.ring * about.shape.sig_words) 0 ++ (made_of about).opening) refl

  me : IsProcess about.shape (made_of about).opening (made_of about).regions
      (board_of (opening_world about.shape (made_of about).regions (made_of about).opening 1) sound.complete) (resting about.shape)
  me = sound.each 0 (resting about.shape) refl

  known : IsKnown (given_of about) [] (resting about.shape)
  known =
      record {
        machine = me.machine;
        since = λ busy. absurd (busy refl);
        agree = λ busy. absurd (busy refl);
        follows = me.lawful.follows;
        publishes = λ region among. absurd (contains_none region among);
        committed = λ stamped. absurd (idle_free stamped);
      }

  knows : Knows good budget first
  knows =
      record {
        history_is = record {
          legal = λ k commit there. absurd (no_entry k commit there);
          writers = λ k commit there. absurd (no_entry k commit there);
          rules = λ k commit there. absurd (no_entry k commit there);
          good_states = record { states = first_state; falls = λ k below. absurd (omega (arith, below)) };
          lasts = omega arith;
        };
        process_is = known;
        plain = first_plain;
        whole = whole_knows good budget about _ rule 0 first refl;
      }

  pub new_pass : (table : TableId) (pass : RingPass S) → pass.seat.table_id ≡ table → pass.seat.me ≡ (first_known about, []) →
      pass.local ≡ record { shape = about.shape; caller = opening about.shape } → pass.seals ≡ 0
      → IsPassOf allows good budget about table pass
  new_pass table pass seat_is me_is local_is none =
      pass_knows allows good budget about table pass made
      (record {
        at_table = seat_is;
        no_slot = ap (λ (m : Sat S). m.1) me_is;
        shaped = ap (λ (m : Machine). m.shape) local_is;
        knowledge = first;
        known = ap (λ (m : Sat S). m.0) me_is;
        told = refl;
        settled = refl;
        knows = knows;
        moved = subst (λ (m : Machine). HasMoved (given_of about) first.process (process_with first.process m.caller)) (sym local_is)
            (synced (given_of about) [] first.process known (λ e. omega arith));
        unowned = refl;
        unsealed = refl;
      })
      (ap (λ (m : Machine). is_open m.caller.stage) local_is)
      (none ∙ ap (λ (m : Sat S). seals_of (history_known m.0) (mine_of m.0)) (sym me_is))

-- what the table is told is what the ring is made with
pub told_made : {S : Type 0} (about : About S) (sense : S) (first : Vec ℕ Global) (regions : Vec Region Global) (life : ℕ) →
    about.sense.value ≡ sense → about.opening.value ≡ first → about.regions.value ≡ regions → about.shape.life ≡ life
    → made_of about ≡ made_with sense first.items regions.items life
told_made about sense words regions life a b c d = λ i. record { sense = a i; opening = (b i).items; regions = (c i).items; life = d i }

-- the limits of a ring, from what is asked of it
pub limits_of : {S : Type 0} (allows : S → List Region → Type 0) (good : S → List ℕ → List ℕ → Type 0) (made : Made S)
    (ring sig_words len life : ℕ) → IsMade allows good made → len ≡ length made.opening → life ≡ made.life
    → (1 ≤ ring) × (ring ≤ 4096) → IsWordCount sig_words → IsShape (shape_with ring sig_words len life)
limits_of allows good made ring sig_words len life is same lasts entries words =
    record {
      some_entry = entries.0;
      entries = entries.1;
      words = words;
      some_word = omega (arith, same, is.size.0);
      heap = omega (arith, same, is.size.1);
      some_commit = omega (arith, lasts, is.life_span.0);
      life = omega (arith, lasts, is.life_span.1);
    }
