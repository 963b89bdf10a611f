-- What a load of a word of the heap finds: the value of a state from the start on, or the word is in a region that was sealed since.
use Rattle.std.proofs.Common.{◌≡◌, ◌⊎◌, ℕ, zero, suc, ◌+◌, ◌-◌, ◌<◌, ◌≤◌, List, [], ◌∷◌, length, slice_get, slice_index, Some, Contains, refl, sym, subst, arith, inl, inr}
use mathlib.Core.Option.{some, some-injective, some-ne-none}
use lib.ListN.{get_elem?}
use Rattle.std.proofs.lemmas.Bool.{cases_lt}
use Rattle.std.proofs.lemmas.Option.{slice_get-get_or}
use Rattle.tx_model.specs.declared.gate.TheConstants.{GATE_SEALED}
use Rattle.tx_model.specs.declared.word.Word.{Word}
use Rattle.tx_model.specs.declared.view.Owned.{Owned}
use Rattle.tx_model.specs.Made.{IsIn}
use Rattle.tx_model.specs.Memory.{Agrees}
use Rattle.tx_model.specs.History.{state_at}
use Rattle.tx_model.proofs.lemmas.Values.{has_cases}
use Rattle.ring_worlds.specs.declared.process.Process.{Process}
use Rattle.ring_worlds.specs.World.{World}
use Rattle.ring_worlds.specs.Memory.{IsOwned, IsFrom}
use Rattle.ring_worlds.specs.Reader.{IsRuled, IsLoaded}
use Rattle.ring_worlds.specs.Sound.{Sound}
use Rattle.ring_worlds.proofs.board.Guards.{has_contains}
use Rattle.ring_worlds.proofs.reads.Compare.{read_there}
use Rattle.ring_worlds.proofs.memory.Loads.{word_is_from}
use Rattle.ring_worlds.proofs.worlds.Needs.{b, ruled, needs}
use Rattle.ring_worlds.proofs.worlds.Regions.{seals_gate, sealed_between}
use Rattle.ring_worlds.proofs.lemmas.Members.{contains_more, contains_cases, contains_none}

-- ---- whether a word is owned
module _ (addr : ℕ) where
  abbrev NoneHas : List Owned → Type 0
  NoneHas owned = (o : Owned) → Contains owned o → IsIn addr o.region → ⊥

  none_more : (o : Owned) (owned : List Owned) → (IsIn addr o.region → ⊥) → NoneHas owned → NoneHas (o ∷ owned)
  none_more o owned out none other among inside =
      elim (contains_cases o owned other among) [
        | inl same ↦ out (subst (λ (x : Owned). IsIn addr x.region) (sym same) inside)
        | inr rest ↦ none other rest inside
      ]

  sought : (owned : List Owned) → ((o : Owned) × Contains owned o × IsIn addr o.region) ⊎ NoneHas owned
  sought [] = inr (λ o among inside. contains_none o among)
  sought (o ∷ owned) =
      elim (sought owned) [
        | inl (other, among, inside) ↦ inl (other, contains_more o owned other among, inside)
        | inr none ↦
            elim (cases_lt addr o.region.base) [
              | inl before ↦ inr (none_more o owned (λ inside. omega (arith, before, inside.0)) none)
              | inr from ↦
                  elim (cases_lt addr (o.region.base + o.region.len)) [
                    | inl below ↦ inl (o, (0, omega arith, refl), (from, below))
                    | inr past ↦ inr (none_more o owned (λ inside. omega (arith, past, inside.1)) none)
                  ]
            ]
      ]

  owned_later : (p : Process) (processes : List Process) → IsOwned processes addr → IsOwned (p ∷ processes) addr
  owned_later p processes own = record { who = suc own.who; process = own.process; here = own.here; owned = own.owned; among = own.among; inside = own.inside }

  pub owned_or_not : (processes : List Process) → IsOwned processes addr ⊎ (IsOwned processes addr → ⊥)
  owned_or_not [] = inr (λ own. some-ne-none own.process (sym own.here))
  owned_or_not (p ∷ processes) =
      elim (owned_or_not processes) [
        | inl own ↦ inl (owned_later p processes own)
        | inr none ↦
            elim (sought p.owned) [
              | inl (o, among, inside) ↦ inl (record { who = 0; process = p; here = refl; owned = o; among = among; inside = inside })
              | inr not ↦ inr (λ own. nobody none not own.who own.process own.here own.owned own.among own.inside)
            ]
      ]
    where
      nobody : (IsOwned processes addr → ⊥) → NoneHas p.owned → (who : ℕ) (q : Process) → get_elem? (p ∷ processes) who ≡ some q → (o : Owned)
          → Contains q.owned o → IsIn addr o.region → ⊥
      nobody none not zero q here o among inside = not o (subst (λ (r : Process). Contains r.owned o) (sym (some-injective p q here)) among) inside
      nobody none not (suc who) q here o among inside = none (record { who = who; process = q; here = here; owned = o; among = among; inside = inside })

-- ---- the load
module _ (w : World) (s : Sound w) (reads : List Word) (start : ℕ) (early : start ≤ s.complete) (addr : ℕ) (inside : addr < w.shape.heap)
    (free : IsRuled w.shape w.opening w.regions reads addr)
    (agree : Agrees reads (state_at w.opening w.history start)) where
  abbrev value : ℕ
  value = slice_index w.heap addr

  -- outside of owned regions
  plain : IsFrom w.shape w start addr value → IsLoaded w.shape w.opening w.regions (b w s) start (length w.history) addr value
  plain from =
      record {
        entry = from.state;
        after = from.from;
        within = from.happened;
        source = λ later. elim from.since [
          | inl same ↦ absurd (omega (arith, same, later))
          | inr (after, published, leaves) ↦ record {
            published = published;
            commit = leaves.commit;
            there = leaves.there;
            touches = inl (elim (has_cases leaves.commit.writes leaves.commit.carry addr leaves.leaves) [
              | inl wrote ↦ inl (has_contains leaves.commit.writes addr wrote)
              | inr carried ↦ inr (has_contains leaves.commit.carry addr carried)
            ]);
          }
        ];
        value = inl from.here;
      }

  -- in an owned one, which was sealed after the start: the attempt has read its gate as not sealed
  owned : IsOwned w.processes addr → IsLoaded w.shape w.opening w.regions (b w s) start (length w.history) addr value
  owned own =
      let owner = (s.each own.who own.process own.here).owns own.owned own.among in
      let known = (s.each own.who own.process own.here).since.known in
      let gate = free own.owned.region owner.ownable.region own.inside in
      let back : owner.entry - 1 + 1 ≡ owner.entry = omega (arith, owner.some) in
      let at_entry = subst (λ k. slice_get (state_at w.opening w.history k) own.owned.region.gate ≡ Some GATE_SEALED) back
      (seals_gate w.opening w.regions w.history (ruled w s) own.owned.region owner.ownable.region (owner.entry - 1) owner.commit owner.there owner.seals) in
      let newer : start < owner.entry = elim (cases_lt start owner.entry) [
        | inl before ↦ before
        | inr past ↦ absurd (gate.not_sealed (sealed_between w.opening w.regions w.history (ruled w s) own.owned.region owner.ownable.region owner.entry start
            s.complete gate.value (omega (arith, past)) early at_entry owner.still
            (read_there reads (state_at w.opening w.history start) _ agree gate.read)))
      ] in
      record {
        entry = owner.entry;
        after = omega (arith, newer);
        within = omega (arith, owner.noted, known, s.board.counted);
        source = λ later. record {
          published = let d = s.board.done owner.entry owner.some (omega (arith, owner.noted, known)) in omega (arith, d);
          commit = owner.commit;
          there = owner.there;
          touches = inr (own.owned.region, owner.seals, own.inside);
        };
        value = inr (newer, record { commit = owner.commit; there = owner.there; region = own.owned.region; seals = owner.seals; inside = own.inside });
      }

  pub comes : IsLoaded w.shape w.opening w.regions (b w s) start (length w.history) addr value
  comes =
      elim (owned_or_not addr w.processes) [
        | inl own ↦ owned own
        | inr not ↦ plain (word_is_from w.shape w s.complete (needs w s) s.memory start addr value early (omega (arith, inside, s.opened.room)) not
            (slice_get-get_or w.heap addr 0 (omega (arith, inside, s.opened.heap))))
      ]
