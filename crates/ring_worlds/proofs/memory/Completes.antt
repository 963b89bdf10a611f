-- The last store of a turn, of the tag `complete`.
use Rattle.std.proofs.Common.{◌≡◌, ◌≢◌, ◌⊎◌, ℕ, ◌+◌, ◌-◌, ◌<◌, ◌≤◌, Bool, true, false, not, List, length, set, map, slice_get, get_or, Some, Contains, refl, sym, ◌∙◌, ap, subst, arith, inl, inr, length-set}
use mathlib.Core.Option.{some, some-injective}
use lib.ListN.{get_elem?}
use Rattle.std.specs.List.{filter}
use Rattle.std.proofs.lemmas.Bool.{cases_eq}
use Rattle.std.proofs.lemmas.List.{length-append, get_or_append_left}
use Rattle.std.proofs.lemmas.List.Elements.{Contains-append_cases, Contains-append_left}
use Rattle.std.proofs.lemmas.Option.{slice_get_within, slice_get-get_or}
use Rattle.tx_model.specs.declared.gate.Region.{Region}
use Rattle.tx_model.specs.declared.history.Commit.{Commit}
use Rattle.tx_model.specs.declared.word.Word.{Word}
use Rattle.tx_model.specs.declared.view.Owned.{Owned}
use Rattle.tx_model.specs.declared.pass.PassState.TheVariants as state
use Rattle.tx_model.specs.Words.{no_word, word_at}
use Rattle.tx_model.specs.Made.{IsIn}
use Rattle.tx_model.specs.Memory.{words_in}
use Rattle.tx_model.specs.History.{state_at}
use Rattle.tx_model.specs.Attempt.{has_region, just_sealed}
use Rattle.ring_core.specs.declared.shape.Shape.{Shape}
use Rattle.ring_core.specs.declared.stage.Stage.TheVariants.{Turn}
use Rattle.ring_core.specs.declared.stage.TurnStage.TheVariants.{Complete}
use Rattle.ring_core.specs.Sound as core
use Rattle.ring_worlds.specs.declared.process.Process.{Process}
use Rattle.ring_worlds.specs.World.{World, commit_of, moved_on, moved_at}
use Rattle.ring_worlds.proofs.memory.Needs.{completed, Needs, Beside, HasCommit}
use Rattle.ring_worlds.specs.Stored.{words_left, memory_with, stored_at}
use Rattle.ring_worlds.specs.Memory.{IsMemory, IsWriting, IsOwned}
use Rattle.ring_worlds.proofs.memory.Stored.{HasNot}
use Rattle.ring_worlds.proofs.memory.Moves.{later_writing}
use Rattle.ring_worlds.proofs.memory.LastStored.{last_of}
use Rattle.tx_model.proofs.lemmas.States.{words_same}
use Rattle.ring_worlds.proofs.memory.Totals.{count_more, with_at}
use Rattle.ring_worlds.proofs.memory.Carry.{has_right, at_append, carry_has, carry_from, sought_region, word_in, few_words}
use Rattle.ring_worlds.proofs.lemmas.Lists.{at_set, set_here, set_else, get_changed, get_kept}
use Rattle.ring_worlds.proofs.lemmas.Members.{filter_has, filter_from, map_from}

module _ (shape : Shape) (w : World) (complete : ℕ) (ring : Needs shape complete w) (mem : IsMemory shape complete w) (who : ℕ) (p : Process)
    (here : get_elem? w.processes who ≡ some p) (is : p.caller.stage ≡ Turn Complete) where
  mine : Beside shape complete w.history p
  mine = ring.each who p here

  at : core.IsStamped shape p.caller.state p.caller.writes p.caller.start p.caller.stamp
  at = (subst (core.IsStage shape p.caller) is mine.machine.stage).0

  own : HasCommit complete w.history p
  own = mine.own at.stamped

  abbrev my : ℕ
  my = p.caller.stamp - 1

  counted : slice_get mem.counts my ≡ Some (length p.caller.writes)
  counted = subst (λ stage. slice_get mem.counts my ≡ Some (stored_at p.caller stage)) is ((mem.writing who p here).counted at.stamped)

  abbrev all : ℕ
  all = length (words_left (commit_of p))

  more : all ≡ length p.caller.writes + length (commit_of p).carry
  more = length-append p.caller.writes (commit_of p).carry

  abbrev counts : List ℕ
  counts = set mem.counts my all

  my_below : my < length mem.counts
  my_below = slice_get_within mem.counts my _ counted

  -- the state that the commit led to
  abbrev state_now : List ℕ
  state_now = state_at w.opening w.history p.caller.stamp

  abbrev owned : List Owned
  owned = (completed shape w p).owned

  abbrev keeps : Owned → Bool
  keeps o = not (has_region p.published o.region)

  -- what it owns then it owned before, or seals
  owned_cases : (o : Owned) → Contains owned o → Contains p.owned o ⊎ ((region : Region) × Contains p.sealed region × (just_sealed state_now region ≡ o))
  owned_cases o among =
      elim (Contains-append_cases (filter keeps p.owned) (map (just_sealed state_now) p.sealed) o among) [
        | inl kept ↦ inl (filter_from keeps p.owned o kept)
        | inr new ↦ inr (map_from (just_sealed state_now) p.sealed o new)
      ]

  -- what it owned it still owns, or publishes
  still : (o : Owned) → Contains p.owned o → has_region p.published o.region ≡ false → Contains owned o
  still o among unpublished = Contains-append_left (filter keeps p.owned) (map (just_sealed state_now) p.sealed) o
      (filter_has keeps p.owned o among (ap not unpublished))

  -- the words of the carry are owned
  carried_owned : (j : ℕ) → j < length (commit_of p).carry → IsOwned w.processes (word_at (commit_of p).carry j).addr
  carried_owned j below =
      let c = carry_from p.owned p.published j below in
      let same = mem.contents who p c.region here c.among in
      let few = few_words w.heap c.region.region in
      let short : length c.region.now ≤ c.region.region.len = subst (λ (l : List ℕ). length l ≤ c.region.region.len) same few in
      record { who = who; process = p; here = here; owned = c.region; among = c.among; inside = (c.from, omega (arith, c.below, short)) }

  -- later entries have stored nothing in a region that this one publishes
  later : (o : Owned) → Contains p.owned o → has_region p.published o.region ≡ true → (addr : ℕ) → IsIn addr o.region → (k n : ℕ) (c : Commit)
      → my < k → slice_get w.history k ≡ Some c → slice_get counts k ≡ Some n → HasNot (words_left c) n addr
  later o among published addr inside k n c after there stored j below within same =
      let before : slice_get mem.counts k ≡ Some n = sym (get_kept mem.counts my k all (λ e. omega (arith, e, after))) ∙ stored in
      let few = mem.partly k n c (omega (arith, own.later, after)) there before in
      ring.closed my k (commit_of p) c o.region j after own.there there (ring.known who p o here among) (inr published) (omega (arith, below, few))
      (subst (λ a. IsIn a o.region) (sym same ∙ ap (λ (x : Word). x.addr) (get_or_append_left c.writes c.carry no_word j (omega (arith, below, few)))) inside)

  published_word : (o : Owned) → Contains p.owned o → has_region p.published o.region ≡ true → (addr : ℕ) → IsIn addr o.region
      → slice_get w.heap addr ≡ slice_get (memory_with w.opening w.history counts) addr
  published_word o among published addr inside =
      let k : ℕ = addr - o.region.base in
      let small : k < o.region.len = omega (arith, inside.0, inside.1) in
      let there : o.region.base + k ≡ addr = omega (arith, inside.0) in
      let lies = ring.lies who p o here among in
      let value : ℕ = get_or w.heap addr 0 in
      let found : slice_get w.heap addr ≡ Some value = slice_get-get_or w.heap addr 0 (omega (arith, inside.1, lies)) in
      let now : slice_get o.now k ≡ Some value = ap (λ (l : List ℕ). slice_get l k) (sym (mem.contents who p o here among))
      ∙ word_in w.heap o.region k small lies
      ∙ ap (slice_get w.heap) there ∙ found in
      let has = has_right p.caller.writes (commit_of p).carry (o.region.base + k) value (carry_has p.owned p.published o k value among published now) in
      let where_is : (word_at (words_left (commit_of p)) has.0).addr ≡ addr = has.2 ∙ there in
      let stored = with_at w.opening w.history counts my all has.0 (commit_of p) own.there (get_changed mem.counts my all my_below)
      (ring.once my (commit_of p) own.there) has.1 has.1
      (omega (arith, where_is, inside.1, lies, ring.sized))
      (λ i n c after there' stored'. later o among published (word_at (words_left (commit_of p)) has.0).addr
      (subst (λ a. IsIn a o.region) (sym where_is) inside) i n c after there' stored') in
      found ∙ sym (subst (λ a. slice_get (memory_with w.opening w.history counts) a ≡ Some value) where_is (stored ∙ ap (λ (v : ℕ). Some v) has.3))

  other_word : (addr : ℕ) → ¬ IsOwned w.processes addr → slice_get w.heap addr ≡ slice_get (memory_with w.opening w.history counts) addr
  other_word addr free =
      mem.heap addr free
      ∙ sym (count_more w.opening w.history mem.counts my (length p.caller.writes) all (commit_of p) addr own.there counted (omega (arith, more)) carry_not)
    where
      carry_not : (j : ℕ) → length p.caller.writes ≤ j → j < length (words_left (commit_of p)) → (word_at (words_left (commit_of p)) j).addr ≢ addr
      carry_not j from below same =
          elim (at_append p.caller.writes (commit_of p).carry j below) [
            | inl (first, word) ↦ omega (arith, first, from)
            | inr (i, second, index, word) ↦ free (subst (λ a. IsOwned w.processes a) (ap (λ (x : Word). x.addr) (sym word) ∙ same) (carried_owned i second))
          ]

  sized_now : length counts ≡ length w.history
  sized_now = length-set mem.counts my all ∙ mem.sized

  -- this entry has stored all its words too
  whole_now : (k : ℕ) (c : Commit) → k < p.caller.stamp → slice_get w.history k ≡ Some c → slice_get counts k ≡ Some (length (words_left c))
  whole_now k c early there =
      elim (cases_eq k my) [
        | inl same ↦
            let that : commit_of p ≡ c = let t : slice_get w.history my ≡ Some c = subst (λ j. slice_get w.history j ≡ Some c) same there in let o =
            own.there in cc in
            subst (λ (d : Commit). slice_get counts k ≡ Some (length (words_left d))) that
            (subst (λ j. slice_get counts j ≡ Some all) (sym same) (get_changed mem.counts my all my_below))
        | inr other ↦ get_kept mem.counts my k all other ∙ mem.whole k c (omega (arith, early, other, own.last is)) there
      ]

  within : p.caller.stamp ≤ length w.history
  within = let b = slice_get_within w.history my (commit_of p) own.there in omega (arith, b, own.later)

  -- a word of a region that it seals is that of the state after it: no later commit writes there
  sealed_word : (region : Region) → Contains p.sealed region → (addr : ℕ) → IsIn addr region → slice_get w.heap addr ≡ slice_get state_now addr
  sealed_word region new addr inside =
      let lies = ring.sealed_lies who p region here new in
      other_word addr (ring.unowned who p region addr here at.stamped (own.last is) new inside)
      ∙ elim (last_of w.opening w.history counts p.caller.stamp addr sized_now within (omega (arith, inside.1, lies, ring.sized)) ring.once whole_now) [
        | inl same ↦ same
        | inr last ↦
            let after : my < last.entry = omega (arith, last.later, own.later) in
            let before : slice_get mem.counts last.entry ≡ Some last.count = sym (get_kept mem.counts my last.entry all (λ e. omega (arith, e, after)))
            ∙ last.stored in
            let few = mem.partly last.entry last.count last.commit (omega (arith, after, own.later)) last.there before in
            absurd (ring.closed my last.entry (commit_of p) last.commit region last.index after own.there last.there (ring.sealed_known who p region here new)
            (inl new) (omega (arith, last.below, few))
            (subst (λ a. IsIn a region) (sym last.is ∙ ap (λ (x : Word). x.addr)
            (get_or_append_left last.commit.writes last.commit.carry no_word last.index (omega (arith, last.below, few)))) inside))
      ]

  sealed_words : (region : Region) → Contains p.sealed region → words_in w.heap region ≡ words_in state_now region
  sealed_words region new = words_same w.heap state_now region (λ addr inside. sealed_word region new addr inside)

  module _ (q : Process) (owns : q.owned ≡ owned) (idles : q.caller.state ≢ state.Stamped) where
    -- what was owned is, but for what is published
    remains : (addr : ℕ) → ((o : Owned) → Contains p.owned o → has_region p.published o.region ≡ true → IsIn addr o.region → ⊥)
        → IsOwned w.processes addr → IsOwned (set w.processes who q) addr
    remains addr none o =
        elim (cases_eq o.who who) [
          | inl same ↦
              let me : o.process ≡ p = some-injective o.process p (sym o.here ∙ ap (get_elem? w.processes) same ∙ here) in
              let among : Contains p.owned o.owned = subst (λ (r : Process). Contains r.owned o.owned) me o.among in
              record {
                who = who;
                process = q;
                here = set_here w.processes who q p here;
                owned = o.owned;
                among = subst (λ (l : List Owned). Contains l o.owned) (sym owns)
                    (by_test o.owned among o.inside (has_region p.published o.owned.region) refl);
                inside = o.inside;
              }
          | inr other ↦ record {
            who = o.who;
            process = o.process;
            here = set_else w.processes who o.who q other
                ∙ o.here;
            owned = o.owned;
            among = o.among;
            inside = o.inside;
          }
        ]
      where
        by_test : (x : Owned) → Contains p.owned x → IsIn addr x.region → (b : Bool) → has_region p.published x.region ≡ b → Contains owned x
        by_test x among inside true e = absurd (none x among e inside)
        by_test x among inside false e = still x among e

    heap : (addr : ℕ) → ¬ IsOwned (set w.processes who q) addr → slice_get w.heap addr ≡ slice_get (memory_with w.opening w.history counts) addr
    heap addr free =
        elim (sought_region p.published addr p.owned) [
          | inl (o, among, published, inside) ↦ published_word o among published addr inside
          | inr none ↦ other_word addr (λ o. free (remains addr none o))
        ]

    sound_with : (tags : List ℕ) → IsWriting shape p.caller.stamp w.history counts q.caller
        → IsMemory shape p.caller.stamp (record w { tags = tags; processes = set w.processes who q })
    sound_with tags fits =
        record {
          counts = counts;
          sized = sized_now;
          whole = whole_now;
          partly = λ k n c late there stored. mem.partly k n c (omega (arith, late, own.later)) there
              (sym (get_kept mem.counts my k all (λ e. omega (arith, e, late, own.later))) ∙ stored);
          waited = λ i k n one two before there there' stored some'. elim (cases_eq k my) [
            | inl same ↦ inl (omega (arith, before, same, own.later))
            | inr other ↦
                elim (mem.waited i k n one two before there there' (sym (get_kept mem.counts my k all other) ∙ stored) some') [
                  | inl early ↦ inl (omega (arith, early, own.later))
                  | inr clear ↦ inr clear
                ]
          ];
          heap = heap;
          contents = λ i r o e among. elim (at_set w.processes who i q r e) [
            | inl (same, is') ↦
                elim (owned_cases o (subst (λ (l : List Owned). Contains l o) owns (subst (λ (s : Process). Contains s.owned o) (sym is') among))) [
                  | inl before ↦ mem.contents who p o here before
                  | inr (region, new, made) ↦ subst (λ (x : Owned). words_in w.heap x.region ≡ x.now) made (sealed_words region new)
                ]
            | inr (other, was) ↦ mem.contents i r o was among
          ];
          spared = λ i r j e stamped from below o. elim (at_set w.processes who i q r e) [
            | inl (same, is') ↦ idles (subst (λ (s : Process). s.caller.state ≡ state.Stamped) (sym is') stamped)
            | inr (other, was) ↦
                elim (at_set w.processes who o.who q o.process o.here) [
                  | inl (mine', is'') ↦
                      elim (owned_cases o.owned (subst (λ (l : List Owned). Contains l o.owned) owns
                      (subst (λ (s : Process). Contains s.owned o.owned) (sym is'') o.among))) [
                        | inl before ↦ mem.spared i r j was stamped from below
                            (record { who = who; process = p; here = here; owned = o.owned; among = before; inside = o.inside })
                        | inr (region, new, made) ↦
                            let theirs = (ring.each i r was).own stamped in
                            let apart = ring.apart i who r p was here other stamped at.stamped in
                            ring.closed my (r.caller.stamp - 1) (commit_of p) (commit_of r) region j (omega (arith, theirs.later, own.last is, apart))
                            own.there theirs.there (ring.sealed_known who p region here new) (inl new) below
                            (subst (λ (x : Owned). IsIn (word_at r.caller.writes j).addr x.region) (sym made) o.inside)
                      ]
                  | inr (away, was') ↦ mem.spared i r j was stamped from below
                      (record { who = o.who; process = o.process; here = was'; owned = o.owned; among = o.among; inside = o.inside })
                ]
          ];
          writing = λ i r e. elim (at_set w.processes who i q r e) [
            | inl (same, is') ↦ subst (λ (s : Process). IsWriting shape p.caller.stamp w.history counts s.caller) is' fits
            | inr (other, was) ↦ others i r other was
          ];
        }
      where
        others : (i : ℕ) (r : Process) → i ≢ who → get_elem? w.processes i ≡ some r → IsWriting shape p.caller.stamp w.history counts r.caller
        others i r away there =
            let before = later_writing shape complete p.caller.stamp w.history mem.counts r.caller (omega (arith, own.later)) (mem.writing i r there) in
            record {
              counted = λ e.
                  let theirs = (ring.each i r there).own e in
                  get_kept mem.counts my (r.caller.stamp - 1) all
                  (λ same. ring.apart i who r p there here away e at.stamped (omega (arith, same, theirs.later, own.later)))
                  ∙ before.counted e;
              cleared = before.cleared;
            }

  pub completes : (tags : List ℕ)
      → IsMemory shape p.caller.stamp (record w { tags = tags; processes = set w.processes who (moved_on shape w.opening w.history p 0) })
  completes tags =
      let next : moved_on shape w.opening w.history p 0 ≡ completed shape w p = ap (λ stage. moved_at shape w.opening w.history p stage 0) is in
      subst (λ (r : Process). IsMemory shape p.caller.stamp (record w { tags = tags; processes = set w.processes who r })) (sym next)
      (sound_with (completed shape w p) refl (λ e. cc) tags (record { counted = λ e. cc; cleared = tt }))
