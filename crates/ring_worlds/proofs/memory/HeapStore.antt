-- A store of a word of the heap.
use Rattle.std.proofs.Common.{◌≡◌, ◌≢◌, ◌⊎◌, ℕ, ◌+◌, ◌-◌, ◌*◌, ◌<◌, ◌≤◌, nat_lt, nat_eq, Bool, true, false, List, length, set, slice_get, Some, Contains, refl, sym, ◌∙◌, ap, subst, arith, inl, inr, cond, length-set}
use mathlib.Core.Option.{some}
use lib.ListN.{get_elem?}
use Rattle.std.proofs.lemmas.Bool.{cases_eq, cases_lt, lt-ltb, le-ltb}
use Rattle.std.proofs.lemmas.List.{length-append, get_or_append_left}
use Rattle.std.proofs.lemmas.Option.{slice_get_within}
use Rattle.tx_model.specs.declared.history.Commit.{Commit}
use Rattle.tx_model.specs.declared.word.Word.{Word}
use Rattle.tx_model.specs.Words.{no_word, word_at, addresses}
use Rattle.ring_core.specs.declared.shape.Shape.{Shape}
use Rattle.ring_core.specs.declared.caller.Caller.{Caller}
use Rattle.ring_core.specs.declared.stage.Stage.TheVariants.{Turn}
use Rattle.ring_core.specs.declared.stage.TurnStage.TheVariants.{Heap, Before, Complete}
use Rattle.ring_core.specs.Sound as core
use Rattle.ring_core.specs.Outcomes.{turn_heap}
use Rattle.ring_worlds.specs.declared.process.Process.{Process}
use Rattle.ring_worlds.specs.World.{World, moved_at, moved_on, commit_of}
use Rattle.ring_worlds.proofs.memory.Needs.{with_word, Needs, Beside, HasCommit}
use Rattle.ring_worlds.specs.Stored.{words_left, memory_with, stored_in, stored_at, IsClearOf}
use Rattle.ring_worlds.specs.Memory.{IsOwned, IsMemory, IsWriting, HasCleared, Cleared}
use Rattle.ring_worlds.proofs.memory.Stored.{HasNot, store_next}
use Rattle.ring_worlds.proofs.memory.Owners.{was_owned, still_owned, stays_in}
use Rattle.tx_model.specs.declared.view.Owned.{Owned}
use Rattle.tx_model.specs.Memory.{words_in}
use Rattle.ring_worlds.proofs.memory.Meeting.{common_meets}
use Rattle.ring_worlds.proofs.lemmas.Lists.{at_set, get_changed, get_kept, put_agrees}

-- what the next stage says has been stored
last_stored : (c : Caller) (b : Bool) → stored_in c (cond b Complete Before) ≡ length c.writes
last_stored c true = refl
last_stored c false = refl

one_more : (c : Caller) (at : ℕ) → at < length c.writes → stored_at (turn_heap c at).caller (turn_heap c at).caller.stage ≡ at + 1
one_more c at below =
    elim (cases_lt (at + 1) (length c.writes)) [
      | inl more ↦ ap (λ b. stored_in c (cond b (Heap (at + 1)) (cond (nat_eq c.stamp 1) Complete Before))) (lt-ltb (at + 1) (length c.writes) more)
      | inr done ↦
          ap (λ b. stored_in c (cond b (Heap (at + 1)) (cond (nat_eq c.stamp 1) Complete Before))) (le-ltb (at + 1) (length c.writes) done)
          ∙ last_stored c (nat_eq c.stamp 1)
          ∙ omega (arith, below, done)
    ]

module _ (shape : Shape) (w : World) (complete : ℕ) (ring : Needs shape complete w) (mem : IsMemory shape complete w) (who : ℕ) (p : Process)
    (here : get_elem? w.processes who ≡ some p) (at : ℕ) (is : p.caller.stage ≡ Turn (Heap at)) where
  mine : Beside shape complete w.history p
  mine = ring.each who p here

  staged : core.IsStamped shape p.caller.state p.caller.writes p.caller.start p.caller.stamp × (at < length p.caller.writes)
  staged = subst (core.IsStage shape p.caller) is mine.machine.stage

  own : HasCommit complete w.history p
  own = mine.own staged.0.stamped

  abbrev my : ℕ
  my = p.caller.stamp - 1

  counted : slice_get mem.counts my ≡ Some at
  counted = subst (λ stage. slice_get mem.counts my ≡ Some (stored_at p.caller stage)) is ((mem.writing who p here).counted staged.0.stamped)

  cleared : Cleared shape complete w.history p.caller 0
  cleared = subst (HasCleared shape complete w.history p.caller) is (mem.writing who p here).cleared

  within : at < length (words_left (commit_of p))
  within = omega (arith, staged.1, length-append p.caller.writes (commit_of p).carry)

  word : word_at (words_left (commit_of p)) at ≡ word_at p.caller.writes at
  word = get_or_append_left p.caller.writes (commit_of p).carry no_word at staged.1

  -- no later entry has stored this word: it would have waited for this one
  later : (k n : ℕ) (c : Commit) → my < k → slice_get w.history k ≡ Some c → slice_get mem.counts k ≡ Some n
      → HasNot (words_left c) n (word_at (words_left (commit_of p)) at).addr
  later k n c after there stored j below inside same =
      let some : n ≤ length c.writes = mem.partly k n c (omega (arith, own.later, after)) there stored in
      elim (mem.waited my k n (commit_of p) c after own.there there stored (omega (arith, below))) [
        | inl early ↦ absurd (omega (arith, early, own.later))
        | inr clear ↦
            clear (common_meets (64 * shape.sig_words) p.caller.writes c.writes at j staged.1 (omega (arith, below, some))
            (sym (ap (λ (x : Word). x.addr) word) ∙ sym same ∙ ap (λ (x : Word). x.addr)
            (get_or_append_left c.writes c.carry no_word j (omega (arith, below, some)))))
      ]

  abbrev counts : List ℕ
  counts = set mem.counts my (at + 1)

  my_below : my < length mem.counts
  my_below = slice_get_within mem.counts my at counted

  heap : (addr : ℕ) → ¬ IsOwned w.processes addr
      → slice_get (set w.heap (word_at p.caller.writes at).addr (word_at p.caller.writes at).value) addr ≡ slice_get (memory_with w.opening w.history counts)
      addr
  heap addr free =
      let next = store_next w.opening w.history mem.counts my at (commit_of p) own.there counted within later in
      let same : memory_with w.opening w.history counts ≡ set (memory_with w.opening w.history mem.counts) (word_at p.caller.writes at).addr
      (word_at p.caller.writes at).value
      = next ∙ ap (λ (x : Word). set (memory_with w.opening w.history mem.counts) x.addr x.value) word in
      put_agrees w.heap (memory_with w.opening w.history mem.counts) (word_at p.caller.writes at).addr addr (word_at p.caller.writes at).value
      (mem.heap addr free)
      ∙ sym (ap (λ (m : List ℕ). slice_get m addr) same)

  abbrev now : Process
  now = moved_at shape w.opening w.history p (Turn (Heap at)) 0

  goes_on : (b : Bool) → HasCleared shape complete w.history p.caller (Turn (cond b (Heap (at + 1)) (cond (nat_eq p.caller.stamp 1) Complete Before)))
  goes_on true = cleared
  goes_on false = ends_in (nat_eq p.caller.stamp 1)
    where
      ends_in : (b : Bool) → HasCleared shape complete w.history p.caller (Turn (cond b Complete Before))
      ends_in true = tt
      ends_in false = tt

  now_writing : IsWriting shape complete w.history counts now.caller
  now_writing =
      record {
        counted = λ e. get_changed mem.counts my (at + 1) my_below ∙ ap (λ (k : ℕ). Some k) (sym (one_more p.caller at staged.1));
        cleared = goes_on (nat_lt (at + 1) (length p.caller.writes));
      }

  -- another caller has another entry
  other_writing : (i : ℕ) (r : Process) → i ≢ who → get_elem? w.processes i ≡ some r → IsWriting shape complete w.history counts r.caller
  other_writing i r away there =
      record {
        counted = λ e.
            let theirs = (ring.each i r there).own e in
            get_kept mem.counts my (r.caller.stamp - 1) (at + 1)
            (λ same. ring.apart i who r p there here away e staged.0.stamped (omega (arith, same, theirs.later, own.later)))
            ∙ (mem.writing i r there).counted e;
        cleared = (mem.writing i r there).cleared;
      }

  -- what an entry has stored: this one a word more
  stored_now : (k n : ℕ) → slice_get counts k ≡ Some n → ((k ≡ my) × (n ≡ at + 1)) ⊎ ((k ≢ my) × (slice_get mem.counts k ≡ Some n))
  stored_now k n e =
      elim (cases_eq k my) [
        | inl same ↦ inl (
          same,
          let there : slice_get counts my ≡ Some n = subst (λ (j : ℕ). slice_get counts j ≡ Some n) same e in
              let was = get_changed mem.counts my (at + 1) my_below in cc,
        )
        | inr other ↦ inr (other, sym (get_kept mem.counts my k (at + 1) other) ∙ e)
      ]

  -- this word is in no owned region
  out : ¬ IsOwned w.processes (word_at p.caller.writes at).addr
  out = mem.spared who p at here staged.0.stamped (subst (λ stage. stored_at p.caller stage ≤ at) (sym is) (omega arith)) staged.1

  sound_with : (q : Process) → q.owned ≡ p.owned → q.caller.writes ≡ p.caller.writes → stored_at q.caller q.caller.stage ≡ at + 1
      → IsWriting shape complete w.history counts q.caller
      → IsMemory shape complete (record w {
        heap = set w.heap (word_at p.caller.writes at).addr (word_at p.caller.writes at).value;
        processes = set w.processes who q;
      })
  sound_with q owns same_writes more writes =
      record {
        counts = counts;
        sized = length-set mem.counts my (at + 1) ∙ mem.sized;
        whole = λ k c early there. get_kept mem.counts my k (at + 1) (λ e. omega (arith, e, early, own.later)) ∙ mem.whole k c early there;
        partly = λ k n c late there stored. elim (stored_now k n stored) [
          | inl (same, one) ↦
              let mine' : slice_get w.history my ≡ Some c = subst (λ (j : ℕ). slice_get w.history j ≡ Some c) same there in
              let that : commit_of p ≡ c = let o = own.there in cc in
              subst (λ (d : Commit). n ≤ length d.writes) that (omega (arith, one, staged.1))
          | inr (other, was) ↦ mem.partly k n c late there was
        ];
        waited = λ i k n one two before there there' stored some. elim (stored_now k n stored) [
          | inl (same, more) ↦
              let mine' : slice_get w.history my ≡ Some two = subst (λ (j : ℕ). slice_get w.history j ≡ Some two) same there' in
              let that : commit_of p ≡ two = let o = own.there in cc in
              subst (λ (d : Commit). (i < complete) ⊎ IsClearOf (64 * shape.sig_words) one (addresses d.writes)) that
              (cleared i one (omega arith) (omega (arith, before, same, own.later)) there)
          | inr (other, was) ↦ mem.waited i k n one two before there there' was some
        ];
        heap = λ addr free. heap addr (λ own. free (still_owned w.processes who p q here
            (λ o among. subst (λ (l : List Owned). Contains l o) (sym owns) among) addr own));
        contents = λ i r o e among.
            let before : (i' : ℕ) (s : Process) → get_elem? w.processes i' ≡ some s → Contains s.owned o
            → words_in (set w.heap (word_at p.caller.writes at).addr (word_at p.caller.writes at).value) o.region ≡ o.now =
            λ i' s there among'.
            stays_in w.heap o.region (word_at p.caller.writes at).addr (word_at p.caller.writes at).value
            (λ inside. out (record { who = i'; process = s; here = there; owned = o; among = among'; inside = inside }))
            ∙ mem.contents i' s o there among' in
            elim (at_set w.processes who i q r e) [
              | inl (same, is') ↦ before who p here (subst (λ (l : List Owned). Contains l o) owns
                  (subst (λ (s : Process). Contains s.owned o) (sym is') among))
              | inr (other, was) ↦ before i r was among
            ];
        spared = λ i r j e stamped from below own.
            let before = was_owned w.processes who p q here (λ o among. subst (λ (l : List Owned). Contains l o) owns among) (word_at r.caller.writes j).addr
            own in
            elim (at_set w.processes who i q r e) [
              | inl (same, is') ↦
                  let mine' : r.caller.writes ≡ p.caller.writes = ap (λ (s : Process). s.caller.writes) (sym is') ∙ same_writes in
                  let from' : at + 1 ≤ j = subst (λ n. n ≤ j) more (subst (λ (s : Process). stored_at s.caller s.caller.stage ≤ j) (sym is') from) in
                  mem.spared who p j here staged.0.stamped (subst (λ stage. stored_at p.caller stage ≤ j) (sym is) (omega (arith, from')))
                  (subst (λ (ws : List Word). j < length ws) mine' below) (subst (λ (ws : List Word). IsOwned w.processes (word_at ws j).addr) mine' before)
              | inr (other, was) ↦ mem.spared i r j was stamped from below before
            ];
        writing = λ i r e. elim (at_set w.processes who i q r e) [
          | inl (same, is') ↦ subst (λ (s : Process). IsWriting shape complete w.history counts s.caller) is' writes
          | inr (other, was) ↦ other_writing i r other was
        ];
      }

  pub stores : IsMemory shape complete (with_word shape w who p at)
  stores =
      let next : moved_on shape w.opening w.history p 0 ≡ now = ap (λ stage. moved_at shape w.opening w.history p stage 0) is in
      subst (λ (r : Process). IsMemory shape complete (record w
      { heap = set w.heap (word_at p.caller.writes at).addr (word_at p.caller.writes at).value; processes = set w.processes who r })) (sym next)
      (sound_with now refl refl (one_more p.caller at staged.1) now_writing)
