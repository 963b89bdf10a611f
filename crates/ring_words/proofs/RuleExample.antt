-- A table in the middle of a write-back.
use Rattle.std.proofs.Common.{◌≡◌, ◌≢◌, ℕ, zero, suc, ◌+◌, ◌%◌, ◌<◌, ◌≤◌, true, false, List, [], ◌∷◌, length, replicate, slice_get, slice_index, Contains, Option, Some, get_or, Bool, refl, sym, ◌∙◌, ap, subst, arith}
use mathlib.Core.Option.{some, some-injective, some-ne-none}
use lib.ListN.{get_elem?}
use Rattle.tx_model.specs.declared.history.Commit.{Commit}
use Rattle.tx_model.specs.declared.pass.PassState.TheVariants as state
use Rattle.tx_model.specs.Shares.{Name, sibling, AreJoined, AreSharesApart}
use Rattle.tx_model.specs.ShareLaws.{SplitApart}
use Rattle.tx_model.specs.Words.{AreApart}
use Rattle.tx_model.specs.Holders.{AreNamed}
use Rattle.tx_model.specs.History.{IsGoodHistory, HasWriters, IsWriter, state_at}
use Rattle.tx_model.specs.Pass.{AreStamps}
use Rattle.tx_model.proofs.lemmas.Holders.{apart_back}
use Rattle.ring_core.specs.declared.action.Action.TheVariants as action
use Rattle.ring_worlds.specs.declared.process.Process.{Process}
use Rattle.ring_worlds.specs.World.{World, board_of}
use Rattle.std.proofs.lemmas.Option.{get_or_from_slice_get}
use Rattle.ring_worlds.specs.Memory.{IsOwned}
use Rattle.ring_worlds.specs.Stored.{memory_with}
use Rattle.ring_worlds.specs.Table.{words_of}
use Rattle.ring_worlds.specs.Sound.{IsProcess}
use Rattle.ring_worlds.specs.Examples.{reader, writer, middle_world, MiddleExample}
use Rattle.ring_worlds.proofs.lemmas.Members.{contains_none}
use Rattle.ring_words.specs.declared.table.About.{About}
use Rattle.ring_words.specs.declared.table.Knowledge.{Knowledge}
use Rattle.ring_words.specs.Ring.{Given, given_by, given_of, share_of, mine_of, IsRing, IsSeat}
use Rattle.ring_words.specs.Layout.{index_at}
use Rattle.ring_words.specs.Examples.{AnySense, AnyWords, room_left, given_example, commit_example, knowing, seats_example, table_with, RingExample, TooEarlyExample, OtherWordExample}
use Rattle.ring_words.proofs.Whole.{caller_here}
use Rattle.ring_words.proofs.Words.{word_here}

some_same : {X : Type 0} {x y : X} → Some x ≡ Some y → x ≡ y
some_same e = cc

active_not_idle : state.Active ≢ state.Idle
active_not_idle e = cc

active_not : state.Active ≢ state.Stamped
active_not e = cc

stamped_not : state.Stamped ≢ state.Idle
stamped_not e = cc

one_name : (k : ℕ) (name letters : Name) → k < 1 → get_or (name ∷ []) k letters ≡ letters → name ≡ letters
one_name zero name letters below is = is
one_name (suc k) name letters below is = absurd (omega (arith, below))

lone_joined : (letter : Bool) → AreJoined ((letter ∷ []) ∷ [])
lone_joined letter first rest (k, below, is) (j, under, is') =
    let one = one_name k (letter ∷ []) (first ∷ rest) below is in
    let other = one_name j (letter ∷ []) (sibling first rest) under is' in
    differ letter first rest one other
  where
    differ : (letter first : Bool) (rest : Name) → (letter ∷ []) ≡ (first ∷ rest) → (letter ∷ []) ≡ sibling first rest → ⊥
    differ true true rest a b = cc
    differ true false rest a b = cc
    differ false true rest a b = cc
    differ false false rest a b = cc

-- ---- it meets the rule
module _ (halves : SplitApart) (about : About AnySense) where
  abbrev one : Knowledge AnySense
  one = knowing about reader [] [] ((false ∷ []) ∷ [])

  abbrev other : Knowledge AnySense
  other = knowing about writer (commit_example ∷ []) (1 ∷ []) ((true ∷ []) ∷ [])

  abbrev history : List Commit
  history = commit_example ∷ []

  seat_one : IsSeat about history one
  seat_one =
      record {
        told = refl;
        known = (history, refl);
        other = (history, refl);
        shorter = omega arith;
        plain = record {
          reached = omega arith;
          rested = λ e. absurd (active_not_idle e);
          mine = record { rise = λ i j before below. absurd (omega (arith, below)); within = λ i below. absurd (omega (arith, below)) };
          settled = λ free own has. absurd (contains_none own has);
          stamped = λ e. absurd (active_not e);
          named = λ e. cc;
          joined = lone_joined false;
          apart = ((λ name has. absurd (contains_none name has)), tt);
        };
      }

  own_number : AreStamps 1 (1 ∷ [])
  own_number = record { rise = λ i j before below. absurd (omega (arith, before, below)); within = within }
    where
      within : (i : ℕ) → i < 1 → (1 ≤ slice_index (1 ∷ []) i) × (slice_index (1 ∷ []) i ≤ 1)
      within zero below = (omega arith, omega arith)
      within (suc i) below = absurd (omega (arith, below))

  seat_other : IsSeat about history other
  seat_other =
      record {
        told = refl;
        known = ([], refl);
        other = (history, refl);
        shorter = omega arith;
        plain = record {
          reached = omega arith;
          rested = λ e. absurd (stamped_not e);
          mine = own_number;
          settled = λ free own has. absurd (free refl);
          stamped = λ e. record { before = []; last = refl; complete = λ own has. absurd (contains_none own has) };
          named = λ e. cc;
          joined = lone_joined true;
          apart = ((λ name has. absurd (contains_none name has)), tt);
        };
      }

  seats : (i : ℕ) (k : Knowledge AnySense) → get_elem? (seats_example about) i ≡ some (Some k) → IsSeat about history k
  seats zero k e = subst (IsSeat about history) (some_same (some-injective (Some one) (Some k) e)) seat_one
  seats (suc zero) k e = subst (IsSeat about history) (some_same (some-injective (Some other) (Some k) e)) seat_other
  seats (suc (suc i)) k e = absurd (some-ne-none (Some k) (sym e))

  halves_apart : AreSharesApart ((false ∷ []) ∷ []) ((true ∷ []) ∷ [])
  halves_apart = (halves ([] ∷ []) ((λ name has. absurd (contains_none name has)), tt)).2

  names : AreNamed share_of (seats_example about)
  names zero zero x y e f apart = absurd (apart refl)
  names zero (suc zero) x y e f apart =
      subst (λ a. AreSharesApart (share_of a) (share_of y)) (some-injective (Some one) x e)
      (subst (λ b. AreSharesApart ((false ∷ []) ∷ []) (share_of b)) (some-injective (Some other) y f) halves_apart)
  names (suc zero) zero x y e f apart =
      subst (λ a. AreSharesApart (share_of a) (share_of y)) (some-injective (Some other) x e)
      (subst (λ b. AreSharesApart ((true ∷ []) ∷ []) (share_of b)) (some-injective (Some one) y f)
      (apart_back ((false ∷ []) ∷ []) ((true ∷ []) ∷ []) halves_apart))
  names (suc zero) (suc zero) x y e f apart = absurd (apart refl)
  names (suc (suc i)) j x y e f apart = absurd (some-ne-none x (sym e))
  names zero (suc (suc j)) x y e f apart = absurd (some-ne-none y (sym f))
  names (suc zero) (suc (suc j)) x y e f apart = absurd (some-ne-none y (sym f))

  owner_is : (i : ℕ) (x : Option (Knowledge AnySense)) (number : ℕ) → get_elem? (seats_example about) i ≡ some x → Contains (mine_of x) number → i ≡ 1
  owner_is zero x number e has = absurd (contains_none number (subst (λ a. Contains (mine_of a) number) (sym (some-injective (Some one) x e)) has))
  owner_is (suc zero) x number e has = refl
  owner_is (suc (suc i)) x number e has = absurd (some-ne-none x (sym e))

  all : (number : ℕ) → 1 ≤ number → number ≤ 1 → (i : ℕ) × (x : Option (Knowledge AnySense)) × (get_elem? (seats_example about) i ≡ some x) ×
      Contains (mine_of x) number
  all number least most = (1, Some other, refl, subst (Contains (1 ∷ [])) (let e : 1 ≡ number = omega (arith, least, most) in e) (0, omega arith, refl))

writers : HasWriters (commit_example ∷ [])
writers zero commit there = subst IsWriter (some_same there) ((λ e. cc), apart)
  where
    apart : AreApart writer.caller.writes
    apart zero zero before below is = omega (arith, before)
    apart zero (suc zero) before below is = omega (arith, is)
    apart zero (suc (suc j)) before below is = omega (arith, below)
    apart (suc i) j before below is = omega (arith, before, below)
writers (suc k) commit there = absurd cc

good_states : IsGoodHistory (AnyWords tt (replicate 64 0)) (room_left tt) (replicate 64 0) (commit_example ∷ [])
good_states = record { states = λ k within. tt; falls = falls }
  where
    falls : (k : ℕ) → k < 1 → room_left tt (state_at (replicate 64 0) (commit_example ∷ []) (k + 1)) < room_left tt
        (state_at (replicate 64 0) (commit_example ∷ []) k)
    falls zero below = omega arith
    falls (suc k) below = absurd (omega (arith, below))

pub meets : MiddleExample → SplitApart → RingExample
meets sound halves about made =
    record {
      world = middle_world;
      made = sym made;
      sound = sound;
      words = refl;
      callers = refl;
      writers = writers;
      good_states = subst (λ (g : Given). IsGoodHistory (AnyWords tt g.opening) (room_left tt) g.opening (commit_example ∷ [])) (sym made) good_states;
      seats = seats halves about;
      names = names halves about;
      all = all halves about;
      once = λ i j x y number e f has has'. owner_is halves about i x number e has ∙ sym (owner_is halves about j y number f has');
      owners = λ region among sealed. absurd (contains_none region (subst (λ (g : Given). Contains g.regions region) made among));
    }

-- ---- it doesn't with another tag or another word
module _ (about : About AnySense) (made : given_of about ≡ given_example) (tag word : ℕ) (r : IsRing AnyWords room_left about (table_with about tag word)) where
  abbrev w : World
  w = r.world

  given_is : given_by w ≡ given_example
  given_is = r.made ∙ made

  writer_here : get_elem? w.processes 1 ≡ some writer
  writer_here = caller_here AnyWords room_left about (table_with about tag word) r 1
      (knowing about writer (commit_example ∷ []) (1 ∷ []) ((true ∷ []) ∷ [])) refl

  me : IsProcess w.shape w.opening w.regions (board_of w r.sound.complete) writer
  me = r.sound.each 1 writer writer_here

  -- the tag in the slot of the first entry
  pub tag_is : tag ≡ 6
  tag_is =
      let found = word_here w r.sound (action.LoadTag 1) tt (subst (λ (g : Given). 1 < g.shape.ring) (sym given_is) (omega arith)) in
      let here : slice_index w.tags 1 ≡ tag = sym found ∙ ap (λ l. slice_index l 2) (sym r.words) in
      let own = subst (λ (g : Given). slice_index w.tags (1 % g.shape.ring) ≡ 6) given_is me.own.tag in
      sym here ∙ own

one_entry : {X : Type 0} (xs : List X) (x : X) → length xs ≡ 1 → slice_get xs 0 ≡ Some x → xs ≡ x ∷ []
one_entry [] x long there = absurd (omega (arith, long))
one_entry (y ∷ []) x long there = ap (λ z. z ∷ []) (some_same there)
one_entry (y ∷ z ∷ zs) x long there = absurd (omega (arith, long))

-- nobody owns a word
unowned : (about : About AnySense) (processes : List Process) → reader ∷ writer ∷ [] ≡ processes → (addr : ℕ) → IsOwned processes addr → ⊥
unowned about processes is addr own = go own.who own.process (ap (λ l. get_elem? l own.who) is ∙ own.here) own.among
  where
    go : (i : ℕ) (p : Process) → get_elem? (reader ∷ writer ∷ []) i ≡ some p → Contains p.owned own.owned → ⊥
    go zero p e among = contains_none own.owned (subst (λ (x : Process). Contains x.owned own.owned) (sym (some-injective reader p e)) among)
    go (suc zero) p e among = contains_none own.owned (subst (λ (x : Process). Contains x.owned own.owned) (sym (some-injective writer p e)) among)
    go (suc (suc i)) p e among = absurd (some-ne-none p (sym e))

module _ (about : About AnySense) (made : given_of about ≡ given_example) (word : ℕ) (r : IsRing AnyWords room_left about (table_with about 6 word)) where
  abbrev v : World
  v = r.world

  given_now : given_by v ≡ given_example
  given_now = r.made ∙ made

  him : IsProcess v.shape v.opening v.regions (board_of v r.sound.complete) writer
  him = r.sound.each 1 writer (caller_here AnyWords room_left about (table_with about 6 word) r 1
      (knowing about writer (commit_example ∷ []) (1 ∷ []) ((true ∷ []) ∷ [])) refl)

  long : length v.history ≡ 1
  long = sym r.sound.indexed ∙ sym (ap (λ l. slice_index l 0) r.words)

  history_is : v.history ≡ commit_example ∷ []
  history_is = one_entry v.history commit_example long him.own.there

  counts_are : r.sound.memory.counts ≡ 1 ∷ []
  counts_are =
      one_entry r.sound.memory.counts 1 (r.sound.memory.sized ∙ long)
      ((r.sound.memory.writing 1 writer (caller_here AnyWords room_left about (table_with about 6 word) r 1
      (knowing about writer (commit_example ∷ []) (1 ∷ []) ((true ∷ []) ∷ [])) refl)).counted refl)

  -- word 1 is as the entry has stored it
  stored : slice_get v.heap 1 ≡ Some 5
  stored =
      r.sound.memory.heap 1 (unowned about v.processes r.callers 1)
      ∙ (λ i. slice_get (memory_with (Given.opening (given_now i)) (history_is i) (counts_are i)) 1)

  pub word_is : word ≡ 5
  word_is =
      let found = word_here v r.sound (action.LoadHeap 1) tt (subst (λ (g : Given). 1 < g.shape.heap) (sym given_now) (omega arith)) in
      let index = ap (λ (g : Given). index_at g.shape (action.LoadHeap 1)) given_now in
      let here : slice_index v.heap 1 ≡ word = sym found ∙ ap (slice_index (words_of v)) index ∙ ap (λ l. slice_index l 10) (sym r.words) in
      sym here ∙ get_or_from_slice_get v.heap 1 5 0 stored

pub too_early : TooEarlyExample
too_early about made r = let is = tag_is about made 7 5 r in omega (arith, is)

pub other_word : OtherWordExample
other_word about made r = let is = word_is about made 9 r in omega (arith, is)
