-- The words of a table that is closed with the whole pass are those of the last state.
use Rattle.std.proofs.Common.{◌≡◌, ◌≢◌, ℕ, zero, suc, ◌<◌, List, [], ◌∷◌, length, map, take, slice_get, slice_index, Contains, Option, Some, None, refl, sym, ◌∙◌, ap, subst, arith}
use Rattle.std.proofs.lemmas.List.{take_all}
use Rattle.std.proofs.lemmas.Option.{slice_get_within}
use mathlib.Core.Option.{some, some-injective, some-ne-none}
use lib.ListN.{get_elem?}
use Rattle.atomic_table.specs.Seated.{TableId}
use Rattle.atomic_table.specs.Table.{Final, Seen, State}
use Rattle.tx_model.specs.declared.gate.Region.{Region}
use Rattle.tx_model.specs.declared.history.Commit.{Commit}
use Rattle.tx_model.specs.declared.view.Owned.{Owned}
use Rattle.tx_model.specs.declared.pass.PassState.TheVariants.{Idle, Stamped}
use Rattle.tx_model.specs.Memory.{after}
use Rattle.tx_model.specs.History.{state_at, replay, after_commit, IsLegal}
use Rattle.tx_model.specs.Pass.{IsWhole}
use Rattle.tx_model.proofs.lemmas.Histories.{state_last}
use Rattle.tx_model.proofs.lemmas.Values.{after_append}
use Rattle.ring_core.specs.declared.action.Action.TheVariants as action
use Rattle.ring_core.specs.Shape.{IsShape}
use Rattle.ring_worlds.specs.declared.process.Process.{Process}
use Rattle.ring_worlds.specs.World.{World}
use Rattle.ring_worlds.specs.Memory.{IsOwned}
use Rattle.ring_worlds.specs.Stored.{words_left, memory_with}
use Rattle.ring_worlds.specs.Table.{words_of}
use Rattle.ring_worlds.proofs.lemmas.Members.{contains_none}
use Rattle.ring_words.specs.declared.table.About.{About}
use Rattle.ring_words.specs.declared.table.Knowledge.{Knowledge}
use Rattle.ring_words.specs.declared.pass.RingPass.{RingPass}
use Rattle.ring_words.specs.Ring.{Given, made_of, process_of, mine_of, IsRing}
use Rattle.ring_words.specs.Told.{pass_in}
use Rattle.ring_words.specs.Layout.{heap_index}
use Rattle.ring_words.specs.Sealings.{seals_of}
use Rattle.ring_words.specs.Known.{history_known, view_known}
use Rattle.ring_words.specs.Pass.{IsPassOf, view_of}
use Rattle.ring_words.specs.Closing.{Ending, ending, ending_known, contents_of, IsClosing}
use Rattle.ring_words.proofs.Whole.{lonely, whole_history, whole_complete}
use Rattle.ring_words.proofs.Words.{word_here}
use Rattle.ring_words.proofs.Sealings.{seals_all}

some_same : {X : Type 0} {x y : X} → Some x ≡ Some y → x ≡ y
some_same e = cc

idle_free : Idle ≢ Stamped
idle_free e = cc

-- ---- lists
or_zero : Option ℕ → ℕ
or_zero None = 0
or_zero (Some x) = x

index_is : (xs : List ℕ) (i : ℕ) → slice_index xs i ≡ or_zero (slice_get xs i)
unfolding or_zero
index_is [] zero = refl
index_is [] (suc i) = refl
index_is (x ∷ xs) zero = refl
index_is (x ∷ xs) (suc i) = index_is xs i

pub index_same : (xs ys : List ℕ) (i : ℕ) → slice_get xs i ≡ slice_get ys i → slice_index xs i ≡ slice_index ys i
index_same xs ys i e = index_is xs i ∙ ap or_zero e ∙ sym (index_is ys i)

pub found_at : (xs : List ℕ) (i : ℕ) (x : ℕ) → get_elem? xs i ≡ some x → x ≡ slice_index xs i
found_at [] i x e = absurd (some-ne-none x (sym e))
found_at (y ∷ xs) zero x e = sym (some-injective y x e)
found_at (y ∷ xs) (suc i) x e = found_at xs i x e

at_map_back : {A B : Type 0} (f : A → B) (l : List A) (i : ℕ) (b : B) → get_elem? (map f l) i ≡ some b → (a : A) × (get_elem? l i ≡ some a) × (f a ≡ b)
at_map_back f [] i b e = absurd (some-ne-none b (sym e))
at_map_back f (x ∷ xs) zero b e = (x, refl, some-injective (f x) b e)
at_map_back f (x ∷ xs) (suc i) b e = at_map_back f xs i b e

-- ---- where each entry has stored all its words, the memory is that of the last state
stored_all : (memory : List ℕ) (history : List Commit) (counts : List ℕ) → length counts ≡ length history
    → ((k : ℕ) (commit : Commit) → slice_get history k ≡ Some commit → slice_get counts k ≡ Some (length (words_left commit))) →
    memory_with memory history counts ≡ replay memory history
stored_all memory [] counts long whole = refl
stored_all memory (commit ∷ history) [] long whole = absurd (omega (arith, long))
stored_all memory (commit ∷ history) (count ∷ counts) long whole =
    let all : count ≡ length (words_left commit) = some_same (whole 0 commit refl) in
    let words : take count (words_left commit) ≡ words_left commit = ap (λ n. take n (words_left commit)) all ∙
    take_all (length (words_left commit)) (words_left commit) (omega arith) in
    ap (λ l. memory_with (after memory l) history counts) words
    ∙ ap (λ m. memory_with m history counts) (after_append memory commit.writes commit.carry)
    ∙ stored_all (after_commit memory commit) history counts (omega (arith, long)) (λ k other there. whole (suc k) other there)

module _ {S : Type 0} (allows : S → List Region → Type 0) (good : S → List ℕ → List ℕ → Type 0) (budget : S → List ℕ → ℕ) (about : About S)
    (table : TableId) (pass : RingPass S) (p : IsPassOf allows good budget about table pass) (is_idle : (view_of pass).state ≡ Idle)
    (whole : IsWhole (view_of pass)) where
  abbrev k : Knowledge S
  k = p.seated.knowledge

  was_free : k.process.caller.state ≢ Stamped
  was_free was = idle_free (sym is_idle ∙ p.seated.moved.stays was)

  whole_k : IsWhole (pass_in k.process.caller.state k)
  whole_k = sym (ap (λ known. (view_known pass.local.caller.state known).share) p.seated.known) ∙ whole

  module _ (s : State ℕ (Option (Knowledge S))) (r : IsRing good budget about s) (at : get_elem? s.views pass.seat.id ≡ some (Some k)) where
    abbrev w : World
    w = r.world

    history_is : k.history ≡ w.history
    history_is = whole_history good budget about s r pass.seat.id k at whole_k was_free

    complete_is : r.sound.complete ≡ length w.history
    complete_is = whole_complete good budget about s r pass.seat.id k at whole_k was_free

    -- nobody owns a word
    none_of : (known : Option (Knowledge S)) (i : ℕ) (o : Owned) → get_elem? s.views i ≡ some known → Contains (process_of about.shape known).owned o → ⊥
    none_of None i o here among = contains_none o among
    none_of (Some other) i o here among =
        let same = lonely good budget about s r pass.seat.id k at whole_k was_free i other here in
        let is : other ≡ k = some_same (some-injective (Some other) (Some k) (sym here ∙ ap (get_elem? s.views) same ∙ at)) in
        contains_none o (subst (λ owned. Contains owned o) (ap (λ (x : Knowledge S). x.process.owned) is ∙ p.seated.unowned) among)

    free : (addr : ℕ) → IsOwned w.processes addr → ⊥
    free addr own =
        let (known, here, is) = at_map_back (process_of about.shape) s.views own.who own.process (ap (λ l. get_elem? l own.who) r.callers ∙ own.here) in
        none_of known own.who own.owned here (subst (λ (x : Process). Contains x.owned own.owned) (sym is) own.among)

    heap_is : (addr : ℕ) → slice_index w.heap addr ≡ slice_index (state_at w.opening w.history (length w.history)) addr
    heap_is addr =
        let mem = r.sound.memory in
        index_same w.heap (state_at w.opening w.history (length w.history)) addr
        (mem.heap addr (free addr) ∙ ap (λ l. slice_get l addr)
        (stored_all w.opening w.history mem.counts mem.sized
        (λ i commit there. mem.whole i commit (omega (arith, slice_get_within w.history i commit there, complete_is)) there)
        ∙ sym (state_last w.opening w.history)))

    word_is : (words : List ℕ) → s.words ≡ words → (addr : ℕ) → addr < about.shape.heap
        → slice_index words (heap_index about.shape addr) ≡ slice_index (state_at (made_of about).opening k.history (length k.history)) addr
    word_is words here addr below =
        let found = word_here w r.sound (action.LoadHeap addr) tt (subst (λ (g : Given). addr < g.shape.heap) (sym r.made) below) in
        ap (λ l. slice_index l (heap_index about.shape addr)) (sym here ∙ r.words)
        ∙ ap (λ (g : Given). slice_index (words_of w) (heap_index g.shape addr)) (sym r.made)
        ∙ found ∙ heap_is addr
        ∙ ap (λ (g : Given). slice_index (state_at g.opening w.history (length w.history)) addr) r.made
        ∙ ap (λ h. slice_index (state_at (made_of about).opening h (length h)) addr) (sym history_is)

  -- the parts of what the ring leaves
  module _ (limits : IsShape about.shape) (room : length (made_of about).opening ≡ about.shape.heap) where
    abbrev left : Ending S
    left = record { made = made_of about; history = k.history; owned = k.process.owned }

    closing : (s : State ℕ (Option (Knowledge S))) (r : IsRing good budget about s) → get_elem? s.views pass.seat.id ≡ some (Some k) →
        (words : List ℕ) → s.words ≡ words
        → IsClosing about.sense.value about.shape words pass.seals left
    closing s r at words here =
        let all = (p.seated.knows.whole whole_k was_free).0 in
        record {
          limits = limits;
          sense_is = refl;
          room = room;
          legal = subst (λ (a : About S). IsLegal (made_of a).opening k.history) p.seated.told p.seated.knows.history_is.legal;
          lasts = omega (arith, p.seated.knows.history_is.lasts, ap (λ (a : About S). a.shape.life) p.seated.told);
          index = ap (λ l. slice_index l 0) (sym here ∙ r.words) ∙ r.sound.indexed ∙ ap length (sym (history_is s r at));
          heap = λ addr below. word_is s r at words here addr below
              ∙ ap (λ owned. slice_index (after (state_at (made_of about).opening k.history (length k.history)) (contents_of owned)) addr)
              (sym p.seated.unowned);
          counted = p.counted ∙ ap (λ known. seals_of (history_known known) (mine_of known)) p.seated.known ∙ ap (seals_of k.history) all.mine ∙
              seals_all k.history;
        }

    pub closes : (words slots : List ℕ) → Final (Seen (IsRing good budget about) pass.seat.id pass.seat.me.0) words slots
        → IsClosing about.sense.value about.shape words pass.seals (ending_known about.sense.value pass.seat.me.0)
    closes words slots (s, seen, here, long, homes) =
        subst (λ known. IsClosing about.sense.value about.shape words pass.seals (ending_known about.sense.value known)) (sym p.seated.known)
        (subst (λ (a : About S). IsClosing about.sense.value about.shape words pass.seals
        (record { made = made_of a; history = k.history; owned = k.process.owned })) (sym p.seated.told)
        (closing s seen.0 (seen.1 ∙ ap some p.seated.known) words here))

    pub ends : ending_known about.sense.value pass.seat.me.0 ≡ ending (made_of about) (view_of pass)
    ends =
        ap (ending_known about.sense.value) p.seated.known
        ∙ ap (λ (a : About S). record { made = made_of a; history = k.history; owned = k.process.owned }) p.seated.told
        ∙ ap (λ known. ending (made_of about) (view_known pass.local.caller.state known)) (sym p.seated.known)
