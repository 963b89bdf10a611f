-- What a word of the heap is worth.
use Rattle.std.proofs.Common.{◌≡◌, ◌≢◌, ◌⊎◌, ℕ, zero, suc, ◌<◌, ◌≤◌, ◌++◌, List, [], ◌∷◌, Some, length, take, set, slice_get, refl, sym, ◌∙◌, ap, subst, arith, inl, inr, length-set}
use Rattle.std.proofs.lemmas.Bool.{cases_eq}
use Rattle.std.proofs.lemmas.List.{take_all}
use Rattle.tx_model.specs.declared.history.Commit.{Commit}
use Rattle.tx_model.specs.declared.word.Word.{Word}
use Rattle.tx_model.specs.Words.{word_at, AreApart}
use Rattle.tx_model.specs.Memory.{after}
use Rattle.tx_model.specs.History.{after_commit, state_at}
use Rattle.ring_worlds.specs.Stored.{words_left, memory_with}
use Rattle.ring_worlds.proofs.memory.Stored.{HasNot}
use Rattle.ring_worlds.proofs.lemmas.Lists.{get_changed, get_kept}

pub after_long : (memory : List ℕ) (words : List Word) → length (after memory words) ≡ length memory
after_long memory [] = refl
after_long memory (word ∷ words) = after_long (set memory word.addr word.value) words ∙ length-set memory word.addr word.value

pub after_join : (memory : List ℕ) (words more : List Word) → after memory (words ++ more) ≡ after (after memory words) more
after_join memory [] more = refl
after_join memory (word ∷ words) more = after_join (set memory word.addr word.value) words more

-- the commit leaves all its words
pub commit_leaves : (memory : List ℕ) (commit : Commit) → after memory (words_left commit) ≡ after_commit memory commit
commit_leaves memory commit = after_join memory commit.writes commit.carry

-- a word that none of them changes
pub after_other : (memory : List ℕ) (words : List Word) (count addr : ℕ) → HasNot words count addr
    → slice_get (after memory (take count words)) addr ≡ slice_get memory addr
after_other memory [] zero addr not = refl
after_other memory [] (suc count) addr not = refl
after_other memory (word ∷ words) zero addr not = refl
after_other memory (word ∷ words) (suc count) addr not =
    after_other (set memory word.addr word.value) words count addr (λ j below within. not (suc j) (omega (arith, below)) (omega (arith, within)))
    ∙ get_kept memory word.addr addr word.value (λ e. not 0 (omega arith) (omega arith) (sym e))

apart_rest : (word : Word) (words : List Word) → AreApart (word ∷ words) → AreApart words
apart_rest word words apart i j before below = apart (suc i) (suc j) (omega (arith, before)) (omega (arith, below))

-- a word that one of them changes
pub after_at : (memory : List ℕ) (words : List Word) (count j : ℕ) → AreApart words → j < count → j < length words → (word_at words j).addr < length memory
    → slice_get (after memory (take count words)) (word_at words j).addr ≡ Some (word_at words j).value
after_at memory [] count j apart below within inside = absurd (omega (arith, within))
after_at memory (word ∷ words) zero j apart below within inside = absurd (omega (arith, below))
after_at memory (word ∷ words) (suc count) zero apart below within inside =
    after_other (set memory word.addr word.value) words count word.addr (λ k below' within' e. apart 0 (suc k) (omega arith) (omega (arith, within')) (sym e))
    ∙ get_changed memory word.addr word.value inside
after_at memory (word ∷ words) (suc count) (suc j) apart below within inside =
    after_at (set memory word.addr word.value) words count j (apart_rest word words apart) (omega (arith, below)) (omega (arith, within))
    (omega (arith, inside, length-set memory word.addr word.value))

-- one of the first words has this address, or none
pub sought : (words : List Word) (count addr : ℕ) → ((j : ℕ) × (j < count) × (j < length words) × ((word_at words j).addr ≡ addr)) ⊎ HasNot words count addr
sought [] count addr = inr (λ j below within. absurd (omega (arith, within)))
sought (word ∷ words) zero addr = inr (λ j below within. absurd (omega (arith, below)))
sought (word ∷ words) (suc count) addr =
    elim (cases_eq word.addr addr) [
      | inl same ↦ inl (0, omega arith, omega arith, same)
      | inr other ↦
          elim (sought words count addr) [
            | inl (j, below, within, is) ↦ inl (suc j, omega (arith, below), omega (arith, within), is)
            | inr not ↦ inr (rest other not)
          ]
    ]
  where
    rest : word.addr ≢ addr → HasNot words count addr → HasNot (word ∷ words) (suc count) addr
    rest other not zero below within = other
    rest other not (suc j) below within = not j (omega (arith, below)) (omega (arith, within))

-- the state after a commit has its words
pub state_has : (memory : List ℕ) (history : List Commit) (k : ℕ) (commit : Commit) (j : ℕ) → slice_get history k ≡ Some commit
    → AreApart (words_left commit) → j < length (words_left commit) → (word_at (words_left commit) j).addr < length memory
    → slice_get (state_at memory history (suc k)) (word_at (words_left commit) j).addr ≡ Some (word_at (words_left commit) j).value
state_has memory [] k commit j there apart within inside = absurd cc
state_has memory (c ∷ history) zero commit j there apart within inside =
    let same : c ≡ commit = cc in
    ap (λ (d : Commit). slice_get (after_commit memory d) (word_at (words_left commit) j).addr) same
    ∙ ap (λ (m : List ℕ). slice_get m (word_at (words_left commit) j).addr)
    (sym (commit_leaves memory commit) ∙ ap (after memory) (sym (take_all (length (words_left commit)) (words_left commit) (omega arith))))
    ∙ after_at memory (words_left commit) (length (words_left commit)) j apart within within inside
state_has memory (c ∷ history) (suc k) commit j there apart within inside =
    state_has (after_commit memory c) history k commit j there apart within
    (omega (arith, inside, after_long (after memory c.writes) c.carry, after_long memory c.writes))

-- the word was stored by this entry, and by no later one
pub record IsLast (memory : List ℕ) (history : List Commit) (counts : List ℕ) (start addr : ℕ) : Type 0 where
  pub entry : ℕ
  pub count : ℕ
  pub commit : Commit
  pub index : ℕ
  pub later : start ≤ entry
  pub there : slice_get history entry ≡ Some commit
  pub stored : slice_get counts entry ≡ Some count
  pub below : index < count
  pub within : index < length (words_left commit)
  pub is : (word_at (words_left commit) index).addr ≡ addr
  pub found : slice_get (memory_with memory history counts) addr ≡ Some (word_at (words_left commit) index).value

one_later : (memory : List ℕ) (c : Commit) (history : List Commit) (n : ℕ) (counts : List ℕ) (start addr : ℕ)
    → (from : ℕ) → from ≤ suc start → IsLast (after memory (take n (words_left c))) history counts start addr
    → IsLast memory (c ∷ history) (n ∷ counts) from addr
one_later memory c history n counts start addr from within last =
    record {
      entry = suc last.entry;
      count = last.count;
      commit = last.commit;
      index = last.index;
      later = omega (arith, within, last.later);
      there = last.there;
      stored = last.stored;
      below = last.below;
      within = last.within;
      is = last.is;
      found = last.found;
    }

pub last_of : (memory : List ℕ) (history : List Commit) (counts : List ℕ) (start addr : ℕ) → length counts ≡ length history
    → start ≤ length history → addr < length memory
    → ((k : ℕ) (commit : Commit) → slice_get history k ≡ Some commit → AreApart (words_left commit))
    → ((k : ℕ) (commit : Commit) → k < start → slice_get history k ≡ Some commit → slice_get counts k ≡ Some (length (words_left commit)))
    → (slice_get (memory_with memory history counts) addr ≡ slice_get (state_at memory history start) addr) ⊎ IsLast memory history counts start addr
last_of memory [] counts zero addr sized upto inside once whole = inl refl
last_of memory [] counts (suc start) addr sized upto inside once whole = absurd (omega (arith, upto))
last_of memory (c ∷ history) [] start addr sized upto inside once whole = absurd (omega (arith, sized))
last_of memory (c ∷ history) (n ∷ counts) zero addr sized upto inside once whole =
    elim (last_of (after memory (take n (words_left c))) history counts 0 addr (omega (arith, sized)) (omega arith)
    (omega (arith, inside, after_long memory (take n (words_left c)))) (λ k d there. once (suc k) d there) (λ k d early. absurd (omega (arith, early)))) [
      | inl same ↦
          elim (sought (words_left c) n addr) [
            | inl (j, below, within, is) ↦ inr record {
              entry = 0;
              count = n;
              commit = c;
              index = j;
              later = omega arith;
              there = refl;
              stored = refl;
              below = below;
              within = within;
              is = is;
              found = same ∙ subst (λ a. slice_get (after memory (take n (words_left c))) a ≡ Some (word_at (words_left c) j).value) is
                  (after_at memory (words_left c) n j (once 0 c refl) below within (omega (arith, inside, is)));
            }
            | inr not ↦ inl (same ∙ after_other memory (words_left c) n addr not)
          ]
      | inr last ↦ inr (one_later memory c history n counts 0 addr 0 (omega arith) last)
    ]
last_of memory (c ∷ history) (n ∷ counts) (suc start) addr sized upto inside once whole =
    let all : n ≡ length (words_left c) = let all' = whole 0 c (omega arith) refl in cc in
    let same : after memory (take n (words_left c)) ≡ after_commit memory c = ap (after memory) (take_all n (words_left c) (omega (arith, all)))
    ∙ commit_leaves memory c in
    elim (last_of (after memory (take n (words_left c))) history counts start addr (omega (arith, sized)) (omega (arith, upto))
    (omega (arith, inside, after_long memory (take n (words_left c)))) (λ k d there. once (suc k) d there)
    (λ k d early there. whole (suc k) d (omega (arith, early)) there)) [
      | inl is ↦ inl (is ∙ ap (λ (m : List ℕ). slice_get (state_at m history start) addr) same)
      | inr last ↦ inr (one_later memory c history n counts start addr (suc start) (omega arith) last)
    ]

pub state_long : (memory : List ℕ) (history : List Commit) (k : ℕ) → length (state_at memory history k) ≡ length memory
state_long memory [] zero = refl
state_long memory [] (suc k) = refl
state_long memory (c ∷ history) zero = refl
state_long memory (c ∷ history) (suc k) = state_long (after_commit memory c) history k ∙ after_long (after memory c.writes) c.carry ∙ after_long memory c.writes
