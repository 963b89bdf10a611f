-- The memory that entries leave which have stored some of their words.
use Rattle.std.proofs.Common.{◌≡◌, ◌≢◌, ℕ, zero, suc, ◌+◌, ◌<◌, ◌++◌, List, [], ◌∷◌, Some, length, take, set, slice_get, refl, sym, ◌∙◌, ap, subst, arith}
use Rattle.std.proofs.lemmas.List.{set_comm}
use Rattle.std.proofs.Math.Seq.{take-suc}
use Rattle.tx_model.specs.declared.history.Commit.{Commit}
use Rattle.tx_model.specs.declared.word.Word.{Word}
use Rattle.tx_model.specs.Words.{no_word, word_at}
use Rattle.tx_model.specs.Memory.{after}
use Rattle.ring_worlds.specs.Stored.{words_left, memory_with}

-- none of the first words has this address
abbrev pub HasNot : List Word → ℕ → ℕ → Type 0
HasNot words count addr = (j : ℕ) → j < count → j < length words → (word_at words j).addr ≢ addr

-- a store to an address that none of the words has may come first
pub store_first : (memory : List ℕ) (words : List Word) (count addr value : ℕ) → HasNot words count addr
    → after (set memory addr value) (take count words) ≡ set (after memory (take count words)) addr value
store_first memory [] zero addr value not = refl
store_first memory [] (suc count) addr value not = refl
store_first memory (word ∷ words) zero addr value not = refl
store_first memory (word ∷ words) (suc count) addr value not =
    ap (λ (m : List ℕ). after m (take count words)) (set_comm memory addr word.addr value word.value (λ e. not 0 (omega arith) (omega arith) (sym e)))
    ∙ store_first (set memory word.addr word.value) words count addr value (λ j below within. not (suc j) (omega (arith, below)) (omega (arith, within)))

-- no entry has stored a word of this address
abbrev pub NoneHas : List Commit → List ℕ → ℕ → Type 0
NoneHas history counts addr =
    (k count : ℕ) (commit : Commit) → slice_get history k ≡ Some commit → slice_get counts k ≡ Some count → HasNot (words_left commit) count addr

none_after : (commit : Commit) (history : List Commit) (count : ℕ) (counts : List ℕ) (addr : ℕ) → NoneHas (commit ∷ history) (count ∷ counts) addr
    → NoneHas history counts addr
none_after commit history count counts addr none k n c there stored = none (suc k) n c there stored

pub store_before : (memory : List ℕ) (history : List Commit) (counts : List ℕ) (addr value : ℕ) → NoneHas history counts addr
    → memory_with (set memory addr value) history counts ≡ set (memory_with memory history counts) addr value
store_before memory [] counts addr value none = refl
store_before memory (commit ∷ history) [] addr value none = refl
store_before memory (commit ∷ history) (count ∷ counts) addr value none =
    ap (λ (m : List ℕ). memory_with m history counts) (store_first memory (words_left commit) count addr value (none 0 count commit refl refl))
    ∙ store_before (after memory (take count (words_left commit))) history counts addr value (none_after commit history count counts addr none)

after_append : (memory : List ℕ) (words : List Word) (word : Word) → after memory (words ++ word ∷ []) ≡ set (after memory words) word.addr word.value
after_append memory [] word = refl
after_append memory (first ∷ words) word = after_append (set memory first.addr first.value) words word

-- one entry stores its next word, which no later one has stored
pub store_next : (memory : List ℕ) (history : List Commit) (counts : List ℕ) (at count : ℕ) (commit : Commit) → slice_get history at ≡ Some commit
    → slice_get counts at ≡ Some count → count < length (words_left commit)
    → ((k n : ℕ) (c : Commit) → at < k → slice_get history k ≡ Some c → slice_get counts k ≡ Some n
    → HasNot (words_left c) n (word_at (words_left commit) count).addr)
    → memory_with memory history (set counts at (count + 1)) ≡ set (memory_with memory history counts) (word_at (words_left commit) count).addr
    (word_at (words_left commit) count).value
store_next memory [] counts at count commit there stored below later = absurd cc
store_next memory (c ∷ history) [] at count commit there stored below later = absurd cc
store_next memory (c ∷ history) (n ∷ counts) zero count commit there stored below later =
    let word : Word = word_at (words_left commit) count in
    let next : count + 1 ≡ suc count = omega arith in
    let one : take (count + 1) (words_left commit) ≡ take count (words_left commit) ++ word ∷ [] = ap (λ k. take k (words_left commit)) next
    ∙ take-suc (words_left commit) count no_word below in
    let same : c ≡ commit = cc in
    let many : n ≡ count = cc in
    subst (λ (d : Commit). memory_with (after memory (take (count + 1) (words_left d))) history counts ≡ set
    (memory_with (after memory (take n (words_left d))) history counts) word.addr word.value) (sym same)
    (subst (λ m. memory_with (after memory (take (count + 1) (words_left commit))) history counts ≡ set
    (memory_with (after memory (take m (words_left commit))) history counts) word.addr word.value) (sym many)
    (ap (λ (ws : List Word). memory_with (after memory ws) history counts) one
    ∙ ap (λ (m : List ℕ). memory_with m history counts) (after_append memory (take count (words_left commit)) word)
    ∙ store_before (after memory (take count (words_left commit))) history counts word.addr word.value
    (λ k m d there' stored'. later (suc k) m d (omega arith) there' stored')))
store_next memory (c ∷ history) (n ∷ counts) (suc at) count commit there stored below later =
    store_next (after memory (take n (words_left c))) history counts at count commit there stored below
    (λ k m d after' there' stored'. later (suc k) m d (omega (arith, after')) there' stored')
