-- Single words of the memory that entries leave.
use Rattle.std.proofs.Common.{◌≡◌, ◌≢◌, ℕ, zero, suc, ◌<◌, ◌≤◌, List, [], ◌∷◌, Some, length, take, set, slice_get, refl, ◌∙◌, subst, arith}
use Rattle.tx_model.specs.declared.history.Commit.{Commit}
use Rattle.tx_model.specs.declared.word.Word.{Word}
use Rattle.tx_model.specs.Words.{word_at, AreApart}
use Rattle.tx_model.specs.Memory.{after}
use Rattle.ring_worlds.specs.Stored.{words_left, memory_with}
use Rattle.ring_worlds.proofs.memory.Stored.{HasNot, NoneHas}
use Rattle.ring_worlds.proofs.memory.LastStored.{after_long, after_other, after_at}
use Rattle.ring_worlds.proofs.lemmas.Lists.{put_agrees}

-- memories that agree at a word agree there after the same stores
pub after_agrees : (words : List Word) (one other : List ℕ) (addr : ℕ) → slice_get one addr ≡ slice_get other addr
    → slice_get (after one words) addr ≡ slice_get (after other words) addr
after_agrees [] one other addr e = e
after_agrees (word ∷ words) one other addr e = after_agrees words (set one word.addr word.value) (set other word.addr word.value) addr
    (put_agrees one other word.addr addr word.value e)

pub with_agrees : (history : List Commit) (counts : List ℕ) (one other : List ℕ) (addr : ℕ) → slice_get one addr ≡ slice_get other addr
    → slice_get (memory_with one history counts) addr ≡ slice_get (memory_with other history counts) addr
with_agrees [] counts one other addr e = e
with_agrees (c ∷ history) [] one other addr e = e
with_agrees (c ∷ history) (n ∷ counts) one other addr e =
    with_agrees history counts (after one (take n (words_left c))) (after other (take n (words_left c))) addr
    (after_agrees (take n (words_left c)) one other addr e)

-- more words of an entry, none of which has this address
after_more : (memory : List ℕ) (words : List Word) (n more addr : ℕ) → n ≤ more
    → ((j : ℕ) → n ≤ j → j < length words → (word_at words j).addr ≢ addr)
    → slice_get (after memory (take more words)) addr ≡ slice_get (after memory (take n words)) addr
after_more memory [] zero zero addr le not = refl
after_more memory [] zero (suc more) addr le not = refl
after_more memory [] (suc n) zero addr le not = refl
after_more memory [] (suc n) (suc more) addr le not = refl
after_more memory (word ∷ words) zero more addr le not = after_other memory (word ∷ words) more addr (λ j below within. not j (omega arith) within)
after_more memory (word ∷ words) (suc n) zero addr le not = absurd (omega (arith, le))
after_more memory (word ∷ words) (suc n) (suc more) addr le not =
    after_more (set memory word.addr word.value) words n more addr (omega (arith, le))
    (λ j from within. not (suc j) (omega (arith, from)) (omega (arith, within)))

pub count_more : (memory : List ℕ) (history : List Commit) (counts : List ℕ) (at n more : ℕ) (commit : Commit) (addr : ℕ)
    → slice_get history at ≡ Some commit → slice_get counts at ≡ Some n → n ≤ more
    → ((j : ℕ) → n ≤ j → j < length (words_left commit) → (word_at (words_left commit) j).addr ≢ addr)
    → slice_get (memory_with memory history (set counts at more)) addr ≡ slice_get (memory_with memory history counts) addr
count_more memory [] counts at n more commit addr there stored le not = absurd cc
count_more memory (c ∷ history) [] at n more commit addr there stored le not = absurd cc
count_more memory (c ∷ history) (m ∷ counts) zero n more commit addr there stored le not =
    let same : commit ≡ c = cc in
    let many : n ≡ m = cc in
    with_agrees history counts (after memory (take more (words_left c))) (after memory (take m (words_left c))) addr
    (subst (λ k. slice_get (after memory (take more (words_left c))) addr ≡ slice_get (after memory (take k (words_left c))) addr) many
    (after_more memory (words_left c) n more addr le (subst
    (λ (d : Commit). (j : ℕ) → n ≤ j → j < length (words_left d) → (word_at (words_left d) j).addr ≢ addr) same not)))
count_more memory (c ∷ history) (m ∷ counts) (suc at) n more commit addr there stored le not =
    count_more (after memory (take m (words_left c))) history counts at n more commit addr there stored le not

-- no entry has stored the word
pub with_other : (memory : List ℕ) (history : List Commit) (counts : List ℕ) (addr : ℕ) → NoneHas history counts addr
    → slice_get (memory_with memory history counts) addr ≡ slice_get memory addr
with_other memory [] counts addr none = refl
with_other memory (c ∷ history) [] addr none = refl
with_other memory (c ∷ history) (n ∷ counts) addr none =
    with_other (after memory (take n (words_left c))) history counts addr (λ k m d there stored. none (suc k) m d there stored)
    ∙ after_other memory (words_left c) n addr (none 0 n c refl refl)

-- this entry has stored it, and no later one
pub with_at : (memory : List ℕ) (history : List Commit) (counts : List ℕ) (at n j : ℕ) (commit : Commit) → slice_get history at ≡ Some commit
    → slice_get counts at ≡ Some n → AreApart (words_left commit) → j < n → j < length (words_left commit)
    → (word_at (words_left commit) j).addr < length memory
    → ((k m : ℕ) (c : Commit) → at < k → slice_get history k ≡ Some c → slice_get counts k ≡ Some m
    → HasNot (words_left c) m (word_at (words_left commit) j).addr)
    → slice_get (memory_with memory history counts) (word_at (words_left commit) j).addr ≡ Some (word_at (words_left commit) j).value
with_at memory [] counts at n j commit there stored apart below within inside later = absurd cc
with_at memory (c ∷ history) [] at n j commit there stored apart below within inside later = absurd cc
with_at memory (c ∷ history) (m ∷ counts) zero n j commit there stored apart below within inside later =
    let same : commit ≡ c = cc in
    let many : n ≡ m = cc in
    with_other (after memory (take m (words_left c))) history counts (word_at (words_left commit) j).addr
    (λ k i d there' stored'. later (suc k) i d (omega arith) there' stored')
    ∙ subst (λ (d : Commit). slice_get (after memory (take m (words_left d))) (word_at (words_left commit) j).addr ≡ Some
    (word_at (words_left commit) j).value) same
    (subst (λ k. slice_get (after memory (take k (words_left commit))) (word_at (words_left commit) j).addr ≡ Some (word_at (words_left commit) j).value) many
    (after_at memory (words_left commit) n j apart below within inside))
with_at memory (c ∷ history) (m ∷ counts) (suc at) n j commit there stored apart below within inside later =
    with_at (after memory (take m (words_left c))) history counts at n j commit there stored apart below within
    (omega (arith, inside, after_long memory (take m (words_left c))))
    (λ k i d after' there' stored'. later (suc k) i d (omega (arith, after')) there' stored')
