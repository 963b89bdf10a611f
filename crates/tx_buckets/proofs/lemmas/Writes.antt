-- What writes of an open segment leave of an attempt, and of the index in every memory.
use Rattle.std.proofs.Common.{◌≡◌, ℕ, zero, suc, ◌+◌, ◌<◌, ◌≤◌, Option, List, [], ◌∷◌, ◌++◌, length, get_or, set, take, refl, sym, ◌∙◌, ap, subst, arith}
use Rattle.std.specs.Prelude.{Contains}
use Rattle.std.specs.List.{All}
use Rattle.std.proofs.lemmas.List.{take_more, get_or-set_same, set-get_or}
use Rattle.std.proofs.lemmas.List.Elements.{All-head, All-tail}
use Rattle.mail_words.specs.Key.{KeyNumbers}
use Rattle.tx_model.specs.declared.gate.Region.{Region}
use Rattle.tx_model.specs.declared.word.Word.{Word}
use Rattle.tx_model.specs.declared.view.Attempt.{Attempt}
use Rattle.tx_model.specs.Memory.{after}
use Rattle.tx_model.specs.Words.{value_of, HasAddress, AreApart}
use Rattle.tx_model.specs.Made.{Made, IsMade}
use Rattle.tx_model.specs.Attempt.{MayWrite, first_of}
use Rattle.tx_model.specs.Calls.{with_write}
use Rattle.tx_model.proofs.lemmas.Values.{put_apart, put_other}
use Rattle.tx_heap.specs.Layout.{Sizes, gate_at, base_at, region_of, regions_of, segment_len}
use Rattle.tx_heap.specs.Heap.{Heap, heap_of, segment_of}
use Rattle.tx_heap.specs.Mail.{AllowsRegions, IsGoodMail}
use Rattle.tx_heap.specs.Calls.{made_sizes}
use Rattle.tx_heap.proofs.lemmas.Addresses.{may_write_open}
use Rattle.tx_model.proofs.lemmas.Attempts.{put_few}
use Rattle.tx_model.proofs.lemmas.Memories.{after_put}
use Rattle.tx_heap.proofs.lemmas.HeapWords.{heap_with_word, segments_many}
use Rattle.tx_buckets.specs.Reading.{IsOpened}
use Rattle.tx_buckets.specs.Writing.{with_words}

-- ---- of the attempt
module _ (sizes : Sizes) (segment : ℕ) where
  -- what stays of it, and what the writes are
  pub record WithWords (before now : Attempt) : Type 0 where
    pub start : now.start ≡ before.start
    pub reads : now.reads ≡ before.reads
    pub sealed : now.sealed ≡ before.sealed
    pub published : now.published ≡ before.published
    pub gates : (addr : ℕ) → addr < base_at sizes 0 → value_of now.writes addr ≡ value_of before.writes addr
    pub apart : AreApart before.writes → AreApart now.writes

  pub words_stay : (attempt : Attempt) (words : List Word) → WithWords attempt (with_words sizes segment attempt words)
  words_stay attempt [] = record { start = refl; reads = refl; sealed = refl; published = refl; gates = λ addr below. refl; apart = λ apart. apart }
  words_stay attempt (word ∷ words) =
      let addr = base_at sizes segment + word.addr in
      let rest = words_stay (with_write attempt addr word.value) words in
      record {
        start = rest.start;
        reads = rest.reads;
        sealed = rest.sealed;
        published = rest.published;
        gates = λ gate below. rest.gates gate below ∙ put_other attempt.writes addr word.value gate (λ e. omega (arith, e, below));
        apart = λ apart. rest.apart (put_apart attempt.writes addr word.value apart);
      }

  -- one address at most for each word
  pub words_few : (attempt : Attempt) (words : List Word) → length (with_words sizes segment attempt words).writes ≤ length attempt.writes + length words
  words_few attempt [] = omega arith
  words_few attempt (word ∷ words) =
      let addr = base_at sizes segment + word.addr in
      let rest = words_few (with_write attempt addr word.value) words in
      omega (arith, rest, put_few attempt.writes addr word.value)

  words_push : (attempt : Attempt) (words : List Word) (word : Word)
      → with_words sizes segment attempt (words ++ word ∷ [])
      ≡ with_write (with_words sizes segment attempt words) (base_at sizes segment + word.addr) word.value
  words_push attempt [] word = refl
  words_push attempt (first ∷ words) word = words_push (with_write attempt (base_at sizes segment + first.addr) first.value) words word

  pub words_more : (attempt : Attempt) (words : List Word) (i : ℕ) (d : Word) → i < length words
      → with_words sizes segment attempt (take (i + 1) words)
      ≡ with_write (with_words sizes segment attempt (take i words)) (base_at sizes segment + (get_or words i d).addr) (get_or words i d).value
  words_more attempt words i d below =
      ap (with_words sizes segment attempt) (take_more words i d below) ∙ words_push attempt (take i words) (get_or words i d)

-- every open segment stays open
pub opened_with_words : {sizes : Sizes} {segment : ℕ} {before now : Attempt} (other : ℕ) → WithWords sizes segment before now → IsOpened sizes before other
    → IsOpened sizes now other
opened_with_words {sizes} {segment} {before} {now} other stay opened = record {
  within = opened.within;
  gate_read = subst (λ reads. HasAddress reads (gate_at sizes other)) (sym stay.reads) opened.gate_read;
  is_open =
      ap (λ reads. first_of (value_of now.writes (gate_at sizes other)) (value_of reads (gate_at sizes other))) stay.reads
      ∙ ap (λ (written : Option ℕ). first_of written (value_of before.reads (gate_at sizes other)))
      (stay.gates (gate_at sizes other) (omega (arith, opened.within)))
      ∙ opened.is_open;
  not_published = λ among. opened.not_published (subst (λ (regions : List Region). Contains regions (region_of sizes other)) stay.published among);
}

-- a word of an open segment may be written
pub may_write_word : {made : Made (List (List KeyNumbers))} {attempt : Attempt} {segment : ℕ} (offset addr value : ℕ) → IsMade AllowsRegions IsGoodMail made
    → IsOpened (made_sizes made) attempt segment → offset < segment_len
    → addr ≡ base_at (made_sizes made) segment + offset → MayWrite made.regions attempt addr value
may_write_word {made} {attempt} {segment} offset addr value is_made opened inside at =
    subst (λ (regions : List Region). MayWrite regions attempt addr value) (sym is_made.allowed)
    (subst (λ a. MayWrite (regions_of (made_sizes made)) attempt a value) (sym at)
    (may_write_open (made_sizes made) attempt segment offset value opened.within inside opened.gate_read opened.is_open))

-- ---- of the index
-- the heap with these words in the segment
abbrev pub in_segment : Heap → ℕ → List ℕ → Heap
in_segment heap segment words =
    record { pool = heap.pool; lanes = heap.lanes; needs = heap.needs; gates = heap.gates; links = heap.links; segments = set heap.segments segment words }

pub set_twice : {X : Type 0} (xs : List X) (i : ℕ) (a b : X) → set (set xs i a) i b ≡ set xs i b
set_twice [] i a b = refl
set_twice (x ∷ xs) zero a b = refl
set_twice (x ∷ xs) (suc i) a b = ap (λ rest. x ∷ rest) (set_twice xs i a b)

-- the writes change the words of the segment alone
pub words_over : (sizes : Sizes) (segment : ℕ) (attempt : Attempt) (words : List Word) (memory : List ℕ) → segment < sizes.segments → AreApart attempt.writes
    → All (λ (word : Word). word.addr < segment_len) words
    → heap_of sizes (after memory (with_words sizes segment attempt words).writes)
    ≡ in_segment (heap_of sizes (after memory attempt.writes)) segment (after (segment_of (heap_of sizes (after memory attempt.writes)) segment) words)
words_over sizes segment attempt [] memory below apart inside =
    let heap = heap_of sizes (after memory attempt.writes) in
    ap (λ (segments : List (List ℕ)). record heap { segments = segments }) (sym (set-get_or heap.segments segment []))
words_over sizes segment attempt (word ∷ words) memory below apart inside =
    let addr = base_at sizes segment + word.addr in
    let before = after memory attempt.writes in
    let heap = heap_of sizes before in
    let then = with_write attempt addr word.value in
    let new = set (segment_of heap segment) word.addr word.value in
    let first = All-head (λ (w : Word). w.addr < segment_len) word words inside in
    let next : heap_of sizes (after memory then.writes) ≡ in_segment heap segment new =
    ap (heap_of sizes) (after_put memory attempt.writes addr word.value apart)
    ∙ heap_with_word sizes before addr word.value segment word.addr refl below first in
    let many = segments_many sizes before in
    let there : segment_of (in_segment heap segment new) segment ≡ new = get_or-set_same heap.segments segment new [] (omega (arith, below, many)) in
    words_over sizes segment then words memory below (put_apart attempt.writes addr word.value apart)
    (All-tail (λ (w : Word). w.addr < segment_len) word words inside)
    ∙ ap (λ h. in_segment h segment (after (segment_of h segment) words)) next
    ∙ ap (λ (ws : List ℕ). in_segment (in_segment heap segment new) segment (after ws words)) there
    ∙ ap (λ (segments : List (List ℕ)). record heap { segments = segments }) (set_twice heap.segments segment new (after new words))
