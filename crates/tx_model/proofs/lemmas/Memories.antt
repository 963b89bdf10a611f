-- The memory after an attempt's writes and after its commit, and what its reads say of every memory that fits it.
use Rattle.std.proofs.Common.{◌≡◌, ℕ, ◌<◌, ◌++◌, Option, Some, None, List, [], ◌∷◌, length, set, slice_get, get_or, refl, sym, ◌∙◌, ap, subst, arith, inl, inr, Contains}
use Rattle.std.proofs.lemmas.Bool.{cases_eq}
use Rattle.std.proofs.lemmas.List.{length-set, get_or-set_same, get_or-set_other, ext_get_or, get_or_push, length_push}
use Rattle.std.proofs.lemmas.Option.{slice_get-get_or, get_or_from_slice_get}
use Rattle.tx_model.specs.declared.gate.Region.{Region}
use Rattle.tx_model.specs.declared.gate.TheConstants.{GATE_OPEN, GATE_PACKED}
use Rattle.tx_model.specs.declared.word.Word.{Word}
use Rattle.tx_model.specs.declared.view.Attempt.{Attempt}
use Rattle.tx_model.specs.declared.view.Owned.{Owned}
use Rattle.tx_model.specs.declared.view.PassView.{PassView}
use Rattle.tx_model.specs.Words.{no_word, value_of, put, HasAddress, AreApart}
use Rattle.tx_model.specs.Memory.{after, Agrees}
use Rattle.tx_model.specs.History.{after_commit}
use Rattle.tx_model.specs.Attempt.{first_of, gate_value, MayRead, reads_with, reads_after, carry_of, commit_of}
use Rattle.tx_model.specs.Calls.{Read}
use Rattle.tx_model.proofs.lemmas.States.{after_length}
use Rattle.tx_model.proofs.AfterWords.{after_word}
use Rattle.tx_model.proofs.PutLaws.{put_last, put_other, put_apart}
use Rattle.tx_model.proofs.lemmas.Values.{value_cases, no_value, value_stays, has_left}

-- ---- after a commit that published nothing
pub carry_none : (owned : List Owned) → carry_of owned [] ≡ []
carry_none [] = refl
carry_none (o ∷ owned) = carry_none owned

pub after_commit_none : (memory : List ℕ) (attempt : Attempt) (owned : List Owned) → attempt.published ≡ []
    → after_commit memory (commit_of attempt owned) ≡ after memory attempt.writes
after_commit_none memory attempt owned none =
    ap (λ published. after (after memory attempt.writes) (carry_of owned published)) none ∙ ap (after (after memory attempt.writes)) (carry_none owned)

-- ---- after one more write
pub after_push : (memory : List ℕ) (words : List Word) (word : Word) → after memory (words ++ word ∷ []) ≡ set (after memory words) word.addr word.value
after_push memory [] word = refl
after_push memory (first ∷ words) word = after_push (set memory first.addr first.value) words word

-- a word after writes, as a number
word_after : (memory : List ℕ) (words : List Word) (addr value : ℕ) → AreApart words → addr < length memory → value_of words addr ≡ Some value
    → get_or (after memory words) addr 0 ≡ value
word_after memory words addr value apart below is =
    get_or_from_slice_get (after memory words) addr value 0 (after_word memory words apart addr below
    ∙ ap (λ (o : Option ℕ). first_of o (slice_get memory addr)) is)

same_after : (memory : List ℕ) (words more : List Word) (addr : ℕ) → AreApart words → AreApart more → addr < length memory
    → value_of more addr ≡ value_of words addr
    → get_or (after memory more) addr 0 ≡ get_or (after memory words) addr 0
same_after memory words more addr apart apart' below same =
    let there = slice_get-get_or (after memory words) addr 0 (omega (arith, below, after_length memory words)) in
    get_or_from_slice_get (after memory more) addr (get_or (after memory words) addr 0) 0
    (after_word memory more apart' addr below ∙ ap (λ (o : Option ℕ). first_of o (slice_get memory addr)) same ∙ sym (after_word memory words apart addr below)
    ∙ there)

pub after_put : (memory : List ℕ) (words : List Word) (addr value : ℕ) → AreApart words
    → after memory (put words addr value) ≡ set (after memory words) addr value
after_put memory words addr value apart =
    ext_get_or 0 (after memory (put words addr value)) (set (after memory words) addr value)
    (after_length memory (put words addr value) ∙ sym (after_length memory words) ∙ sym (length-set (after memory words) addr value))
    (λ k below. each k (omega (arith, below, after_length memory (put words addr value))))
  where
    more : AreApart (put words addr value)
    more = put_apart words addr value apart

    each : (k : ℕ) → k < length memory → get_or (after memory (put words addr value)) k 0 ≡ get_or (set (after memory words) addr value) k 0
    each k below =
        elim (cases_eq k addr) [
          | inl same ↦
              word_after memory (put words addr value) k value more below
              (subst (λ a. value_of (put words addr value) a ≡ Some value) (sym same) (put_last words addr value))
              ∙ sym (subst (λ a. get_or (set (after memory words) addr value) a 0 ≡ value) (sym same)
              (get_or-set_same (after memory words) addr value 0 (omega (arith, same, below, after_length memory words))))
          | inr apart' ↦
              same_after memory words (put words addr value) k apart more below (put_other words addr value k apart')
              ∙ sym (get_or-set_other (after memory words) addr k value 0 apart')
        ]

-- ---- what was read
pub reads_unwritten : (attempt : Attempt) (addr value : ℕ) → attempt.writes ≡ []
    → reads_after attempt addr value ≡ attempt.reads ++ record { addr = addr; value = value } ∷ []
reads_unwritten attempt addr value none =
    ap (λ (written : Option ℕ). reads_with written attempt.reads addr value) (ap (λ writes. value_of writes addr) none ∙ no_value addr)

-- a read is the word of each memory that fits the attempt, with what the attempt wrote over it
pub value_read : {opening : List ℕ} {old new : PassView} {before now : Attempt} {addr value : ℕ} → Read opening old new before now addr value
    → AreApart before.writes
    → (memory : List ℕ) → addr < length memory → Agrees now.reads memory → slice_get (after memory before.writes) addr ≡ Some value
value_read {before = before} {now = now} {addr = addr} {value = value} read apart memory below agrees =
    after_word memory before.writes apart addr below ∙ go (value_of before.writes addr) refl
  where
    go : (o : Option ℕ) → value_of before.writes addr ≡ o → first_of (value_of before.writes addr) (slice_get memory addr) ≡ Some value
    go (Some last) is =
        ap (λ (o : Option ℕ). first_of o (slice_get memory addr)) is ∙ ap (λ (v : ℕ). Some v) (sym (read.written last is))
    go None is =
        let word : Word = record { addr = addr; value = value } in
        let agree : Agrees (before.reads ++ word ∷ []) memory =
        subst (λ reads. Agrees reads memory) (read.reads ∙ ap (λ (o : Option ℕ). reads_with o before.reads addr value) is) agrees in
        ap (λ (o : Option ℕ). first_of o (slice_get memory addr)) is
        ∙ subst (λ (w : Word). slice_get memory w.addr ≡ Some w.value) (get_or_push before.reads word no_word (length before.reads) refl)
        (agree (length before.reads) no_word (omega (arith, length_push before.reads word)))

-- ---- what may still be read after a further read
reads_grow : (o : Option ℕ) (reads : List Word) (addr value gate known : ℕ) → value_of reads gate ≡ Some known
    → value_of (reads_with o reads addr value) gate ≡ Some known
reads_grow None reads addr value gate known is = value_stays reads (record { addr = addr; value = value } ∷ []) gate known is
reads_grow (Some written) reads addr value gate known is = is

reads_have : (o : Option ℕ) (reads : List Word) (addr value gate : ℕ) → HasAddress reads gate → HasAddress (reads_with o reads addr value) gate
reads_have None reads addr value gate has = has_left reads (record { addr = addr; value = value } ∷ []) gate has
reads_have (Some written) reads addr value gate has = has

module _ {opening : List ℕ} {old new : PassView} {before now : Attempt} {addr value : ℕ} (read : Read opening old new before now addr value) where
  gate_stays : (gate known : ℕ) → gate_value before gate ≡ Some known → gate_value now gate ≡ Some known
  gate_stays gate known is =
      elim (value_cases before.writes gate) [
        | inl (written, e) ↦
            ap (λ writes. first_of (value_of writes gate) (value_of now.reads gate)) read.writes
            ∙ ap (λ (o : Option ℕ). first_of o (value_of now.reads gate)) e
            ∙ sym (ap (λ (o : Option ℕ). first_of o (value_of before.reads gate)) e)
            ∙ is
        | inr none ↦
            ap (λ writes. first_of (value_of writes gate) (value_of now.reads gate)) read.writes
            ∙ ap (λ (o : Option ℕ). first_of o (value_of now.reads gate)) none
            ∙ ap (λ reads. value_of reads gate) read.reads
            ∙ reads_grow (value_of before.writes addr) before.reads addr value gate known
            (sym (ap (λ (o : Option ℕ). first_of o (value_of before.reads gate)) none) ∙ is)
      ]

  pub may_read_still : (regions : List Region) (other : ℕ) → MayRead regions before other → MayRead regions now other
  may_read_still regions other may =
      record {
        gate_read = λ region there inside. subst (λ reads. HasAddress reads region.gate) (sym read.reads)
            (reads_have (value_of before.writes addr) before.reads addr value region.gate (may.gate_read region there inside));
        readable = λ region there inside. elim (may.readable region there inside) [
          | inl is ↦ inl (gate_stays region.gate GATE_OPEN is)
          | inr is ↦ inr (gate_stays region.gate GATE_PACKED is)
        ];
        not_published = λ region there inside published. may.not_published region there inside (subst (λ list. Contains list region) read.published published);
      }
