-- Reads of the words of an open segment.
use Rattle.std.proofs.Common.{◌≡◌, ◌≢◌, ℕ, ◌+◌, ◌<◌, false, List, ◌∷◌, eqb, get_or, sym, ◌∙◌, ap, subst, arith, inl, inr}
use Rattle.std.specs.Prelude.{Contains, MatchBool, Result, Ok, Err, OnErr, IfErr}
use Rattle.std.proofs.lemmas.Bool.{cases_eq, eq-eqb, ne_eqb}
use Rattle.mail_words.specs.Key.{KeyNumbers, numbers}
use Rattle.tx_model.specs.declared.pass.PassState.TheVariants.{Active}
use Rattle.tx_model.specs.declared.pass.Stop.{Stop}
use Rattle.tx_model.specs.declared.gate.Region.{Region}
use Rattle.tx_model.specs.declared.history.Commit.{Commit}
use Rattle.tx_model.specs.declared.view.Attempt.{Attempt}
use Rattle.tx_model.specs.declared.view.PassView.{PassView}
use Rattle.tx_model.specs.Memory.{after}
use Rattle.tx_model.specs.Made.{Made, IsMade}
use Rattle.tx_model.specs.Pass.{IsPass}
use Rattle.tx_model.specs.Attempt.{MayRead}
use Rattle.tx_model.specs.Calls.{Read, Ended, IsStopped}
use Rattle.tx_model.specs.Words.{addresses}
use Rattle.tx_heap.specs.Layout.{Sizes, base_at, gate_at, region_of, regions_of}
use Rattle.tx_heap.specs.Segment.{key_at}
use Rattle.tx_heap.specs.Heap.{gate_of, segment_of}
use Rattle.tx_heap.specs.Mail.{AllowsRegions, IsGoodMail, mail_budget, mail_heap}
use Rattle.tx_model.specs.Calls.{OnlyReads}
use Rattle.tx_heap.specs.Calls.{made_sizes, HoldsOverIndex}
use Rattle.tx_heap.proofs.lemmas.Stops.{stopped_reading}
use Rattle.tx_heap.proofs.lemmas.Addresses.{may_read_open}
use Rattle.tx_model.proofs.lemmas.Attempts.{read_only, only_reads_then, has_after_reads, gate_value_stays, value_over, writes_apart}
use Rattle.tx_heap.proofs.lemmas.Reads.{holds_after_reads, value_read_over}
use Rattle.tx_model.proofs.lemmas.Values.{value_agrees}
use Rattle.tx_heap.proofs.lemmas.HeapWords.{gate_word, segment_word}
use Rattle.tx_buckets.specs.Reading.{IsOpened, ReadWord, ReadKey}

pub opened_after : {sizes : Sizes} {old new : PassView} {before now : Attempt} {segment : ℕ} → OnlyReads old new before now → IsOpened sizes before segment
    → IsOpened sizes now segment
opened_after {sizes = sizes} {segment = segment} only opened = record {
  within = opened.within;
  gate_read = has_after_reads only (gate_at sizes segment) opened.gate_read;
  is_open = gate_value_stays only (gate_at sizes segment) 1 opened.is_open;
  not_published = λ published. opened.not_published (subst (λ (regions : List Region). Contains regions (region_of sizes segment)) only.published published);
}

-- a word of an open segment may be read
pub may_read_word : {made : Made (List (List KeyNumbers))} {attempt : Attempt} {segment : ℕ} (offset addr : ℕ) → IsMade AllowsRegions IsGoodMail made
    → IsOpened (made_sizes made) attempt segment → offset < 32768
    → addr ≡ base_at (made_sizes made) segment + offset → MayRead made.regions attempt addr
may_read_word {made} {attempt} {segment} offset addr is_made opened inside at =
    subst (λ (regions : List Region). MayRead regions attempt addr) (sym is_made.allowed)
    (subst (MayRead (regions_of (made_sizes made)) attempt) (sym at)
    (may_read_open (made_sizes made) attempt segment offset inside opened.gate_read opened.is_open opened.not_published))

pub read_word : {made : Made (List (List KeyNumbers))} {old new : PassView} {before now : Attempt} {segment : ℕ} (offset addr : ℕ) {value : ℕ}
    → IsPass IsGoodMail mail_budget made old before → old.state ≡ Active
    → IsOpened (made_sizes made) before segment → offset < 32768 → addr ≡ base_at (made_sizes made) segment + offset
    → Read made.opening old new before now addr value
    → ReadWord made old new before now segment offset value
read_word {made} {old} {new} {before} {now} {segment} offset addr knows active opened inside at read = record {
  only = read_only read;
  opened = opened_after (read_only read) opened;
  word = λ memory good fits.
      segment_word (made_sizes made) (after memory now.writes) segment offset opened.within inside
      ∙ ap (λ a. get_or (after memory now.writes) a 0) (sym at)
      ∙ value_read_over read (writes_apart knows active) memory (omega (arith, at, inside, opened.within, good.size)) fits;
}

-- an open segment is open in every memory that fits, with the writes over it
pub open_over : {made : Made (List (List KeyNumbers))} {view : PassView} {attempt : Attempt} {segment : ℕ} → IsPass IsGoodMail mail_budget made view attempt
    → view.state ≡ Active → IsOpened (made_sizes made) attempt segment
    → HoldsOverIndex made attempt (λ heap. gate_of heap segment ≡ 1)
open_over {made} {view} {attempt} {segment} knows active opened memory good fits =
    let words = after memory attempt.writes in
    let gate = gate_at (made_sizes made) segment in
    gate_word (made_sizes made) words segment opened.within
    ∙ value_over memory attempt gate 1 (writes_apart knows active) (omega (arith, opened.within, good.size)) opened.is_open
    (value_agrees attempt.reads memory gate 1 fits.reads)

-- the read was stopped
pub word_stopped : {made : Made (List (List KeyNumbers))} {old : PassView} {before : Attempt} (shows : List Commit → ℕ → List ℕ → Stop → Type 0)
    (new : PassView) (asked : ℕ) → IsPass IsGoodMail mail_budget made old before → old.state ≡ Active → (answer : Result ℕ Stop)
    → OnErr answer (Ended old new before)
    → IfErr answer (λ stop. shows new.history before.start (asked ∷ addresses before.reads) stop)
    → IfErr answer (IsStopped shows made.opening old new before)
word_stopped shows new asked knows active (Ok value) ended shown = tt
word_stopped shows new asked knows active (Err stop) ended shown = stopped_reading asked knows active ended shown

-- ---- the key of a record
-- a number that differs tells keys apart
pub other_key : {made : Made (List (List KeyNumbers))} {old mid new : PassView} {before between now : Attempt} {segment offset value : ℕ} (at : ℕ)
    (key : KeyNumbers) (number : KeyNumbers → ℕ)
    → ((words : List ℕ) → number (key_at words at) ≡ get_or words offset 0) → OnlyReads old mid before between
    → ReadWord made mid new between now segment offset value → value ≢ number key
    → ReadKey made old new before now segment at key false
other_key at key number is only read differs = record {
  only = only_reads_then only read.only;
  opened = read.opened;
  compared = λ memory good fits same. differs (sym (read.word memory good fits) ∙ sym (is _) ∙ ap number same);
}

same_numbers : (key : KeyNumbers) (a b c d : ℕ) → a ≡ key.k0 → b ≡ key.k1 → c ≡ key.k2 → d ≡ key.k3 → numbers a b c d ≡ key
same_numbers key a b c d p q r s =
    ap (λ n. numbers n b c d) p ∙ ap (λ n. numbers key.k0 n c d) q ∙ ap (λ n. numbers key.k0 key.k1 n d) r ∙ ap (numbers key.k0 key.k1 key.k2) s

-- four numbers are a key
module _ {made : Made (List (List KeyNumbers))} {v0 v1 v2 v3 v4 : PassView} {a0 a1 a2 a3 a4 : Attempt} {segment first second third fourth : ℕ} (at : ℕ)
    (key : KeyNumbers)
    (one : ReadWord made v0 v1 a0 a1 segment at first) (two : ReadWord made v1 v2 a1 a2 segment (at + 1) second)
    (three : ReadWord made v2 v3 a2 a3 segment (at + 2) third) (four : ReadWord made v3 v4 a3 a4 segment (at + 3) fourth)
    (is_first : first ≡ key.k0) (is_second : second ≡ key.k1) (is_third : third ≡ key.k2) where
  words_stay : {mid new : PassView} {between now : Attempt} (offset value : ℕ) → OnlyReads mid new between now
      → HoldsOverIndex made between (λ heap. get_or (segment_of heap segment) offset 0 ≡ value)
      → HoldsOverIndex made now (λ heap. get_or (segment_of heap segment) offset 0 ≡ value)
  words_stay offset value only = holds_after_reads only (IsGoodMail made.sense made.opening)
      (λ memory. get_or (segment_of (mail_heap made.sense memory) segment) offset 0 ≡ value)

  pub whole_key : ReadKey made v0 v4 a0 a4 segment at key (eqb fourth key.k3)
  whole_key = record {
    only = only_reads_then (only_reads_then (only_reads_then one.only two.only) three.only) four.only;
    opened = four.opened;
    compared =
        elim (cases_eq fourth key.k3) [
          | inl same ↦
              subst (λ b. HoldsOverIndex made a4 (λ heap. MatchBool b (key_at (segment_of heap segment) at ≡ key)
              (key_at (segment_of heap segment) at ≢ key))) (sym (eq-eqb fourth key.k3 same))
              (λ memory good fits.
              same_numbers key _ _ _ _
              (words_stay at first (only_reads_then (only_reads_then two.only three.only) four.only) one.word memory good fits ∙ is_first)
              (words_stay (at + 1) second (only_reads_then three.only four.only) two.word memory good fits ∙ is_second)
              (words_stay (at + 2) third four.only three.word memory good fits ∙ is_third)
              (four.word memory good fits ∙ same))
          | inr other ↦
              subst (λ b. HoldsOverIndex made a4 (λ heap. MatchBool b (key_at (segment_of heap segment) at ≡ key)
              (key_at (segment_of heap segment) at ≢ key))) (sym (ne_eqb fourth key.k3 other))
              (λ memory good fits is. other (sym (four.word memory good fits) ∙ ap (λ (k : KeyNumbers). k.k3) is))
        ];
  }
