-- An attempt on the opening of three messages.
use Rattle.std.proofs.Common.{◌≡◌, ℕ, Some, slice_get, zero, suc, ◌+◌, ◌<◌, List, [], ◌∷◌, refl, ◌∙◌, ap, subst, arith}
use Rattle.std.specs.Prelude.{Contains}
use Rattle.std.proofs.lemmas.List.Elements.{All-from_recursion}
use Rattle.std.proofs.lemmas.Option.{get_or_from_slice_get}
use Rattle.mail_words.specs.Key.{KeyNumbers}
use Rattle.mail_words.specs.Hash as hash
use Rattle.tx_model.specs.declared.word.Word.{Word}
use Rattle.tx_model.specs.Attempt.{Fits}
use Rattle.tx_model.specs.Words.{index_of, no_word, HasAddress}
use Rattle.tx_model.specs.Calls.{IsLater}
use Rattle.tx_heap.specs.Layout.{mail_layout, sizes_of}
use Rattle.tx_heap.specs.Segment.{KeyRecord, records_of}
use Rattle.tx_heap.specs.Heap.{segment_of}
use Rattle.tx_heap.specs.Mail.{IsGoodMail, mail_heap}
use Rattle.tx_heap.specs.Opening.{opening_of}
use Rattle.tx_heap.specs.OpeningLaw.{opening_parts}
use Rattle.tx_heap.specs.Examples.{three_lists, a, the_pass, having}
use Rattle.tx_model.specs.Calls.{OnlyReads}
use Rattle.tx_heap.proofs.lemmas.HeapWords.{gate_word, segment_word, segments_many}
use Rattle.tx_heap.proofs.lemmas.Blank.{blank_records}
use Rattle.tx_heap.proofs.lemmas.Opening.{opening_good}
use Rattle.tx_heap.proofs.lemmas.Lanes.{contains_none}
use Rattle.tx_buckets.specs.Examples.{gate_read}
use Rattle.tx_buckets.specs.Reading.{IsOpened}
use Rattle.tx_buckets.specs.Writing.{word, with_words, WritesMore}
use Rattle.tx_model.specs.declared.view.Attempt.{Attempt}
use Rattle.tx_buckets.proofs.FindSteps.{in_form}
use Rattle.tx_buckets.proofs.Search.{IsSearch, search_start, search_ended}
use Rattle.tx_buckets.proofs.ReadSteps.{opened_after}
use Rattle.tx_buckets.proofs.lemmas.Writes.{words_stay, opened_with_words}
use Rattle.tx_buckets.proofs.laws.attempt_examples.Goals as goal

later : IsLater the_pass the_pass
later = record { history = ([], refl); front = omega arith; mine = refl; owned = refl; share = refl }

gate_5 : IsOpened (sizes_of three_lists) gate_read 5
unfolding index_of
gate_5 = record {
  within = omega arith;
  gate_read = (0, word 24 1, omega arith, refl, refl);
  is_open = refl;
  not_published = λ among. contains_none _ among;
}

only_24 : HasAddress (word 24 1 ∷ []) 25 → ⊥
only_24 (zero, w, below, at, is) = omega (arith, is, ap (λ (v : Word). v.addr) at)
only_24 (suc k, w, below, at, is) = omega (arith, below)

pub returns-clause-opened : goal.returns-clause-opened
returns-clause-opened c = (gate_5, λ opened. only_24 opened.gate_read)

word_read : OnlyReads the_pass the_pass gate_read (having (word 24 1 ∷ word 163875 1032 ∷ []) [])
word_read = record {
  goes_on = record { active = refl; later = later; start = omega arith };
  reads = (word 163875 1032 ∷ [], refl);
  writes = refl;
  sealed = refl;
  published = refl;
}

pub returns-clause-read_word : goal.returns-clause-read_word
returns-clause-read_word c = record {
  only = word_read;
  opened = opened_after word_read gate_5;
  word = λ memory good fits.
      segment_word (sizes_of three_lists) memory 5 0 (omega arith) (omega arith)
      ∙ get_or_from_slice_get memory 163875 1032 0 (fits.reads 1 no_word (omega arith));
}

written : with_words (sizes_of three_lists) 5 gate_read (word 0 7 ∷ word 2 8 ∷ []) ≡ having (word 24 1 ∷ []) (word 163875 7 ∷ word 163877 8 ∷ [])
unfolding index_of
written = refl

pub returns-clause-with_words : goal.returns-clause-with_words
returns-clause-with_words c = written

two_written : WritesMore (sizes_of three_lists) the_pass the_pass gate_read (having (word 24 1 ∷ []) (word 163875 7 ∷ word 163877 8 ∷ [])) 2
two_written = record {
  goes_on = record { active = refl; later = later; start = omega arith };
  reads = ([], refl);
  few = omega arith;
  sealed = refl;
  published = refl;
  opened = λ other is.
      subst (λ (attempt : Attempt). IsOpened (sizes_of three_lists) attempt other) written
      (opened_with_words other (words_stay (sizes_of three_lists) 5 gate_read (word 0 7 ∷ word 2 8 ∷ [])) is);
}

pub returns-clause-writes_more : goal.returns-clause-writes_more
returns-clause-writes_more c = (two_written, λ more. omega (arith, more.few))

-- ---- a key
read_one : (value : Word) → OnlyReads the_pass the_pass gate_read (having (word 24 1 ∷ value ∷ []) [])
read_one value = record {
  goes_on = record { active = refl; later = later; start = omega arith };
  reads = (value ∷ [], refl);
  writes = refl;
  sealed = refl;
  published = refl;
}

pub returns-clause-read_key : goal.returns-clause-read_key
returns-clause-read_key c = record {
  only = read_one (word 164907 0);
  opened = opened_after (read_one (word 164907 0)) gate_5;
  compared = λ memory good fits same.
      omega (
        arith,
        ap (λ (key : KeyNumbers). key.k0) same,
        segment_word (sizes_of three_lists) memory 5 1032 (omega arith) (omega arith),
        get_or_from_slice_get memory 164907 0 0 (fits.reads 1 no_word (omega arith)),
      );
}

-- ---- the opening
abbrev opening : List ℕ
opening = opening_of three_lists

good_opening : IsGoodMail three_lists opening opening
good_opening = opening_good three_lists

opening_fits : Fits opening gate_read []
opening_fits = record {
  reads = All-from_recursion (λ (w : Word). slice_get opening w.addr ≡ Some w.value) gate_read.reads (refl, tt);
  contents = λ o among. absurd (contains_none o among);
}

records_none : records_of mail_layout (segment_of (mail_heap three_lists opening) 5) ≡ []
records_none = ap (λ heap. records_of mail_layout (segment_of heap 5)) (opening_parts three_lists 8 (omega arith)) ∙ blank_records mail_layout 32768

no_records : {r : KeyRecord} → Contains (records_of mail_layout (segment_of (mail_heap three_lists opening) 5)) r → ⊥
no_records {r} among = contains_none r (subst (λ records. Contains records r) records_none among)

in_range : hash.bucket_of a < 1024
unfolding hash.mixed
in_range = omega arith

pub returns-clause-found_key : goal.returns-clause-found_key
returns-clause-found_key c = (
  record {
    only = read_one (word (163875 + (8 + hash.bucket_of a)) 0);
    opened = opened_after (read_one (word (163875 + (8 + hash.bucket_of a)) 0)) gate_5;
    found = λ memory good fits.
        let heap = mail_heap three_lists memory in
        let words = segment_of heap 5 in
        let gate = gate_word (sizes_of three_lists) memory 5 (omega arith) ∙ get_or_from_slice_get memory 24 1 0 (fits.reads 0 no_word (omega arith)) in
        let (lane, form) = in_form heap 5 good.index.grows.index (omega (arith, segments_many (sizes_of three_lists) memory)) gate in
        let head = segment_word (sizes_of three_lists) memory 5 (8 + hash.bucket_of a) (omega arith) (omega (arith, in_range))
        ∙ get_or_from_slice_get memory (163875 + (8 + hash.bucket_of a)) 0 0 (fits.reads 1 no_word (omega arith)) in
        search_ended mail_layout lane words form a in_range 0
        (subst (IsSearch words (hash.bucket_of a) a) head (search_start mail_layout lane words form a in_range)) refl;
  },
  λ found. no_records (found.found opening good_opening opening_fits).among,
)

no_more : (n : ℕ) → n ≡ n + 1 → ⊥
no_more n more = omega (arith, more)

pub returns-clause-not_inserted : goal.returns-clause-not_inserted
returns-clause-not_inserted c inserted = no_more _ (inserted.changed opening good_opening opening_fits).words.keys

pub returns-clause-no_cell : goal.returns-clause-no_cell
returns-clause-no_cell c added = no_more _ (added.changed opening good_opening opening_fits).words.cells
