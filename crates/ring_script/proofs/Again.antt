-- A script that is printed says the same again.
use Rattle.std.proofs.Common.{◌≡◌, inl, inr, ℕ, zero, suc, ◌+◌, ◌-◌, ◌*◌, ◌<◌, ◌≤◌, ◌^◌, List, [], ◌∷◌, ◌++◌, length, map, take, get_or, slice_index, set, replicate, codes, decimal, Contains, Ok, Err, refl, sym, ◌∙◌, ap, subst, arith, append_assoc, add-one}
use Rattle.std.proofs.Math.Seq.{set-append_seam, take-length}
use Rattle.std.proofs.lemmas.List.{append-nil, length-map, length-replicate, length-take-le, take_more, get_or-replicate}
use Rattle.std.proofs.lemmas.List.Elements.{All-get_or, Contains-append_cases}
use Rattle.ring_sig.proofs.Lemmas.{words_at_most}
use Rattle.tx_model.specs.declared.gate.Region.{Region}
use Rattle.tx_model.specs.declared.word.Word.{Word}
use Rattle.tx_model.specs.Made.{AreWellFormed}
use Rattle.tx_model.specs.Memory.{after}
use Rattle.tx_model.proofs.lemmas.Memories.{after_push}
use Rattle.ring_worlds.proofs.lemmas.Members.{contains_none, contains_cases, contains_more}
use Rattle.ring_state.specs.declared.setup.Setup.{Setup}
use Rattle.ring_runs.specs.declared.event.Event.{Event}
use Rattle.ring_script.specs.declared.error.ScriptError.TheVariants as script
use Rattle.ring_script.specs.declared.reading.Asked.{Asked}
use Rattle.ring_script.specs.Lines.{Line, lines_of, tokens_of}
use Rattle.ring_script.specs.Grammar.{IsRingLine, IsNamedLine}
use Rattle.ring_script.specs.Script.{AreRegions, AreWords, MayOpenWith, IsScript}
use Rattle.ring_script.specs.Draft.{IsUnsealed}
use Rattle.ring_script.specs.Written.{script_text, asked_of, MayBePrinted}
use Rattle.ring_script.specs.Laws.{requests_of, SaysAgain, PrintedSaysAgain, PrintedIsReadAgain}
use Rattle.ring_script.proofs.Readings.{scripts_agree}
use Rattle.ring_script.proofs.Beginnings.{bad_is_apart}
use Rattle.ring_script.proofs.Plain.{IsPlain, IsLine, AreLines, plain_text, joined, tokens_joined, lines_append, numbered_lines, lines_of_text, numbered_append, numbered_length}
use Rattle.ring_script.proofs.Decimals.{AllFit, plain_decimal, plain_numbers, numbers_decimal}
use Rattle.ring_script.proofs.Asked.{named_tokens, is_named, asked_tokens, AreFine, line_asked, events_at, are_events, asks_again, all_fine}
use Rattle.ring_script.proofs.Laid.{ring_tokens, region_tokens, word_tokens, word_if, words_before, script_lines, script_laid}

-- ---- the words that aren't 0
one_word : (addr value : ℕ) (word : Word) → Contains (word_if addr value) word → (word.addr ≡ addr) × (value ≡ word.value)
one_word addr zero word among = absurd (contains_none word among)
one_word addr (suc less) word among =
    elim (contains_cases (record { addr = addr; value = suc less }) [] word among) [
      | inl same ↦ (sym (ap (λ (w : Word). w.addr) same), ap (λ (w : Word). w.value) same)
      | inr none ↦ absurd (contains_none word none)
    ]

word_before : (words : List ℕ) (count : ℕ) (word : Word) → Contains (words_before words count) word
    → (word.addr < count) × (get_or words word.addr 0 ≡ word.value)
word_before words zero word among = absurd (contains_none word among)
word_before words (suc count) word among =
    elim (Contains-append_cases (words_before words count) (word_if count (slice_index words count)) word among) [
      | inl earlier ↦ let before = word_before words count word earlier in (omega (arith, before.0), before.1)
      | inr last ↦
          let one = one_word count (slice_index words count) word last in
          (omega (arith, one.0), ap (λ k. get_or words k 0) one.0 ∙ one.1)
    ]

-- the word that is 0 so far gets its value
next_word : (zeros done rest : List ℕ) (before : List Word) (count value : ℕ) → after zeros before ≡ done ++ 0 ∷ rest → length done ≡ count
    → after zeros (before ++ word_if count value) ≡ done ++ value ∷ rest
next_word zeros done rest before count zero so_far counted = ap (after zeros) (append-nil before) ∙ so_far
next_word zeros done rest before count (suc less) so_far counted =
    after_push zeros before (record { addr = count; value = suc less }) ∙ ap (λ ms. set ms count (suc less)) so_far
    ∙ ap (λ k. set (done ++ 0 ∷ rest) k (suc less)) (sym counted) ∙ set-append_seam done 0 rest (suc less)

taken : (words : List ℕ) (count : ℕ) → count < length words → take (suc count) words ≡ take count words ++ get_or words count 0 ∷ []
taken words count within = ap (λ k. take k words) (sym (add-one count)) ∙ take_more words count 0 within

words_so_far : (words : List ℕ) (count : ℕ) → count ≤ length words
    → after (replicate (length words) 0) (words_before words count) ≡ take count words ++ replicate (length words - count) 0
words_so_far words zero within = let all : length words ≡ length words - 0 = omega arith in ap (λ k. replicate {A = ℕ} k 0) all
words_so_far words (suc count) within =
    let zeros : List ℕ = replicate (length words) 0 in
    let left : length words - count ≡ suc (length words - suc count) = omega (arith, within) in
    let rest : List ℕ = replicate (length words - suc count) 0 in
    let before : after zeros (words_before words count) ≡ take count words ++ 0 ∷ rest =
    words_so_far words count (omega (arith, within)) ∙ ap (λ k. take count words ++ replicate k 0) left in
    let value = get_or words count 0 in
    next_word zeros (take count words) rest (words_before words count) count value before (length-take-le count words (omega (arith, within)))
    ∙ sym (append_assoc (take count words) (value ∷ []) rest) ∙ ap (λ l. l ++ rest) (sym (taken words count (omega (arith, within))))

words_whole : (words : List ℕ) → words ≡ after (replicate (length words) 0) (words_before words (length words))
words_whole words =
    let none : length words - length words ≡ 0 = omega arith in
    let so_far = words_so_far words (length words) (omega arith) in
    sym (so_far ∙ ap (λ k. take (length words) words ++ replicate k 0) none ∙ append-nil (take (length words) words) ∙ take-length words)

-- ---- lines
named_at : (name numbers : List ℕ) → IsPlain name → AllFit numbers → IsNamedLine (tokens_of (joined (named_tokens name numbers))) name numbers
named_at name numbers plain fit =
    subst (λ ts. IsNamedLine ts name numbers) (sym (tokens_joined (named_tokens name numbers) (plain, plain_numbers numbers fit))) (is_named name numbers fit)

each_plain : {X : Type 0} (tokens : X → List (List ℕ)) (xs : List X) → ((x : X) → Contains xs x → IsLine (tokens x)) → AreLines (map tokens xs)
each_plain tokens [] is = tt
each_plain tokens (x ∷ xs) is = (is x (0, omega arith, refl), each_plain tokens xs (λ y among. is y (contains_more x xs y among)))

abbrev RegionFits : Region → Type 0
RegionFits region = AllFit (region.gate ∷ region.base ∷ region.len ∷ [])

plain_region : IsPlain (codes "region")
plain_region = plain_text (codes "region") refl

are_regions : (number : ℕ) (regions : List Region) → ((region : Region) → Contains regions region → RegionFits region)
    → AreRegions (numbered_lines number (map region_tokens regions)) regions
are_regions number [] fit = tt
are_regions number (region ∷ regions) fit = (
  named_at (codes "region") (region.gate ∷ region.base ∷ region.len ∷ []) plain_region (fit region (0, omega arith, refl)),
  are_regions (number + 1) regions (λ other among. fit other (contains_more region regions other among)),
)

abbrev WordFits : Word → Type 0
WordFits word = AllFit (word.addr ∷ word.value ∷ [])

plain_word : IsPlain (codes "word")
plain_word = plain_text (codes "word") refl

are_words : (number : ℕ) (words : List Word) → ((word : Word) → Contains words word → WordFits word)
    → AreWords (numbered_lines number (map word_tokens words)) words
are_words number [] fit = tt
are_words number (word ∷ words) fit = (
  named_at (codes "word") (word.addr ∷ word.value ∷ []) plain_word (fit word (0, omega arith, refl)),
  are_words (number + 1) words (λ other among. fit other (contains_more word words other among)),
)

asked_lines : (asks : List Asked) → AreFine asks → AreLines (map asked_tokens asks)
asked_lines [] fine = tt
asked_lines (asked ∷ asks) fine = (line_asked asked fine.0, asked_lines asks fine.1)

-- ---- what the script says
zero_at : (count at : ℕ) → at < count → get_or {A = ℕ} (replicate count 0) at 0 ≡ 0
zero_at count at within = get_or-replicate count at 0 0 within

formed_zeros : (words : List ℕ) (regions : List Region) → AreWellFormed words regions → AreWellFormed (replicate (length words) 0) regions
formed_zeros words regions formed =
    let counted : length {A = ℕ} (replicate (length words) 0) ≡ length words = length-replicate (length words) 0 in
    record {
      lie_in = λ region among.
          let lies = formed.lie_in region among in
          (lies.0, omega (arith, lies.1, counted), omega (arith, lies.2, counted));
      lie_apart = formed.lie_apart;
      gates_apart = formed.gates_apart;
      gates_outside = formed.gates_outside;
      gates_opening = λ region among. let lies = formed.lie_in region among in inl (zero_at (length words) region.gate lies.2);
    }

module _ (setup : Setup) (events : List Event) (may : MayBePrinted setup events) where
  room : length setup.first ≡ setup.shape.heap
  room = let opens = may.opens in opens.room

  formed : AreWellFormed setup.first setup.regions
  formed = let opens = may.opens in opens.well_formed

  asks_fine : AreFine (asked_of events)
  asks_fine = all_fine events may.asks

  abbrev words_of : List Word
  words_of = words_before setup.first (length setup.first)

  region_fits : (region : Region) → Contains setup.regions region → RegionFits region
  region_fits region among =
      let lies = formed.lie_in region among in
      (omega (arith, lies.2, room, may.few_words), (omega (arith, lies.1, room, may.few_words), (omega (arith, lies.1, room, may.few_words), tt)))

  word_fits : (word : Word) → Contains words_of word → WordFits word
  word_fits word among =
      let is = word_before setup.first (length setup.first) word among in
      let value : get_or setup.first word.addr 0 < 2 ^ 64 = All-get_or (λ v. v < 2 ^ 64) setup.first word.addr 0 is.0 may.words in
      (omega (arith, is.0, room, may.few_words), (subst (λ v. v < 2 ^ 64) is.1 value, tt))

  word_opens : (word : Word) → Contains words_of word → MayOpenWith setup.regions setup.shape.heap word
  word_opens word among =
      let is = word_before setup.first (length setup.first) word among in
      record {
        within = omega (arith, is.0, room);
        gate = λ region known at. subst IsUnsealed (ap (λ k. get_or setup.first k 0) (sym at) ∙ is.1) (formed.gates_opening region known);
      }

  numbers_fit : AllFit (setup.shape.ring ∷ 64 * setup.shape.sig_words ∷ setup.shape.heap ∷ setup.callers ∷ setup.shape.life ∷ [])
  numbers_fit =
      let opens = may.opens in
      let limits = opens.limits in
      let words = words_at_most setup.shape.sig_words limits.words in (
        omega (arith, limits.entries),
        (omega (arith, words.1), (omega (arith, may.few_words), (omega (arith, may.callers.1), (omega (arith, limits.life), tt)))),
      )

  first_line : IsLine (ring_tokens setup)
  first_line =
      let fit = numbers_fit in (
        plain_text (codes "ring") refl,
        (
          plain_decimal setup.shape.ring fit.0,
          (
            plain_text (codes "bits") refl,
            (
              plain_decimal (64 * setup.shape.sig_words) fit.1.0,
              (
                plain_text (codes "words") refl,
                (
                  plain_decimal setup.shape.heap fit.1.1.0,
                  (
                    plain_text (codes "callers") refl,
                    (
                      plain_decimal setup.callers fit.1.1.1.0,
                      (plain_text (codes "life") refl, (plain_decimal setup.shape.life fit.1.1.1.1.0, tt)),
                    ),
                  ),
                ),
              ),
            ),
          ),
        ),
      )

  ring_says : IsRingLine (ring_tokens setup) setup.shape.ring (64 * setup.shape.sig_words) setup.shape.heap setup.callers setup.shape.life
  ring_says = record {
    r = decimal setup.shape.ring;
    b = decimal (64 * setup.shape.sig_words);
    n = decimal setup.shape.heap;
    p = decimal setup.callers;
    l = decimal setup.shape.life;
    whole = refl;
    numbers =
        numbers_decimal (setup.shape.ring ∷ 64 * setup.shape.sig_words ∷ setup.shape.heap ∷ setup.callers ∷ setup.shape.life ∷ []) numbers_fit;
  }

  region_line : (region : Region) → Contains setup.regions region → IsLine (region_tokens region)
  region_line region among = (plain_region, plain_numbers (region.gate ∷ region.base ∷ region.len ∷ []) (region_fits region among))

  word_line : (word : Word) → Contains words_of word → IsLine (word_tokens word)
  word_line word among = (plain_word, plain_numbers (word.addr ∷ word.value ∷ []) (word_fits word among))

  are_lines : AreLines (script_lines setup events)
  are_lines =
      let regions = map region_tokens setup.regions in
      let words = map word_tokens words_of in
      let asks = map asked_tokens (asked_of events) in
      let later = lines_append words asks (each_plain word_tokens words_of word_line) (asked_lines (asked_of events) asks_fine) in
      (first_line, lines_append regions (words ++ asks) (each_plain region_tokens setup.regions region_line) later)

  -- the numbers of the first word line and of the first event line
  abbrev words_from : ℕ
  words_from = 2 + length (map region_tokens setup.regions)

  abbrev events_from : ℕ
  events_from = words_from + length (map word_tokens words_of)

  line_count : {X : Type 0} (number : ℕ) (tokens : X → List (List ℕ)) (xs : List X) → length (numbered_lines number (map tokens xs)) ≡ length xs
  line_count number tokens xs = numbered_length number (map tokens xs) ∙ length-map xs tokens

  is_script : IsScript (numbered_lines 1 (script_lines setup events)) setup (events_at events_from (asked_of events))
  is_script =
      let opens = may.opens in
      let limits = opens.limits in
      let regions = map region_tokens setup.regions in
      let words = map word_tokens words_of in
      let asks = map asked_tokens (asked_of events) in
      let head : Line = record { number = 1; content = joined (ring_tokens setup) } in
      let region_count = line_count 2 region_tokens setup.regions in
      let event_count = line_count events_from asked_tokens (asked_of events) in
      record {
        head = head;
        region_lines = numbered_lines 2 regions;
        word_lines = numbered_lines words_from words;
        event_lines = numbered_lines events_from asks;
        whole = ap (λ ls. head ∷ ls) (numbered_append 2 regions (words ++ asks)
            ∙ ap (λ ls. numbered_lines 2 regions ++ ls) (numbered_append words_from words asks));
        ring = subst (λ ts. IsRingLine ts setup.shape.ring (64 * setup.shape.sig_words) setup.shape.heap setup.callers setup.shape.life)
            (sym (tokens_joined (ring_tokens setup) first_line)) ring_says;
        ring_length = (limits.some_entry, limits.entries);
        signature = limits.words;
        memory = (limits.some_word, may.few_words);
        callers = may.callers;
        life = (limits.some_commit, limits.life);
        regions = are_regions 2 setup.regions region_fits;
        few_regions = omega (arith, region_count, may.few_regions);
        well_formed = subst (λ n. AreWellFormed (replicate n 0) setup.regions) room (formed_zeros setup.first setup.regions formed);
        words = words_of;
        opens = are_words words_from words_of word_fits;
        may_open = word_opens;
        first = words_whole setup.first ∙ ap (λ n. after (replicate n 0) words_of) room;
        happens = are_events events_from (asked_of events) asks_fine;
        few_events = omega (arith, event_count, may.few_lines);
      }

  says_again : SaysAgain (script_text setup events) setup events
  says_again =
      let lines = script_lines setup events in
      let others = events_at events_from (asked_of events) in
      let read : lines_of (script_text setup events) ≡ numbered_lines 1 lines = ap lines_of (script_laid setup events) ∙ lines_of_text lines are_lines in
      record { others = others; script = subst (λ ls. IsScript ls setup others) (sym read) is_script; same = asks_again events_from events }

pub printed_says_again : PrintedSaysAgain
printed_says_again setup events may = says_again setup events may

pub printed_is_read_again : PrintedIsReadAgain
printed_is_read_again setup events (Ok (read, others)) may reads =
    let again = printed_says_again setup events may in
    let same = scripts_agree (lines_of (script_text setup events)) read setup others.items again.others reads again.script in
    (same.0, ap requests_of same.1 ∙ again.same)
printed_is_read_again setup events (Err (script.BadLine line)) may reads =
    let again = printed_says_again setup events may in
    bad_is_apart (lines_of (script_text setup events)) setup again.others line again.script reads
printed_is_read_again setup events (Err script.Memory) may reads = tt
