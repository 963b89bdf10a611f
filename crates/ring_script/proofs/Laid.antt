-- The text of a script, line by line.
use Rattle.std.proofs.Common.{◌≡◌, ℕ, zero, suc, ◌*◌, List, [], ◌∷◌, ◌++◌, length, map, codes, decimal, slice_index, refl, sym, ◌∙◌, ap, append_assoc}
use Rattle.std.specs.List.{concat}
use Rattle.std.proofs.lemmas.List.{append-nil, map-append}
use Rattle.tx_model.specs.declared.gate.Region.{Region}
use Rattle.tx_model.specs.declared.word.Word.{Word}
use Rattle.ring_state.specs.declared.setup.Setup.{Setup}
use Rattle.ring_runs.specs.declared.event.Event.{Event}
use Rattle.ring_script.specs.Printed.{numbers_line, word_text, words_text}
use Rattle.ring_script.specs.Written.{ring_text, region_text, regions_text, asked_of, asked_text, events_text, script_text}
use Rattle.ring_script.proofs.Plain.{behind_spaces, line_of, text_of_lines, text_append}
use Rattle.ring_script.proofs.Asked.{named_tokens, number_spaces, asked_tokens, asked_line}

-- ---- the first line
abbrev pub ring_tokens : Setup → List (List ℕ)
ring_tokens setup =
    codes "ring" ∷ decimal setup.shape.ring ∷ codes "bits" ∷ decimal (64 * setup.shape.sig_words) ∷ codes "words" ∷ decimal setup.shape.heap
    ∷ codes "callers" ∷ decimal setup.callers ∷ codes "life" ∷ decimal setup.shape.life ∷ []

-- a number, a further one behind its name, and what ends them
number_end : (number name rest end whole : List ℕ) → rest ++ end ≡ whole → (number ++ (name ++ 32 ∷ rest)) ++ end ≡ number ++ (name ++ 32 ∷ whole)
number_end number name rest end whole is =
    append_assoc number (name ++ 32 ∷ rest) end ∙ ap (λ l. number ++ l) (append_assoc name (32 ∷ rest) end ∙ ap (λ l. name ++ 32 ∷ l) is)

ring_line : (setup : Setup) → ring_text setup ≡ line_of (ring_tokens setup)
ring_line setup =
    let shape = setup.shape in
    let end : List ℕ = 10 ∷ [] in
    let life = ap (λ l. l ++ end) (append-nil (decimal shape.life)) in
    let callers = number_end (decimal setup.callers) (codes " life") _ end _ life in
    let words = number_end (decimal shape.heap) (codes " callers") _ end _ callers in
    let bits = number_end (decimal (64 * shape.sig_words)) (codes " words") _ end _ words in
    let ring = number_end (decimal shape.ring) (codes " bits") _ end _ bits in
    sym (ap (λ l. codes "ring" ++ 32 ∷ l) ring)

-- ---- lines of a name and numbers
named_line : (name numbers : List ℕ) → numbers_line name numbers ≡ line_of (named_tokens name numbers)
named_line name numbers =
    ap (λ l. name ++ (l ++ 10 ∷ [])) (number_spaces numbers) ∙ sym (append_assoc name (behind_spaces (map decimal numbers)) (10 ∷ []))

abbrev pub region_tokens : Region → List (List ℕ)
region_tokens region = named_tokens (codes "region") (region.gate ∷ region.base ∷ region.len ∷ [])

abbrev pub word_tokens : Word → List (List ℕ)
word_tokens word = named_tokens (codes "word") (word.addr ∷ word.value ∷ [])

-- lines of one kind
each_line : {X : Type 0} (text : X → List ℕ) (tokens : X → List (List ℕ)) → ((x : X) → text x ≡ line_of (tokens x)) → (xs : List X)
    → concat (map text xs) ≡ text_of_lines (map tokens xs)
each_line text tokens is [] = refl
each_line text tokens is (x ∷ xs) = ap (λ l. l ++ concat (map text xs)) (is x) ∙ ap (λ l. line_of (tokens x) ++ l) (each_line text tokens is xs)

-- ---- the words that aren't 0
abbrev pub word_if : ℕ → ℕ → List Word
word_if addr zero = []
word_if addr (suc less) = record { addr = addr; value = suc less } ∷ []

-- of the first so many words
abbrev pub words_before : List ℕ → ℕ → List Word
words_before words zero = []
words_before words (suc count) = words_before words count ++ word_if count (slice_index words count)

word_line : (addr value : ℕ) → word_text addr value ≡ text_of_lines (map word_tokens (word_if addr value))
word_line addr zero = refl
word_line addr (suc less) = named_line (codes "word") (addr ∷ suc less ∷ []) ∙ sym (append-nil (line_of (named_tokens (codes "word") (addr ∷ suc less ∷ []))))

word_lines : (words : List ℕ) (count : ℕ) → words_text words count ≡ text_of_lines (map word_tokens (words_before words count))
word_lines words zero = refl
word_lines words (suc count) =
    let value = slice_index words count in
    let before = map word_tokens (words_before words count) in
    let last = map word_tokens (word_if count value) in
    ap (λ l. l ++ word_text count value) (word_lines words count) ∙ ap (λ l. text_of_lines before ++ l) (word_line count value)
    ∙ sym (text_append before last) ∙ ap text_of_lines (sym (map-append word_tokens (words_before words count) (word_if count value)))

-- ---- the script
abbrev pub script_lines : Setup → List Event → List (List (List ℕ))
script_lines setup events =
    ring_tokens setup
    ∷ (map region_tokens setup.regions ++ (map word_tokens (words_before setup.first (length setup.first)) ++ map asked_tokens (asked_of events)))

pub script_laid : (setup : Setup) (events : List Event) → script_text setup events ≡ text_of_lines (script_lines setup events)
script_laid setup events =
    let regions = map region_tokens setup.regions in
    let words = map word_tokens (words_before setup.first (length setup.first)) in
    let asks = map asked_tokens (asked_of events) in
    let region_is : regions_text setup.regions ≡ text_of_lines regions =
    each_line region_text region_tokens (λ region. named_line (codes "region") (region.gate ∷ region.base ∷ region.len ∷ [])) setup.regions in
    let word_is = word_lines setup.first (length setup.first) in
    let asks_is : events_text events ≡ text_of_lines asks = each_line asked_text asked_tokens asked_line (asked_of events) in
    let later : words_text setup.first (length setup.first) ++ events_text events ≡ text_of_lines (words ++ asks) =
    ap (λ l. l ++ events_text events) word_is ∙ ap (λ l. text_of_lines words ++ l) asks_is ∙ sym (text_append words asks) in
    let rest : regions_text setup.regions ++ (words_text setup.first (length setup.first) ++ events_text events) ≡ text_of_lines (regions ++ (words ++ asks)) =
    ap (λ l. l ++ (words_text setup.first (length setup.first) ++ events_text events)) region_is ∙ ap (λ l. text_of_lines regions ++ l) later
    ∙ sym (text_append regions (words ++ asks)) in
    ap (λ l. l ++ (regions_text setup.regions ++ (words_text setup.first (length setup.first) ++ events_text events))) (ring_line setup)
    ∙ ap (λ l. line_of (ring_tokens setup) ++ l) rest
