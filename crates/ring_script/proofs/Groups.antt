-- The groups of a script's lines: a list of lines falls into them in one way.
use Rattle.std.proofs.Common.{◌≡◌, ◌⊎◌, inl, inr, ℕ, ◌<◌, true, false, List, [], ◌∷◌, ◌++◌, length, get_or, codes, refl, sym, ◌∙◌, ap, subst, arith}
use Rattle.tx_model.specs.declared.gate.Region.{Region}
use Rattle.tx_model.specs.declared.word.Word.{Word}
use Rattle.ring_runs.specs.declared.event.Event.{Event}
use Rattle.ring_script.specs.Lines.{Line, IsNumber}
use Rattle.ring_script.specs.Grammar.{IsNamedLine}
use Rattle.ring_script.specs.Reading.{IsRegionLine, IsWordLine, IsAsked}
use Rattle.ring_script.specs.declared.reading.Asked.{Asked}
use Rattle.ring_script.specs.Script.{tokens_at, AreRegions, AreWords, AreEvents, IsEvents}
use Rattle.ring_script.proofs.Tokens.{named_first, line_same}
use Rattle.ring_script.proofs.Said.{event_first, asked_cases}

-- ---- lines of one kind
abbrev pub Each : (Line → Type 0) → List Line → Type 0
Each P [] = Unit {0}
Each P (line ∷ lines) = P line × Each P lines

each_append : (P : Line → Type 0) (lines more : List Line) → Each P lines → Each P more → Each P (lines ++ more)
each_append P [] more all also = also
each_append P (line ∷ lines) more all also = (all.0, each_append P lines more all.1 also)

each_weaker : (P Q : Line → Type 0) (lines : List Line) → ((line : Line) → P line → Q line) → Each P lines → Each Q lines
each_weaker P Q [] is all = tt
each_weaker P Q (line ∷ lines) is all = (is line all.0, each_weaker P Q lines is all.1)

-- lines of two kinds fall apart in one way
parts_same : (P Q : Line → Type 0) → ((line : Line) → P line → Q line → ⊥) → (xs ys zs ws : List Line) → Each P xs → Each Q ys → Each P zs → Each Q ws
    → xs ++ ys ≡ zs ++ ws → (xs ≡ zs) × (ys ≡ ws)
parts_same P Q apart [] ys [] ws a b c d same = (refl, same)
parts_same P Q apart [] [] (z ∷ zs) ws a b c d same = absurd (cc (same))
parts_same P Q apart [] (y ∷ ys) (z ∷ zs) ws a b c d same =
    let first : y ≡ z = cc (same) in
    absurd (apart z c.0 (subst Q first b.0))
parts_same P Q apart (x ∷ xs) ys [] [] a b c d same = absurd (cc (same))
parts_same P Q apart (x ∷ xs) ys [] (w ∷ ws) a b c d same =
    let first : x ≡ w = cc (same) in
    absurd (apart w (subst P first a.0) d.0)
parts_same P Q apart (x ∷ xs) ys (z ∷ zs) ws a b c d same =
    let first : x ≡ z = cc (same) in
    let rest : xs ++ ys ≡ zs ++ ws = cc (same) in
    let parts = parts_same P Q apart xs ys zs ws a.1 b c.1 d rest in
    (ap (λ l. l ∷ xs) first ∙ ap (λ l. z ∷ l) parts.0, parts.1)

-- ---- the three kinds
abbrev pub HasRegion : Line → Type 0
HasRegion line = (r : Region) × IsRegionLine (tokens_at line) r

abbrev pub HasWord : Line → Type 0
HasWord line = (w : Word) × IsWordLine (tokens_at line) w

abbrev pub HasEvents : Line → Type 0
HasEvents line = (a : Asked) × IsAsked (tokens_at line) a

pub region_word_apart : (tokens : List (List ℕ)) (r : Region) (w : Word) → IsRegionLine tokens r → IsWordLine tokens w → ⊥
region_word_apart tokens r w region word =
    let one = named_first tokens (codes "region") _ region in
    let other = named_first tokens (codes "word") _ word in
    let same : codes "region" ≡ codes "word" = sym one.1 ∙ other.1 in
    let first : 114 ≡ 119 = ap (λ l. get_or l 0 0) same in
    omega (arith, first)

asked_number : (tokens : List (List ℕ)) (a : Asked) → IsAsked tokens a → IsNumber (get_or tokens 0 []) a.request.who
asked_number tokens a is =
    elim (asked_cases tokens a is) [
      | inl by ↦
          let event = by.1.request in
          let whole : tokens ≡ event.caller ∷ (event.asked ++ codes "run" ∷ []) = by.1.whole ∙ ap (λ ts. ts ++ codes "run" ∷ []) event.whole in
          subst (λ t. IsNumber t a.request.who) (sym (ap (λ ts. get_or ts 0 []) whole)) event.number
      | inr by ↦ let first = event_first tokens a.request.who a.request.act by.1 in first.1
    ]

named_asked_apart : (tokens : List (List ℕ)) (name : List ℕ) (numbers : List ℕ) (a : Asked) → 57 < get_or name 0 0 → 0 < length name
    → IsNamedLine tokens name numbers → IsAsked tokens a → ⊥
named_asked_apart tokens name numbers a high some line is =
    let first = named_first tokens name numbers line in
    let number = subst (λ t. IsNumber t a.request.who) first.1 (asked_number tokens a is) in
    let digit = number.digits 0 0 some in
    omega (arith, digit.1, high)

pub region_asked_apart : (tokens : List (List ℕ)) (r : Region) (a : Asked) → IsRegionLine tokens r → IsAsked tokens a → ⊥
region_asked_apart tokens r a region is = named_asked_apart tokens (codes "region") _ a (omega arith) (omega arith) region is

pub word_asked_apart : (tokens : List (List ℕ)) (w : Word) (a : Asked) → IsWordLine tokens w → IsAsked tokens a → ⊥
word_asked_apart tokens w a word is = named_asked_apart tokens (codes "word") _ a (omega arith) (omega arith) word is

pub regions_each : (lines : List Line) (regions : List Region) → AreRegions lines regions → Each HasRegion lines
regions_each [] regions are = tt
regions_each (line ∷ lines) [] are = absurd are
regions_each (line ∷ lines) (region ∷ regions) are = ((region, are.0), regions_each lines regions are.1)

pub words_each : (lines : List Line) (words : List Word) → AreWords lines words → Each HasWord lines
words_each [] words are = tt
words_each (line ∷ lines) [] are = absurd are
words_each (line ∷ lines) (word ∷ words) are = ((word, are.0), words_each lines words are.1)

pub line_asked : (line : Line) (events others : List Event) → IsEvents line events others → HasEvents line
line_asked line events others is =
    elim is.asks [
      | inl one ↦ (record { request = record { who = is.who; act = is.act }; runs = false }, one.0)
      | inr run ↦ (record { request = record { who = is.who; act = is.act }; runs = true }, run.0)
    ]

pub events_each : (lines : List Line) (events : List Event) → AreEvents lines events → Each HasEvents lines
events_each [] events are = tt
events_each (line ∷ lines) events are = (line_asked line events are.0 are.1, events_each lines are.0 are.2)

abbrev Later : Line → Type 0
Later line = HasWord line ⊎ HasEvents line

later_apart : (line : Line) → HasRegion line → Later line → ⊥
later_apart line region (inl word) = region_word_apart (tokens_at line) region.0 word.0 region.1 word.1
later_apart line region (inr asked) = region_asked_apart (tokens_at line) region.0 asked.0 region.1 asked.1

words_apart : (line : Line) → HasWord line → HasEvents line → ⊥
words_apart line word asked = word_asked_apart (tokens_at line) word.0 asked.0 word.1 asked.1

-- the groups of lines are one and the same
pub groups_same : (rs ws es rs' ws' es' : List Line) → Each HasRegion rs → Each HasWord ws → Each HasEvents es → Each HasRegion rs' → Each HasWord ws'
    → Each HasEvents es' → rs ++ (ws ++ es) ≡ rs' ++ (ws' ++ es') → (rs ≡ rs') × (ws ≡ ws') × (es ≡ es')
groups_same rs ws es rs' ws' es' a b c a' b' c' same =
    let later = each_append Later ws es (each_weaker HasWord Later ws (λ line is. inl is) b) (each_weaker HasEvents Later es (λ line is. inr is) c) in
    let later' = each_append Later ws' es' (each_weaker HasWord Later ws' (λ line is. inl is) b') (each_weaker HasEvents Later es' (λ line is. inr is) c') in
    let first = parts_same HasRegion Later later_apart rs (ws ++ es) rs' (ws' ++ es') a later a' later' same in
    let second = parts_same HasWord HasEvents words_apart ws es ws' es' b c b' c' first.1 in
    (first.0, second.0, second.1)

-- ---- what the groups say is one
region_like : (one other : Region) → one.gate ∷ one.base ∷ one.len ∷ [] ≡ other.gate ∷ other.base ∷ other.len ∷ [] → one ≡ other
region_like one other same =
    let at : ℕ → ℕ → ℕ → Region = λ g b l. record { gate = g; base = b; len = l } in
    ap (λ ns. at (get_or ns 0 0) (get_or ns 1 0) (get_or ns 2 0)) same

pub region_same : (tokens : List (List ℕ)) (one other : Region) → IsRegionLine tokens one → IsRegionLine tokens other → one ≡ other
region_same tokens one other a b = region_like one other (line_same tokens (codes "region") _ _ a b)

pub word_same : (tokens : List (List ℕ)) (one other : Word) → IsWordLine tokens one → IsWordLine tokens other → one ≡ other
word_same tokens one other a b =
    let at : ℕ → ℕ → Word = λ x v. record { addr = x; value = v } in
    ap (λ ns. at (get_or ns 0 0) (get_or ns 1 0)) (line_same tokens (codes "word") _ _ a b)

pub regions_same : (lines : List Line) (regions others : List Region) → AreRegions lines regions → AreRegions lines others → regions ≡ others
regions_same [] [] [] are also = refl
regions_same [] [] (other ∷ others) are also = absurd also
regions_same [] (region ∷ regions) others are also = absurd are
regions_same (line ∷ lines) [] others are also = absurd are
regions_same (line ∷ lines) (region ∷ regions) [] are also = absurd also
regions_same (line ∷ lines) (region ∷ regions) (other ∷ others) are also =
    ap (λ r. r ∷ regions) (region_same (tokens_at line) region other are.0 also.0) ∙ ap (λ rs. other ∷ rs) (regions_same lines regions others are.1 also.1)
