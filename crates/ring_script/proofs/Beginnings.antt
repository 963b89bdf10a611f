-- A beginning of a script that has its first line is a script, so a text has one first bad line or none.
use Rattle.std.proofs.Common.{◌≡◌, ◌⊎◌, inl, inr, ℕ, zero, suc, ◌<◌, ◌≤◌, List, [], ◌∷◌, ◌++◌, length, replicate, Contains, refl, sym, ◌∙◌, ap, subst, arith, append_assoc, append-nil, length-append}
use Rattle.std.proofs.lemmas.Bool.{cases_lt}
use Rattle.std.proofs.lemmas.List.{length_push, same_from_push}
use Rattle.std.proofs.lemmas.List.Elements.{Contains-append_left}
use Rattle.tx_model.specs.declared.gate.Region.{Region}
use Rattle.tx_model.specs.Memory.{after}
use Rattle.tx_model.specs.Made.{AreWellFormed, LieApart, region_at}
use Rattle.ring_state.specs.declared.setup.Setup.{Setup}
use Rattle.ring_runs.specs.declared.event.Event.{Event}
use Rattle.ring_script.specs.Lines.{Line}
use Rattle.ring_script.specs.Script.{AreEvents, AreRegions, AreWords, IsScriptWithin, IsSomeWithin, missing, bad, most_event_lines}
use Rattle.ring_script.specs.Laws.{BadIsApart, BadIsOne}
use Rattle.ring_script.proofs.Forming.{at_earlier}
use Rattle.ring_script.proofs.Ending.{HasLast, last_or_none, regions_end, words_end}

-- ---- without the last line
formed_front : (words : ℕ) (regions : List Region) (r : Region) → AreWellFormed (replicate words 0) (regions ++ r ∷ [])
    → AreWellFormed (replicate words 0) regions
formed_front words regions r formed =
    let count = length_push regions r in
    let among : (x : Region) → Contains regions x → Contains (regions ++ r ∷ []) x = λ x known. Contains-append_left regions (r ∷ []) x known in
    record {
      lie_in = λ x known. formed.lie_in x (among x known);
      lie_apart = λ i j before below.
          subst (λ x. LieApart x (region_at regions j)) (at_earlier regions r i (omega (arith, before, below)))
          (
          subst (LieApart (region_at (regions ++ r ∷ []) i)) (at_earlier regions r j below)
          (formed.lie_apart i j before (omega (arith, below, count)))
          );
      gates_apart = λ i j before below same.
          formed.gates_apart i j before (omega (arith, below, count))
          (
          ap (λ (x : Region). x.gate) (at_earlier regions r i (omega (arith, before, below))) ∙ same
          ∙ sym (ap (λ (x : Region). x.gate) (at_earlier regions r j below))
          );
      gates_outside = λ x y known also. formed.gates_outside x y (among x known) (among y also);
      gates_opening = λ x known. formed.gates_opening x (among x known);
    }

events_front : (front : List Line) (last : Line) (events : List Event) → AreEvents (front ++ last ∷ []) events → (before : List Event) × AreEvents front before
events_front [] last events are = ([], refl)
events_front (line ∷ front) last events are =
    let more = events_front front last are.0 are.2 in
    elim are.1.asks [
      | inl one ↦ (_, (more.0, record { who = are.1.who; act = are.1.act; asks = inl (one.0, refl) }, more.1))
      | inr run ↦ (_, (more.0, record { who = are.1.who; act = are.1.act; asks = inr (run.0, refl) }, more.1))
    ]

module _ (limit : ℕ) (lines : List Line) (last : Line) (setup : Setup) (events : List Event) (t : IsScriptWithin limit (lines ++ last ∷ []) setup events) where
  without_events : HasLast t.event_lines → IsSomeWithin limit lines
  without_events end =
      let front = end.front in
      let whole = t.whole ∙ ap (λ ls. t.head ∷ (t.region_lines ++ (t.word_lines ++ ls))) end.whole
      ∙ ap (λ ls. t.head ∷ (t.region_lines ++ ls)) (sym (append_assoc t.word_lines front (end.last ∷ [])))
      ∙ ap (λ ls. t.head ∷ ls) (sym (append_assoc t.region_lines (t.word_lines ++ front) (end.last ∷ []))) in
      let parts = same_from_push lines (t.head ∷ (t.region_lines ++ (t.word_lines ++ front))) last end.last whole in
      let more = events_front front end.last events (subst (λ ls. AreEvents ls events) end.whole t.happens) in
      let count = ap length end.whole ∙ length_push front end.last in (
        setup,
        more.0,
        record {
          head = t.head;
          region_lines = t.region_lines;
          word_lines = t.word_lines;
          event_lines = front;
          whole = parts.0;
          ring = t.ring;
          ring_length = t.ring_length;
          signature = t.signature;
          memory = t.memory;
          callers = t.callers;
          life = t.life;
          regions = t.regions;
          few_regions = t.few_regions;
          well_formed = t.well_formed;
          words = t.words;
          opens = t.opens;
          may_open = t.may_open;
          first = t.first;
          happens = more.1;
          few_events = omega (arith, count, t.few_events);
        },
      )

  without_word : t.event_lines ≡ [] → HasLast t.word_lines → IsSomeWithin limit lines
  without_word none end =
      let front = end.front in
      let whole = t.whole ∙ ap (λ ls. t.head ∷ (t.region_lines ++ (t.word_lines ++ ls))) none
      ∙ ap (λ ls. t.head ∷ (t.region_lines ++ ls)) (append-nil t.word_lines ∙ end.whole ∙ ap (λ ls. ls ++ end.last ∷ []) (sym (append-nil front)))
      ∙ ap (λ ls. t.head ∷ ls) (sym (append_assoc t.region_lines (front ++ []) (end.last ∷ []))) in
      let parts = same_from_push lines (t.head ∷ (t.region_lines ++ (front ++ []))) last end.last whole in
      let words = words_end front end.last t.words (subst (λ ls. AreWords ls t.words) end.whole t.opens) in
      let zeros : List ℕ = replicate setup.shape.heap 0 in (
        record { shape = setup.shape; callers = setup.callers; regions = setup.regions; first = after zeros words.before },
        [],
        record {
          head = t.head;
          region_lines = t.region_lines;
          word_lines = front;
          event_lines = [];
          whole = parts.0;
          ring = t.ring;
          ring_length = t.ring_length;
          signature = t.signature;
          memory = t.memory;
          callers = t.callers;
          life = t.life;
          regions = t.regions;
          few_regions = t.few_regions;
          well_formed = t.well_formed;
          words = words.before;
          opens = words.are;
          may_open = λ w known. t.may_open w (subst (λ ws. Contains ws w) (sym words.whole) (Contains-append_left words.before (words.word ∷ []) w known));
          first = refl;
          happens = refl;
          few_events = omega arith;
        },
      )

  without_region : t.event_lines ≡ [] → t.word_lines ≡ [] → HasLast t.region_lines → IsSomeWithin limit lines
  without_region none also end =
      let front = end.front in
      let whole = t.whole ∙ ap (λ ls. t.head ∷ (t.region_lines ++ (t.word_lines ++ ls))) none ∙ ap (λ ls. t.head ∷ (t.region_lines ++ (ls ++ []))) also
      ∙ ap (λ ls. t.head ∷ ls) (append-nil t.region_lines ∙ end.whole ∙ ap (λ ls. ls ++ end.last ∷ []) (sym (append-nil front))) in
      let parts = same_from_push lines (t.head ∷ (front ++ [])) last end.last whole in
      let regions = regions_end front end.last setup.regions (subst (λ ls. AreRegions ls setup.regions) end.whole t.regions) in
      let zeros : List ℕ = replicate setup.shape.heap 0 in
      let count = ap length end.whole ∙ length_push front end.last in (
        record { shape = setup.shape; callers = setup.callers; regions = regions.before; first = zeros },
        [],
        record {
          head = t.head;
          region_lines = front;
          word_lines = [];
          event_lines = [];
          whole = parts.0;
          ring = t.ring;
          ring_length = t.ring_length;
          signature = t.signature;
          memory = t.memory;
          callers = t.callers;
          life = t.life;
          regions = regions.are;
          few_regions = omega (arith, count, t.few_regions);
          well_formed = formed_front setup.shape.heap regions.before regions.region (subst (AreWellFormed zeros) regions.whole t.well_formed);
          words = [];
          opens = tt;
          may_open = λ w known. absurd (omega (arith, known.1));
          first = refl;
          happens = refl;
          few_events = omega arith;
        },
      )

  without_head : t.event_lines ≡ [] → t.word_lines ≡ [] → t.region_lines ≡ [] → 0 < length lines → ⊥
  without_head none also none_too some =
      let one = ap length t.whole in
      let parts = length-append t.region_lines (t.word_lines ++ t.event_lines) in
      let more = length-append t.word_lines t.event_lines in
      let pushed = length_push lines last in
      omega (arith, one, parts, more, some, pushed, ap length none, ap length also, ap length none_too)

  without_last : 0 < length lines → IsSomeWithin limit lines
  without_last some =
      elim (last_or_none t.event_lines) [
        | inr end ↦ without_events end
        | inl none ↦
            elim (last_or_none t.word_lines) [
              | inr end ↦ without_word none end
              | inl also ↦
                  elim (last_or_none t.region_lines) [
                    | inr end ↦ without_region none also end
                    | inl none_too ↦ absurd (without_head none also none_too some)
                  ]
            ]
      ]

-- a beginning with its first line
beginning_by : (n : ℕ) (limit : ℕ) (good : List Line) (line : Line) (rest : List Line) → (rest ≡ []) ⊎ HasLast rest → length rest ≤ n
    → IsSomeWithin limit (good ++ line ∷ rest) → IsSomeWithin limit (good ++ line ∷ [])
beginning_by n limit good line rest (inl none) few some = subst (λ ls. IsSomeWithin limit (good ++ line ∷ ls)) none some
beginning_by zero limit good line rest (inr end) few some =
    let count = ap length end.whole ∙ length_push end.front end.last in
    absurd (omega (arith, count, few))
beginning_by (suc n) limit good line rest (inr end) few (setup, events, t) =
    let count = ap length end.whole ∙ length_push end.front end.last in
    let whole : good ++ line ∷ rest ≡ (good ++ line ∷ end.front) ++ end.last ∷ [] =
    ap (λ ls. good ++ line ∷ ls) end.whole ∙ sym (append_assoc good (line ∷ end.front) (end.last ∷ [])) in
    let more = subst (λ ls. IsScriptWithin limit ls setup events) whole t in
    let some = length-append good (line ∷ end.front) in
    beginning_by n limit good line end.front (last_or_none end.front) (omega (arith, count, few))
    (without_last limit (good ++ line ∷ end.front) end.last setup events more (omega (arith, some)))

beginning : (limit : ℕ) (good : List Line) (line : Line) (rest : List Line) → IsSomeWithin limit (good ++ line ∷ rest) → IsSomeWithin limit (good ++ line ∷ [])
beginning limit good line rest some = beginning_by (length rest) limit good line rest (last_or_none rest) (omega arith) some

-- one of two beginnings of a text goes on as the other
longer : (good : List Line) (line : Line) (rest others more : List Line) → good ++ line ∷ rest ≡ others ++ more → length good < length others
    → (behind : List Line) × (others ≡ good ++ line ∷ behind)
longer [] line rest [] more same below = absurd (omega (arith, below))
longer [] line rest (other ∷ others) more same below = let first : line ≡ other = cc (same) in (others, ap (λ l. l ∷ others) (sym first))
longer (first ∷ good) line rest [] more same below = absurd (omega (arith, below))
longer (first ∷ good) line rest (other ∷ others) more same below =
    let head : first ≡ other = cc (same) in
    let tail : good ++ line ∷ rest ≡ others ++ more = cc (same) in
    let behind = longer good line rest others more tail (omega (arith, below)) in
    (behind.0, ap (λ l. l ∷ others) (sym head) ∙ ap (λ ls. first ∷ ls) behind.1)

same_line : (good : List Line) (line : Line) (rest others : List Line) (other : Line) (more : List Line) → good ++ line ∷ rest ≡ others ++ other ∷ more
    → length good ≡ length others → line ≡ other
same_line [] line rest [] other more same is = cc (same)
same_line [] line rest (next ∷ others) other more same is = absurd (omega (arith, is))
same_line (first ∷ good) line rest [] other more same is = absurd (omega (arith, is))
same_line (first ∷ good) line rest (next ∷ others) other more same is =
    let tail : good ++ line ∷ rest ≡ others ++ other ∷ more = cc (same) in
    same_line good line rest others other more tail (omega (arith, is))

some_beginning : (limit : ℕ) (good : List Line) (line : Line) (behind others : List Line) → others ≡ good ++ line ∷ behind
    → (others ≡ []) ⊎ IsSomeWithin limit others → IsSomeWithin limit (good ++ line ∷ [])
some_beginning limit good line behind others is (inl none) =
    let count = length-append good (line ∷ behind) in
    absurd (omega (arith, ap length is, ap length none, count))
some_beginning limit good line behind others is (inr some) =
    beginning limit good line behind (subst (IsSomeWithin limit) is some)

-- of two beginnings with a bad line behind them neither is longer
not_longer : (limit : ℕ) (lines good : List Line) (line : Line) (rest others more : List Line) → lines ≡ good ++ line ∷ rest → lines ≡ others ++ more
    → (others ≡ []) ⊎ IsSomeWithin limit others → (IsSomeWithin limit (good ++ line ∷ []) → ⊥) → length good < length others → ⊥
not_longer limit lines good line rest others more whole also some none below =
    let behind = longer good line rest others more (sym whole ∙ also) below in
    none (some_beginning limit good line behind.0 others behind.1 some)

pub bad_is_apart : BadIsApart
bad_is_apart lines setup events number script (missing none is) = let some = ap length (sym none ∙ script.whole) in omega (arith, some)
bad_is_apart lines setup events number script (bad good line rest whole so_far none is) =
    none (beginning most_event_lines good line rest (subst (IsSomeWithin most_event_lines) whole (setup, events, script)))

pub bad_is_one : BadIsOne
bad_is_one lines number other (missing none is) (missing also here) = is ∙ sym here
bad_is_one lines number other (missing none is) (bad good line rest whole so_far bars here) =
    let count = length-append good (line ∷ rest) in
    absurd (omega (arith, ap length (sym none ∙ whole), count))
bad_is_one lines number other (bad good line rest whole so_far bars is) (missing none here) =
    let count = length-append good (line ∷ rest) in
    absurd (omega (arith, ap length (sym none ∙ whole), count))
bad_is_one lines number other (bad good line rest whole so_far bars is) (bad good' line' rest' whole' so_far' bars' here) =
    elim (cases_lt (length good) (length good')) [
      | inl below ↦ absurd (not_longer most_event_lines lines good line rest good' (line' ∷ rest') whole whole' so_far' bars below)
      | inr above ↦
          elim (cases_lt (length good') (length good)) [
            | inl below ↦ absurd (not_longer most_event_lines lines good' line' rest' good (line ∷ rest) whole' whole so_far bars' below)
            | inr also ↦
                let same = same_line good line rest good' line' rest' (sym whole ∙ whole') (omega (arith, above, also)) in
                is ∙ ap (λ (l : Line). l.number) same ∙ sym here
          ]
    ]
