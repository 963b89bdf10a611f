-- A script with one more line.
use Rattle.std.proofs.Common.{◌≡◌, inl, inr, ℕ, suc, ◌*◌, ◌<◌, List, [], ◌∷◌, ◌++◌, length, replicate, slice_set, refl, sym, ◌∙◌, ap, subst, arith, append_assoc, append-nil}
use Rattle.std.proofs.lemmas.List.{length_push}
use Rattle.std.proofs.lemmas.List.Elements.{Contains-push_cases}
use Rattle.tx_model.specs.declared.gate.Region.{Region}
use Rattle.tx_model.specs.declared.word.Word.{Word}
use Rattle.tx_model.specs.Memory.{after}
use Rattle.tx_model.specs.Made.{AreWellFormed}
use Rattle.ring_core.specs.declared.shape.Shape.{Shape}
use Rattle.ring_state.specs.declared.setup.Setup.{Setup}
use Rattle.ring_runs.specs.declared.event.Event.{Event}
use Rattle.ring_script.specs.Lines.{Line}
use Rattle.ring_script.specs.Grammar.{IsRingLine}
use Rattle.ring_script.specs.Reading.{IsRegionLine, IsWordLine, IsAsked}
use Rattle.ring_script.specs.declared.reading.Asked.{Asked}
use Rattle.ring_script.specs.declared.draft.Draft.{Draft}
use Rattle.ring_script.specs.declared.draft.Group.{Group}
use Rattle.ring_script.specs.declared.draft.Group.TheVariants.{Regions, Words, Events}
use Rattle.ring_script.specs.Script.{tokens_at, AreRegions, AreWords, AreEvents, IsEvents, MayOpenWith, IsScriptWithin}
use Rattle.ring_script.specs.Draft.{IsBegun, IsDraft, IsGroup, Adds, adds_region, adds_word, adds_events, MayAddRegion, MayAddWord, WithRegion, WithWord, WithEvents, setup_of, events_of, events_by}
use Rattle.ring_script.proofs.Said.{asked_cases}
use Rattle.ring_script.proofs.Forming.{formed_push, formed_none}

-- ---- the groups with one more line
regions_push : (lines : List Line) (regions : List Region) (line : Line) (r : Region) → AreRegions lines regions → IsRegionLine (tokens_at line) r
    → AreRegions (lines ++ line ∷ []) (regions ++ r ∷ [])
regions_push [] [] line r are is = (is, tt)
regions_push [] (region ∷ regions) line r are is = absurd are
regions_push (first ∷ lines) [] line r are is = absurd are
regions_push (first ∷ lines) (region ∷ regions) line r are is = (are.0, regions_push lines regions line r are.1 is)

words_push : (lines : List Line) (words : List Word) (line : Line) (w : Word) → AreWords lines words → IsWordLine (tokens_at line) w
    → AreWords (lines ++ line ∷ []) (words ++ w ∷ [])
words_push [] [] line w are is = (is, tt)
words_push [] (word ∷ words) line w are is = absurd are
words_push (first ∷ lines) [] line w are is = absurd are
words_push (first ∷ lines) (word ∷ words) line w are is = (are.0, words_push lines words line w are.1 is)

pub regions_count : (lines : List Line) (regions : List Region) → AreRegions lines regions → length lines ≡ length regions
regions_count [] [] are = refl
regions_count [] (region ∷ regions) are = absurd are
regions_count (line ∷ lines) [] are = absurd are
regions_count (line ∷ lines) (region ∷ regions) are = ap (λ n. suc n) (regions_count lines regions are.1)

words_none : (words : List Word) → AreWords [] words → words ≡ []
words_none [] are = refl
words_none (word ∷ words) are = absurd are

after_push : (memory : List ℕ) (words : List Word) (w : Word) → after memory (words ++ w ∷ []) ≡ slice_set (after memory words) w.addr w.value
after_push memory [] w = refl
after_push memory (word ∷ words) w = after_push (slice_set memory word.addr word.value) words w

events_more : (line : Line) (events others more : List Event) → IsEvents line events others → IsEvents line (events ++ more) (others ++ more)
events_more line events others more is = record {
  who = is.who;
  act = is.act;
  asks = elim is.asks [
    | inl one ↦ inl (one.0, ap (λ es. es ++ more) one.1)
    | inr run ↦ inr (run.0, ap (λ es. es ++ more) run.1)
  ];
}

events_of_line : (line : Line) (a : Asked) → IsAsked (tokens_at line) a → IsEvents line (events_of line.number a) []
events_of_line line a is = record {
  who = a.request.who;
  act = a.request.act;
  asks = elim (asked_cases (tokens_at line) a is) [
    | inl run ↦
        inr (run.1, ap (λ b. events_by b (record { who = a.request.who; act = a.request.act; line = line.number })) run.0)
    | inr one ↦
        inl (one.1, ap (λ b. events_by b (record { who = a.request.who; act = a.request.act; line = line.number })) one.0)
  ];
}

events_push : (lines : List Line) (events : List Event) (line : Line) (a : Asked) → AreEvents lines events → IsAsked (tokens_at line) a
    → AreEvents (lines ++ line ∷ []) (events ++ events_of line.number a)
events_push [] events line a are is =
    let none : events ++ events_of line.number a ≡ events_of line.number a = ap (λ es. es ++ events_of line.number a) are in
    ([], subst (λ es. IsEvents line es []) (sym none) (events_of_line line a is), refl)
events_push (first ∷ lines) events line a are is =
    let new = events_of line.number a in
    (are.0 ++ new, events_more first events are.0 new are.1, events_push lines are.0 line a are.2 is)

-- ---- the first line
ring_like : (tokens : List (List ℕ)) (r b n p l r' b' n' p' l' : ℕ) → r ≡ r' → b ≡ b' → n ≡ n' → p ≡ p' → l ≡ l' → IsRingLine tokens r b n p l
    → IsRingLine tokens r' b' n' p' l'
ring_like tokens r b n p l r' b' n' p' l' e1 e2 e3 e4 e5 line =
    subst (λ x. IsRingLine tokens x b' n' p' l') e1 (subst (λ x. IsRingLine tokens r x n' p' l') e2 (subst (λ x. IsRingLine tokens r b x p' l') e3
    (subst (λ x. IsRingLine tokens r b n x l') e4 (subst (λ x. IsRingLine tokens r b n p x) e5 line))))

pub begun_draft : (limit : ℕ) (line : Line) (d : Draft) → IsBegun (tokens_at line) d → IsDraft limit (line ∷ []) d
begun_draft limit line d is = record {
  script = record {
    head = line;
    region_lines = [];
    word_lines = [];
    event_lines = [];
    whole = refl;
    ring = ring_like (tokens_at line) _ _ _ _ _ d.shape.ring (64 * d.shape.sig_words) d.shape.heap d.callers d.shape.life (sym is.shape.ring)
        (sym is.shape.bits)
        (sym is.shape.heap) (sym is.callers) (sym is.shape.life) is.line;
    ring_length = (omega (arith, is.shape.ring, is.shape.ring_length), omega (arith, is.shape.ring, is.shape.ring_length));
    signature = is.shape.signature;
    memory = (omega (arith, is.shape.heap, is.shape.memory), omega (arith, is.shape.heap, is.shape.memory));
    callers = (omega (arith, is.callers, is.shape.callers), omega (arith, is.callers, is.shape.callers));
    life = (omega (arith, is.shape.life, is.shape.life_span), omega (arith, is.shape.life, is.shape.life_span));
    regions = subst (λ rs. AreRegions [] rs) (sym is.regions) tt;
    few_regions = omega arith;
    well_formed = subst (λ rs. AreWellFormed (replicate d.shape.heap 0) rs) (sym is.regions) (formed_none d.shape.heap);
    words = [];
    opens = tt;
    may_open = λ w known. absurd (omega (arith, known.1));
    first = is.first;
    happens = is.events;
    few_events = omega arith;
  };
  group = subst (λ g. IsGroup g [] []) (sym is.group) (refl, refl);
  counted = is.event_lines;
}

-- ---- a further line
-- the last line isn't one of events
no_events : (g : Group) (ws es : List Line) → (g ≡ Events → ⊥) → IsGroup g ws es → es ≡ []
no_events Regions ws es turn is = is.1
no_events Words ws es turn is = is.1
no_events Events ws es turn is = absurd (turn refl)

setup_next : (d next : Draft) (regions : List Region) (first : List ℕ) → next.shape ≡ d.shape → next.callers ≡ d.callers → next.regions.items ≡ regions
    → next.first.items ≡ first → record { shape = d.shape; callers = d.callers; regions = regions; first = first } ≡ setup_of next
setup_next d next regions first e1 e2 e3 e4 =
    let at : Shape → ℕ → List Region → List ℕ → Setup = λ s c rs ws. record { shape = s; callers = c; regions = rs; first = ws } in
    sym
    (
    ap (λ s. at s next.callers next.regions.items next.first.items) e1 ∙ ap (λ c. at d.shape c next.regions.items next.first.items) e2
    ∙ ap (λ rs. at d.shape d.callers rs next.first.items) e3 ∙ ap (at d.shape d.callers regions) e4
    )

-- the script of a draft that is like this one
pub record IsScriptOf (limit : ℕ) (lines : List Line) (setup : Setup) (events : List Event) (ws es : List Line) : Type 0 where
  pub script : IsScriptWithin limit lines setup events
  pub words_are : script.word_lines ≡ ws
  pub events_are : script.event_lines ≡ es

like_next : (limit : ℕ) (lines : List Line) (d next : Draft) (regions : List Region) (first : List ℕ) (events : List Event) (ws es : List Line)
    → next.shape ≡ d.shape → next.callers ≡ d.callers → next.regions.items ≡ regions → next.first.items ≡ first → next.events.items ≡ events
    → IsScriptOf limit lines (record { shape = d.shape; callers = d.callers; regions = regions; first = first }) events ws es
    → IsScriptOf limit lines (setup_of next) next.events.items ws es
like_next limit lines d next regions first events ws es e1 e2 e3 e4 e5 script =
    subst (λ s. IsScriptOf limit lines s next.events.items ws es) (setup_next d next regions first e1 e2 e3 e4)
    (subst (λ evs. IsScriptOf limit lines (record { shape = d.shape; callers = d.callers; regions = regions; first = first }) evs ws es) (sym e5) script)

module _ (limit : ℕ) (lines : List Line) (line : Line) (d next : Draft) (draft : IsDraft limit lines d) where
  with_region : (r : Region) → IsRegionLine (tokens_at line) r → MayAddRegion d r → WithRegion d r next → IsDraft limit (lines ++ line ∷ []) next
  with_region r is may made =
      let s = draft.script in
      let group : IsGroup Regions s.word_lines s.event_lines = subst (λ g. IsGroup g s.word_lines s.event_lines) may.turn draft.group in
      let none_words : s.words ≡ [] = words_none s.words (subst (λ ls. AreWords ls s.words) group.0 s.opens) in
      let whole : lines ≡ s.head ∷ s.region_lines =
      s.whole ∙ ap (λ ls. s.head ∷ (s.region_lines ++ (ls ++ s.event_lines))) group.0 ∙ ap (λ ls. s.head ∷ (s.region_lines ++ ls)) group.1
      ∙ ap (λ ls. s.head ∷ ls) (append-nil s.region_lines) in
      let count = regions_count s.region_lines d.regions.items s.regions in
      let pushed = length_push s.region_lines line in
      let grown : IsScriptOf limit (lines ++ line ∷ [])
      (record { shape = d.shape; callers = d.callers; regions = d.regions.items ++ r ∷ []; first = d.first.items })
      d.events.items [] [] =
      record {
        script = record {
          head = s.head;
          region_lines = s.region_lines ++ line ∷ [];
          word_lines = [];
          event_lines = [];
          whole = ap (λ ls. ls ++ line ∷ []) whole ∙ ap (λ ls. s.head ∷ ls) (sym (append-nil (s.region_lines ++ line ∷ [])));
          ring = s.ring;
          ring_length = s.ring_length;
          signature = s.signature;
          memory = s.memory;
          callers = s.callers;
          life = s.life;
          regions = regions_push s.region_lines d.regions.items line r s.regions is;
          few_regions = omega (arith, count, pushed, may.few);
          well_formed = formed_push d.shape.heap d.regions.items r s.well_formed may.joins;
          words = [];
          opens = tt;
          may_open = λ w known. absurd (omega (arith, known.1));
          first = s.first ∙ ap (after (replicate d.shape.heap 0)) none_words;
          happens = subst (λ ls. AreEvents ls d.events.items) group.1 s.happens;
          few_events = omega arith;
        };
        words_are = refl;
        events_are = refl;
      } in
      let now = like_next limit (lines ++ line ∷ []) d next _ _ _ [] [] made.shape made.callers made.regions made.first made.events grown in
      record {
        script = now.script;
        group = subst (λ g. IsGroup g now.script.word_lines now.script.event_lines) (sym made.group) (now.words_are, now.events_are);
        counted = made.event_lines ∙ draft.counted ∙ ap length group.1 ∙ sym (ap length now.events_are);
      }

  with_word : (w : Word) → IsWordLine (tokens_at line) w → MayAddWord d w → WithWord d w next → IsDraft limit (lines ++ line ∷ []) next
  with_word w is may made =
      let s = draft.script in
      let none : s.event_lines ≡ [] = no_events d.group s.word_lines s.event_lines may.turn draft.group in
      let whole : lines ≡ s.head ∷ (s.region_lines ++ s.word_lines) =
      s.whole ∙ ap (λ ls. s.head ∷ (s.region_lines ++ (s.word_lines ++ ls))) none ∙ ap (λ ls. s.head ∷ (s.region_lines ++ ls)) (append-nil s.word_lines) in
      let grown : IsScriptOf limit (lines ++ line ∷ [])
      (record { shape = d.shape; callers = d.callers; regions = d.regions.items; first = slice_set d.first.items w.addr w.value }) d.events.items
      (s.word_lines ++ line ∷ []) [] =
      record {
        script = record {
          head = s.head;
          region_lines = s.region_lines;
          word_lines = s.word_lines ++ line ∷ [];
          event_lines = [];
          whole = ap (λ ls. ls ++ line ∷ []) whole ∙ ap (λ ls. s.head ∷ ls) (append_assoc s.region_lines s.word_lines (line ∷ []))
              ∙ ap (λ ls. s.head ∷ (s.region_lines ++ ls)) (sym (append-nil (s.word_lines ++ line ∷ [])));
          ring = s.ring;
          ring_length = s.ring_length;
          signature = s.signature;
          memory = s.memory;
          callers = s.callers;
          life = s.life;
          regions = s.regions;
          few_regions = s.few_regions;
          well_formed = s.well_formed;
          words = s.words ++ w ∷ [];
          opens = words_push s.word_lines s.words line w s.opens is;
          may_open = λ x known.
              elim (Contains-push_cases s.words w x known) [
                | inl earlier ↦ s.may_open x earlier
                | inr here ↦ subst (λ y. MayOpenWith d.regions.items d.shape.heap y) here may.opens
              ];
          first = ap (λ ms. slice_set ms w.addr w.value) s.first ∙ sym (after_push (replicate d.shape.heap 0) s.words w);
          happens = subst (λ ls. AreEvents ls d.events.items) none s.happens;
          few_events = omega arith;
        };
        words_are = refl;
        events_are = refl;
      } in
      let now = like_next limit (lines ++ line ∷ []) d next _ _ _ (s.word_lines ++ line ∷ []) [] made.shape made.callers made.regions made.first
      made.events grown in
      let pushed = length_push s.word_lines line in
      let some : 0 < length now.script.word_lines = omega (arith, pushed, ap length now.words_are) in
      record {
        script = now.script;
        group = subst (λ g. IsGroup g now.script.word_lines now.script.event_lines) (sym made.group) (some, now.events_are);
        counted = made.event_lines ∙ draft.counted ∙ ap length none ∙ sym (ap length now.events_are);
      }

  with_events : (a : Asked) → IsAsked (tokens_at line) a → d.event_lines < limit → WithEvents d line.number a next → IsDraft limit (lines ++ line ∷ []) next
  with_events a is may made =
      let s = draft.script in
      let pushed = length_push s.event_lines line in
      let grown : IsScriptOf limit (lines ++ line ∷ []) (record { shape = d.shape; callers = d.callers; regions = d.regions.items; first = d.first.items })
      (d.events.items ++ events_of line.number a) s.word_lines (s.event_lines ++ line ∷ []) =
      record {
        script = record {
          head = s.head;
          region_lines = s.region_lines;
          word_lines = s.word_lines;
          event_lines = s.event_lines ++ line ∷ [];
          whole = ap (λ ls. ls ++ line ∷ []) s.whole ∙ ap (λ ls. s.head ∷ ls)
              (append_assoc s.region_lines (s.word_lines ++ s.event_lines) (line ∷ [])
              ∙ ap (λ ls. s.region_lines ++ ls) (append_assoc s.word_lines s.event_lines (line ∷ [])));
          ring = s.ring;
          ring_length = s.ring_length;
          signature = s.signature;
          memory = s.memory;
          callers = s.callers;
          life = s.life;
          regions = s.regions;
          few_regions = s.few_regions;
          well_formed = s.well_formed;
          words = s.words;
          opens = s.opens;
          may_open = s.may_open;
          first = s.first;
          happens = events_push s.event_lines d.events.items line a s.happens is;
          few_events = omega (arith, pushed, draft.counted, may);
        };
        words_are = refl;
        events_are = refl;
      } in
      let now = like_next limit (lines ++ line ∷ []) d next _ _ _ s.word_lines (s.event_lines ++ line ∷ []) made.shape made.callers made.regions made.first
      made.events grown in
      let some : 0 < length now.script.event_lines = omega (arith, pushed, ap length now.events_are) in
      record {
        script = now.script;
        group = subst (λ g. IsGroup g now.script.word_lines now.script.event_lines) (sym made.group) some;
        counted = omega (arith, made.event_lines, draft.counted, pushed, ap length now.events_are);
      }

  pub added_draft : Adds limit d line.number (tokens_at line) next → IsDraft limit (lines ++ line ∷ []) next
  added_draft (adds_region r is may made) = with_region r is may made
  added_draft (adds_word w is may made) = with_word w is may made
  added_draft (adds_events a is may made) = with_events a is may made
