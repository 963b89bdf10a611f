-- Why a line is the first that isn't one of a script.
use Rattle.std.proofs.Common.{◌≡◌, ◌⊎◌, inl, inr, ℕ, ◌*◌, ◌<◌, ◌≤◌, List, [], ◌∷◌, ◌++◌, length, replicate, slice_set, codes, Contains, Option, Some, None, Result, Ok, Err, refl, sym, ◌∙◌, ap, subst, arith, append_assoc, append-nil, length-append}
use Rattle.std.proofs.lemmas.List.{length_push, length-set, length-replicate, same_from_push}
use Rattle.std.proofs.lemmas.List.Elements.{Contains-push}
use Rattle.tx_model.specs.declared.gate.Region.{Region}
use Rattle.tx_model.specs.declared.word.Word.{Word}
use Rattle.tx_model.specs.Memory.{after}
use Rattle.tx_model.specs.Made.{AreWellFormed}
use Rattle.ring_state.specs.declared.setup.Setup.{Setup}
use Rattle.ring_runs.specs.declared.event.Event.{Event}
use Rattle.ring_script.specs.Lines.{Line}
use Rattle.ring_script.specs.Grammar.{IsRingLine}
use Rattle.ring_script.specs.Reading.{IsRegionLine, IsWordLine, IsAsked}
use Rattle.ring_script.specs.declared.reading.Asked.{Asked}
use Rattle.ring_script.specs.declared.draft.Draft.{Draft}
use Rattle.ring_script.specs.declared.draft.Group.{Group}
use Rattle.ring_script.specs.declared.draft.Group.TheVariants.{Regions, Words, Events}
use Rattle.ring_script.specs.declared.draft.Refusal.{Refusal}
use Rattle.ring_script.specs.declared.draft.Refusal.TheVariants as refusal
use Rattle.ring_script.specs.declared.error.ScriptError.{ScriptError}
use Rattle.ring_script.specs.declared.error.ScriptError.TheVariants as script
use Rattle.ring_script.specs.Script.{tokens_at, AreRegions, AreWords, AreEvents, MayOpenWith, IsScriptWithin, IsSomeWithin}
use Rattle.ring_script.specs.Draft.{IsDraft, IsSoFar, IsGroup, IsHeld, IsHeldIf, MayBegin, MayJoin, MayAdd, of_region, of_word, of_events, Beginning, Adding, IsAdded, HasLine, at_line}
use Rattle.ring_script.proofs.Tokens.{number_same, numbers_length}
use Rattle.ring_script.proofs.Said.{head_has, asked_cases}
use Rattle.ring_script.proofs.Asking.{asks_named, few_numbers, numbers_for}
use Rattle.ring_script.proofs.Groups.{Each, HasRegion, HasWord, HasEvents, line_asked, regions_each, words_each, events_each, groups_same, regions_same}
use Rattle.ring_script.proofs.Forming.{formed_last}
use Rattle.ring_script.proofs.Growing.{regions_count, begun_draft, added_draft}

-- ---- the last line of a group
pub record HasLast (lines : List Line) : Type 0 where
  pub front : List Line
  pub last : Line
  pub whole : lines ≡ front ++ last ∷ []

last_of : (first : Line) (lines : List Line) → HasLast (first ∷ lines)
last_of first [] = record { front = []; last = first; whole = refl }
last_of first (next ∷ lines) = let more = last_of next lines in record { front = first ∷ more.front; last = more.last; whole = ap (λ l. first ∷ l) more.whole }

pub last_or_none : (lines : List Line) → (lines ≡ []) ⊎ HasLast lines
last_or_none [] = inl refl
last_or_none (first ∷ lines) = inr (last_of first lines)

pub record RegionsEnd (front : List Line) (last : Line) (regions : List Region) : Type 0 where
  pub before : List Region
  pub region : Region
  pub whole : regions ≡ before ++ region ∷ []
  pub are : AreRegions front before
  pub is : IsRegionLine (tokens_at last) region

pub regions_end : (front : List Line) (last : Line) (regions : List Region) → AreRegions (front ++ last ∷ []) regions → RegionsEnd front last regions
regions_end [] last [] are = absurd are
regions_end [] last (region ∷ []) are = record { before = []; region = region; whole = refl; are = tt; is = are.0 }
regions_end [] last (region ∷ next ∷ regions) are = absurd are.1
regions_end (line ∷ front) last [] are = absurd are
regions_end (line ∷ front) last (region ∷ regions) are =
    let end = regions_end front last regions are.1 in
    record { before = region ∷ end.before; region = end.region; whole = ap (λ rs. region ∷ rs) end.whole; are = (are.0, end.are); is = end.is }

pub record WordsEnd (front : List Line) (last : Line) (words : List Word) : Type 0 where
  pub before : List Word
  pub word : Word
  pub whole : words ≡ before ++ word ∷ []
  pub are : AreWords front before
  pub is : IsWordLine (tokens_at last) word

pub words_end : (front : List Line) (last : Line) (words : List Word) → AreWords (front ++ last ∷ []) words → WordsEnd front last words
words_end [] last [] are = absurd are
words_end [] last (word ∷ []) are = record { before = []; word = word; whole = refl; are = tt; is = are.0 }
words_end [] last (word ∷ next ∷ words) are = absurd are.1
words_end (line ∷ front) last [] are = absurd are
words_end (line ∷ front) last (word ∷ words) are =
    let end = words_end front last words are.1 in
    record { before = word ∷ end.before; word = end.word; whole = ap (λ ws. word ∷ ws) end.whole; are = (are.0, end.are); is = end.is }

events_end : (front : List Line) (last : Line) (events : List Event) → AreEvents (front ++ last ∷ []) events → Each HasEvents front × HasEvents last
events_end [] last events are = (tt, line_asked last events are.0 are.1)
events_end (line ∷ front) last events are =
    let end = events_end front last are.0 are.2 in
    ((line_asked line events are.0 are.1, end.0), end.1)

-- ---- the first line
pub begun_may : (limit : ℕ) (line : Line) → IsSomeWithin limit (line ∷ []) → MayBegin (tokens_at line)
begun_may limit line (setup, events, s) =
    let first : line ≡ s.head = cc (s.whole) in
    let shape = setup.shape in (
      record { ring = shape.ring; bits = 64 * shape.sig_words; words = shape.heap; callers = setup.callers; life = shape.life },
      shape,
      subst (λ l. IsRingLine (tokens_at l) shape.ring (64 * shape.sig_words) shape.heap setup.callers shape.life) (sym first) s.ring,
      record {
        ring = refl;
        bits = refl;
        heap = refl;
        life = refl;
        ring_length = s.ring_length;
        signature = s.signature;
        memory = s.memory;
        callers = s.callers;
        life_span = s.life;
      },
    )

-- ---- a further line
only_regions : (g : Group) (ws es : List Line) → ws ≡ [] → es ≡ [] → IsGroup g ws es → g ≡ Regions
only_regions Regions ws es none also is = refl
only_regions Words ws es none also is = absurd (omega (arith, is.0, ap length none))
only_regions Events ws es none also is = absurd (omega (arith, is, ap length also))

not_events : (g : Group) (ws es : List Line) → es ≡ [] → IsGroup g ws es → g ≡ Events → ⊥
not_events g ws es none is events =
    let some : 0 < length es = subst (λ k. IsGroup k ws es) events is in
    omega (arith, some, ap length none)

memory_same : (tokens : List (List ℕ)) (r b n p l r' b' n' p' l' : ℕ) → IsRingLine tokens r b n p l → IsRingLine tokens r' b' n' p' l' → n ≡ n'
memory_same tokens r b n p l r' b' n' p' l' one other =
    let a = head_has tokens r b n p l one in
    let c = head_has tokens r' b' n' p' l' other in
    number_same _ n n' a.1.words_at.numbered c.1.words_at.numbered

module _ (limit : ℕ) (lines : List Line) (line : Line) (d : Draft) (draft : IsDraft limit lines d) (setup : Setup) (events : List Event)
    (t : IsScriptWithin limit (lines ++ line ∷ []) setup events) where
  record Agrees (rs ws es : List Line) (last : Line) : Type 0 where
    pub heads : draft.script.head ≡ t.head
    pub regions_are : draft.script.region_lines ≡ rs
    pub words_are : draft.script.word_lines ≡ ws
    pub events_are : draft.script.event_lines ≡ es
    pub here : line ≡ last

  -- the lines before the last one fall into the same groups
  agrees : (rs ws es : List Line) (last : Line) → lines ++ line ∷ [] ≡ (t.head ∷ (rs ++ (ws ++ es))) ++ last ∷ [] → Each HasRegion rs → Each HasWord ws
      → Each HasEvents es → Agrees rs ws es last
  agrees rs ws es last whole a b c =
      let parts = same_from_push lines (t.head ∷ (rs ++ (ws ++ es))) line last whole in
      let s = draft.script in
      let same : s.head ∷ (s.region_lines ++ (s.word_lines ++ s.event_lines)) ≡ t.head ∷ (rs ++ (ws ++ es)) = sym s.whole ∙ parts.0 in
      let heads : s.head ≡ t.head = cc (same) in
      let rest : s.region_lines ++ (s.word_lines ++ s.event_lines) ≡ rs ++ (ws ++ es) = cc (same) in
      let groups = groups_same s.region_lines s.word_lines s.event_lines rs ws es (regions_each s.region_lines d.regions.items s.regions)
      (words_each s.word_lines s.words s.opens) (events_each s.event_lines d.events.items s.happens) a b c rest in
      record { heads = heads; regions_are = groups.0; words_are = groups.1; events_are = groups.2; here = parts.1 }

  same_memory : draft.script.head ≡ t.head → d.shape.heap ≡ setup.shape.heap
  same_memory heads =
      let ring = subst (λ l. IsRingLine (tokens_at l) d.shape.ring (64 * d.shape.sig_words) d.shape.heap d.callers d.shape.life) heads draft.script.ring in
      memory_same (tokens_at t.head) _ _ d.shape.heap _ _ _ _ setup.shape.heap _ _ ring t.ring

  by_events : HasLast t.event_lines → MayAdd limit d (tokens_at line)
  by_events end =
      let front = end.front in
      let whole = t.whole ∙ ap (λ ls. t.head ∷ (t.region_lines ++ (t.word_lines ++ ls))) end.whole
      ∙ ap (λ ls. t.head ∷ (t.region_lines ++ ls)) (sym (append_assoc t.word_lines front (end.last ∷ [])))
      ∙ ap (λ ls. t.head ∷ ls) (sym (append_assoc t.region_lines (t.word_lines ++ front) (end.last ∷ []))) in
      let last = events_end front end.last events (subst (λ ls. AreEvents ls events) end.whole t.happens) in
      let agree = agrees t.region_lines t.word_lines front end.last whole (regions_each t.region_lines setup.regions t.regions)
      (words_each t.word_lines t.words t.opens) last.0 in
      let asked = subst HasEvents (sym agree.here) last.1 in
      let count = ap length end.whole ∙ length_push front end.last in
      of_events asked.0 asked.1 (omega (arith, draft.counted, ap length agree.events_are, count, t.few_events))

  by_word : t.event_lines ≡ [] → HasLast t.word_lines → MayAdd limit d (tokens_at line)
  by_word none end =
      let front = end.front in
      let whole = t.whole ∙ ap (λ ls. t.head ∷ (t.region_lines ++ (t.word_lines ++ ls))) none
      ∙ ap (λ ls. t.head ∷ (t.region_lines ++ ls)) (append-nil t.word_lines ∙ end.whole ∙ ap (λ ls. ls ++ end.last ∷ []) (sym (append-nil front)))
      ∙ ap (λ ls. t.head ∷ ls) (sym (append_assoc t.region_lines (front ++ []) (end.last ∷ []))) in
      let last = words_end front end.last t.words (subst (λ ls. AreWords ls t.words) end.whole t.opens) in
      let agree = agrees t.region_lines front [] end.last whole (regions_each t.region_lines setup.regions t.regions)
      (words_each front last.before last.are) tt in
      let is = subst (λ l. IsWordLine (tokens_at l) last.word) (sym agree.here) last.is in
      let s = draft.script in
      let regions : setup.regions ≡ d.regions.items =
      regions_same t.region_lines setup.regions d.regions.items t.regions (subst (λ ls. AreRegions ls d.regions.items) agree.regions_are s.regions) in
      let among = subst (λ ws. Contains ws last.word) (sym last.whole) (Contains-push last.before last.word) in
      let opens = subst (λ n. MayOpenWith setup.regions n last.word) (sym (same_memory agree.heads)) (t.may_open last.word among) in
      of_word last.word is record {
        turn = not_events d.group s.word_lines s.event_lines agree.events_are draft.group;
        opens = subst (λ rs. MayOpenWith rs d.shape.heap last.word) regions opens;
      }

  by_region : t.event_lines ≡ [] → t.word_lines ≡ [] → HasLast t.region_lines → MayAdd limit d (tokens_at line)
  by_region none also end =
      let front = end.front in
      let whole = t.whole ∙ ap (λ ls. t.head ∷ (t.region_lines ++ (t.word_lines ++ ls))) none ∙ ap (λ ls. t.head ∷ (t.region_lines ++ (ls ++ []))) also
      ∙ ap (λ ls. t.head ∷ ls) (append-nil t.region_lines ∙ end.whole ∙ ap (λ ls. ls ++ end.last ∷ []) (sym (append-nil front))) in
      let last = regions_end front end.last setup.regions (subst (λ ls. AreRegions ls setup.regions) end.whole t.regions) in
      let agree = agrees front [] [] end.last whole (regions_each front last.before last.are) tt tt in
      let is = subst (λ l. IsRegionLine (tokens_at l) last.region) (sym agree.here) last.is in
      let s = draft.script in
      let regions : last.before ≡ d.regions.items =
      regions_same front last.before d.regions.items last.are (subst (λ ls. AreRegions ls d.regions.items) agree.regions_are s.regions) in
      let formed : AreWellFormed (replicate setup.shape.heap 0) (last.before ++ last.region ∷ []) =
      subst (AreWellFormed (replicate setup.shape.heap 0)) last.whole t.well_formed in
      let here = subst (λ n. AreWellFormed (replicate n 0) (last.before ++ last.region ∷ [])) (sym (same_memory agree.heads)) formed in
      let joins = subst (λ rs. MayJoin rs last.region d.shape.heap) regions (formed_last d.shape.heap last.before last.region here) in
      let count = ap length end.whole ∙ length_push front end.last in
      let read = regions_count s.region_lines d.regions.items s.regions in
      of_region last.region is record {
        turn = only_regions d.group s.word_lines s.event_lines agree.words_are agree.events_are draft.group;
        few = omega (arith, count, t.few_regions, read, ap length agree.regions_are);
        joins = joins;
      }

  by_head : t.event_lines ≡ [] → t.word_lines ≡ [] → t.region_lines ≡ [] → MayAdd limit d (tokens_at line)
  by_head none also none_too =
      let one = ap length t.whole in
      let parts = length-append t.region_lines (t.word_lines ++ t.event_lines) in
      let more = length-append t.word_lines t.event_lines in
      let some = ap length draft.script.whole in
      let pushed = length_push lines line in
      absurd (omega (arith, one, parts, more, some, pushed, ap length none, ap length also, ap length none_too))

  may_add_by : MayAdd limit d (tokens_at line)
  may_add_by =
      elim (last_or_none t.event_lines) [
        | inr end ↦ by_events end
        | inl none ↦
            elim (last_or_none t.word_lines) [
              | inr end ↦ by_word none end
              | inl also ↦ elim (last_or_none t.region_lines) [ inr end ↦ by_region none also end | inl none_too ↦ by_head none also none_too ]
            ]
      ]

pub may_add : (limit : ℕ) (lines : List Line) (line : Line) (d : Draft) → IsDraft limit lines d → IsSomeWithin limit (lines ++ line ∷ [])
    → MayAdd limit d (tokens_at line)
may_add limit lines line d draft (setup, events, t) = may_add_by limit lines line d draft setup events t

-- ---- a line with too many tokens
begin_short : (tokens : List (List ℕ)) → MayBegin tokens → length tokens ≤ 10
begin_short tokens may = let has = head_has tokens _ _ _ _ _ may.2 in omega (arith, has.0)

asked_short : (tokens : List (List ℕ)) (a : Asked) → IsAsked tokens a → length tokens ≤ 10
asked_short tokens a is =
    elim (asked_cases tokens a is) [
      | inl by ↦
          let event = by.1.request in
          let named = asks_named event.asked a.request.act event.asks in
          let count = numbers_length named.line.given (numbers_for a.request.act) named.line.are in
          let few = few_numbers a.request.act in
          let pushed = length_push by.1.before (codes "run") in
          omega (arith, ap length by.1.whole, pushed, ap length event.whole, ap length named.line.whole, count, few)
      | inr by ↦
          let named = asks_named by.1.asked a.request.act by.1.asks in
          let count = numbers_length named.line.given (numbers_for a.request.act) named.line.are in
          let few = few_numbers a.request.act in
          omega (arith, ap length by.1.whole, ap length named.line.whole, count, few)
    ]

add_short : (limit : ℕ) (d : Draft) (tokens : List (List ℕ)) → MayAdd limit d tokens → length tokens ≤ 10
add_short limit d tokens (of_region r is may) = let count = numbers_length is.given _ is.are in omega (arith, ap length is.whole, count)
add_short limit d tokens (of_word w is may) = let count = numbers_length is.given _ is.are in omega (arith, ap length is.whole, count)
add_short limit d tokens (of_events a is may) = asked_short tokens a is

pub too_long : (limit : ℕ) (lines : List Line) (line : Line) (draft : Option Draft) → IsSoFar limit lines draft → 10 < length (tokens_at line)
    → IsSomeWithin limit (lines ++ line ∷ []) → ⊥
too_long limit lines line None none long some =
    let short = begin_short (tokens_at line) (begun_may limit line (subst (λ ls. IsSomeWithin limit (ls ++ line ∷ [])) none some)) in
    omega (arith, short, long)
too_long limit lines line (Some d) draft long some =
    let short = add_short limit d (tokens_at line) (may_add limit lines line d draft some) in
    omega (arith, short, long)

-- ---- what a line leads to
pub has_first : (limit : ℕ) (lines : List Line) (line : Line) (result : Result Draft ScriptError) → lines ≡ [] → Beginning line.number (tokens_at line) result
    → HasLine limit lines line result
has_first limit lines line (Ok d) none begins = subst (λ ls. IsDraft limit (ls ++ line ∷ []) d) (sym none) (begun_draft limit line d begins)
has_first limit lines line (Err (script.BadLine number)) none begins =
    (begins.0, λ some. begins.1 (begun_may limit line (subst (λ ls. IsSomeWithin limit (ls ++ line ∷ [])) none some)))
has_first limit lines line (Err script.Memory) none begins = tt

pub adding_refused : (limit : ℕ) (d : Draft) (line : ℕ) (tokens : List (List ℕ)) (next : Draft) (refused : Refusal) (error : ScriptError)
    → error ≡ at_line refused line → IsAdded limit d line tokens next (Err refused) → Adding limit d line tokens (Err error)
adding_refused limit d line tokens next refusal.Bad error is none = subst (λ e. Adding limit d line tokens (Err e)) (sym is) (refl, none)
adding_refused limit d line tokens next refusal.Memory error is none = subst (λ e. Adding limit d line tokens (Err e)) (sym is) tt

pub has_further : (limit : ℕ) (lines : List Line) (line : Line) (d : Draft) (result : Result Draft ScriptError) → IsDraft limit lines d
    → Adding limit d line.number (tokens_at line) result → HasLine limit lines line result
has_further limit lines line d (Ok next) draft adds = added_draft limit lines line d next draft adds
has_further limit lines line d (Err (script.BadLine number)) draft adds = (adds.0, λ some. adds.1 (may_add limit lines line d draft some))
has_further limit lines line d (Err script.Memory) draft adds = tt

-- ---- the sizes
pub after_length : (memory : List ℕ) (words : List Word) → length (after memory words) ≡ length memory
after_length memory [] = refl
after_length memory (word ∷ words) = after_length (slice_set memory word.addr word.value) words ∙ length-set memory word.addr word.value

draft_held : (limit : ℕ) (lines : List Line) (d : Draft) → IsDraft limit lines d → IsHeld d
draft_held limit lines d draft =
    let s = draft.script in
    let count : length {A = ℕ} (replicate d.shape.heap 0) ≡ d.shape.heap = length-replicate d.shape.heap 0 in
    record {
      few = s.memory.1;
      room = ap length s.first ∙ after_length (replicate d.shape.heap 0) s.words ∙ count;
      within = λ region among. let lies = s.well_formed.lie_in region among in omega (arith, lies.1, count);
    }

pub held_if : (limit : ℕ) (lines : List Line) (draft : Option Draft) → IsSoFar limit lines draft → IsHeldIf draft
held_if limit lines None is = tt
held_if limit lines (Some d) is = draft_held limit lines d is
