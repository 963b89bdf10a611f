-- Lists that lie one after the other in one list of keys.
use Rattle.std.proofs.Common.{◌≡◌, ℕ, suc, zero, ◌+◌, ◌-◌, ◌<◌, ◌≤◌, List, [], ◌∷◌, ◌++◌, length, map, take, drop, slice_range, get_or, refl, sym, ap, ◌∙◌, arith}
use Rattle.std.specs.List.Sorted.{IsStrictlySortedBy}
use Rattle.std.proofs.lemmas.List.{length-take-le, length-drop, take-append-le, drop-append-le, take-append-drop, take_all, drop_at, map_more, map-append}
use Rattle.std.proofs.lemmas.List.Sums.{sum_by-append, sum_by-cons}
use Rattle.std.proofs.lemmas.List.Elements.{All-from_recursion}
use Rattle.std.specs.List.{AllByRecursion}
use Rattle.mail_words.specs.Key.{KeyNumbers, key_cmp, key_of}
use Rattle.mail_words.specs.Words.{words_of, word_list}
use Rattle.mail_words.specs.Lists.{word_lists, postings_in, lists_from, AreEnds, AllRise}
use Rattle.mail_words.proofs.Rising.{rising-strictly}
use Rattle.mbox_cut.specs.Mbox.{bytes_of}
use Rattle.mbox_cut.specs.declared.span.Span.{Span}

pub length-lists_from : (start : ℕ) (ends : List ℕ) (keys : List KeyNumbers) → length (lists_from start ends keys) ≡ length ends
length-lists_from start [] keys = refl
length-lists_from start (end ∷ ends) keys = ap suc (length-lists_from end ends keys)

pub start-le : (start : ℕ) (ends : List ℕ) (last : ℕ) → AreEnds start ends last → start ≤ last
start-le start [] last are = omega (arith, are)
start-le start (end ∷ ends) last are =
    let rest = start-le end ends last are.1 in
    let first = are.0 in
    omega arith

pub ends-at : (start : ℕ) (ends : List ℕ) (last index : ℕ) → AreEnds start ends last → index < length ends
    → (get_or (start ∷ ends) index 0 ≤ get_or ends index 0) × (get_or ends index 0 ≤ last)
ends-at start [] last index are inside = absurd (omega arith)
ends-at start (end ∷ ends) last zero are inside = (are.0, start-le end ends last are.1)
ends-at start (end ∷ ends) last (suc index) are inside = ends-at end ends last index are.1 (omega arith)

pub list-at : (start : ℕ) (ends : List ℕ) (keys : List KeyNumbers) (index : ℕ) → index < length ends
    → get_or (lists_from start ends keys) index [] ≡ slice_range keys (get_or (start ∷ ends) index 0) (get_or ends index 0)
list-at start [] keys index inside = absurd (omega arith)
list-at start (end ∷ ends) keys zero inside = refl
list-at start (end ∷ ends) keys (suc index) inside = list-at end ends keys index (omega arith)

-- where the list of a message lies
pub record LiesAt (ends : List ℕ) (keys : List KeyNumbers) (lists : List (List KeyNumbers)) (index : ℕ) : Type 0 where
  pub inside : index < length ends
  pub order : get_or (0 ∷ ends) index 0 ≤ get_or ends index 0
  pub fits : get_or ends index 0 ≤ length keys
  pub list : slice_range keys (get_or (0 ∷ ends) index 0) (get_or ends index 0) ≡ get_or lists index []

pub lies_at : (ends : List ℕ) (keys : List KeyNumbers) (lists : List (List KeyNumbers)) (message : ℕ) → AreEnds 0 ends (length keys)
    → lists_from 0 ends keys ≡ lists
    → 1 ≤ message → message ≤ length lists → LiesAt ends keys lists (message - 1)
lies_at ends keys lists message are view_is first last =
    let long : length lists ≡ length ends = ap length (sym view_is) ∙ length-lists_from 0 ends keys in
    let inside : message - 1 < length ends = omega arith in
    let at = ends-at 0 ends (length keys) (message - 1) are inside in
    record {
      inside = inside;
      order = at.0;
      fits = at.1;
      list = sym (list-at 0 ends keys (message - 1) inside) ∙ ap (λ ls. get_or ls (message - 1) []) view_is;
    }

length-part : (keys : List KeyNumbers) (start end : ℕ) → start ≤ end → end ≤ length keys → start + length (slice_range keys start end) ≡ end
length-part keys start end order inside =
    let long = length-take-le (end - start) (drop start keys) (omega (arith, length-drop start keys)) in
    omega arith

pub postings-from : (start : ℕ) (ends : List ℕ) (keys : List KeyNumbers) → AreEnds start ends (length keys)
    → start + postings_in (lists_from start ends keys) ≡ length keys
postings-from start [] keys are = omega (arith, are)
postings-from start (end ∷ ends) keys are =
    let order = are.0 in
    let first = length-part keys start end are.0 (start-le end ends (length keys) are.1) in
    let rest = postings-from end ends keys are.1 in
    let split : postings_in (lists_from start (end ∷ ends) keys) ≡ length (slice_range keys start end) + postings_in (lists_from end ends keys) =
    sum_by-cons length (slice_range keys start end) (lists_from end ends keys) in
    omega arith

pub ends-push : (start : ℕ) (ends : List ℕ) (last next : ℕ) → AreEnds start ends last → last ≤ next → AreEnds start (ends ++ next ∷ []) next
ends-push start [] last next are order = (omega (arith, are), refl)
ends-push start (end ∷ ends) last next are order = (are.0, ends-push end ends last next are.1 order)

part-append : (keys more : List KeyNumbers) (start end : ℕ) → start ≤ end → end ≤ length keys
    → slice_range (keys ++ more) start end ≡ slice_range keys start end
part-append keys more start end order inside =
    ap (take (end - start)) (drop-append-le start keys more (omega arith))
    ∙ take-append-le (end - start) (drop start keys) more (omega (arith, length-drop start keys))

last-part : (keys more : List KeyNumbers) (start end : ℕ) → start ≡ length keys → end ≡ length keys + length more → slice_range (keys ++ more) start end ≡ more
last-part keys more start end is_start is_end =
    ap (take (end - start)) (drop_at keys more start (sym is_start)) ∙ take_all (end - start) more (omega arith)

pub lists-push : (start : ℕ) (ends : List ℕ) (keys more : List KeyNumbers) (end : ℕ) → AreEnds start ends (length keys) → end ≡ length keys + length more
    → lists_from start (ends ++ end ∷ []) (keys ++ more) ≡ lists_from start ends keys ++ more ∷ []
lists-push start [] keys more end are is = ap (λ list. list ∷ []) (last-part keys more start end are is)
lists-push start (next ∷ ends) keys more end are is =
    ap (λ list. list ∷ lists_from next (ends ++ end ∷ []) (keys ++ more)) (part-append keys more start next are.0 (start-le next ends (length keys) are.1))
    ∙ ap (λ lists. slice_range keys start next ∷ lists) (lists-push next ends keys more end are.1 is)

-- ---- the lists of spans

pub word_lists-more : (bytes : List ℕ) (spans : List Span) (index : ℕ) (span : Span) → index < length spans
    → word_lists bytes (take (index + 1) spans) ≡ word_lists bytes (take index spans) ++ word_list (bytes_of bytes (get_or spans index span)) ∷ []
word_lists-more bytes spans index span inside = map_more (λ s. word_list (bytes_of bytes s)) spans index span inside

postings-append : (xs ys : List (List KeyNumbers)) → postings_in (xs ++ ys) ≡ postings_in xs + postings_in ys
postings-append xs ys = sum_by-append length xs ys

pub postings-take : (bytes : List ℕ) (spans : List Span) (index : ℕ) → postings_in (word_lists bytes (take index spans)) ≤ postings_in (word_lists bytes spans)
postings-take bytes spans index =
    let list : Span → List KeyNumbers = λ s. word_list (bytes_of bytes s) in
    let whole : word_lists bytes spans ≡ word_lists bytes (take index spans) ++ word_lists bytes (drop index spans) =
    ap (word_lists bytes) (sym (take-append-drop index spans)) ∙ map-append list (take index spans) (drop index spans) in
    let both = postings-append (word_lists bytes (take index spans)) (word_lists bytes (drop index spans)) in
    let same = ap postings_in whole in
    omega arith

all_rise : (bytes : List ℕ) (spans : List Span) → AllByRecursion (IsStrictlySortedBy key_cmp) (word_lists bytes spans)
all_rise bytes [] = tt
all_rise bytes (span ∷ spans) = (rising-strictly (map key_of (words_of (bytes_of bytes span))), all_rise bytes spans)

pub word_lists-rise : (bytes : List ℕ) (spans : List Span) → AllRise (word_lists bytes spans)
word_lists-rise bytes spans = All-from_recursion (IsStrictlySortedBy key_cmp) (word_lists bytes spans) (all_rise bytes spans)

-- ---- a loop that puts one list after the other

-- the lists so far lie in the keys so far
pub record Laid (bytes : List ℕ) (spans : List Span) (index : ℕ) (ends : List ℕ) (keys : List KeyNumbers) : Type 0 where
  pub inside : index < length spans
  pub lists_are : lists_from 0 ends keys ≡ word_lists bytes (take index spans)
  pub ends_are : AreEnds 0 ends (length keys)

pub laid-lists : (bytes : List ℕ) (spans : List Span) (index : ℕ) (ends : List ℕ) (keys : List KeyNumbers) (span : Span) (more : List KeyNumbers) (end : ℕ)
    → Laid bytes spans index ends keys → more ≡ word_list (bytes_of bytes (get_or spans index span)) → end ≡ length keys + length more
    → lists_from 0 (ends ++ end ∷ []) (keys ++ more) ≡ word_lists bytes (take (index + 1) spans)
laid-lists bytes spans index ends keys span more end laid is at =
    lists-push 0 ends keys more end laid.ends_are at
    ∙ ap (λ lists. lists ++ more ∷ []) laid.lists_are
    ∙ ap (λ list. word_lists bytes (take index spans) ++ list ∷ []) is
    ∙ sym (word_lists-more bytes spans index span laid.inside)

pub laid-postings : (bytes : List ℕ) (spans : List Span) (index : ℕ) (ends : List ℕ) (keys : List KeyNumbers) (span : Span) (more : List KeyNumbers)
    → Laid bytes spans index ends keys → more ≡ word_list (bytes_of bytes (get_or spans index span))
    → length keys + length more ≤ postings_in (word_lists bytes spans)
laid-postings bytes spans index ends keys span more laid is =
    let so_far : postings_in (word_lists bytes (take index spans)) ≡ length keys =
    ap postings_in (sym laid.lists_are) ∙ omega (arith, postings-from 0 ends keys laid.ends_are) in
    let one = sum_by-cons {X = List KeyNumbers} length more [] in
    let last : postings_in (word_lists bytes (take (index + 1) spans)) ≡ postings_in (word_lists bytes (take index spans)) + postings_in (more ∷ []) =
    ap postings_in (word_lists-more bytes spans index span laid.inside ∙ ap (λ list. word_lists bytes (take index spans) ++ list ∷ []) (sym is))
    ∙ postings-append (word_lists bytes (take index spans)) (more ∷ []) in
    let all = postings-take bytes spans (index + 1) in
    omega arith
