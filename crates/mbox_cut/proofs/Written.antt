-- A line that is written as its content and a line feed: where it ends, and what the definitions read there.
use Rattle.std.proofs.Common.{◌≡◌, ℕ, suc, ◌+◌, ◌-◌, ◌<◌, ◌≤◌, Bool, true, false, not, eqb, ltb, ◌&&◌, List, [], ◌∷◌, ◌++◌, length, get_or, take, drop, refl, sym, ap, ◌∙◌, arith, inl, inr, cond, nat_eq}
use Rattle.std.proofs.Math.Seq.{drop-append_seam, drop-cons, get_or-append_seam, take-append_seam, take-append-add}
use lib.Pointwise.{pointwise}
use Rattle.std.specs.List.{ends_with, list_all}
use Rattle.std.proofs.lemmas.Bool.{and_from, and_parts, and_right, cases_Bool, false≢true, lt-ltb, ne_eqb, or_from, or_right}
use Rattle.std.proofs.lemmas.List.{append_assoc, drop-drop, get_or-drop, get_or_append_left, length-append, length-drop}
use Rattle.std.proofs.lemmas.List.Folds.{list_all_at}
use Rattle.mbox_cut.specs.Lines.{EndsLine}
use Rattle.mbox_cut.specs.Mbox.{bytes_of, content_of, starts_line}

-- neither a line feed nor a carriage return
abbrev pub is_plain_byte : ℕ → Bool
is_plain_byte byte = not (eqb byte 10) && not (eqb byte 13)

abbrev pub is_plain : List ℕ → Bool
is_plain content = list_all is_plain_byte content

plain_at : (content : List ℕ) → is_plain content ≡ true → (index : ℕ) → index < length content → is_plain_byte (get_or content index 0) ≡ true
plain_at content plain index below =
    elim (cases_Bool (is_plain_byte (get_or content index 0))) [
      | inl is ↦ is
      | inr not_so ↦ absurd (false≢true (sym (list_all_at is_plain_byte content index 0 below not_so) ∙ plain))
    ]

not_true : (b : Bool) → not b ≡ true → b ≡ false
not_true true is = absurd (false≢true is)
not_true false is = refl

no_feed : (content : List ℕ) → is_plain content ≡ true → (index : ℕ) → index < length content → eqb (get_or content index 0) 10 ≡ false
no_feed content plain index below =
    let byte = get_or content index 0 in
    not_true (eqb byte 10) (and_parts (not (eqb byte 10)) (not (eqb byte 13)) (plain_at content plain index below)).0

no_return : (content : List ℕ) → is_plain content ≡ true → (index : ℕ) → index < length content → eqb 13 (get_or content index 0) ≡ false
no_return content plain index below =
    let byte = get_or content index 0 in
    let is = not_true (eqb byte 13) (and_parts (not (eqb byte 10)) (not (eqb byte 13)) (plain_at content plain index below)).1 in
    ne_eqb 13 byte (λ same. false≢true (sym is ∙ ap (λ b. eqb b 13) (sym same)))

-- ---- its content

ends_in_feed : (content : List ℕ) → ends_with nat_eq (content ++ 10 ∷ []) (10 ∷ []) ≡ true
ends_in_feed content =
    let one : length (content ++ 10 ∷ []) - 1 ≡ length content = omega (arith, length-append content (10 ∷ [])) in
    ap (λ n. pointwise nat_eq (10 ∷ []) (drop n (content ++ 10 ∷ []))) one
    ∙ ap (pointwise nat_eq (10 ∷ [])) (drop-append_seam content (10 ∷ []))

ends_in_no_return : (content : List ℕ) → is_plain content ≡ true → ends_with nat_eq (content ++ 10 ∷ []) (13 ∷ 10 ∷ []) ≡ false
ends_in_no_return [] plain = refl
ends_in_no_return (byte ∷ bytes) plain =
    let content = byte ∷ bytes in
    let line = content ++ 10 ∷ [] in
    let last = length content - 1 in
    let two : length line - 2 ≡ last = omega (arith, length-append content (10 ∷ [])) in
    let below : last < length content = omega arith in
    let at : get_or line last 0 ≡ get_or content last 0 = get_or_append_left content (10 ∷ []) 0 last below in
    ap (λ n. pointwise nat_eq (13 ∷ 10 ∷ []) (drop n line)) two
    ∙ ap (pointwise nat_eq (13 ∷ 10 ∷ [])) (drop-cons line last 0 (omega (arith, length-append content (10 ∷ []))))
    ∙ ap (λ b. b && pointwise nat_eq (10 ∷ []) (drop (suc last) line)) (ap (eqb 13) at ∙ no_return content plain last below)

pub content_of-written : (content : List ℕ) → is_plain content ≡ true → content_of (content ++ 10 ∷ []) ≡ content
content_of-written content plain =
    let line = content ++ 10 ∷ [] in
    let one : length line - 1 ≡ length content = omega (arith, length-append content (10 ∷ [])) in
    ap (λ b. cond b (take (length line - 2) line) (cond (ends_with nat_eq line (10 ∷ [])) (take (length line - 1) line) line)) (ends_in_no_return content plain)
    ∙ ap (λ b. cond b (take (length line - 1) line) line) (ends_in_feed content)
    ∙ ap (λ n. take n line) one
    ∙ take-append_seam content (10 ∷ [])

-- ---- its position

-- from a position on, the bytes are a line with this content and then the rest
pub record HasLine (bytes : List ℕ) (position : ℕ) (content rest : List ℕ) : Type 0 where
  pub within : position ≤ length bytes
  pub is : drop position bytes ≡ content ++ 10 ∷ rest
  pub plain : is_plain content ≡ true

module _ (bytes : List ℕ) (position : ℕ) (content rest : List ℕ) (has : HasLine bytes position content rest) where
  abbrev pub end_of : ℕ
  end_of = position + (length content + 1)

  length-whole : length bytes ≡ end_of + length rest
  length-whole =
      let left = sym (length-drop position bytes) ∙ ap length has.is ∙ length-append content (10 ∷ rest) in
      omega (arith, left, has.within)

  byte_at : (index : ℕ) → get_or bytes (position + index) 0 ≡ get_or (content ++ 10 ∷ rest) index 0
  byte_at index = sym (get_or-drop position bytes index 0) ∙ ap (λ from. get_or from index 0) has.is

  none_between : (other : ℕ) → position < other → other < end_of → starts_line bytes other ≡ false
  none_between other low high =
      let index = other - 1 - position in
      let at : position + index ≡ other - 1 = omega arith in
      let below : index < length content = omega arith in
      let byte : get_or bytes (other - 1) 0 ≡ get_or content index 0 =
      ap (λ k. get_or bytes k 0) (sym at) ∙ byte_at index ∙ get_or_append_left content (10 ∷ rest) 0 index below in
      let other_byte : eqb (get_or bytes (other - 1) 0) 10 ≡ false = ap (λ b. eqb b 10) byte ∙ no_feed content has.plain index below in
      and_right (ltb other (length bytes)) _ (or_from (eqb other 0) _ (ne_eqb other 0 (λ e. omega arith)) other_byte)

  starts_next : end_of < length bytes → starts_line bytes end_of ≡ true
  starts_next more =
      let last : position + length content ≡ end_of - 1 = omega arith in
      let feed : get_or bytes (end_of - 1) 0 ≡ 10 =
      ap (λ k. get_or bytes k 0) (sym last) ∙ byte_at (length content) ∙ get_or-append_seam content 10 rest 0 in
      and_from _ _ (lt-ltb end_of (length bytes) more) (or_right (eqb end_of 0) _ (ap (λ b. eqb b 10) feed))

  pub EndsLine-written : EndsLine bytes position end_of
  EndsLine-written = record {
    after = omega arith;
    within = omega (arith, length-whole);
    none_between = none_between;
    next = starts_next;
  }

  pub bytes_of-written : bytes_of bytes (record { from = position; to = end_of }) ≡ content ++ 10 ∷ []
  bytes_of-written =
      let long : end_of - position ≡ length content + 1 = omega arith in
      ap (λ n. take n (drop position bytes)) long
      ∙ ap (take (length content + 1)) has.is
      ∙ take-append-add content (10 ∷ rest) 1

  pub drop-written : drop end_of bytes ≡ rest
  drop-written =
      sym (drop-drop (length content + 1) position bytes) ∙ ap (drop (length content + 1)) has.is
      ∙ ap (drop (length content + 1)) (sym (append_assoc content (10 ∷ []) rest))
      ∙ ap (λ n. drop n ((content ++ 10 ∷ []) ++ rest)) (sym (length-append content (10 ∷ [])))
      ∙ drop-append_seam (content ++ 10 ∷ []) rest

  pub within-written : end_of ≤ length bytes
  within-written = omega (arith, length-whole)
