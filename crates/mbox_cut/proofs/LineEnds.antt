-- Where a search for a line feed ends a line.
use Rattle.std.proofs.Common.{◌≡◌, ℕ, ◌+◌, ◌-◌, ◌<◌, false, eqb, ltb, List, length, get_or, take, drop, sym, ap, ◌∙◌, arith}
use Rattle.std.proofs.lemmas.Bool.{and_from, and_right, or_from, or_right, ne_eqb, lt-ltb, false_from_ne_true}
use Rattle.std.proofs.lemmas.List.{take_rest, get_or-drop, length-drop}
use Rattle.bstr.specs.Find.{Nowhere, NoneBefore, Passes, is_byte}
use Rattle.mbox_cut.specs.Lines.{EndsLine}
use Rattle.mbox_cut.specs.Mbox.{starts_line}

-- the bytes from the start of a line on
abbrev rest_from : List ℕ → ℕ → List ℕ
rest_from bytes start = take (length bytes - start) (drop start bytes)

module _ (bytes : List ℕ) (start : ℕ) where
  length-rest_from : length (rest_from bytes start) ≡ length bytes - start
  length-rest_from = ap length (take_rest bytes start) ∙ length-drop start bytes

  get_or-rest_from : (k : ℕ) → get_or (rest_from bytes start) k 0 ≡ get_or bytes (start + k) 0
  get_or-rest_from k = ap (λ rest. get_or rest k 0) (take_rest bytes start) ∙ get_or-drop start bytes k 0

  -- no line starts after the start and up to a position with no line feed before it
  none_between-feeds : (n : ℕ) → Nowhere (Passes (is_byte 10) (rest_from bytes start)) 0 n → (position : ℕ) → start < position → position < start + n + 1
      → starts_line bytes position ≡ false
  none_between-feeds n none position low high =
      let k : start + (position - 1 - start) ≡ position - 1 = omega arith in
      let at = get_or-rest_from (position - 1 - start) ∙ ap (λ i. get_or bytes i 0) k in
      let no_feed : eqb (get_or bytes (position - 1) 0) 10 ≡ false =
      false_from_ne_true (eqb (get_or bytes (position - 1) 0) 10)
      (λ is. none (position - 1 - start) (omega arith) (omega arith) (ap (λ byte. eqb byte 10) at ∙ is))
      in
      and_right (ltb position (length bytes)) _ (or_from (eqb position 0) _ (ne_eqb position 0 (λ e. omega arith)) no_feed)

  pub EndsLine-found : (feed : ℕ) → NoneBefore (Passes (is_byte 10) (rest_from bytes start)) 0 (length (rest_from bytes start)) feed
      × Passes (is_byte 10) (rest_from bytes start) feed → EndsLine bytes start (start + feed + 1)
  EndsLine-found feed found = record {
    after = omega arith;
    within = omega (arith, length-rest_from, found.0.high);
    none_between = none_between-feeds feed found.0.before;
    next = λ more.
        let last : start + feed ≡ start + feed + 1 - 1 = omega arith in
        let at = get_or-rest_from feed ∙ ap (λ i. get_or bytes i 0) last in
        and_from _ _ (lt-ltb (start + feed + 1) (length bytes) more) (or_right (eqb (start + feed + 1) 0) _ (sym (ap (λ byte. eqb byte 10) at) ∙ found.1));
  }

  pub EndsLine-none : start < length bytes → Nowhere (Passes (is_byte 10) (rest_from bytes start)) 0 (length (rest_from bytes start))
      → EndsLine bytes start (length bytes)
  EndsLine-none below none = record {
    after = below;
    within = omega arith;
    none_between = λ position low high. none_between-feeds (length (rest_from bytes start)) none position low (omega (arith, length-rest_from));
    next = λ more. absurd (omega arith);
  }
