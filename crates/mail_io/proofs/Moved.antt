-- What moves in several pieces, one after the other.
use Rattle.std.proofs.Common.{◌≡◌, ℕ, ◌+◌, ◌≤◌, List, [], ◌++◌, length, take, drop, sym, ap, ◌∙◌, subst, arith, take-add}
use Rattle.std.proofs.lemmas.List.{drop-drop, take_at, take-append-drop}
use Rattle.std.proofs.lemmas.Grind.{common_steps}
use Rattle.std.proofs.KnownBytes.{Appends-trans}
use Rattle.std.specs.declared.option.Option.{Option}
use Rattle.std.specs.Io.KnownBytes.{Appends}

-- a sink took the first i bytes, and then n of the rest
pub Appends-rest : (a b c : Option (List ℕ)) (bytes rest : List ℕ) (i n : ℕ) → rest ≡ drop i bytes → Appends a b (take i bytes) → Appends b c (take n rest)
    → Appends a c (take (i + n) bytes)
Appends-rest a b c bytes rest i n e p q =
    subst (λ (x : List ℕ). Appends a c x) (ap (λ x. take i bytes ++ take n x) e ∙ sym (take-add i n bytes)) (Appends-trans a b c _ _ p q)

-- n bytes from this position on were put at the front of a buffer
pub drop-moved : (bytes into new : List ℕ) (i n : ℕ) → new ≡ take n (drop i bytes) → n ≤ length (drop i bytes)
    → drop i bytes ≡ take n (new ++ drop n into) ++ drop (i + n) bytes
drop-moved bytes into new i n e h =
    let exactly : length new ≡ n = ap length e ∙ grind (arith, common_steps) in
    sym (take-append-drop n (drop i bytes)) ∙ ap (λ x. x ++ drop n (drop i bytes)) (sym e ∙ sym (take_at new (drop n into) n exactly))
    ∙ ap (λ x. take n (new ++ drop n into) ++ x) (drop-drop n i bytes)

-- a list with nothing behind a position
pub drop-none : (bytes : List ℕ) (i : ℕ) → length (drop i bytes) ≡ 0 → drop i bytes ≡ []
drop-none bytes i e = grind (arith, common_steps)
