-- Texts that grow by one part.
use Rattle.std.proofs.Common.{◌≡◌, ℕ, ◌+◌, ◌<◌, List, [], ◌∷◌, ◌++◌, length, map, take, get_or, sym, ◌∙◌, ap, append_assoc}
use Rattle.std.specs.List.{concat}
use Rattle.std.proofs.lemmas.List.{append-nil, take_more}

abbrev pub parts : {X : Type 0} → (X → List ℕ) → List X → List ℕ
parts f xs = concat (map f xs)

parts_last : {X : Type 0} (f : X → List ℕ) (xs : List X) (x : X) → parts f (xs ++ x ∷ []) ≡ parts f xs ++ f x
parts_last f [] x = append-nil (f x)
parts_last f (y ∷ xs) x = ap (λ l. f y ++ l) (parts_last f xs x) ∙ sym (append_assoc (f y) (parts f xs) (f x))

pub one_more : {X : Type 0} (f : X → List ℕ) (xs : List X) (i : ℕ) (d : X) → i < length xs
    → parts f (take (i + 1) xs) ≡ parts f (take i xs) ++ f (get_or xs i d)
one_more f xs i d below = ap (parts f) (take_more xs i d below) ∙ parts_last f (take i xs) (get_or xs i d)

-- a text that has grown by the next part
pub grown : (old text after done piece next : List ℕ) → text ≡ old ++ done → after ≡ text ++ piece → next ≡ done ++ piece → after ≡ old ++ next
grown old text after done piece next so_far now is =
    now ∙ ap (λ t. t ++ piece) so_far ∙ append_assoc old done piece ∙ ap (λ l. old ++ l) (sym is)
