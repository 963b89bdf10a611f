-- One more hit of an answer line stands behind a space.
use Rattle.std.proofs.Common.{◌≡◌, ℕ, ◌+◌, ◌<◌, List, [], ◌∷◌, ◌++◌, length, take, get_or, map, sym, ap, ◌∙◌}
use Rattle.std.specs.List.{concat}
use Rattle.std.specs.Prelude.{decimal}
use Rattle.std.proofs.lemmas.List.{take_more, map-append, append_assoc, append-nil}
use Rattle.std.proofs.lemmas.List.Folds.{concat-append}

pub shown-more : (shown hits : List ℕ) (i : ℕ) → i < length hits →
    (shown ++ concat (map (λ hit. 32 ∷ decimal hit) (take i hits))) ++ 32 ∷ decimal (get_or hits i 0) ≡ shown ++ concat
    (map (λ hit. 32 ∷ decimal hit) (take (i + 1) hits))
shown-more shown hits i h =
    let one : ℕ → List ℕ = λ hit. 32 ∷ decimal hit in
    let last = get_or hits i 0 in
    append_assoc shown (concat (map one (take i hits))) (one last)
    ∙ ap (λ l. shown ++ l) (sym (
    ap (λ l. concat (map one l)) (take_more hits i 0 h)
    ∙ ap concat (map-append one (take i hits) (last ∷ []))
    ∙ concat-append (map one (take i hits)) (one last ∷ [])
    ∙ ap (λ l. concat (map one (take i hits)) ++ l) (append-nil (one last))
    ))
