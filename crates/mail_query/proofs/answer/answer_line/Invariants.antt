use Rattle.std.proofs.Common.{◌≡◌, ◌∷◌, ◌++◌, length, take, map}
use Rattle.std.specs.Prelude.{codes, decimal, string_bytes}
use Rattle.std.specs.List.{concat}
use Rattle.mail_query.proofs.answer.answer_line.Given as goal

abbrev pub invariant-loop-hit : goal.invariant-loop-hit
invariant-loop-hit l =
    string_bytes l.line ≡ decimal (length l.hits) ++ codes ":" ++ concat (map (λ hit. 32 ∷ decimal hit) (take l.hit-index l.hits))
