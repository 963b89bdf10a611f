-- The line has two tokens, and the first line of a script has ten.
use Rattle.std.proofs.Common.{◌≡◌, inl, [], ◌∷◌, length, codes, refl, ap, arith}
use Rattle.ring_script.specs.Lines.{Line}
use Rattle.ring_script.specs.Script.{IsSomeWithin, missing, bad, tokens_at, most_event_lines}
use Rattle.ring_replay.proofs.laws.bad_examples.Goals as goal

abbrev begin : Line
begin = record { number = 2; content = codes "0 begin" }

no_script : IsSomeWithin most_event_lines (begin ∷ []) → ⊥
no_script (setup, events, s) =
    let first : begin ≡ s.head = cc (s.whole) in
    let two : 2 ≡ length (tokens_at s.head) = ap (λ (l : Line). length (tokens_at l)) first in
    let ten : length (tokens_at s.head) ≡ 10 = ap length s.ring.whole in
    omega (arith, two, ten)

pub returns-clause-empty : goal.returns-clause-empty
returns-clause-empty c = inl (missing refl refl)

pub returns-clause-first : goal.returns-clause-first
returns-clause-first c = inl (bad [] begin [] refl (inl refl) no_script refl)
