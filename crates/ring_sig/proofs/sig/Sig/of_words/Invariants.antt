use Rattle.std.proofs.Common.{◌≡◌, ℕ, ◌<◌, ◌≤◌, length, get_or}
use Rattle.ring_sig.proofs.sig.Sig.of_words.Given as goal

-- the words below j are copied, and the others are 0 yet
abbrev pub invariant-loop-j : goal.invariant-loop-j
invariant-loop-j l =
    (length l.used ≡ 16) × ((k : ℕ) → k < l.j → get_or l.used k 0 ≡ get_or l.from k 0) × ((k : ℕ) → l.j ≤ k → get_or l.used k 0 ≡ 0)
