-- The report on what the memory committed.
use Rattle.std.specs.Prelude.{ℕ, Bool, true, false, List, [], ◌∷◌, ◌++◌, length, codes, decimal}
use Rattle.ring_words.specs.Closing.{Ending}
use Rattle.ring_words.specs.Sealings.{sealing_commits}
use Rattle.mail_words.specs.Key.{KeyNumbers}

-- what contracts see of a closed ring with an index
abbrev pub Closed : Type 0
Closed = Ending (List (List KeyNumbers))

-- how many commits there were, and how many of them sealed a segment
abbrev pub report_line : Closed → List ℕ
report_line closed =
    codes "commits " ++ (decimal (length closed.history) ++ (codes " seals " ++ (decimal (sealing_commits closed.history) ++ codes "\n")))

-- the report, where it is asked for
abbrev pub report_of : Bool → Closed → List (List ℕ)
report_of false closed = []
report_of true closed = report_line closed ∷ []
