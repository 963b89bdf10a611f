-- Worked examples of the report.
use Rattle.std.specs.Prelude.{◌≡◌, List, [], ◌∷◌, codes}
use Rattle.tx_model.specs.declared.gate.Region.{Region}
use Rattle.tx_model.specs.declared.history.Commit.{Commit}
use Rattle.tx_model.specs.declared.word.Word.{Word}
use Rattle.ring_words.specs.Sealings.{no_commit}
use Rattle.mail_index.specs.Indexed.{made_for}
use Rattle.mail_search.specs.Reports.{Closed, report_line}

-- a ring that was closed after these commits
abbrev pub closed_after : List Commit → Closed
closed_after history = record { made = made_for []; history = history; owned = [] }

-- a commit that wrote one word, and one that also sealed a region
abbrev pub writes_once : Commit
writes_once = record no_commit { writes = record { addr = 16; value = 0 } ∷ [] }

abbrev pub seals_one : Commit
seals_one = record writes_once { sealed = record { gate = 17; base = 32; len = 8 } ∷ [] }

abbrev pub NoCommitExample : Type 0
NoCommitExample = report_line (closed_after []) ≡ codes "commits 0 seals 0\n"

-- of three commits one sealed a region
abbrev pub ThreeCommitsExample : Type 0
ThreeCommitsExample = report_line (closed_after (writes_once ∷ seals_one ∷ writes_once ∷ [])) ≡ codes "commits 3 seals 1\n"
