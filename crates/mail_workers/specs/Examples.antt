-- Worked examples: two passes of a queue of three numbers.
use Rattle.std.specs.Prelude.{[], ◌∷◌}
use Rattle.tx_model.specs.Shares.{kept_half, given_half}
use Rattle.mail_workers.specs.declared.rule.JobView.{JobView}
use Rattle.mail_workers.specs.Jobs.{IsJobs}

-- the first pass was split; one half has drawn 1, and the other 2
abbrev pub one : JobView
one = record { total = 3; drawn = 1 ∷ []; share = kept_half ([] ∷ []) }

abbrev pub other : JobView
other = record { total = 3; drawn = 2 ∷ []; share = given_half ([] ∷ []) }

-- 3 is left
abbrev pub MidwayExample : Type 0
MidwayExample = IsJobs (3 ∷ []) (one ∷ other ∷ [])

-- no two have drawn the same number
abbrev pub DrawnTwiceExample : Type 0
DrawnTwiceExample = ¬ IsJobs (2 ∷ 3 ∷ []) (one ∷ record { total = 3; drawn = 1 ∷ []; share = given_half ([] ∷ []) } ∷ [])

-- none is passed over
abbrev pub SkippedExample : Type 0
SkippedExample = ¬ IsJobs (3 ∷ []) (one ∷ record { total = 3; drawn = []; share = given_half ([] ∷ []) } ∷ [])
