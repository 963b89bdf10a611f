-- Worked examples of what always holds of a pass, and of what never does. Words 2 and 3 are a region, whose gate is word 0.
use Rattle.std.specs.Prelude.{ℕ, List, [], ◌∷◌}
use Rattle.tx_model.specs.declared.pass.PassState.TheVariants.{Active, Stamped}
use Rattle.tx_model.specs.declared.view.Attempt.{Attempt}
use Rattle.tx_model.specs.declared.view.PassView.{PassView}
use Rattle.tx_model.specs.WordLaws.{word}
use Rattle.tx_model.specs.Attempt.{starting_at}
use Rattle.tx_model.specs.Shares.{Name}
use Rattle.tx_model.specs.Holders.{AreNamed, HaveAll, HaveOnce}
use Rattle.tx_model.specs.Calls.{Wrote, left_of, right_of}
use Rattle.tx_model.specs.Pass.{IsPass, IsAttempt}
use Rattle.tx_model.specs.Examples.{open_memory, the_regions, two_commits, owned_region, attempt_to_publish, third, the_pass}
use Rattle.tx_model.specs.CallExamples.{IsAsLong, gate_left, the_made, the_owner}

-- what holds of a pass of this memory
abbrev pub IsKnown : PassView → Attempt → Type 0
IsKnown view attempt = IsPass IsAsLong gate_left the_made view attempt

-- the pass made both commits, and is idle
abbrev pub PassExample : Type 0
PassExample = IsKnown the_pass (starting_at 2)

-- the pass owns the region, in an attempt to publish it
abbrev pub OwnerExample : Type 0
OwnerExample = IsKnown the_owner attempt_to_publish

-- the commit that publishes it is in the history, and isn't complete: the pass still owns the region
abbrev pub the_publisher : PassView
the_publisher =
    record the_owner { state = Stamped; history = two_commits; mine = 1 ∷ 2 ∷ [] }

abbrev pub StampedExample : Type 0
StampedExample = IsKnown the_publisher attempt_to_publish

-- ---- what holds of all passes together: the pass is split, and both commits stay its own
abbrev pub names_of : PassView → List Name
names_of view = view.share

abbrev pub own_of : PassView → List ℕ
own_of view = view.mine

abbrev pub two_passes : List PassView
two_passes = left_of the_pass ∷ right_of the_pass ∷ []

abbrev pub TogetherExample : Type 0
TogetherExample = AreNamed names_of two_passes × HaveAll own_of two_passes 2 × HaveOnce own_of two_passes

-- two passes have one name, and commit 1 is nobody's
abbrev pub NotTogetherExample : Type 0
NotTogetherExample = (¬ AreNamed names_of (the_pass ∷ the_pass ∷ [])) × (¬ HaveAll own_of (right_of the_pass ∷ []) 1)

-- ---- what holds of no pass
-- an idle pass has own commits past its front
abbrev pub PastFrontExample : Type 0
PastFrontExample = ¬ IsKnown (record the_pass { front = 0; share = third }) (starting_at 0)

-- it owns a region twice
abbrev pub OwnedTwiceExample : Type 0
OwnedTwiceExample =
    ¬ IsKnown (record the_owner { owned = owned_region ∷ owned_region ∷ [] }) attempt_to_publish

-- it owns a region that no commit has sealed, and has read the gate as open
abbrev pub NeverSealedExample : Type 0
NeverSealedExample =
    ¬ IsKnown (record the_owner { history = []; front = 0; mine = []; share = third }) (record (starting_at 0) { reads = word 0 1 ∷ [] })

-- it has published a region that it doesn't own
abbrev pub NotOwnedExample : Type 0
NotOwnedExample =
    ¬ IsAttempt open_memory the_regions (record the_owner { owned = [] }) attempt_to_publish

-- it is the only pass, and its attempt reads from a state that isn't the last
abbrev pub OldStateExample : Type 0
OldStateExample = ¬ IsKnown (record the_pass { state = Active }) (starting_at 1)

-- a commit led on from a state in which the owned region had other words
abbrev pub NotFittingExample : Type 0
NotFittingExample =
    ¬ Wrote open_memory (record the_owner { owned = record owned_region { at_sealing = 8 ∷ 8 ∷ [] } ∷ [] }) the_pass attempt_to_publish 2
