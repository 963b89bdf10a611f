-- Worked examples of the region rule. Words 2 and 3 are a region, whose gate is word 0.
use Rattle.std.specs.Prelude.{◌≡◌, [], ◌∷◌}
use Rattle.tx_model.specs.declared.view.Attempt.{Attempt}
use Rattle.tx_model.specs.WordLaws.{word}
use Rattle.tx_model.specs.Rule.{gate_at, AttemptFollows, FollowsRule, MaySeal, with_seal, MayPublish, with_publish}
use Rattle.tx_model.specs.RuleLaws.{IsRuled}
use Rattle.tx_model.specs.Examples.{the_region, the_regions, open_memory, sealing, publishing, two_commits, having, attempt_to_publish}

-- ---- attempts
-- the gate was read as unused, and opened before word 2 was written
abbrev pub opening_region : Attempt
opening_region = having (word 0 0 ∷ []) (word 0 1 ∷ word 2 5 ∷ [])

abbrev pub OpeningFollowsExample : Type 0
OpeningFollowsExample = AttemptFollows open_memory the_regions opening_region

-- word 2 was written, and the gate was never read
abbrev pub UnseenGateExample : Type 0
UnseenGateExample = ¬ AttemptFollows open_memory the_regions (having [] (word 2 5 ∷ []))

-- a packed region isn't opened again
abbrev pub ReopenedExample : Type 0
ReopenedExample = ¬ AttemptFollows open_memory the_regions (having (word 0 3 ∷ []) (word 0 1 ∷ []))

-- ---- commits
abbrev pub SealingFollowsExample : Type 0
SealingFollowsExample = FollowsRule open_memory the_regions sealing

abbrev pub PublishingFollowsExample : Type 0
PublishingFollowsExample = FollowsRule open_memory the_regions publishing

-- word 3 of the region isn't carried
abbrev pub LostWordExample : Type 0
LostWordExample = ¬ FollowsRule open_memory the_regions (record publishing { carry = word 2 5 ∷ [] })

-- a word is carried of a region that isn't published
abbrev pub StrayWordExample : Type 0
StrayWordExample = ¬ FollowsRule open_memory the_regions (record sealing { carry = word 2 5 ∷ [] })

-- the region is sealed, and then published
abbrev pub RuledExample : Type 0
RuledExample = IsRuled open_memory the_regions two_commits

abbrev pub GateAtExample : Type 0
GateAtExample =
    (gate_at open_memory two_commits 0 the_region ≡ 1) × (gate_at open_memory two_commits 1 the_region ≡ 2) × (gate_at open_memory two_commits 2 the_region ≡ 3)

-- ---- sealing and publishing
abbrev pub MaySealExample : Type 0
MaySealExample = MaySeal the_regions (having (word 0 1 ∷ []) []) the_region

-- the attempt has sealed it already
abbrev pub MayNotSealExample : Type 0
MayNotSealExample = ¬ MaySeal the_regions (having (word 0 1 ∷ []) (word 0 2 ∷ [])) the_region

abbrev pub WithSealExample : Type 0
WithSealExample =
    with_seal (having (word 0 1 ∷ []) []) the_region ≡ record (having (word 0 1 ∷ []) (word 0 2 ∷ [])) { sealed = the_regions }

abbrev pub MayPublishExample : Type 0
MayPublishExample = MayPublish the_regions (having (word 0 2 ∷ []) []) the_region

-- the attempt has published it already
abbrev pub MayNotPublishExample : Type 0
MayNotPublishExample = ¬ MayPublish the_regions attempt_to_publish the_region

abbrev pub WithPublishExample : Type 0
WithPublishExample =
    with_publish (having (word 0 2 ∷ []) []) the_region ≡ record (having (word 0 2 ∷ []) (word 0 3 ∷ [])) { published = the_regions }
