-- Laws of the shares of passes, and worked examples.
use Rattle.std.specs.Prelude.{◌≡◌, ◌≢◌, true, false, List, [], ◌∷◌}
use Rattle.tx_model.specs.Shares.{Name, joined, kept_half, given_half, AreJoined, AreApartWithin, AreSharesApart}

-- the two parts of a split share are apart, each within and from the other
abbrev pub SplitApart : Type 0
SplitApart =
    (share : List Name) → AreApartWithin share → AreApartWithin (kept_half share) × AreApartWithin (given_half share)
    × AreSharesApart (kept_half share) (given_half share)

-- both parts are apart from what the share is apart from
abbrev pub SplitOthers : Type 0
SplitOthers =
    (share other : List Name) → AreSharesApart share other → AreSharesApart (kept_half share) other × AreSharesApart (given_half share) other

-- where two shares are apart, each within and from the other, the joined share is apart within
abbrev pub JoinedApart : Type 0
JoinedApart =
    (share more : List Name) → AreApartWithin share → AreApartWithin more → AreSharesApart share more → AreApartWithin (joined share more)

-- the joined share is apart from what both are apart from
abbrev pub JoinedOthers : Type 0
JoinedOthers =
    (share more other : List Name) → AreSharesApart share other → AreSharesApart more other → AreSharesApart (joined share more) other

-- a share without two halves of one name is joined with any other, and still has no two halves of one name
abbrev pub JoinedNormal : Type 0
JoinedNormal = (share more : List Name) → AreJoined share → AreJoined (joined share more)

-- the joined share has a name where one of the two has
abbrev pub JoinedNotEmpty : Type 0
JoinedNotEmpty = (share more : List Name) → (share ≢ [] → joined share more ≢ []) × (more ≢ [] → joined share more ≢ [])

-- splitting a share brings no two halves of one name into either part
abbrev pub HalvesNormal : Type 0
HalvesNormal =
    (share : List Name) → AreApartWithin share → AreJoined share → AreJoined (kept_half share) × AreJoined (given_half share)

-- both parts of a split share have a name where the share has
abbrev pub HalvesNotEmpty : Type 0
HalvesNotEmpty = (share : List Name) → share ≢ [] → (kept_half share ≢ []) × (given_half share ≢ [])

-- once its two parts are joined, a share that was split is what it was
abbrev pub Rejoined : Type 0
Rejoined =
    (share : List Name) → AreApartWithin share → AreJoined share → share ≢ [] → joined (kept_half share) (given_half share) ≡ share

-- nothing is apart from the whole
abbrev pub WholeAlone : Type 0
WholeAlone = (share other : List Name) → share ≡ [] ∷ [] → AreSharesApart share other → other ≡ []

-- ---- worked examples
-- the pass that a history begins with
abbrev pub whole : List Name
whole = [] ∷ []

abbrev pub SplitExample : Type 0
SplitExample = (kept_half whole ≡ (false ∷ []) ∷ []) × (given_half whole ≡ (true ∷ []) ∷ [])

abbrev pub RejoinedExample : Type 0
RejoinedExample = joined ((false ∷ []) ∷ []) ((true ∷ []) ∷ []) ≡ whole

-- the kept half is split again
abbrev pub SplitAgainExample : Type 0
SplitAgainExample =
    (kept_half ((false ∷ []) ∷ []) ≡ (false ∷ false ∷ []) ∷ []) × (given_half ((false ∷ []) ∷ []) ≡ (true ∷ false ∷ []) ∷ [])

-- the three parts, joined in another order
abbrev pub ThreePartsExample : Type 0
ThreePartsExample =
    joined (joined ((true ∷ []) ∷ []) ((true ∷ false ∷ []) ∷ [])) ((false ∷ false ∷ []) ∷ []) ≡ whole

-- two of the three parts are not the whole
abbrev pub TwoPartsExample : Type 0
TwoPartsExample =
    joined ((true ∷ []) ∷ []) ((true ∷ false ∷ []) ∷ []) ≡ (true ∷ false ∷ []) ∷ (true ∷ []) ∷ []

-- a half alone is not the whole
abbrev pub HalfExample : Type 0
HalfExample = (kept_half whole ≢ whole) × (given_half whole ≢ whole)
