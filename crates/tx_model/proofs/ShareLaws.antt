-- What splitting and joining shares leaves apart, joined and whole.
use Rattle.std.proofs.Common.{◌≡◌, ◌≢◌, Bool, true, false, List, [], ◌∷◌, refl, sym, ◌∙◌, ap, subst, inl, inr}
use Rattle.std.specs.Prelude.{Contains, not}
use Rattle.std.proofs.lemmas.List.{append-nil}
use Rattle.std.proofs.lemmas.Bool.{cond_both, cond-true, cond-false, false≢true}
use Rattle.tx_model.specs.Shares.{Name, same_name, has_name, without, sibling, with_name, joined, kept_half, given_half, AreJoined, AreNamesApart, AreApartWithin, AreSharesApart}
use Rattle.tx_model.specs.ShareLaws.{SplitApart, SplitOthers, JoinedApart, JoinedOthers, JoinedNormal, JoinedNotEmpty, HalvesNormal, HalvesNotEmpty, Rejoined, WholeAlone}
use Rattle.tx_model.proofs.ShareNames.{contains_none, contains_first, contains_more, contains_cases, has_name_contains, contains_has_name, has_no_name, has_not_name, without_contains, without_first, not_not, sibling_differs, ending_more, apart_other_way, apart_half, halves_apart, apart_whole, apart_within_pair, apart_kept}

-- ---- a share that is split
pub split_apart : SplitApart
split_apart [] apart = (tt, tt, λ name next has also. absurd (contains_none name has))
split_apart (first ∷ share) apart =
    ((λ other has. apart_half false first other (apart.0 other has), apart.1), (λ other has. absurd (contains_none other has), tt), across)
  where
    across : AreSharesApart (kept_half (first ∷ share)) (given_half (first ∷ share))
    across name next has also =
        elim (contains_cases (true ∷ first) [] next also) [
          | inl given ↦
              subst (AreNamesApart name) given
              (elim (contains_cases (false ∷ first) share name has) [
                | inl kept ↦ subst (λ half. AreNamesApart half (true ∷ first)) kept (halves_apart false true first false≢true)
                | inr more ↦ apart_other_way (true ∷ first) name (apart_half true first name (apart.0 name more))
              ])
          | inr none ↦ absurd (contains_none next none)
        ]

pub split_others : SplitOthers
split_others [] other apart = (apart, apart)
split_others (first ∷ share) other apart = (
  λ name next has also. elim (contains_cases (false ∷ first) share name has) [
    | inl half ↦ subst (λ part. AreNamesApart part next) half (apart_half false first next (whole next also))
    | inr more ↦ apart name next (contains_more first share name more) also
  ],
  λ name next has also. elim (contains_cases (true ∷ first) [] name has) [
    | inl half ↦ subst (λ part. AreNamesApart part next) half (apart_half true first next (whole next also))
    | inr none ↦ absurd (contains_none name none)
  ],
)
  where
    whole : (next : Name) → Contains other next → AreNamesApart first next
    whole next also = apart first next (contains_first first share) also

-- ---- shares that are joined
-- with a name come only names that are apart from what all were apart from
with_name_others : (name : Name) (share : List Name) (next : Name) → AreNamesApart name next → ((each : Name) → Contains share each → AreNamesApart each next)
    → (each : Name) → Contains (with_name share name) each → AreNamesApart each next
with_name_others [] share next one all =
    λ each has.
    elim (contains_cases [] share each has) [
      | inl same ↦ subst (λ part. AreNamesApart part next) same one
      | inr more ↦ all each more
    ]
with_name_others (letter ∷ name) share next one all =
    cond_both (has_name share (sibling letter name)) (with_name (without share (sibling letter name)) name) ((letter ∷ name) ∷ share)
    (λ list. (each : Name) → Contains list each → AreNamesApart each next)
    (λ there. with_name_others name (without share (sibling letter name)) next
    (apart_whole letter name next one (all (sibling letter name) (has_name_contains share (sibling letter name) there)))
    (λ each has. all each (without_contains share (sibling letter name) each has).0))
    (λ missing each has. elim (contains_cases (letter ∷ name) share each has) [
      | inl same ↦ subst (λ part. AreNamesApart part next) same one
      | inr more ↦ all each more
    ])

with_name_within : (name : Name) (share : List Name) → AreApartWithin share → ((each : Name) → Contains share each → AreNamesApart name each)
    → AreApartWithin (with_name share name)
with_name_within [] share within one = (one, within)
with_name_within (letter ∷ name) share within one =
    cond_both (has_name share (sibling letter name)) (with_name (without share (sibling letter name)) name) ((letter ∷ name) ∷ share) AreApartWithin
    (λ there. with_name_within name (without share (sibling letter name)) (apart_kept (λ other. not (same_name (sibling letter name) other)) share within)
    (λ each has.
    let kept = without_contains share (sibling letter name) each has in
    apart_whole letter name each (one each kept.0)
    (apart_within_pair share (sibling letter name) each within (has_name_contains share (sibling letter name) there) kept.0 kept.1)))
    (λ missing. (one, within))

joined_within : (more share : List Name) → AreApartWithin share → AreApartWithin more → AreSharesApart share more → AreApartWithin (joined share more)
joined_within [] share within also across = within
joined_within (name ∷ more) share within also across =
    joined_within more (with_name share name)
    (with_name_within name share within (λ each has. apart_other_way each name (across each name has (contains_first name more)))) also.1
    (λ each next has there.
    with_name_others name share next (also.0 next there) (λ old among. across old next among (contains_more name more next there)) each has)

joined_others : (more share other : List Name) → AreSharesApart share other → AreSharesApart more other → AreSharesApart (joined share more) other
joined_others [] share other one two = one
joined_others (name ∷ more) share other one two =
    joined_others more (with_name share name) other
    (λ each next has there.
    with_name_others name share next (two name next (contains_first name more) there) (λ old among. one old next among there) each has)
    (λ each next has there. two each next (contains_more name more each has) there)

pub joined_apart : JoinedApart
joined_apart share more within also across = joined_within more share within also across

pub joined_apart_others : JoinedOthers
joined_apart_others share more other one two = joined_others more share other one two

-- ---- shares with no two halves of one name
-- the other half of the name is not in the share
abbrev IsLone : Name → List Name → Type 0
IsLone name share = (letter : Bool) (rest : Name) → name ≡ letter ∷ rest → Contains share (sibling letter rest) → ⊥

joined_with_lone : (name : Name) (share : List Name) → AreJoined share → IsLone name share → AreJoined (name ∷ share)
joined_with_lone name share normal lone letter rest has also =
    elim (contains_cases name share (letter ∷ rest) has) [
      | inl same ↦
          elim (contains_cases name share (sibling letter rest) also) [
            | inl too ↦ sibling_differs letter rest (sym too ∙ same)
            | inr more ↦ lone letter rest same more
          ]
      | inr more ↦
          elim (contains_cases name share (sibling letter rest) also) [
            | inl too ↦ lone (not letter) rest too (subst (λ first. Contains share (first ∷ rest)) (sym (not_not letter)) more)
            | inr further ↦ normal letter rest more further
          ]
    ]

lone_whole : (share : List Name) → IsLone [] share
lone_whole share letter rest is has = cc

lone_missing : (letter : Bool) (name : Name) (share : List Name) → (Contains share (sibling letter name) → ⊥) → IsLone (letter ∷ name) share
lone_missing letter name share missing first rest is has =
    let same : sibling first rest ≡ sibling letter name = cc in
    missing (subst (Contains share) same has)

joined_without : (share : List Name) (name : Name) → AreJoined share → AreJoined (without share name)
joined_without share name normal letter rest has also =
    normal letter rest (without_contains share name (letter ∷ rest) has).0 (without_contains share name (sibling letter rest) also).0

joined_rest : (name : Name) (share : List Name) → AreJoined (name ∷ share) → AreJoined share
joined_rest name share normal letter rest has also =
    normal letter rest (contains_more name share (letter ∷ rest) has) (contains_more name share (sibling letter rest) also)

lone_first : (name : Name) (share : List Name) → AreJoined (name ∷ share) → IsLone name share
lone_first name share normal letter rest is has =
    normal letter rest (subst (Contains (name ∷ share)) is (contains_first name share)) (contains_more name share (sibling letter rest) has)

with_name_joined : (name : Name) (share : List Name) → AreJoined share → AreJoined (with_name share name)
with_name_joined [] share normal = joined_with_lone [] share normal (lone_whole share)
with_name_joined (letter ∷ name) share normal =
    cond_both (has_name share (sibling letter name)) (with_name (without share (sibling letter name)) name) ((letter ∷ name) ∷ share) AreJoined
    (λ there. with_name_joined name (without share (sibling letter name)) (joined_without share (sibling letter name) normal))
    (λ missing. joined_with_lone (letter ∷ name) share normal (lone_missing letter name share (has_no_name share (sibling letter name) missing)))

joined_both : (more share : List Name) → AreJoined share → AreJoined (joined share more)
joined_both [] share normal = normal
joined_both (name ∷ more) share normal = joined_both more (with_name share name) (with_name_joined name share normal)

pub joined_normal : JoinedNormal
joined_normal share more normal = joined_both more share normal

-- ---- shares that are not empty
not_empty : {X : Type 0} (x : X) (xs : List X) → x ∷ xs ≢ []
not_empty x xs is = cc

with_name_some : (name : Name) (share : List Name) → with_name share name ≢ []
with_name_some [] share = not_empty [] share
with_name_some (letter ∷ name) share =
    cond_both (has_name share (sibling letter name)) (with_name (without share (sibling letter name)) name) ((letter ∷ name) ∷ share) (λ list. list ≢ [])
    (λ there. with_name_some name (without share (sibling letter name)))
    (λ missing. not_empty (letter ∷ name) share)

joined_some : (more share : List Name) → share ≢ [] → joined share more ≢ []
joined_some [] share some = some
joined_some (name ∷ more) share some = joined_some more (with_name share name) (with_name_some name share)

joined_some_more : (more share : List Name) → more ≢ [] → joined share more ≢ []
joined_some_more [] share some = absurd (some refl)
joined_some_more (name ∷ more) share some = joined_some more (with_name share name) (with_name_some name share)

pub joined_not_empty : JoinedNotEmpty
joined_not_empty share more = (joined_some more share, joined_some_more more share)

-- ---- the halves of such a share
pub halves_normal : HalvesNormal
halves_normal [] apart normal = (normal, normal)
halves_normal (first ∷ share) apart normal = (
  joined_with_lone (false ∷ first) share (joined_rest first share normal)
      (lone_missing false first share (λ has. (apart.0 (true ∷ first) has).0 (ending_more true first))),
  joined_with_lone (true ∷ first) [] (λ letter rest has also. contains_none (letter ∷ rest) has)
      (lone_missing true first [] (contains_none (false ∷ first))),
)

pub halves_not_empty : HalvesNotEmpty
halves_not_empty [] some = (some, some)
halves_not_empty (first ∷ share) some = (not_empty (false ∷ first) share, not_empty (true ∷ first) [])

-- ---- halves that come together again
with_lone_name : (name : Name) (share : List Name) → IsLone name share → with_name share name ≡ name ∷ share
with_lone_name [] share lone = refl
with_lone_name (letter ∷ name) share lone =
    cond-false (has_name share (sibling letter name)) (with_name (without share (sibling letter name)) name) ((letter ∷ name) ∷ share)
    (has_not_name share (sibling letter name) (lone letter name refl))

pub rejoined : Rejoined
rejoined [] apart normal some = absurd (some refl)
rejoined (first ∷ share) apart normal some =
    cond-true (has_name kept (false ∷ first)) (with_name (without kept (false ∷ first)) first) ((true ∷ first) ∷ kept)
    (contains_has_name kept (false ∷ first) (contains_first (false ∷ first) share))
    ∙ ap (λ rest. with_name rest first)
    (without_first share (false ∷ first) (λ has. (apart.0 (false ∷ first) has).0 (ending_more false first)))
    ∙ with_lone_name first share (lone_first first share normal)
  where
    kept : List Name
    kept = (false ∷ first) ∷ share

-- ---- the whole
pub whole_alone : WholeAlone
whole_alone share [] is apart = refl
whole_alone share (name ∷ more) is apart =
    absurd ((apart [] name (subst (λ list. Contains list []) (sym is) (contains_first [] [])) (contains_first name more)).0 (name, sym (append-nil name)))
