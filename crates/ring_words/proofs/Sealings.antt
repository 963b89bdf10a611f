-- Numbers of sealing commits in longer histories, of two passes together, and of all commits.
use Rattle.std.proofs.Common.{◌≡◌, ℕ, suc, ◌+◌, ◌-◌, ◌<◌, ◌≤◌, ◌++◌, List, [], ◌∷◌, length, get_or, Contains, refl, sym, ◌∙◌, ap, arith}
use Rattle.std.specs.List.{sum_by, range_with_len}
use Rattle.std.proofs.lemmas.List.{get_or_append_left, get_or-append-add}
use Rattle.std.proofs.lemmas.List.Sums.{sum_by-cons, sum_by-append, sum_by-le}
use Rattle.std.proofs.lemmas.List.Sorted.{sum_by-IsPermutation}
use Rattle.tx_model.specs.declared.gate.Region.{Region}
use Rattle.tx_model.specs.declared.history.Commit.{Commit}
use Rattle.tx_model.specs.declared.view.PassView.{PassView}
use Rattle.tx_model.specs.History.{IsBeginning}
use Rattle.tx_model.specs.Pass.{AreStamps}
use Rattle.tx_model.specs.Calls.{IsLater, Joined, merged}
use Rattle.tx_model.proofs.lemmas.Histories.{beginning_then}
use Rattle.tx_model.proofs.lemmas.Stamps.{stamps_within, stamps_few, merged_permutes}
use Rattle.ring_words.specs.Sealings.{no_commit, one_if_some, seals_once, sealing_at, seals_of, sealing_commits}

contains_more : {X : Type 0} (x : X) (xs : List X) (y : X) → Contains xs y → Contains (x ∷ xs) y
contains_more x xs y (k, below, at) = (suc k, omega (arith, below), at)

-- a commit that was known is the same in a longer history
sealing_stays : (earlier later : List Commit) (stamp : ℕ) → IsBeginning earlier later → 1 ≤ stamp → stamp ≤ length earlier →
    sealing_at later stamp ≡ sealing_at earlier stamp
sealing_stays earlier later stamp (added, is) some within =
    ap (λ h. sealing_at h stamp) is ∙ ap seals_once (get_or_append_left earlier added no_commit (stamp - 1) (omega (arith, some, within)))

seals_stay_in : (earlier later : List Commit) (stamps : List ℕ) → IsBeginning earlier later →
    ((stamp : ℕ) → Contains stamps stamp → (1 ≤ stamp) × (stamp ≤ length earlier))
    → seals_of later stamps ≡ seals_of earlier stamps
seals_stay_in earlier later [] begins within = refl
seals_stay_in earlier later (stamp ∷ stamps) begins within =
    let here = within stamp (0, omega arith, refl) in
    let first = sealing_stays earlier later stamp begins here.0 here.1 in
    let rest = seals_stay_in earlier later stamps begins (λ other among. within other (contains_more stamp stamps other among)) in
    omega (arith, sum_by-cons (sealing_at later) stamp stamps, sum_by-cons (sealing_at earlier) stamp stamps, first, rest)

pub seals_stay : (earlier later : List Commit) (stamps : List ℕ) → IsBeginning earlier later → AreStamps (length earlier) stamps →
    seals_of later stamps ≡ seals_of earlier stamps
seals_stay earlier later stamps begins are = seals_stay_in earlier later stamps begins (stamps_within (length earlier) stamps are)

-- a pass that knows more has as many
pub seals_later : (old new : PassView) (before now : ℕ) → IsLater old new → AreStamps (length old.history) old.mine →
    before ≡ seals_of old.history old.mine → now ≡ before → now ≡ seals_of new.history new.mine
seals_later old new before now later are counted same =
    same ∙ counted ∙ sym (seals_stay old.history new.history old.mine later.history are) ∙ ap (seals_of new.history) (sym later.mine)

-- nor does a commit that seals nothing change how many there are
pub seals_pushed : (earlier history : List Commit) (commit : Commit) (mine : List ℕ) → IsBeginning earlier history → AreStamps (length earlier) mine →
    commit.sealed ≡ [] → seals_of (history ++ commit ∷ []) (mine ++ (length history + 1) ∷ []) ≡ seals_of earlier mine
seals_pushed earlier history commit mine begins are none =
    let longer : List Commit = history ++ commit ∷ [] in
    let number : ℕ = length history + 1 in
    let last : sealing_at longer number ≡ 0 =
    ap (λ n. seals_once (get_or longer n no_commit)) (let e : length history + 1 - 1 ≡ length history + 0 = omega arith in e)
    ∙ ap seals_once (get_or-append-add history (commit ∷ []) 0 no_commit) ∙ ap one_if_some none in
    omega (
      arith,
      sum_by-append (sealing_at longer) mine (number ∷ []),
      sum_by-cons (sealing_at longer) number [],
      seals_stay earlier longer mine (beginning_then earlier history longer begins (commit ∷ [], refl)) are,
      last,
    )

-- two passes as one have those of both
pub seals_joined : (old other new : PassView) (one two : ℕ) → Joined old other new → AreStamps (length old.history) old.mine →
    AreStamps (length other.history) other.mine
    → one ≡ seals_of old.history old.mine → two ≡ seals_of other.history other.mine → one + two ≡ seals_of new.history new.mine
seals_joined old other new one two both are are' counted counted' =
    let all = sum_by-IsPermutation (sealing_at new.history) (old.mine ++ other.mine) (merged old.mine other.mine) (merged_permutes old.mine other.mine) in
    omega (
      arith,
      all,
      sum_by-append (sealing_at new.history) old.mine other.mine,
      seals_stay old.history new.history old.mine both.history are,
      seals_stay other.history new.history other.mine both.other_history are',
      counted,
      counted',
      ap (seals_of new.history) both.mine,
    )

one_at_most : (regions : List Region) → one_if_some regions ≤ 1
one_at_most [] = omega arith
one_at_most (region ∷ regions) = omega arith

-- there are no more than commits
pub seals_few : (history : List Commit) (stamps : List ℕ) → AreStamps (length history) stamps → seals_of history stamps ≤ length history
seals_few history stamps are =
    omega (
      arith,
      sum_by-le (sealing_at history) 1 stamps (λ i d below. one_at_most (get_or history (get_or stamps i d - 1) no_commit).sealed),
      stamps_few (length history) stamps are,
    )

sums : {X : Type 0} (f : ℕ → ℕ) (g : X → ℕ) (d : X) (xs : List X) (first : ℕ) → ((k : ℕ) → k < length xs → f (first + k) ≡ g (get_or xs k d)) →
    sum_by f (range_with_len first (length xs)) ≡ sum_by g xs
sums f g d [] first same = refl
sums f g d (x ∷ xs) first same =
    let here = same 0 (omega arith) in
    let rest = sums f g d xs (first + 1) (λ k below. ap f (omega arith) ∙ same (suc k) (omega (arith, below))) in
    omega (
      arith,
      sum_by-cons f first (range_with_len (first + 1) (length xs)),
      sum_by-cons g x xs,
      ap f (let e : first + 0 ≡ first = omega arith in e),
      here,
      rest,
    )

-- all numbers have all of them
pub seals_all : (history : List Commit) → seals_of history (range_with_len 1 (length history)) ≡ sealing_commits history
seals_all history = sums (sealing_at history) seals_once no_commit history 1
    (λ k below. ap (λ n. seals_once (get_or history n no_commit)) (let e : 1 + k - 1 ≡ k = omega arith in e))
