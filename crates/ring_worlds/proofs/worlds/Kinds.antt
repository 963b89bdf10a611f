-- The stage of a caller whose next step is of a kind.
use Rattle.std.proofs.Common.{◌≡◌, ℕ, true, Some, refl, subst}
use Rattle.ring_core.specs.declared.kind.Kind.{Kind}
use Rattle.ring_core.specs.declared.kind.Kind.TheVariants as kind
use Rattle.ring_core.specs.declared.stage.Stage.{Stage}
use Rattle.ring_core.specs.declared.stage.Stage.TheVariants.{Closed, BeginIndex, BeginTag, ReadHeap, Check, StampSlot, StampSwap, Turn, Between}
use Rattle.ring_core.specs.declared.stage.CheckStage.TheVariants.{Index, First, Words, Second}
use Rattle.ring_core.specs.declared.stage.TurnStage.TheVariants.{Filling, Signature, Writing, Earlier, EarlierWords, EarlierAgain, Heap, Before, Complete}
use Rattle.ring_core.specs.Kinds.{kind_at}
use Rattle.ring_core.specs.Request.{is_open}
use Rattle.ring_worlds.proofs.worlds.Seen.{IsLoad}

-- what the kind says of the stage
abbrev pub IsStageOf : ℕ → Kind → Stage → Type 0
IsStageOf index kind.SwapIndex stage = (top : ℕ) × (stage ≡ StampSwap top)
IsStageOf index kind.StoreTagFilling stage = stage ≡ Turn Filling
IsStageOf index kind.StoreSig stage = (j : ℕ) × (stage ≡ Turn (Signature j))
IsStageOf index kind.StoreTagWriting stage = stage ≡ Turn Writing
IsStageOf index kind.StoreHeap stage = (at : ℕ) × (stage ≡ Turn (Heap at))
IsStageOf index kind.StoreTagComplete stage = stage ≡ Turn Complete
IsStageOf index _ stage = IsLoad index stage

module _ (index : ℕ) where
  same_kind : (stage : Stage) (one other : Kind) → IsStageOf index one stage → Some one ≡ Some other → IsStageOf index other stage
  same_kind stage one other is e = subst (λ k. IsStageOf index k stage) (let same : one ≡ other = cc in same) is

  pub stage_of : (stage : Stage) (k : Kind) → kind_at stage ≡ Some k → IsStageOf index k stage
  stage_of Closed k e = absurd cc
  stage_of (Between stage) k e = absurd cc
  stage_of BeginIndex k e = same_kind _ kind.LoadIndex k tt e
  stage_of (BeginTag top at) k e = same_kind _ kind.LoadTag k tt e
  stage_of (ReadHeap addr) k e = same_kind _ kind.LoadHeap k tt e
  stage_of (Check why Index) k e = same_kind _ kind.LoadIndex k tt e
  stage_of (Check why (First walk)) k e = same_kind _ kind.LoadTag k tt e
  stage_of (Check why (Words walk word)) k e = same_kind _ kind.LoadSig k tt e
  stage_of (Check why (Second walk)) k e = same_kind _ kind.LoadTag k tt e
  stage_of (StampSlot top) k e = same_kind _ kind.LoadTag k tt e
  stage_of (StampSwap top) k e = same_kind _ kind.SwapIndex k (top, refl) e
  stage_of (Turn Filling) k e = same_kind _ kind.StoreTagFilling k refl e
  stage_of (Turn (Signature j)) k e = same_kind _ kind.StoreSig k (j, refl) e
  stage_of (Turn Writing) k e = same_kind _ kind.StoreTagWriting k refl e
  stage_of (Turn (Earlier at)) k e = same_kind _ kind.LoadTag k tt e
  stage_of (Turn (EarlierWords at j)) k e = same_kind _ kind.LoadSig k tt e
  stage_of (Turn (EarlierAgain at)) k e = same_kind _ kind.LoadTag k tt e
  stage_of (Turn (Heap at)) k e = same_kind _ kind.StoreHeap k (at, refl) e
  stage_of (Turn Before) k e = same_kind _ kind.LoadTag k tt e
  stage_of (Turn Complete) k e = same_kind _ kind.StoreTagComplete k refl e

  pub opened_of : (stage : Stage) (k : Kind) → kind_at stage ≡ Some k → is_open stage ≡ true
  opened_of Closed k e = absurd cc
  opened_of (Between stage) k e = absurd cc
  opened_of BeginIndex k e = refl
  opened_of (BeginTag top at) k e = refl
  opened_of (ReadHeap addr) k e = refl
  opened_of (Check why stage) k e = refl
  opened_of (StampSlot top) k e = refl
  opened_of (StampSwap top) k e = refl
  opened_of (Turn stage) k e = refl
