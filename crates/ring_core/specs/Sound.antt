-- what always holds of one caller's plain state, by its stage in a request
use Rattle.std.specs.Prelude.{◌≡◌, ◌≢◌, ℕ, ◌-◌, ◌<◌, ◌≤◌, List, [], length, replicate, All}
use Rattle.tx_model.specs.declared.pass.PassState.{PassState}
use Rattle.tx_model.specs.declared.pass.PassState.TheVariants as state
use Rattle.tx_model.specs.declared.pass.TheConstants.{MAX_WRITES}
use Rattle.tx_model.specs.declared.word.Word.{Word}
use Rattle.tx_model.specs.Words.{addresses, AreApart}
use Rattle.ring_sig.specs.Signature.{IsSignatureOf}
use Rattle.ring_core.specs.declared.shape.Shape.{Shape}
use Rattle.ring_core.specs.declared.caller.Caller.{Caller}
use Rattle.ring_core.specs.declared.stage.Stage.{Stage}
use Rattle.ring_core.specs.declared.stage.Stage.TheVariants.{Closed, BeginIndex, BeginTag, ReadHeap, Check, StampSlot, StampSwap, Turn, Between}
use Rattle.ring_core.specs.declared.stage.Purpose.{Purpose}
use Rattle.ring_core.specs.declared.stage.Purpose.TheVariants.{Read, Stamp}
use Rattle.ring_core.specs.declared.stage.CheckStage.{CheckStage}
use Rattle.ring_core.specs.declared.stage.CheckStage.TheVariants.{Index, First, Words, Second}
use Rattle.ring_core.specs.declared.stage.Walk.{Walk}
use Rattle.ring_core.specs.declared.stage.TurnStage.{TurnStage}
use Rattle.ring_core.specs.declared.stage.TurnStage.TheVariants.{Signature, Earlier, EarlierWords, EarlierAgain, Heap, Before}

-- the sizes of a caller's parts, and that its write set has each address once, in the heap, and its write signature the places of these and no other
pub record IsSized (shape : Shape) (start : ℕ) (read_sig : List ℕ) (writes : List Word) (write_sig loaded : List ℕ) : Type 0 where
  pub lived : start ≤ shape.life
  pub reads : length read_sig ≡ shape.sig_words
  pub fits : length writes ≤ MAX_WRITES
  pub apart : AreApart writes
  pub within : All (λ write. write.addr < shape.heap) writes
  pub wrote : length write_sig ≡ shape.sig_words
  pub signed : IsSignatureOf (addresses writes) write_sig
  pub scratch : length loaded ≡ 16

module _ (shape : Shape) where
  -- a walk through the entries after the start
  pub record IsWalk (start : ℕ) (purpose : Purpose) (walk : Walk) : Type 0 where
    pub after : start < walk.at
    pub within : walk.at ≤ walk.top
    pub lived : walk.top ≤ shape.life
    pub near : walk.top - start ≤ shape.ring
    pub kept : walk.at ≤ walk.candidate
    pub most : walk.candidate ≤ walk.top
    pub free : purpose ≡ Stamp → walk.top < shape.life

  abbrev pub IsCheckStage : ℕ → Purpose → CheckStage → Type 0
  IsCheckStage start purpose Index = Unit {0}
  IsCheckStage start purpose (First walk) = IsWalk start purpose walk
  IsCheckStage start purpose (Words walk word) = IsWalk start purpose walk × (word < shape.sig_words)
  IsCheckStage start purpose (Second walk) = IsWalk start purpose walk

  -- a stamp that was checked up to `top`
  pub record IsStamping (now : PassState) (writes : List Word) (start top : ℕ) : Type 0 where
    pub active : now ≡ state.Active
    pub wrote : 0 < length writes
    pub after : start ≤ top
    pub near : top - start ≤ shape.ring
    pub free : top < shape.life

  -- a stamped caller
  pub record IsStamped (now : PassState) (writes : List Word) (start stamp : ℕ) : Type 0 where
    pub stamped : now ≡ state.Stamped
    pub wrote : 0 < length writes
    pub after : start < stamp
    pub near : stamp - 1 - start ≤ shape.ring
    pub lived : stamp ≤ shape.life

  abbrev pub IsEarlier : Caller → ℕ → Type 0
  IsEarlier c at = (c.start < at) × (at < c.stamp)

  abbrev pub IsTurnStage : Caller → TurnStage → Type 0
  IsTurnStage c (Signature word) = word < shape.sig_words
  IsTurnStage c (Earlier at) = IsEarlier c at
  IsTurnStage c (EarlierWords at word) = IsEarlier c at × (word < shape.sig_words)
  IsTurnStage c (EarlierAgain at) = IsEarlier c at
  IsTurnStage c (Heap index) = index < length c.writes
  IsTurnStage c Before = 2 ≤ c.stamp
  IsTurnStage c _ = Unit {0}

  abbrev pub IsPurpose : Caller → Purpose → Type 0
  IsPurpose c (Read addr value) = Unit {0}
  IsPurpose c Stamp = 0 < length c.writes

  abbrev pub IsStage : Caller → Stage → Type 0
  IsStage c Closed = c.state ≢ state.Stamped
  IsStage c BeginIndex = c.state ≡ state.Idle
  IsStage c (BeginTag top at) = (c.state ≡ state.Idle) × (top ≤ shape.life) × (at ≤ top) × (top - shape.ring < at)
  IsStage c (ReadHeap addr) = (c.state ≡ state.Active) × (addr < shape.heap)
  IsStage c (Check purpose stage) = (c.state ≡ state.Active) × IsPurpose c purpose × IsCheckStage c.start purpose stage
  IsStage c (StampSlot top) = IsStamping c.state c.writes c.start top
  IsStage c (StampSwap top) = IsStamping c.state c.writes c.start top
  IsStage c (Turn stage) = IsStamped c.state c.writes c.start c.stamp × IsTurnStage c stage
  IsStage c (Between stage) = IsStamped c.state c.writes c.start c.stamp × IsTurnStage c stage

  -- a caller with no attempt keeps nothing of the last one
  pub record IsResting (c : Caller) : Type 0 where
    pub reads : c.read_sig ≡ replicate shape.sig_words 0
    pub writes : c.writes ≡ []
    pub wrote : c.write_sig ≡ replicate shape.sig_words 0
    pub stamp : c.stamp ≡ 0

  pub record IsSound (c : Caller) : Type 0 where
    pub sized : IsSized shape c.start c.read_sig c.writes c.write_sig c.loaded
    pub idle : c.state ≡ state.Idle → IsResting c
    pub unstamped : c.state ≢ state.Stamped → c.stamp ≡ 0
    pub stage : IsStage c c.stage
