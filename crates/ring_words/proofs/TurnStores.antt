-- The steps of a turn that is known to be at a stage.
use Rattle.std.proofs.Common.{◌≡◌, ◌≢◌, ℕ, ◌+◌, ◌-◌, ◌*◌, ◌<◌, ◌≤◌, ◌==◌, nat_lt, nat_le, List, Some, length, refl, sym, ◌∙◌, ap, subst, arith}
use Rattle.std.proofs.lemmas.Bool.{cond_both, eqb-true, eqb-false, ltb-true, ltb-false, leb-false}
use Rattle.std.proofs.lemmas.Bool.Decides.{nat_tests}
use Rattle.atomic_table.specs.Seated.{TableId}
use Rattle.tx_model.specs.declared.pass.PassState.TheVariants as state
use Rattle.ring_core.specs.declared.shape.Shape.{Shape}
use Rattle.ring_core.specs.declared.caller.Caller.{Caller}
use Rattle.ring_core.specs.declared.action.Progress.{Progress}
use Rattle.ring_core.specs.declared.action.Progress.TheVariants as answer
use Rattle.ring_core.specs.declared.kind.Kind.TheVariants as kind
use Rattle.ring_core.specs.declared.stage.Stage.{Stage}
use Rattle.ring_core.specs.declared.stage.Stage.TheVariants.{Closed, BeginIndex, BeginTag, ReadHeap, Check, StampSlot, StampSwap, Turn, Between}
use Rattle.ring_core.specs.declared.stage.CheckStage.TheVariants.{Index, First, Words, Second}
use Rattle.ring_core.specs.declared.stage.TurnStage.{TurnStage}
use Rattle.ring_core.specs.declared.stage.TurnStage.TheVariants.{Filling, Signature, Writing, Earlier, EarlierWords, EarlierAgain, Heap, Before, Complete}
use Rattle.ring_sig.specs.Signature.{IsWordCount}
use Rattle.ring_core.specs.Shape.{IsShape}
use Rattle.ring_core.specs.Kinds.{kind_at}
use Rattle.ring_core.specs.Machine.{Machine, at_stage, steps_of}
use Rattle.ring_core.specs.Outcomes.{Outcome, made, absorbed}
use Rattle.ring_core.specs.Steps.{steps_at}
use Rattle.ring_words.specs.declared.table.About.{About}
use Rattle.ring_words.specs.declared.pass.RingPass.{RingPass}
use Rattle.ring_words.specs.Pass.{IsSeated, Found, Stepped, with_local, staged}
use Rattle.ring_words.specs.Turns.{IsTurn, IsTurning, TurnAnswered, after_words}
use Rattle.ring_words.proofs.Seated.{seated_after}
use Rattle.ring_words.proofs.Staged.{taken}
use Rattle.ring_words.proofs.Turning.{turning_itself, turning_then, turning_after, turn_answered}

some_count : (words : ℕ) → IsWordCount words → 1 ≤ words
some_count words h = grind (arith, nat_tests)

pub some_words : (shape : Shape) → IsShape shape → 1 ≤ shape.sig_words
some_words shape limits = some_count shape.sig_words limits.words

-- ---- which stage it is, by the kind of its step
pub fills_at : (stage : Stage) → kind_at stage ≡ Some kind.StoreTagFilling → stage ≡ Turn Filling
fills_at Closed is = absurd (let e = is in cc)
fills_at BeginIndex is = absurd (let e = is in cc)
fills_at (BeginTag top entry) is = absurd (let e = is in cc)
fills_at (ReadHeap addr) is = absurd (let e = is in cc)
fills_at (Check purpose Index) is = absurd (let e = is in cc)
fills_at (Check purpose (First walk)) is = absurd (let e = is in cc)
fills_at (Check purpose (Words walk word)) is = absurd (let e = is in cc)
fills_at (Check purpose (Second walk)) is = absurd (let e = is in cc)
fills_at (StampSlot top) is = absurd (let e = is in cc)
fills_at (StampSwap top) is = absurd (let e = is in cc)
fills_at (Turn Filling) is = refl
fills_at (Turn (Signature word)) is = absurd (let e = is in cc)
fills_at (Turn Writing) is = absurd (let e = is in cc)
fills_at (Turn (Earlier entry)) is = absurd (let e = is in cc)
fills_at (Turn (EarlierWords entry word)) is = absurd (let e = is in cc)
fills_at (Turn (EarlierAgain entry)) is = absurd (let e = is in cc)
fills_at (Turn (Heap index)) is = absurd (let e = is in cc)
fills_at (Turn Before) is = absurd (let e = is in cc)
fills_at (Turn Complete) is = absurd (let e = is in cc)
fills_at (Between inner) is = absurd (let e = is in cc)

-- ---- what a store leads to
module _ (shape : Shape) (c : Caller) where
  -- a word of the signature that isn't the last, and the last one
  pub next_word : (word : ℕ) → word + 1 < shape.sig_words
      → made (record c { stage = Turn (Signature (word + 1)) }) answer.Going ≡ absorbed shape (record c { stage = Turn (Signature word) }) 0
  next_word word below =
      cond_both (nat_lt (word + 1) shape.sig_words) _ _
      (λ (inner : TurnStage). made (record c { stage = Turn (Signature (word + 1)) }) answer.Going ≡ made (record c { stage = Turn inner }) answer.Going)
      (λ more. refl) (λ none. absurd (omega (arith, ltb-false _ _ none, below)))

  pub last_word : (word : ℕ) → word + 1 ≡ shape.sig_words
      → made (record c { stage = Turn Writing }) answer.Going ≡ absorbed shape (record c { stage = Turn (Signature word) }) 0
  last_word word last =
      cond_both (nat_lt (word + 1) shape.sig_words) _ _
      (λ (inner : TurnStage). made (record c { stage = Turn Writing }) answer.Going ≡ made (record c { stage = Turn inner }) answer.Going)
      (λ more. absurd (omega (arith, ltb-true _ _ more, last))) (λ none. refl)

  -- a word of the write set that isn't the last
  pub next_write : (index : ℕ) → index + 1 < length c.writes
      → made (record c { stage = Turn (Heap (index + 1)) }) answer.Going ≡ absorbed shape (record c { stage = Turn (Heap index) }) 0
  next_write index below =
      cond_both (nat_lt (index + 1) (length c.writes)) _ _
      (λ (inner : TurnStage). made (record c { stage = Turn (Heap (index + 1)) }) answer.Going ≡ made (record c { stage = Turn inner }) answer.Going)
      (λ more. refl) (λ none. absurd (omega (arith, ltb-false _ _ none, below)))

  -- and the last one
  pub last_write : (index : ℕ) → index + 1 ≡ length c.writes
      → made (record c { stage = Turn (after_words c.stamp) }) answer.Going ≡ absorbed shape (record c { stage = Turn (Heap index) }) 0
  last_write index last =
      cond_both (nat_lt (index + 1) (length c.writes)) _ _
      (λ (inner : TurnStage). made (record c { stage = Turn (after_words c.stamp) }) answer.Going ≡ made (record c { stage = Turn inner }) answer.Going)
      (λ more. absurd (omega (arith, ltb-true _ _ more, last))) (λ none. refl)

  pub fewer_after : (index : ℕ) → index + 1 ≡ length c.writes
      → steps_at shape c (Turn (after_words c.stamp)) < steps_at shape c (Turn (Heap index))
  fewer_after index last =
      cond_both (c.stamp == 1) _ _ (λ (inner : TurnStage). steps_at shape c (Turn inner) < steps_at shape c (Turn (Heap index)))
      (λ first. omega (arith, last)) (λ later. omega (arith, last))

  -- its words are stored at once where no entry is between the start and its own
  pub stores_at_once : c.stamp ≡ c.start + 1
      → made (record c { stage = Turn (Heap 0) }) answer.Going ≡ absorbed shape (record c { stage = Turn Writing }) 0
  stores_at_once next =
      cond_both (nat_lt c.start (c.stamp - 1)) _ _
      (λ (inner : TurnStage). made (record c { stage = Turn (Heap 0) }) answer.Going ≡ made (record c { stage = Turn inner }) answer.Going)
      (λ more. absurd (omega (arith, ltb-true _ _ more, next))) (λ none. refl)

  -- the entry before is complete
  pub before_done : (tag : ℕ) → 4 * (c.stamp - 1) + 3 ≤ tag
      → made (record c { stage = Turn Complete }) answer.Going ≡ absorbed shape (record c { stage = Turn Before }) tag
  before_done tag done =
      cond_both (nat_le (4 * (c.stamp - 1) + 3) tag) _ _
      (λ (o : Outcome). made (record c { stage = Turn Complete }) answer.Going ≡ o)
      (λ yes. refl) (λ not_yet. absurd (omega (arith, leb-false _ _ not_yet, done)))

  pub goes_after_writing : (d : Caller) (progress : Progress) → made d progress ≡ absorbed shape (record c { stage = Turn Writing }) 0 → progress ≡ answer.Going
  goes_after_writing d progress is = ap (λ (o : Outcome). o.progress) is

  pub over_after_complete : (d : Caller) (progress : Progress) → made d progress ≡ absorbed shape (record c { stage = Turn Complete }) 0
      → progress ≢ answer.Going
  over_after_complete d progress is goes = let e = sym goes ∙ ap (λ (o : Outcome). o.progress) is in cc

-- where it is when its words are stored
pub after_only : (stamp : ℕ) → stamp ≡ 1 → after_words stamp ≡ Complete
after_only stamp is = cond_both (stamp == 1) _ _ (λ (inner : TurnStage). inner ≡ Complete) (λ yes. refl) (λ no. absurd (eqb-false _ _ no is))

pub after_others : (stamp : ℕ) → stamp ≢ 1 → after_words stamp ≡ Before
after_others stamp other = cond_both (stamp == 1) _ _ (λ (inner : TurnStage). inner ≡ Before) (λ yes. absurd (other (eqb-true _ _ yes))) (λ no. refl)

-- a pass that is at this stage
pub at_itself : {S : Type 0} (pass : RingPass S) (stage : Stage) → pass.local.caller.stage ≡ stage → pass ≡ staged pass stage
at_itself pass stage is = ap (staged pass) is

pub begins_at : {S : Type 0} (pass : RingPass S) (inner : TurnStage) → pass.local.caller.state ≡ state.Stamped → pass.local.caller.stage ≡ Turn inner
    → IsTurning pass (staged pass (Turn inner))
begins_at pass inner stamped is =
    subst (IsTurning pass) (at_itself pass (Turn inner) is) (turning_itself pass stamped (subst IsTurn (sym is) tt))

pub seated_at : {S : Type 0} (good : S → List ℕ → List ℕ → Type 0) (budget : S → List ℕ → ℕ) (about : About S) (table : TableId) (pass : RingPass S)
    (stage : Stage) → pass.local.caller.stage ≡ stage → IsSeated good budget about table pass → IsSeated good budget about table (staged pass stage)
seated_at good budget about table pass stage is p = subst (IsSeated good budget about table) (at_itself pass stage is) p

-- ---- a step of a turn
module _ {S : Type 0} (good : S → List ℕ → List ℕ → Type 0) (budget : S → List ℕ → ℕ) (about : About S) (table : TableId) (first now : RingPass S)
    (stage : Stage) (turning : IsTurning first (staged now stage)) (p : IsSeated good budget about table (staged now stage)) (mid : RingPass S)
    (same : mid.local ≡ now.local) (word : ℕ) (f : Found good budget (staged now stage) mid word) (local : Machine) (progress : Progress)
    (o : made local.caller progress ≡ absorbed mid.local.shape (at_stage mid.local stage).caller word) (shape : local.shape ≡ mid.local.shape)
    (fewer : steps_of local < steps_of (at_stage mid.local stage)) where
  t : Stepped good budget (staged now stage) (with_local mid local) progress
  t =
      taken good budget about table now stage p mid word f local progress
      (o ∙ ap (λ (m : Machine). absorbed m.shape (at_stage m stage).caller word) same) (shape ∙ ap (λ (m : Machine). m.shape) same)

  left : steps_of local < steps_of (at_stage now.local stage)
  left = subst (λ (m : Machine). steps_of local < steps_of (at_stage m stage)) same fewer

  pub after_seated : IsSeated good budget about table (with_local mid local)
  after_seated = seated_after good budget about table (staged now stage) p (with_local mid local) progress t

  pub after_turning : progress ≡ answer.Going → IsTurning first (with_local mid local)
  after_turning is = turning_after good budget about table first (staged now stage) (with_local mid local) progress turning p t is left

  pub after_answers : progress ≢ answer.Going → TurnAnswered good budget about table first (with_local mid local) progress
  after_answers over = turn_answered good budget about table first (staged now stage) (with_local mid local) progress turning p t over left

-- what answers a turn that went on answers it from its beginning
pub answered_then : {S : Type 0} (good : S → List ℕ → List ℕ → Type 0) (budget : S → List ℕ → ℕ) (about : About S) (table : TableId)
    (first mid new : RingPass S) (progress : Progress) → IsTurning first mid → TurnAnswered good budget about table mid new progress
    → TurnAnswered good budget about table first new progress
answered_then good budget about table first mid new progress turning a =
    record {
      last = a.last;
      seated = a.seated;
      turning = turning_then first mid a.last turning a.turning;
      step = a.step;
      fewer = a.fewer;
      over = a.over;
    }

module _ {S : Type 0} (good : S → List ℕ → List ℕ → Type 0) (budget : S → List ℕ → ℕ) (about : About S) (table : TableId) (first : RingPass S) where
  -- ---- the entry is published
  module _ (p : IsSeated good budget about table first) (stamped : first.local.caller.state ≡ state.Stamped)
      (begins : first.local.caller.stage ≡ Turn Filling) (mid : RingPass S) (same : mid.local ≡ first.local)
      (f : Found good budget (staged first (Turn Filling)) mid 0) where
    fills : IsTurning first (staged first (Turn Filling))
    fills = begins_at first Filling stamped begins

    pub filled_seated : IsSeated good budget about table (staged mid (Turn (Signature 0)))
    filled_seated =
        after_seated good budget about table first first (Turn Filling) fills (seated_at good budget about table first (Turn Filling) begins p) mid same 0 f
        (at_stage mid.local (Turn (Signature 0))) answer.Going refl refl (omega arith)

    pub filled_turning : IsTurning first (staged mid (Turn (Signature 0)))
    filled_turning =
        after_turning good budget about table first first (Turn Filling) fills (seated_at good budget about table first (Turn Filling) begins p) mid same 0 f
        (at_stage mid.local (Turn (Signature 0))) answer.Going refl refl (omega arith) refl

  module _ (now : RingPass S) (kept : now.local ≡ first.local) (word : ℕ) (p : IsSeated good budget about table (staged now (Turn (Signature word))))
      (turning : IsTurning first (staged now (Turn (Signature word)))) (mid : RingPass S) (same : mid.local ≡ now.local)
      (f : Found good budget (staged now (Turn (Signature word))) mid 0) where
    words_are : mid.local.shape.sig_words ≡ first.local.shape.sig_words
    words_are = ap (λ (m : Machine). m.shape.sig_words) (same ∙ kept)

    -- a word of its signature
    module _ (more : word + 1 < first.local.shape.sig_words) where
      below : word + 1 < mid.local.shape.sig_words
      below = omega (arith, more, words_are)

      pub word_seated : IsSeated good budget about table (staged mid (Turn (Signature (word + 1))))
      word_seated =
          after_seated good budget about table first now (Turn (Signature word)) turning p mid same 0 f (at_stage mid.local (Turn (Signature (word + 1))))
          answer.Going (next_word mid.local.shape mid.local.caller word below) refl (omega (arith, below))

      pub word_turning : IsTurning first (staged mid (Turn (Signature (word + 1))))
      word_turning =
          after_turning good budget about table first now (Turn (Signature word)) turning p mid same 0 f (at_stage mid.local (Turn (Signature (word + 1))))
          answer.Going (next_word mid.local.shape mid.local.caller word below) refl (omega (arith, below)) refl

    -- the last word, and then the tag `writing`
    module _ (all : word + 1 ≡ first.local.shape.sig_words) where
      last : word + 1 ≡ mid.local.shape.sig_words
      last = omega (arith, all, words_are)

      pub signed_seated : IsSeated good budget about table (staged mid (Turn Writing))
      signed_seated =
          after_seated good budget about table first now (Turn (Signature word)) turning p mid same 0 f (at_stage mid.local (Turn Writing)) answer.Going
          (last_word mid.local.shape mid.local.caller word last) refl (omega (arith, last))

      pub signed_turning : IsTurning first (staged mid (Turn Writing))
      signed_turning =
          after_turning good budget about table first now (Turn (Signature word)) turning p mid same 0 f (at_stage mid.local (Turn Writing)) answer.Going
          (last_word mid.local.shape mid.local.caller word last) refl (omega (arith, last)) refl

  -- ---- the tag `writing` is stored
  module _ (now : RingPass S) (p : IsSeated good budget about table (staged now (Turn Writing))) (turning : IsTurning first (staged now (Turn Writing)))
      (mid : RingPass S) (same : mid.local ≡ now.local) (f : Found good budget (staged now (Turn Writing)) mid 0) where
    -- no entry is between the start and its own
    module _ (next : mid.local.caller.stamp ≡ mid.local.caller.start + 1) where
      pub at_once_seated : IsSeated good budget about table (staged mid (Turn (Heap 0)))
      at_once_seated =
          after_seated good budget about table first now (Turn Writing) turning p mid same 0 f (at_stage mid.local (Turn (Heap 0))) answer.Going
          (stores_at_once mid.local.shape mid.local.caller next) refl (omega arith)

      pub at_once_turning : IsTurning first (staged mid (Turn (Heap 0)))
      at_once_turning =
          after_turning good budget about table first now (Turn Writing) turning p mid same 0 f (at_stage mid.local (Turn (Heap 0))) answer.Going
          (stores_at_once mid.local.shape mid.local.caller next) refl (omega arith) refl

    -- or the machine says which entry is waited for
    module _ (local : Machine) (progress : Progress) (o : made local.caller progress ≡ absorbed mid.local.shape (at_stage mid.local (Turn Writing)).caller 0)
        (shape : local.shape ≡ mid.local.shape) (fewer : steps_of local < steps_of (at_stage mid.local (Turn Writing))) where
      pub waiting_seated : IsSeated good budget about table (with_local mid local)
      waiting_seated = after_seated good budget about table first now (Turn Writing) turning p mid same 0 f local progress o shape fewer

      pub waiting_turning : IsTurning first (with_local mid local)
      waiting_turning =
          after_turning good budget about table first now (Turn Writing) turning p mid same 0 f local progress o shape fewer
          (goes_after_writing mid.local.shape mid.local.caller local.caller progress o)

  -- ---- the words are stored
  module _ (now : RingPass S) (index : ℕ) (p : IsSeated good budget about table (staged now (Turn (Heap index))))
      (turning : IsTurning first (staged now (Turn (Heap index)))) (mid : RingPass S) (same : mid.local ≡ now.local)
      (f : Found good budget (staged now (Turn (Heap index))) mid 0) where
    module _ (more : index + 1 < length mid.local.caller.writes) where
      pub write_seated : IsSeated good budget about table (staged mid (Turn (Heap (index + 1))))
      write_seated =
          after_seated good budget about table first now (Turn (Heap index)) turning p mid same 0 f (at_stage mid.local (Turn (Heap (index + 1)))) answer.Going
          (next_write mid.local.shape mid.local.caller index more) refl (omega (arith, more))

      pub write_turning : IsTurning first (staged mid (Turn (Heap (index + 1))))
      write_turning =
          after_turning good budget about table first now (Turn (Heap index)) turning p mid same 0 f (at_stage mid.local (Turn (Heap (index + 1)))) answer.Going
          (next_write mid.local.shape mid.local.caller index more) refl (omega (arith, more)) refl

    -- the last one
    module _ (all : index + 1 ≡ length mid.local.caller.writes) where
      pub written_seated : IsSeated good budget about table (staged mid (Turn (after_words mid.local.caller.stamp)))
      written_seated =
          after_seated good budget about table first now (Turn (Heap index)) turning p mid same 0 f
          (at_stage mid.local (Turn (after_words mid.local.caller.stamp))) answer.Going (last_write mid.local.shape mid.local.caller index all) refl
          (fewer_after mid.local.shape mid.local.caller index all)

      pub written_turning : IsTurning first (staged mid (Turn (after_words mid.local.caller.stamp)))
      written_turning =
          after_turning good budget about table first now (Turn (Heap index)) turning p mid same 0 f
          (at_stage mid.local (Turn (after_words mid.local.caller.stamp))) answer.Going (last_write mid.local.shape mid.local.caller index all) refl
          (fewer_after mid.local.shape mid.local.caller index all) refl

  -- ---- the tag of the entry before is loaded
  module _ (now : RingPass S) (p : IsSeated good budget about table (staged now (Turn Before))) (turning : IsTurning first (staged now (Turn Before)))
      (mid : RingPass S) (same : mid.local ≡ now.local) (tag : ℕ) (f : Found good budget (staged now (Turn Before)) mid tag) where
    -- it is complete
    module _ (done : 4 * (mid.local.caller.stamp - 1) + 3 ≤ tag) where
      pub done_seated : IsSeated good budget about table (staged mid (Turn Complete))
      done_seated =
          after_seated good budget about table first now (Turn Before) turning p mid same tag f (at_stage mid.local (Turn Complete)) answer.Going
          (before_done mid.local.shape mid.local.caller tag done) refl (omega arith)

      pub done_turning : IsTurning first (staged mid (Turn Complete))
      done_turning =
          after_turning good budget about table first now (Turn Before) turning p mid same tag f (at_stage mid.local (Turn Complete)) answer.Going
          (before_done mid.local.shape mid.local.caller tag done) refl (omega arith) refl
