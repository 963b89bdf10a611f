-- A pass whose request is known to be at a stage, and its machine that takes in what the seat found.
use Rattle.std.proofs.Common.{◌≡◌, ◌≢◌, ℕ, ◌-◌, ◌<◌, ◌≤◌, nat_lt, List, false, refl, sym, ◌∙◌, ap, subst, arith}
use Rattle.std.proofs.lemmas.Bool.{cond_both, ltb-true, ltb-false}
use Rattle.atomic_table.specs.Seated.{TableId}
use Rattle.tx_model.specs.declared.pass.PassState.TheVariants as state
use Rattle.ring_core.specs.declared.shape.Shape.{Shape}
use Rattle.ring_core.specs.declared.caller.Caller.{Caller}
use Rattle.ring_core.specs.declared.action.Progress.{Progress}
use Rattle.ring_core.specs.declared.action.Progress.TheVariants as answer
use Rattle.ring_core.specs.declared.stage.Stage.{Stage}
use Rattle.ring_core.specs.declared.stage.Stage.TheVariants.{Closed, BeginIndex, BeginTag, ReadHeap, Check, StampSlot, StampSwap, Turn, Between}
use Rattle.ring_core.specs.declared.stage.Purpose.TheVariants.{Read}
use Rattle.ring_core.specs.declared.stage.CheckStage.TheVariants.{Index}
use Rattle.ring_core.specs.Machine.{Machine, at_stage, with_caller, steps_of}
use Rattle.ring_core.specs.Outcomes.{Outcome, made, goes, started, absorbed, begin_from, read_at}
use Rattle.ring_core.specs.Request.{is_open}
use Rattle.ring_core.specs.Shape.{IsShape}
use Rattle.ring_core.specs.Sound.{IsSound, IsStage}
use Rattle.ring_core.specs.Words.{CanAbsorb}
use Rattle.ring_words.specs.declared.table.About.{About}
use Rattle.ring_words.specs.declared.table.Knowledge.{Knowledge}
use Rattle.ring_words.specs.declared.pass.RingPass.{RingPass}
use Rattle.ring_words.specs.Pass.{IsSeated, Found, Stepped, with_local, staged}
use Rattle.ring_words.specs.Requests.{KeptOn, Answered, asked_at, IsShort}
use Rattle.ring_words.proofs.Seated.{seated_after}
use Rattle.ring_words.proofs.Kept.{kept_itself, kept_after, kept_then, answered_by}

-- ---- one step
module _ {S : Type 0} (good : S → List ℕ → List ℕ → Type 0) (budget : S → List ℕ → ℕ) (about : About S) (table : TableId) (pass : RingPass S)
    (stage : Stage) (p : IsSeated good budget about table (staged pass stage)) where
  pub sound_at : IsSound pass.local.shape (at_stage pass.local stage).caller
  sound_at = subst (λ (s : Shape). IsSound s (at_stage pass.local stage).caller) (sym p.shaped) p.moved.machine

  module _ (mid : RingPass S) (word : ℕ) (f : Found good budget (staged pass stage) mid word) where
    same : f.seat.old ≡ p.knowledge
    same = let e = sym f.seat.before ∙ p.known in cc

    -- it may take the word in
    pub can_take : CanAbsorb pass.local.shape (at_stage pass.local stage).caller word
    can_take =
        subst (λ (s : Shape). CanAbsorb s (at_stage pass.local stage).caller word)
        (ap (λ (k : Knowledge S). k.about.shape) same ∙ ap (λ (a : About S). a.shape) p.told ∙ sym p.shaped) f.seat.step.can

    module _ (local : Machine) (progress : Progress) (o : made local.caller progress ≡ absorbed pass.local.shape (at_stage pass.local stage).caller word)
        (shape : local.shape ≡ pass.local.shape) where
      pub taken : Stepped good budget (staged pass stage) (with_local mid local) progress
      taken = record { word = word; seat = f.seat; outcome = o; same_table = f.same_table; shape = shape; seals = f.seals }

      pub taken_seated : IsSeated good budget about table (with_local mid local)
      taken_seated = seated_after good budget about table (staged pass stage) p (with_local mid local) progress taken

-- ---- what the machine makes of it
-- a caller without an open request makes no step, and in an attempt it is at no stage
pub no_steps : (m : Machine) → m.caller.stage ≡ Closed → steps_of m ≡ 0
no_steps m closed = ap (λ (stage : Stage). Rattle.ring_core.specs.Steps.steps_at m.shape m.caller stage) closed

closed_at : (shape : Shape) (c : Caller) → c.state ≡ state.Active → (stage : Stage) → is_open stage ≡ false → IsStage shape c stage → stage ≡ Closed
closed_at shape c active Closed closed is_stage = refl
closed_at shape c active (Between inner) closed is_stage = absurd (let e = sym active ∙ is_stage.0.stamped in cc)
closed_at shape c active BeginIndex closed is_stage = absurd (let e = closed in cc)
closed_at shape c active (BeginTag top entry) closed is_stage = absurd (let e = closed in cc)
closed_at shape c active (ReadHeap addr) closed is_stage = absurd (let e = closed in cc)
closed_at shape c active (Check purpose inner) closed is_stage = absurd (let e = closed in cc)
closed_at shape c active (StampSlot top) closed is_stage = absurd (let e = closed in cc)
closed_at shape c active (StampSwap top) closed is_stage = absurd (let e = closed in cc)
closed_at shape c active (Turn inner) closed is_stage = absurd (let e = closed in cc)

pub closed_stage : (shape : Shape) (c : Caller) → c.state ≡ state.Active → is_open c.stage ≡ false → IsSound shape c → c.stage ≡ Closed
closed_stage shape c active closed sound = closed_at shape c active c.stage closed sound.stage

module _ (shape : Shape) (c : Caller) where
  -- nothing was committed: the attempt starts at once
  pub begins_first : (top : ℕ) → top ≡ 0 → begin_from shape c top top ≡ started c (top - shape.ring)
  begins_first top none =
      cond_both (nat_lt (top - shape.ring) top) _ _ (λ (o : Outcome). o ≡ started c (top - shape.ring))
      (λ yes. absurd (omega (arith, ltb-true _ _ yes, none))) (λ no. refl)

  -- else the newest entry is looked at
  pub begins_newest : (top : ℕ) → 1 ≤ shape.ring → top ≢ 0 → begin_from shape c top top ≡ goes c (BeginTag top top)
  begins_newest top entries some =
      cond_both (nat_lt (top - shape.ring) top) _ _ (λ (o : Outcome). o ≡ goes c (BeginTag top top))
      (λ yes. refl) (λ no. absurd (omega (arith, ltb-false _ _ no, entries, some)))

  -- no entry is newer than the start: the read has its value
  pub reads_current : (addr value index : ℕ) → index ≡ c.start → c.stage ≡ Closed
      → made c (answer.Value value) ≡ absorbed shape (record c { stage = Check (Read addr value) Index }) index
  reads_current addr value index current closed =
      cond_both (nat_lt shape.ring (index - c.start)) _ _ (λ (o : Outcome). made c (answer.Value value) ≡ o)
      (λ far. absurd (omega (arith, ltb-true _ _ far, current)))
      (λ near. cond_both (nat_lt c.start index) _ _ (λ (o : Outcome). made c (answer.Value value) ≡ o)
      (λ newer. absurd (omega (arith, ltb-true _ _ newer, current)))
      (λ end. λ i. made (record c { start = sym current i; stage = closed i }) (answer.Value value)))

-- ---- requests: a step of one that is known to be at a stage
module _ {S : Type 0} (good : S → List ℕ → List ℕ → Type 0) (budget : S → List ℕ → ℕ) (about : About S) (table : TableId) (first : RingPass S)
    (short : IsShort (asked_at first.local.caller.stage)) (now : RingPass S) (stage : Stage) (kept : KeptOn first (staged now stage))
    (p : IsSeated good budget about table (staged now stage)) (mid : RingPass S) (same : mid.local ≡ now.local) (word : ℕ)
    (f : Found good budget (staged now stage) mid word) where
  pub step_sound : IsSound mid.local.shape (at_stage mid.local stage).caller
  step_sound = subst (λ (m : Machine). IsSound m.shape (at_stage m stage).caller) (sym same) (sound_at good budget about table now stage p)

  pub step_can : CanAbsorb mid.local.shape (at_stage mid.local stage).caller word
  step_can = subst (λ (m : Machine). CanAbsorb m.shape (at_stage m stage).caller word) (sym same) (can_take good budget about table now stage p mid word f)

  module _ (local : Machine) (progress : Progress) (o : made local.caller progress ≡ absorbed mid.local.shape (at_stage mid.local stage).caller word)
      (shape : local.shape ≡ mid.local.shape) (fewer : steps_of local < steps_of (at_stage mid.local stage)) where
    abbrev new : RingPass S
    new = with_local mid local

    t : Stepped good budget (staged now stage) new progress
    t =
        taken good budget about table now stage p mid word f local progress
        (o ∙ ap (λ (m : Machine). absorbed m.shape (at_stage m stage).caller word) same) (shape ∙ ap (λ (m : Machine). m.shape) same)

    left : steps_of local < steps_of (at_stage now.local stage)
    left = subst (λ (m : Machine). steps_of local < steps_of (at_stage m stage)) same fewer

    pub step_seated : IsSeated good budget about table new
    step_seated = seated_after good budget about table (staged now stage) p new progress t

    pub step_kept : progress ≡ answer.Going → KeptOn first new
    step_kept is = kept_after good budget about table first (staged now stage) new progress kept p short t left is

    pub step_short : progress ≡ answer.Going → IsShort (asked_at local.caller.stage)
    step_short is = subst IsShort (sym (step_kept is).asking.asked) short

    pub step_answers : progress ≢ answer.Going → Answered good budget about table first new progress
    step_answers over = answered_by good budget about table first (staged now stage) new progress kept p short t left over

    -- or a later step does
    pub step_answered : progress ≡ answer.Going → (end : RingPass S) (last : Progress) → Answered good budget about table new end last
        → Answered good budget about table first end last
    step_answered is end last a =
        record { last = a.last; seated = a.seated; kept = kept_then first new a.last (step_kept is) a.kept; step = a.step; fewer = a.fewer; over = a.over }

-- ---- a beginning
module _ {S : Type 0} (good : S → List ℕ → List ℕ → Type 0) (budget : S → List ℕ → ℕ) (about : About S) (table : TableId) (limits : IsShape about.shape)
    (pass : RingPass S) (p : IsSeated good budget about table (staged pass BeginIndex)) (mid : RingPass S) (same : mid.local ≡ pass.local) (top : ℕ)
    (f : Found good budget (staged pass BeginIndex) mid top) where
  abbrev begun : RingPass S
  begun = staged pass BeginIndex

  -- none was committed
  module _ (local : Machine) (progress : Progress) (o : made local.caller progress ≡ absorbed mid.local.shape (at_stage mid.local BeginIndex).caller top)
      (shape : local.shape ≡ mid.local.shape) (fewer : steps_of local < steps_of (at_stage mid.local BeginIndex)) where
    pub first_seated : IsSeated good budget about table (with_local mid local)
    first_seated = step_seated good budget about table begun tt pass BeginIndex (kept_itself begun) p mid same top f local progress o shape fewer

    pub first_answers : top ≡ 0 → Answered good budget about table begun (with_local mid local) progress
    first_answers none =
        step_answers good budget about table begun tt pass BeginIndex (kept_itself begun) p mid same top f local progress o shape fewer
        (λ is. let e = sym is ∙ ap (λ (x : Outcome). x.progress) (o ∙ begins_first mid.local.shape (at_stage mid.local BeginIndex).caller top none) in cc)

  -- the newest entry is looked at
  module _ (some : top ≢ 0) where
    abbrev newest : Stage
    newest = BeginTag top top

    looks : made (at_stage mid.local newest).caller answer.Going ≡ absorbed mid.local.shape (at_stage mid.local BeginIndex).caller top
    looks =
        sym (begins_newest mid.local.shape (at_stage mid.local BeginIndex).caller top
        (omega (arith, limits.some_entry, ap (λ (m : Machine). m.shape.ring) same, ap (λ (s : Shape). s.ring) p.shaped)) some)

    pub newest_seated : IsSeated good budget about table (staged mid newest)
    newest_seated =
        step_seated good budget about table begun tt pass BeginIndex (kept_itself begun) p mid same top f (at_stage mid.local newest) answer.Going looks refl
        (omega arith)

    newest_kept : KeptOn begun (staged mid newest)
    newest_kept =
        step_kept good budget about table begun tt pass BeginIndex (kept_itself begun) p mid same top f (at_stage mid.local newest) answer.Going looks refl
        (omega arith) refl

    module _ (end : RingPass S) (same' : end.local ≡ mid.local) (tag : ℕ) (f' : Found good budget (staged mid newest) end tag) (local : Machine)
        (progress : Progress) (o : made local.caller progress ≡ absorbed end.local.shape (at_stage end.local newest).caller tag)
        (shape : local.shape ≡ end.local.shape) (fewer : steps_of local < steps_of (at_stage end.local newest)) where
      pub second_seated : IsSeated good budget about table (with_local end local)
      second_seated = step_seated good budget about table begun tt mid newest newest_kept newest_seated end same' tag f' local progress o shape fewer

      pub second_answers : progress ≢ answer.Going → Answered good budget about table begun (with_local end local) progress
      second_answers over =
          step_answers good budget about table begun tt mid newest newest_kept newest_seated end same' tag f' local progress o shape fewer over

      pub second_answered : progress ≡ answer.Going → (new : RingPass S) (last : Progress)
          → Answered good budget about table (with_local end local) new last
          → Answered good budget about table begun new last
      second_answered is new last a =
          step_answered good budget about table begun tt mid newest newest_kept newest_seated end same' tag f' local progress o shape fewer is new last a

-- ---- a read
module _ {S : Type 0} (good : S → List ℕ → List ℕ → Type 0) (budget : S → List ℕ → ℕ) (about : About S) (table : TableId) (pass : RingPass S) (addr : ℕ)
    (rest : pass.local.caller.stage ≡ Closed) (p : IsSeated good budget about table (staged pass (ReadHeap addr))) (mid : RingPass S)
    (same : mid.local ≡ pass.local) (value : ℕ) (f : Found good budget (staged pass (ReadHeap addr)) mid value) (noted : Machine)
    (is : noted ≡ with_caller mid.local (read_at mid.local.caller addr)) where
  abbrev asked : RingPass S
  asked = staged pass (ReadHeap addr)

  abbrev now : RingPass S
  now = with_local mid noted

  abbrev check : Stage
  check = Check (Read addr value) Index

  checks : made (at_stage noted check).caller answer.Going ≡ absorbed mid.local.shape (at_stage mid.local (ReadHeap addr)).caller value
  checks = ap (λ (m : Machine). made (at_stage m check).caller answer.Going) is

  one_less : steps_of (at_stage noted check) < steps_of (at_stage mid.local (ReadHeap addr))
  one_less = subst (λ (m : Machine). steps_of (at_stage m check) < steps_of (at_stage mid.local (ReadHeap addr))) (sym is) (omega arith)

  pub check_seated : IsSeated good budget about table (staged now check)
  check_seated =
      step_seated good budget about table asked tt pass (ReadHeap addr) (kept_itself asked) p mid same value f (at_stage noted check) answer.Going checks
      (ap (λ (m : Machine). m.shape) is) one_less

  check_kept : KeptOn asked (staged now check)
  check_kept =
      step_kept good budget about table asked tt pass (ReadHeap addr) (kept_itself asked) p mid same value f (at_stage noted check) answer.Going checks
      (ap (λ (m : Machine). m.shape) is) one_less refl

  module _ (end : RingPass S) (same' : end.local ≡ noted) (index : ℕ) (f' : Found good budget (staged now check) end index) where
    -- the index is the start
    module _ (current : index ≡ end.local.caller.start) where
      closed : end.local.caller.stage ≡ Closed
      closed = ap (λ (m : Machine). m.caller.stage) (same' ∙ is ∙ ap (λ (m : Machine). with_caller m (read_at m.caller addr)) same) ∙ rest

      over : made end.local.caller (answer.Value value) ≡ absorbed end.local.shape (at_stage end.local check).caller index
      over = reads_current end.local.shape end.local.caller addr value index current closed

      ended : steps_of end.local < steps_of (at_stage end.local check)
      ended = omega (arith, no_steps end.local closed)

      pub current_seated : IsSeated good budget about table end
      current_seated =
          step_seated good budget about table asked tt now check check_kept check_seated end same' index f' end.local (answer.Value value) over refl ended

      pub current_answers : Answered good budget about table asked end (answer.Value value)
      current_answers =
          step_answers good budget about table asked tt now check check_kept check_seated end same' index f' end.local (answer.Value value) over refl ended
          (λ e. cc)

    -- or there is a newer entry
    module _ (local : Machine) (progress : Progress) (o : made local.caller progress ≡ absorbed end.local.shape (at_stage end.local check).caller index)
        (shape : local.shape ≡ end.local.shape) (fewer : steps_of local < steps_of (at_stage end.local check)) where
      pub newer_seated : IsSeated good budget about table (with_local end local)
      newer_seated = step_seated good budget about table asked tt now check check_kept check_seated end same' index f' local progress o shape fewer

      pub newer_answers : progress ≢ answer.Going → Answered good budget about table asked (with_local end local) progress
      newer_answers over = step_answers good budget about table asked tt now check check_kept check_seated end same' index f' local progress o shape fewer over

      pub newer_answered : progress ≡ answer.Going → (new : RingPass S) (last : Progress)
          → Answered good budget about table (with_local end local) new last
          → Answered good budget about table asked new last
      newer_answered is new last a =
          step_answered good budget about table asked tt now check check_kept check_seated end same' index f' local progress o shape fewer is new last a
