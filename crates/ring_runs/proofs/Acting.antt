-- Steps of one caller lead to one world, and where they end no more can be made.
use Rattle.std.proofs.Common.{◌≡◌, true, false, ℕ, ◌+◌, ◌<◌, ◌≤◌, ◌⊎◌, Option, Some, None, IsSome, Ok, Err, refl, sym, ◌∙◌, ap, subst, arith, inl, inr}
use Rattle.std.specs.Option.{is_some}
use Rattle.std.proofs.lemmas.Bool.{cases_lt, false≢true}
use mathlib.Core.Option.{some-injective}
use Rattle.ring_core.specs.declared.action.Progress.{Progress}
use Rattle.ring_core.specs.declared.kind.Kind.{Kind}
use Rattle.ring_core.specs.Kinds.{kind_at}
use Rattle.ring_worlds.specs.World.{World}
use Rattle.ring_worlds.specs.declared.process.Process.{Process}
use Rattle.ring_worlds.specs.Runs.{resting}
use Rattle.ring_worlds.specs.Sound.{Sound}
use Rattle.ring_worlds.specs.Calls.{process_at, IsAsking, IsNext, HasMade}
use Rattle.ring_worlds.specs.Laws.{StepUnique, StepsShorten, IsShorter}
use Rattle.ring_worlds.proofs.lemmas.Elements.{get_there}
use Rattle.ring_state.specs.Plain.{read_address}
use Rattle.ring_runs.proofs.Making.{asks_of}
use Rattle.ring_runs.specs.declared.event.Act.TheVariants as act
use Rattle.ring_runs.specs.declared.acts.Undone.{Undone}
use Rattle.ring_runs.specs.declared.acts.Undone.TheVariants.{NotNow, Memory}
use Rattle.ring_runs.specs.declared.trace.Happened.{Happened}
use Rattle.ring_runs.specs.Trace.{told, told_by, Tells, Makes}
use Rattle.ring_runs.specs.Trace.Makes.{none as no_step, more as one_more}
use Rattle.ring_runs.specs.Acts.{Acts, HasTold, StepsOnce}

-- a caller with no request open makes no step, and another one may
pub no_kind : (w : World) (who : ℕ) (o : Option Kind) → o ≡ kind_at (process_at w who).caller.stage → is_some o ≡ false → (other : World)
    (what : Option Happened) → Tells w who other what → ⊥
no_kind w who o is nothing other what tells =
    let p = tells.step.process in
    let same : process_at w who ≡ p = get_there w.processes who p (resting w.shape) tells.step.here in
    let kind : o ≡ Some tells.kind = is ∙ ap (λ (q : Process). kind_at q.caller.stage) same ∙ tells.step.is_kind in
    false≢true (sym nothing ∙ ap is_some kind)

pub asking : (w : World) (who : ℕ) (o : Option Kind) → ((kind : Kind) → o ≡ Some kind → IsNext w who kind) → is_some o ≡ true → IsAsking w who
asking w who None next some = absurd (false≢true some)
asking w who (Some kind) next some = asks_of w who kind (next kind refl)

pub told_step : StepsShorten → (w next : World) (who : ℕ) → Sound w → (asked : Option ℕ) → asked ≡ read_address (process_at w who).caller.stage
    → (progress : Progress) → HasMade w who progress next → (what : Option Happened) → what ≡ told asked progress → HasTold w who what next
told_step shorten w next who sound asked at progress made what is =
    let p = made.step.process in
    let same : process_at w who ≡ p = get_there w.processes who p (resting w.shape) made.step.here in
    let where_asked : asked ≡ read_address p.caller.stage = at ∙ ap (λ (q : Process). read_address q.caller.stage) same in
    record {
      tells = record {
        kind = made.kind;
        step = made.step;
        told = is ∙ ap (λ a. told a progress) where_asked ∙ ap (told (read_address p.caller.stage)) made.answer;
      };
      shorter = subst (IsShorter w next who) (sym same) (shorten w next who made.kind sound made.step);
    }

-- the request has ended, or no step can be made
abbrev pub Stuck : World → ℕ → Option Happened → Type 0
Stuck w who what = what ≡ None → (other : World) (more : Option Happened) → Tells w who other more → ⊥

module _ (unique : StepUnique) (who : ℕ) where
  one_step : (w a b : World) (x y : Option Happened) → Tells w who a x → Tells w who b y → (a ≡ b) × (x ≡ y)
  one_step w a b x y s t =
      let one = unique w a b who s.kind t.kind s.step t.step in
      let same : s.step.process ≡ t.step.process = some-injective s.step.process t.step.process (sym s.step.here ∙ t.step.here) in
      (one.1, s.told ∙ ap (told_by w) same ∙ sym t.told)

  module _ (w : World) where
    pub one_end : (n : ℕ) (a b : World) (x y : Option Happened) → Makes w who n a x → Makes w who n b y → (a ≡ b) × (x ≡ y)
    one_end n a b x y (no_step zero is told) (no_step zero' is' told') = (is ∙ sym is', told ∙ sym told')
    one_end n a b x y (no_step zero is told) (one_more before mid count first last) = absurd (omega (arith, zero, count))
    one_end n a b x y (one_more before mid count first last) (no_step zero is told) = absurd (omega (arith, zero, count))
    one_end n a b x y (one_more before mid count first last) (one_more before' mid' count' first' last') =
        let same : before' ≡ before = omega (arith, count, count') in
        let e = (one_end before mid mid' None None first (subst (λ k. Makes w who k mid' None) same first')).0 in
        one_step mid a b x y last (subst (λ m. Tells m who b y) (sym e) last')

    pub no_more : (k n : ℕ) (mid next : World) (x y : Option Happened) → Makes w who k mid x → Stuck mid who x → k < n → Makes w who n next y → ⊥
    no_more k n mid next x y makes stuck below (no_step zero is told) = omega (arith, below, zero)
    no_more k n mid next x y makes stuck below (one_more before mid' count first last) =
        elim (cases_lt k before) [
          | inl early ↦ no_more k before mid mid' x None makes stuck early first
          | inr late ↦
              let same : before ≡ k = omega (arith, late, below, count) in
              let e = one_end k mid mid' x None makes (subst (λ j. Makes w who j mid' None) same first) in
              stuck e.1 next y (subst (λ m. Tells m who next y) (sym e.0) last)
        ]

    -- ---- so many steps
    pub steps_fail : (made count : ℕ) (mid next after : World) → Makes w who made mid None → made < count → (e : Undone)
        → StepsOnce mid who next (Err e) → Acts w who (act.Step count) after (Err e)
    steps_fail made count mid next after makes below NotNow stuck =
        λ other what does. no_more made count mid other None what makes (λ _. stuck) below does
    steps_fail made count mid next after makes below Memory stuck = tt

    pub steps_end : (made count : ℕ) (mid next : World) (what : Happened) → Makes w who made mid None → HasTold mid who (Some what) next
        → made + 1 ≡ count → Acts w who (act.Step count) next (Ok (Some what))
    steps_end made count mid next what makes told last = one_more made mid (sym last) makes told.tells

    pub steps_past : (made count : ℕ) (mid next after : World) (what : Happened) → Makes w who made mid None → HasTold mid who (Some what) next
        → made + 1 < count → Acts w who (act.Step count) after (Err NotNow)
    steps_past made count mid next after what makes told early other more' does =
        no_more (made + 1) count next other (Some what) more' (one_more made mid refl makes told.tells) (λ is. absurd cc) early does

    -- ---- steps until the request has ended
    has_not_ended : (made count : ℕ) (mid other : World) → Makes w who made mid None → (what : Option Happened) → IsSome what
        → Makes w who count other what → count ≤ made → (count < made) ⊎ (made ≤ count) → ⊥
    has_not_ended made count mid other makes None some does few order = cc
    has_not_ended made count mid other makes (Some what) some does few (inl fewer) =
        no_more count made other mid (Some what) None does (λ is. absurd cc) fewer makes
    has_not_ended made count mid other makes (Some what) some does few (inr as_many) =
        let same : count ≡ made = omega (arith, few, as_many) in
        let e = (one_end made mid other None (Some what) makes (subst (λ k. Makes w who k other (Some what)) same does)).1 in
        cc

    pub run_fails : (made : ℕ) (mid next after : World) → Makes w who made mid None → (e : Undone) → StepsOnce mid who next (Err e)
        → Acts w who act.Run after (Err e)
    run_fails made mid next after makes NotNow stuck =
        λ other what (count, does, ends). elim (cases_lt made count) [
          | inl past ↦ no_more made count mid other None what makes (λ _. stuck) past does
          | inr few ↦ has_not_ended made count mid other makes what ends does few (cases_lt count made)
        ]
    run_fails made mid next after makes Memory stuck = tt
