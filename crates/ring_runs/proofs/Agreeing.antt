-- A schedule has one trace.
use Rattle.std.proofs.Common.{◌≡◌, ℕ, ◌+◌, ◌<◌, ◌++◌, List, [], ◌∷◌, Option, Some, None, IsSome, refl, sym, ◌∙◌, ap, subst, arith, inl, inr}
use Rattle.std.proofs.lemmas.Bool.{cases_lt, false≢true}
use Rattle.tx_model.specs.Words.{value_of}
use Rattle.ring_core.specs.declared.kind.Kind.{Kind}
use Rattle.ring_core.specs.Request.{is_open}
use Rattle.ring_worlds.specs.declared.process.Process.{Process}
use Rattle.ring_worlds.specs.World.{World}
use Rattle.ring_worlds.specs.Moves.{IsClosed}
use Rattle.ring_worlds.specs.Steps.{Steps}
use Rattle.ring_worlds.specs.Runs.{resting}
use Rattle.ring_worlds.specs.Calls.{process_at}
use Rattle.ring_worlds.specs.Laws.{StepUnique}
use Rattle.ring_worlds.proofs.lemmas.Elements.{get_there}
use Rattle.ring_worlds.proofs.lemmas.Kinds.{open_at}
use Rattle.ring_runs.specs.declared.event.Act.{Act}
use Rattle.ring_runs.specs.declared.event.Act.TheVariants as act
use Rattle.ring_runs.specs.declared.event.Event.{Event}
use Rattle.ring_runs.specs.declared.trace.Happened.{Happened}
use Rattle.ring_runs.specs.declared.trace.TraceLine.{TraceLine}
use Rattle.ring_runs.specs.Trace.{Makes, Reads, Writes, Does, Happens, IsSkipped, Leads, line_of}
use Rattle.ring_runs.specs.Trace.Makes.{none as no_step, more as one_more}
use Rattle.ring_runs.specs.Trace.Happens.{does, skips}
use Rattle.ring_runs.specs.Trace.Leads.{start, more}
use Rattle.ring_runs.specs.Laws.{TracesAgree}
use Rattle.ring_runs.proofs.Acting.{Stuck, one_end, no_more}

-- ---- lists that end with one element
last_same : {X : Type 0} (xs ys : List X) (x y : X) → xs ++ x ∷ [] ≡ ys ++ y ∷ [] → (xs ≡ ys) × (x ≡ y)
last_same [] [] x y e = (refl, cc)
last_same [] (z ∷ []) x y e = absurd cc
last_same [] (z ∷ w ∷ ys) x y e = absurd cc
last_same (z ∷ []) [] x y e = absurd cc
last_same (z ∷ w ∷ xs) [] x y e = absurd cc
last_same (z ∷ xs) (w ∷ ys) x y e =
    let rest : xs ++ x ∷ [] ≡ ys ++ y ∷ [] = cc in
    let first : z ≡ w = cc in
    let same = last_same xs ys x y rest in
    (ap (λ l. z ∷ l) same.0 ∙ ap (λ v. v ∷ ys) first, same.1)

last_empty : {X : Type 0} (xs : List X) (x : X) → [] ≡ xs ++ x ∷ [] → ⊥
last_empty [] x e = cc
last_empty (y ∷ xs) x e = cc

module _ (unique : StepUnique) (w : World) (who : ℕ) where
  -- where a step was made, there was one to make
  can_step : (n : ℕ) (next : World) (x : Option Happened) → Makes w who n next x → 0 < n → (kind : Kind) × (other : World) × Steps w who kind other
  can_step n next x (no_step zero is told) some = absurd (omega (arith, zero, some))
  can_step n next x (one_more before mid count makes last) some =
      elim (cases_lt 0 before) [
        | inl more_before ↦ can_step before mid None makes more_before
        | inr none_before ↦
            let same = (one_end unique who w before mid w None None makes (no_step (omega (arith, none_before)) refl refl)).0 in
            (last.kind, next, subst (λ m. Steps m who last.kind next) same last.step)
      ]

  some_steps : (n : ℕ) (next : World) (x : Option Happened) → Makes w who n next x → IsSome x → 0 < n
  some_steps n next None makes some = cc
  some_steps n next (Some what) (no_step zero is told) some = absurd cc
  some_steps n next (Some what) (one_more before mid count makes last) some = omega (arith, count)

  -- a request that was told of was open
  was_open : (n : ℕ) (next : World) (x : Option Happened) → Makes w who n next x → IsSome x → IsClosed (process_at w who) → ⊥
  was_open n next x makes some closed =
      let (kind, other, step) = can_step n next x makes (some_steps n next x makes some) in
      let p = step.process in
      let same : process_at w who ≡ p = get_there w.processes who p (resting w.shape) step.here in
      false≢true (sym closed ∙ ap (λ (q : Process). is_open q.caller.stage) same ∙ open_at p.caller.stage kind step.is_kind)

  -- ---- one event of the caller
  abbrev Same : World → Option Happened → World → Option Happened → Type 0
  Same a x b y = (a ≡ b) × (x ≡ y)

  module _ (p : Process) (a b : World) (x y : Option Happened) where
    one_read : (addr : ℕ) (o : Option ℕ) → Reads w who p addr o a x → Reads w who p addr o b y → Same a x b y
    one_read addr None r s = (r.0 ∙ sym s.0, r.1 ∙ sym s.1)
    one_read addr (Some value) r s = (r.0 ∙ sym s.0, r.1 ∙ sym s.1)

    one_write : (addr value : ℕ) → Writes w who p addr value a x → Writes w who p addr value b y → Same a x b y
    one_write addr value (inl r) (inl s) = (r.1 ∙ sym s.1, r.2 ∙ sym s.2)
    one_write addr value (inl r) (inr s) = absurd (s.0 r.0)
    one_write addr value (inr r) (inl s) = absurd (r.0 s.0)
    one_write addr value (inr r) (inr s) = (r.1 ∙ sym s.1, r.2 ∙ sym s.2)

    one_run : (n m : ℕ) → Makes w who n a x → IsSome x → Makes w who m b y → IsSome y → Same a x b y
    one_run n m made some other also =
        elim (cases_lt n m) [
          | inl less ↦ absurd (no_more unique who w n m a b x y made (ended x some) less other)
          | inr rest ↦ elim (cases_lt m n) [
            | inl less ↦ absurd (no_more unique who w m n b a y x other (ended y also) less made)
            | inr as_many ↦
                let same : m ≡ n = omega (arith, rest, as_many) in
                one_end unique who w n a b x y made (subst (λ k. Makes w who k b y) same other)
          ]
        ]
      where
        ended : {next : World} (o : Option Happened) → IsSome o → Stuck next who o
        ended None is = cc
        ended (Some what) is = λ nothing. absurd cc

    one_act : (act : Act) → Does w who p a x act → Does w who p b y act → Same a x b y
    one_act act.Begin d e = (d.2.0 ∙ sym e.2.0, d.2.1 ∙ sym e.2.1)
    one_act (act.Read addr) d e = one_read addr (value_of p.caller.writes addr) d.2 e.2
    one_act (act.Write addr value) d e = one_write addr value d.2 e.2
    one_act act.Stamp d e = (d.2.0 ∙ sym e.2.0, d.2.1 ∙ sym e.2.1)
    one_act act.Turn d e = (d.2.0 ∙ sym e.2.0, d.2.1 ∙ sym e.2.1)
    one_act act.Done d e = (d.2 ∙ sym e.2, d.3 ∙ sym e.3)
    one_act act.GiveUp d e = (d.1.0 ∙ sym e.1.0, d.1.1 ∙ sym e.1.1)
    one_act (act.Seal region) d e = absurd d
    one_act (act.Publish region) d e = absurd d
    one_act (act.Load addr) d e = absurd d
    one_act (act.Store addr value) d e = absurd d
    one_act (act.Step count) d e = one_end unique who w count a b x y d e
    one_act act.Run (n, made, some) (m, other, also) = one_run n m made some other also

-- ---- one event after another
module _ (unique : StepUnique) where
  not_skipped : (prior : Option Event) (w : World) (e : Event) (a : World) (x : Option Happened) → Does w e.who (process_at w e.who) a x e.act
      → IsSkipped prior w e → ⊥
  not_skipped prior w e a x done skipped =
      let (n, made, some) = subst (Does w e.who (process_at w e.who) a x) skipped.runs done in
      was_open unique w e.who n a x made some skipped.answered

  one_event : (prior : Option Event) (w : World) (e : Event) (a b : World) (lines told : List TraceLine) → Happens prior w e a lines
      → Happens prior w e b told → (a ≡ b) × (lines ≡ told)
  one_event prior w e a b lines told (does x here range d is) (does y here' range' d' is') =
      let same = one_act unique w e.who (process_at w e.who) a b x y e.act d d' in
      (same.0, is ∙ ap (line_of e.who) same.1 ∙ sym is')
  one_event prior w e a b lines told (does x here range d is) (skips here' skipped there is') = absurd (not_skipped prior w e a x d skipped)
  one_event prior w e a b lines told (skips here skipped there is) (does y here' range' d' is') = absurd (not_skipped prior w e b y d' skipped)
  one_event prior w e a b lines told (skips here skipped there is) (skips here' skipped' there' is') = (there ∙ sym there', is ∙ sym is')

  one_trace : (first w other : World) (events : List Event) (prior before : Option Event) (lines told : List TraceLine) → Leads first events prior w lines
      → Leads first events before other told → (prior ≡ before) × (w ≡ other) × (lines ≡ told)
  one_trace first w other events prior before lines told (start none p is l) (start none' p' is' l') = (p ∙ sym p', is ∙ sym is', l ∙ sym l')
  one_trace first w other events prior before lines told (start none p is l) (more earlier b mid e one two leads happens at p' l') =
      absurd (last_empty earlier e (sym none ∙ at))
  one_trace first w other events prior before lines told (more earlier b mid e one two leads happens at p l) (start none p' is' l') =
      absurd (last_empty earlier e (sym none ∙ at))
  one_trace first w other events prior before lines told (more earlier b mid e one two leads happens at p l)
      (more earlier' b' mid' e' one' two' leads' happens' at' p' l') =
      let lists = last_same earlier' earlier e' e (sym at' ∙ at) in
      let rest = one_trace first mid mid' earlier b b' one one' leads (subst (λ es. Leads first es b' mid' one') lists.0 leads') in
      let there = subst (λ o. Happens o mid e other two') (sym rest.0)
      (subst (λ m. Happens b' m e other two') (sym rest.1) (subst (λ v. Happens b' mid' v other two') lists.1 happens')) in
      let last = one_event b mid e w other two two' happens there in
      (p ∙ ap (λ v. Some v) (sym lists.1) ∙ sym p', last.0, l ∙ ap (λ k. k ++ two) rest.2 ∙ ap (λ k. one' ++ k) last.1 ∙ sym l')

  pub traces_agree : TracesAgree
  traces_agree first w other events prior before lines told leads also =
      let same = one_trace first w other events prior before lines told leads also in
      (same.1, same.2)
