-- A step keeps what holds of a caller, and leaves fewer steps.
use Rattle.std.proofs.Common.{◌≡◌, ◌≢◌, ℕ, ◌+◌, ◌-◌, ◌<◌, ◌≤◌, ◌⊎◌, inl, inr, nat_lt, nat_le, true, false, List, [], length, replicate, set, refl, ◌∙◌, ap, arith}
use Rattle.std.proofs.lemmas.Bool.{cond_both, ltb-true}
use Rattle.std.proofs.lemmas.List.{length-set, length-replicate}
use Rattle.std.proofs.lemmas.List.Elements.{All-nil}
use Rattle.std.proofs.lemmas.Bool.Decides.{nat_tests}
use Rattle.std.proofs.lemmas.Nat.{mul-le}
use Rattle.tx_model.specs.declared.pass.PassState.{PassState}
use Rattle.tx_model.specs.declared.pass.PassState.TheVariants as state
use Rattle.tx_model.specs.declared.word.Word.{Word}
use Rattle.ring_sig.specs.Signature.{IsWordCount}
use Rattle.ring_core.specs.declared.shape.Shape.{Shape}
use Rattle.ring_core.specs.declared.caller.Caller.{Caller}
use Rattle.ring_core.specs.declared.action.Progress.{Progress}
use Rattle.ring_core.specs.declared.action.Progress.TheVariants as answer
use Rattle.ring_core.specs.declared.stage.Stage.{Stage}
use Rattle.ring_core.specs.declared.stage.Stage.TheVariants.{Closed, BeginTag, Check, StampSlot, Between}
use Rattle.ring_core.specs.declared.stage.TurnStage.{TurnStage}
use Rattle.ring_core.specs.declared.stage.Purpose.{Purpose}
use Rattle.ring_core.specs.declared.stage.Purpose.TheVariants.{Read, Stamp}
use Rattle.ring_core.specs.declared.stage.CheckStage.TheVariants.{First}
use Rattle.ring_core.specs.declared.stage.Walk.{Walk}
use Rattle.ring_core.specs.Shape.{IsShape}
use Rattle.ring_core.specs.Outcomes.{Outcome, made, goes, ends, waits, started, begin_from, begin_tag, idle, check_from, checked}
use Rattle.ring_core.specs.Request.{is_open}
use Rattle.ring_core.specs.Steps.{steps_left, steps_at, walk_steps, after_check}
use Rattle.ring_core.specs.Sound.{IsSized, IsResting, IsSound, IsStage, IsPurpose}
use Rattle.ring_core.specs.Tags.{complete}
use Rattle.ring_sig.proofs.Lemmas.{empty_signature}

pub record Keeps (shape : Shape) (bound : ℕ) (o : Outcome) : Type 0 where
  pub sound : IsSound shape o.caller
  pub fewer : steps_left shape o.caller < bound
  -- the request goes on exactly where the answer says so
  pub tells : ((is_open o.caller.stage ≡ true) × (o.progress ≡ answer.Going)) ⊎ ((is_open o.caller.stage ≡ false) × (o.progress ≢ answer.Going))

-- a walk that may have come to the start
pub record IsReady (shape : Shape) (start : ℕ) (purpose : Purpose) (walk : Walk) : Type 0 where
  pub reached : start ≤ walk.at
  pub within : walk.at ≤ walk.top
  pub lived : walk.top ≤ shape.life
  pub near : walk.top - start ≤ shape.ring
  pub kept : walk.at ≤ walk.candidate
  pub most : walk.candidate ≤ walk.top
  pub free : purpose ≡ Stamp → walk.top < shape.life

-- what holds of a caller at every stage
pub record IsSteady (shape : Shape) (c : Caller) : Type 0 where
  pub sized : IsSized shape c.start c.read_sig c.writes c.write_sig c.loaded
  pub idle : c.state ≡ state.Idle → IsResting shape c
  pub unstamped : c.state ≢ state.Stamped → c.stamp ≡ 0

pub active≢stamped : (now : PassState) → now ≡ state.Active → now ≢ state.Stamped
active≢stamped now a s = cc

pub active≢idle : (now : PassState) → now ≡ state.Active → now ≢ state.Idle
active≢idle now a s = cc

pub idle≢stamped : (now : PassState) → now ≡ state.Idle → now ≢ state.Stamped
idle≢stamped now a s = cc

pub some_words : (w : ℕ) → IsWordCount w → 0 < w
some_words w h = grind (arith, nat_tests)

module _ (shape : Shape) where
  pub steady_of : (c : Caller) → IsSound shape c → IsSteady shape c
  steady_of c sound = record { sized = sound.sized; idle = sound.idle; unstamped = sound.unstamped }

  pub sound_of : (c : Caller) → IsSteady shape c → IsStage shape c c.stage → IsSound shape c
  sound_of c steady staged = record {
    sized = steady.sized;
    idle = steady.idle;
    unstamped = steady.unstamped;
    stage = staged;
  }

  -- the caller at another stage
  pub sound_at : (c : Caller) (stage : Stage) → IsSteady shape c → IsStage shape (record c { stage = stage }) stage
      → IsSound shape (record c { stage = stage })
  sound_at c stage steady staged = record {
    sized = steady.sized;
    idle = λ is.
        let r = steady.idle is in
        record { reads = r.reads; writes = r.writes; wrote = r.wrote; stamp = r.stamp };
    unstamped = steady.unstamped;
    stage = staged;
  }

  pub active_steady : (c : Caller) → IsSized shape c.start c.read_sig c.writes c.write_sig c.loaded → c.state ≡ state.Active → c.stamp ≡ 0 → IsSteady shape c
  active_steady c sized is none = record {
    sized = sized;
    idle = λ no. absurd (active≢idle c.state is no);
    unstamped = λ _. none;
  }

  pub stamped_steady : (c : Caller) → IsSized shape c.start c.read_sig c.writes c.write_sig c.loaded → c.state ≡ state.Stamped → IsSteady shape c
  stamped_steady c sized is = record {
    sized = sized;
    idle = λ no. absurd (idle≢stamped c.state no is);
    unstamped = λ no. absurd (no is);
  }

  -- another start, other reads, and other words loaded
  pub resized : {start start' : ℕ} {reads reads' wrote loaded loaded' : List ℕ} {writes : List Word} → IsSized shape start reads writes wrote loaded
      → start' ≤ shape.life → length reads' ≡ shape.sig_words → length loaded' ≡ 16 → IsSized shape start' reads' writes wrote loaded'
  resized s lived reads scratch = record {
    lived = lived;
    reads = reads;
    fits = s.fits;
    apart = s.apart;
    within = s.within;
    wrote = s.wrote;
    signed = s.signed;
    scratch = scratch;
  }

  -- one more word was loaded
  pub loads : {start : ℕ} {reads wrote loaded : List ℕ} {writes : List Word} (i value : ℕ) → IsSized shape start reads writes wrote loaded
      → IsSized shape start reads writes wrote (set loaded i value)
  loads {loaded = loaded} i value s = resized s s.lived s.reads (length-set loaded i value ∙ s.scratch)

  pub idle_sized : (start : ℕ) (loaded : List ℕ) → start ≤ shape.life → length loaded ≡ 16
      → IsSized shape start (replicate shape.sig_words 0) [] (replicate shape.sig_words 0) loaded
  idle_sized start loaded lived scratch = record {
    lived = lived;
    reads = length-replicate shape.sig_words 0;
    fits = omega arith;
    apart = λ i j first below. absurd (omega (arith, below));
    within = All-nil _;
    wrote = length-replicate shape.sig_words 0;
    signed = empty_signature shape.sig_words;
    scratch = scratch;
  }

  pub idle_sound : (c : Caller) → c.start ≤ shape.life → length c.loaded ≡ 16 → IsSound shape (idle shape c)
  idle_sound c lived scratch = record {
    sized = idle_sized c.start c.loaded lived scratch;
    idle = λ _. record { reads = refl; writes = refl; wrote = refl; stamp = refl };
    unstamped = λ _. refl;
    stage = idle≢stamped state.Idle refl;
  }

module _ (shape : Shape) (good : IsShape shape) where
  -- ---- the steps of a walk
  pub one_entry : (at start : ℕ) → start < at → walk_steps shape (at - start) ≡ walk_steps shape (at - 1 - start) + (shape.sig_words + 2)
  one_entry at start h =
      let e : at - start ≡ (at - 1 - start) + 1 = omega arith in
      ap (walk_steps shape) e ∙ omega arith

  pub same_rest : (at start : ℕ) → walk_steps shape (at - start - 1) ≡ walk_steps shape (at - 1 - start)
  same_rest at start = ap (walk_steps shape) (let e : at - start - 1 ≡ at - 1 - start = omega arith in e)

  pub most_entries : (n : ℕ) → n ≤ shape.ring → walk_steps shape n ≤ walk_steps shape shape.ring
  most_entries n h = mul-le n (shape.sig_words + 2) shape.ring (shape.sig_words + 2) h (omega arith)

  -- ---- a caller that goes on, ends or has no attempt
  module _ (c : Caller) (steady : IsSteady shape c) where
    pub goes_keeps : (stage : Stage) (bound : ℕ) → is_open stage ≡ true → IsStage shape (record c { stage = stage }) stage
        → steps_at shape (record c { stage = stage }) stage < bound → Keeps shape bound (goes c stage)
    goes_keeps stage bound is staged fewer = record { sound = sound_at shape c stage steady staged; fewer = fewer; tells = inl (is, refl) }

    pub waits_keeps : (stage : TurnStage) (entry tag bound : ℕ) → IsStage shape (record c { stage = Between stage }) (Between stage) → 0 < bound
        → Keeps shape bound (waits c stage entry tag)
    waits_keeps stage entry tag bound at some = record { sound = sound_at shape c (Between stage) steady at; fewer = some; tells = inr (refl, λ e. cc) }

    pub ends_keeps : (progress : Progress) (bound : ℕ) → progress ≢ answer.Going → c.state ≢ state.Stamped → 0 < bound → Keeps shape bound (ends c progress)
    ends_keeps progress bound says unstamped some = record { sound = sound_at shape c Closed steady unstamped; fewer = some; tells = inr (refl, says) }

    pub idle_keeps : (progress : Progress) (bound : ℕ) → progress ≢ answer.Going → 0 < bound → Keeps shape bound (made (idle shape c) progress)
    idle_keeps progress bound says some = record {
      sound = idle_sound shape c steady.sized.lived steady.sized.scratch;
      fewer = some;
      tells = inr (refl, says);
    }

  -- ---- begin
  pub started_keeps : (c : Caller) (start bound : ℕ) → IsSteady shape c → c.state ≡ state.Idle → start ≤ shape.life → 0 < bound
      → Keeps shape bound (started c start)
  started_keeps c start bound steady is_idle lived some = record {
    sound = sound_of shape (started c start).caller
        (active_steady shape (started c start).caller (resized shape steady.sized lived steady.sized.reads steady.sized.scratch) refl
        (steady.idle is_idle).stamp)
        (active≢stamped state.Active refl);
    fewer = some;
    tells = inr (refl, λ e. cc);
  }

  pub begin_from_keeps : (c : Caller) (top at bound : ℕ) → IsSteady shape c → c.state ≡ state.Idle → top ≤ shape.life → at ≤ top
      → at - (top - shape.ring) < bound → Keeps shape bound (begin_from shape c top at)
  begin_from_keeps c top at bound steady is_idle lived within fewer =
      cond_both (nat_lt (top - shape.ring) at) _ _ (Keeps shape bound)
      (λ yes. goes_keeps c steady (BeginTag top at) bound refl (is_idle, lived, within, ltb-true _ _ yes) fewer)
      (λ no. started_keeps c (top - shape.ring) bound steady is_idle (omega arith) (omega arith))

  pub begin_tag_keeps : (c : Caller) (top at tag : ℕ) → IsSteady shape c → IsStage shape c (BeginTag top at)
      → Keeps shape (steps_at shape c (BeginTag top at)) (begin_tag shape c top at tag)
  begin_tag_keeps c top at tag steady staged =
      cond_both (nat_le (complete at) tag) _ _ (Keeps shape (at - (top - shape.ring)))
      (λ yes. started_keeps c at _ steady staged.0 (omega arith) (omega arith))
      (λ no. begin_from_keeps c top (at - 1) _ steady staged.0 staged.1 (omega arith) (omega arith))

  -- ---- check
  pub check_from_keeps : (c : Caller) (purpose : Purpose) (walk : Walk) (bound : ℕ) → IsSteady shape c → c.state ≡ state.Active → IsPurpose shape c purpose
      → IsReady shape c.start purpose walk → walk_steps shape (walk.at - c.start) + after_check purpose < bound
      → Keeps shape bound (check_from c purpose walk)
  check_from_keeps c purpose walk bound steady active wants ready fewer =
      cond_both (nat_lt c.start walk.at) _ _ (Keeps shape bound)
      (λ yes. goes_keeps c steady (Check purpose (First walk)) bound refl (
        active,
        wants,
        record {
          after = ltb-true _ _ yes;
          within = ready.within;
          lived = ready.lived;
          near = ready.near;
          kept = ready.kept;
          most = ready.most;
          free = ready.free;
        },
      ) fewer)
      (λ no. checked_keeps purpose wants ready fewer)
    where
      moved : (stage : Stage) → IsReady shape c.start purpose walk → IsSteady shape (record c { start = walk.candidate; stage = stage })
      moved stage r =
          active_steady shape (record c { start = walk.candidate; stage = stage })
          (resized shape steady.sized (let a = r.most in let b = r.lived in omega arith) steady.sized.reads steady.sized.scratch) active
          (steady.unstamped (active≢stamped c.state active))

      checked_keeps : (why : Purpose) → IsPurpose shape c why → IsReady shape c.start why walk
          → walk_steps shape (walk.at - c.start) + after_check why < bound → Keeps shape bound (checked c why walk)
      checked_keeps (Read addr value) w r f = record {
        sound = sound_of shape _ (moved Closed ready) (active≢stamped c.state active);
        fewer = omega arith;
        tells = inr (refl, λ e. cc);
      }
      checked_keeps Stamp w r f = record {
        sound = sound_of shape _ (moved (StampSlot walk.top) ready) (record {
          active = active;
          wrote = w;
          after = r.most;
          near = let a = r.near in let b = r.kept in let d = r.reached in omega arith;
          free = r.free refl;
        });
        fewer = omega arith;
        tells = inl (refl, refl);
      }
