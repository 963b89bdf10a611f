-- What an answered request to stamp says of the pass.
use Rattle.std.proofs.Common.{◌≡◌, ◌≢◌, ℕ, ◌+◌, ◌-◌, ◌≤◌, ◌<◌, List, [], length, Some, refl, sym, ◌∙◌, ap, subst, arith, inl, inr}
use Rattle.std.proofs.lemmas.Bool.{cases_lt}
use Rattle.atomic_table.specs.Seated.{TableId}
use Rattle.tx_model.specs.declared.history.Commit.{Commit}
use Rattle.tx_model.specs.declared.pass.Stop.{Stop}
use Rattle.tx_model.specs.declared.pass.Stop.TheVariants.{Met, Overrun}
use Rattle.tx_model.specs.Words.{addresses}
use Rattle.tx_model.specs.Calls.{GoesOnWith, Ended}
use Rattle.ring_core.specs.declared.shape.Shape.{Shape}
use Rattle.ring_core.specs.declared.caller.Caller.{Caller}
use Rattle.ring_core.specs.declared.action.Later.{Later}
use Rattle.ring_core.specs.declared.action.Later.TheVariants as later
use Rattle.ring_core.specs.declared.action.Progress.{Progress}
use Rattle.ring_core.specs.declared.action.Progress.TheVariants as answer
use Rattle.ring_core.specs.declared.kind.Kind.{Kind}
use Rattle.ring_core.specs.declared.kind.Kind.TheVariants as kind
use Rattle.ring_core.specs.declared.stage.Stage.{Stage}
use Rattle.ring_core.specs.declared.stage.Stage.TheVariants.{Closed, BeginIndex, BeginTag, ReadHeap, Check, StampSlot, StampSwap, Turn, Between}
use Rattle.ring_core.specs.declared.stage.Purpose.TheVariants.{Read, Stamp}
use Rattle.ring_core.specs.declared.stage.CheckStage.{CheckStage}
use Rattle.ring_core.specs.declared.stage.CheckStage.TheVariants.{Index, First, Words, Second}
use Rattle.ring_core.specs.declared.stage.Walk.{Walk}
use Rattle.ring_core.specs.Kinds.{kind_at}
use Rattle.ring_core.specs.Machine.{steps_of}
use Rattle.ring_core.specs.Outcomes.{Outcome, made, idle, ends, stops, outcome_at}
use Rattle.ring_core.specs.Request.{action_at}
use Rattle.ring_core.specs.Sound as core
use Rattle.ring_core.specs.Words.{IsWordAt}
use Rattle.ring_worlds.specs.declared.process.Process.{Process}
use Rattle.ring_worlds.specs.World.{asked_first}
use Rattle.ring_worlds.specs.Answers.{IsTopOf, IsPastTop}
use Rattle.ring_worlds.proofs.lemmas.Outcomes.{swaps}
use Rattle.ring_words.specs.declared.stamp.Stamp.TheVariants as stamp
use Rattle.ring_words.specs.declared.table.About.{About}
use Rattle.ring_words.specs.declared.table.Knowledge.{Knowledge}
use Rattle.ring_words.specs.declared.pass.RingPass.{RingPass}
use Rattle.ring_words.specs.Ring.{given_of, front_of}
use Rattle.ring_words.specs.Known.{front_known, found_known, kind_known}
use Rattle.ring_words.specs.Told.{LoadedFrom, TellsOn, board_with, IsAhead}
use Rattle.ring_words.specs.Pass.{process_now, attempt_now, view_of, steps_made, IsSeated, Stepped, shows_in}
use Rattle.ring_words.specs.Stamping.{HasTop, StampsOn, LoadedIndex, FoundLast, AnswersStamp}
use Rattle.ring_words.proofs.Seated.{caller_now, now_is, from, after, outcome, made_is, steps_after}
use Rattle.ring_words.proofs.StampFollows.{IsTop, FollowsStamp, goes_on, stopped, wears, unpublished, busy}
use Rattle.ring_words.proofs.StampSteps as steps

-- what each answer says
abbrev pub Says : {S : Type 0} → About S → RingPass S → RingPass S → Progress → Type 0
Says about old new (answer.Stamped number) = AnswersStamp about old new (stamp.Stamped number)
Says about old new (answer.Later why) = AnswersStamp about old new (stamp.Later why)
Says about old new (answer.Stopped stop) = AnswersStamp about old new (stamp.Stopped stop)
Says about old new (answer.Worn index) = AnswersStamp about old new (stamp.Worn index)
Says about old new _ = ⊥

pub nothing_else : {S : Type 0} (about : About S) (old new : RingPass S) (progress : Progress) → Says about old new progress
    → ((number : ℕ) → progress ≢ answer.Stamped number) → ((why : Later) → progress ≢ answer.Later why) → ((stop : Stop) → progress ≢ answer.Stopped stop)
    → ((index : ℕ) → progress ≢ answer.Worn index) → ⊥
nothing_else about old new (answer.Stamped number) says a b c d = a number refl
nothing_else about old new (answer.Later why) says a b c d = b why refl
nothing_else about old new (answer.Stopped stop) says a b c d = c stop refl
nothing_else about old new (answer.Worn index) says a b c d = d index refl
nothing_else about old new answer.Going says a b c d = says
nothing_else about old new (answer.Started start) says a b c d = says
nothing_else about old new (answer.Value value) says a b c d = says
nothing_else about old new (answer.Completed number) says a b c d = says

-- the index that a stamp has loaded isn't the greatest
top_free : (shape : Shape) (c : Caller) (stage : Stage) → core.IsStage shape c stage → (top : ℕ) → HasTop stage top → top < shape.life
top_free shape c (Check Stamp (First walk)) is_stage top has = omega (arith, is_stage.2.free refl, has)
top_free shape c (Check Stamp (Words walk word)) is_stage top has = omega (arith, is_stage.2.0.free refl, has)
top_free shape c (Check Stamp (Second walk)) is_stage top has = omega (arith, is_stage.2.free refl, has)
top_free shape c (StampSlot loaded) is_stage top has = omega (arith, is_stage.free, has)
top_free shape c (StampSwap loaded) is_stage top has = omega (arith, is_stage.free, has)
top_free shape c (Check Stamp Index) is_stage top has = absurd has
top_free shape c (Check (Read addr value) at) is_stage top has = absurd has
top_free shape c Closed is_stage top has = absurd has
top_free shape c BeginIndex is_stage top has = absurd has
top_free shape c (BeginTag first at) is_stage top has = absurd has
top_free shape c (ReadHeap addr) is_stage top has = absurd has
top_free shape c (Turn at) is_stage top has = absurd has
top_free shape c (Between at) is_stage top has = absurd has

not_last : (index life : ℕ) → index ≤ life → index ≢ life → index < life
not_last index life within apart =
    elim (cases_lt index life) [
      | inl less ↦ less
      | inr late ↦ absurd (apart (omega (arith, within, late)))
    ]

-- what shows a stop of a later start shows one of an earlier
shows_earlier : (shape : Shape) (history : List Commit) (start now : ℕ) (read : List ℕ) (stop : Stop) → start ≤ now → shows_in shape history now read stop →
    shows_in shape history start read stop
shows_earlier shape history start now read (Met entry) less shown =
    record { later = omega (arith, less, shown.later); commit = shown.commit; there = shown.there; shared = shown.shared }
shows_earlier shape history start now read (Overrun entry seen) less shown =
    record { later = omega (arith, less, shown.later); gone = shown.gone; happened = shown.happened }

module _ {S : Type 0} (good : S → List ℕ → List ℕ → Type 0) (budget : S → List ℕ → ℕ) (about : About S) (table : TableId) (old : RingPass S)
    (wrote : (attempt_now old).writes ≢ []) (last : RingPass S) (p : IsSeated good budget about table last) (kept : StampsOn old last) where
  abbrev k : Knowledge S
  k = p.knowledge

  abbrev c : Caller
  c = last.local.caller

  abbrev q : Process
  q = caller_now good budget about table last p

  reads_are : q.reads ≡ (process_now old).reads
  reads_are = ap (λ (x : Process). x.reads) (sym (now_is good budget about table last p)) ∙ kept.has.reads

  is_stage : core.IsStage about.shape c c.stage
  is_stage = p.moved.machine.stage

  -- ---- the last step was a load, or a swap that found another index
  module _ (new : RingPass S) (progress : Progress) (t : Stepped good budget last new progress) (fewer : steps_of new.local < steps_of last.local) where
    abbrev o : Outcome
    o = outcome good budget about table last p new progress t

    abbrev f : LoadedFrom good budget k q t.word new.seat.me
    f = from good budget about table last p new progress t

    caller_then : (x : Outcome) → o ≡ x → new.local.caller ≡ x.caller
    caller_then x is = ap (λ (y : Outcome). y.caller) (made_is good budget about table last p new progress t ∙ is)

    tells_then : (x : Outcome) → o ≡ x → TellsOn (given_of k.about) (board_with f.history f.tags) q x
    tells_then x is = subst (TellsOn (given_of k.about) (board_with f.history f.tags) q) is f.tells

    front_now : (view_of new).front ≡ front_of (after good budget about table last p new progress t).process
    front_now = ap front_known f.now

    told_shape : k.about.shape ≡ about.shape
    told_shape = ap (λ (a : About S). a.shape) p.told

    found_last : (word : ℕ) → t.word ≡ word → (step : Kind) → kind_at c.stage ≡ Some step → FoundLast (steps_made old) new word step
    found_last word is step of_kind =
        record {
          rose = omega (arith, kept.rose, steps_after good budget about table last p new progress t);
          found = ap found_known f.now ∙ is;
          of_kind = ap kind_known f.now ∙ of_kind;
        }

    loads_top : (top : ℕ) → IsTop c.stage t.word top → (c.stage ≡ Check Stamp Index → top ≢ k.about.shape.life) → LoadedIndex about.shape.life
        (view_of old) (view_of new) top
    loads_top top (inl has) free =
        record {
          happened = steps.top_happened good budget about table old last new progress kept p t fewer top (inl has);
          free = top_free about.shape c c.stage is_stage top has;
        }
    loads_top top (inr (at, is)) free =
        let can = subst (λ (s : Stage). IsWordAt k.about.shape c s t.word) at f.can in
        let life = ap (λ (s : Shape). s.life) told_shape in
        record {
          happened = steps.top_happened good budget about table old last new progress kept p t fewer top (inr (at, is));
          free = let less = not_last top k.about.shape.life (omega (arith, can.1, is)) (free at) in omega (arith, less, life);
        }

    -- ---- the attempt is over
    ended : (progress' : Progress) → o ≡ made (idle k.about.shape c) progress' → Ended (view_of old) (view_of new) (attempt_now old)
    ended progress' is =
        record {
          idle = ap (λ (d : Caller). d.state) (caller_then (made (idle k.about.shape c) progress') is);
          later = steps.later_on good budget about table old last new progress kept p t fewer;
          front = omega (arith, front_now, ap (λ (x : Outcome). x.caller.start) is, kept.has.start);
        }

    stops_so : (stop : Stop) (top : ℕ) (inner : CheckStage) → c.stage ≡ Check Stamp inner → IsTop c.stage t.word top
        → (c.stage ≡ Check Stamp Index → top ≢ k.about.shape.life) → o ≡ stops k.about.shape c stop → Says about old new (answer.Stopped stop)
    stops_so stop top inner at has free is = (
      ended (answer.Stopped stop) is,
      shows_earlier about.shape (view_of new).history (attempt_now old).start c.start (addresses (attempt_now old).reads) stop kept.has.start
          (subst (λ (s : Shape). shows_in s (view_of new).history c.start (addresses (attempt_now old).reads) stop) told_shape
          (subst (λ h. shows_in k.about.shape h c.start (addresses (attempt_now old).reads) stop)
          (sym (steps.history_is good budget about table old last new progress kept p t fewer))
          (subst (λ l. shows_in k.about.shape f.history c.start l stop) read (shown stop (tells_then (stops k.about.shape c stop) is))))),
      (top, loads_top top has free),
    )
      where
        read : asked_first c.stage q.reads ≡ addresses (attempt_now old).reads
        read = ap (λ (s : Stage). asked_first s q.reads) at ∙ ap addresses reads_are

        shown : (given : Stop) → TellsOn (given_of k.about) (board_with f.history f.tags) q (stops k.about.shape c given) →
            shows_in k.about.shape f.history c.start (asked_first c.stage q.reads) given
        shown (Met entry) told = told
        shown (Overrun entry seen) told = told

    wears_so : c.stage ≡ Check Stamp Index → t.word ≡ k.about.shape.life → o ≡ made (idle k.about.shape c) (answer.Worn t.word) →
        Says about old new (answer.Worn t.word)
    wears_so at worn is =
        let found = f.index (ap (action_at k.about.shape c) at) in
        let life = ap (λ (s : Shape). s.life) told_shape in
        record {
          ended = ended (answer.Worn t.word) is;
          wrote = wrote;
          last = worn ∙ life;
          full = ap length (steps.history_is good budget about table old last new progress kept p t fewer) ∙ sym found ∙ worn ∙ life;
        }

    -- ---- it goes on
    keeps_so : (why : Later) → o ≡ ends c (answer.Later why) → GoesOnWith (view_of old) (view_of new) (attempt_now old)
        (attempt_now new) (attempt_now old).reads (attempt_now old).writes
    keeps_so why is =
        let has = steps.has_after good budget about table old last new progress kept p t fewer (inr (why, ap (λ (x : Outcome). x.progress) is))
        (ap (λ (x : Outcome). x.caller.state) is) (ap (λ (x : Outcome). x.caller.writes) is) in
        record {
          goes_on = record {
            active = has.active;
            later = steps.later_on good budget about table old last new progress kept p t fewer;
            start = has.start;
          };
          reads = has.reads;
          writes = has.writes;
          sealed = has.sealed;
          published = has.published;
        }

    ahead_then : (why : Later) → o ≡ ends c (answer.Later why) → IsAhead (view_of new).front (answer.Later why)
    ahead_then why is =
        subst (λ n. IsAhead n (answer.Later why)) (sym front_now)
        (subst (λ (x : Progress). IsAhead (front_of (after good budget about table last p new progress t).process) x) (ap (λ (x : Outcome). x.progress) is)
        f.ahead)

    unpublished_so : (walk : Walk) → c.stage ≡ Check Stamp (First walk) → o ≡ ends c (answer.Later (later.Unpublished walk.at t.word)) →
        Says about old new (answer.Later (later.Unpublished walk.at t.word))
    unpublished_so walk at is =
        let told = tells_then (ends c (answer.Later (later.Unpublished walk.at t.word))) is in
        let top : walk.top ≡ walk.at = subst (λ (s : Stage). IsTopOf s walk.at) at told.2 in
        let has : HasTop c.stage walk.at = subst (λ (s : Stage). HasTop s walk.at) (sym at) top in (
          keeps_so (later.Unpublished walk.at t.word) is,
          (
            loads_top walk.at (inl has) (λ other. absurd (let e = sym at ∙ other in cc)),
            told.1,
            ahead_then (later.Unpublished walk.at t.word) is,
            found_last t.word refl kind.LoadTag (ap kind_at at),
          ),
        )

    busy_so : (top entry : ℕ) → c.stage ≡ StampSlot top → o ≡ ends c (answer.Later (later.SlotBusy entry t.word)) →
        Says about old new (answer.Later (later.SlotBusy entry t.word))
    busy_so top entry at is =
        let told = tells_then (ends c (answer.Later (later.SlotBusy entry t.word))) is in
        let ahead = ahead_then (later.SlotBusy entry t.word) is in
        let slot : top ≡ entry + k.about.shape.ring - 1 =
        subst (λ (s : Stage). IsTopOf s (entry + k.about.shape.ring - 1)) at told.2 in
        let ring = ap (λ (s : Shape). s.ring) told_shape in
        let has : HasTop c.stage top = subst (λ (s : Stage). HasTop s top) (sym at) refl in (
          keeps_so (later.SlotBusy entry t.word) is,
          (
            (top, loads_top top (inl has) (λ other. absurd (let e = sym at ∙ other in cc)), omega (arith, slot, ring, ahead)),
            told.1,
            ahead,
            found_last t.word refl kind.LoadTag (ap kind_at at),
          ),
        )

    lost_so : (from' : ℕ) → c.stage ≡ StampSwap from' → o ≡ ends c (answer.Later (later.Lost t.word)) → Says about old new (answer.Later (later.Lost t.word))
    lost_so from' at is =
        let told = tells_then (ends c (answer.Later (later.Lost t.word))) is in
        let past : from' < t.word = subst (λ (s : Stage). IsPastTop s t.word) at told.1 in
        let has : HasTop c.stage from' = subst (λ (s : Stage). HasTop s from') (sym at) refl in (
          keeps_so (later.Lost t.word) is,
          (
            (from', loads_top from' (inl has) (λ other. absurd (let e = sym at ∙ other in cc)), past),
            told.0 ∙ ap length (sym (steps.history_is good budget about table old last new progress kept p t fewer)),
            found_last t.word refl kind.SwapIndex (ap kind_at at),
          ),
        )

    progress_then : (x : Outcome) → o ≡ x → x.progress ≡ progress
    progress_then x is = sym (ap (λ (y : Outcome). y.progress) is) ∙ sym (steps.progress_is good budget about table old last new progress kept p t fewer)

    pub load_said : progress ≢ answer.Going → FollowsStamp k.about.shape c c.stage t.word o → Says about old new progress
    load_said over (goes_on is same writes stage tops) =
        absurd (over (steps.progress_is good budget about table old last new progress kept p t fewer ∙ is))
    load_said over (stopped stop top inner at has free is) = subst (Says about old new) (progress_then (stops k.about.shape c stop) is)
        (stops_so stop top inner at has free is)
    load_said over (wears at worn is) = subst (Says about old new) (progress_then (made (idle k.about.shape c) (answer.Worn t.word)) is) (wears_so at worn is)
    load_said over (unpublished walk at is) =
        subst (Says about old new) (progress_then (ends c (answer.Later (later.Unpublished walk.at t.word))) is) (unpublished_so walk at is)
    load_said over (busy top entry at is) =
        subst (Says about old new) (progress_then (ends c (answer.Later (later.SlotBusy entry t.word))) is) (busy_so top entry at is)

    pub swap_said : (from' : ℕ) → c.stage ≡ StampSwap from' → t.word ≢ from' → Says about old new progress
    swap_said from' at other =
        let is : o ≡ ends c (answer.Later (later.Lost t.word)) =
        ap (λ (s : Stage). outcome_at k.about.shape c s t.word) at
        ∙ swaps k.about.shape c (λ x. x ≡ ends c (answer.Later (later.Lost t.word))) from' t.word (λ won. absurd (other won)) (λ lost. refl) in
        subst (Says about old new) (progress_then (ends c (answer.Later (later.Lost t.word))) is) (lost_so from' at is)
