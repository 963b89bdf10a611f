-- A request to stamp goes on by a load that doesn't answer it.
use Rattle.std.proofs.Common.{◌≡◌, ◌≢◌, ◌⊎◌, ℕ, ◌+◌, ◌≤◌, ◌<◌, List, length, Contains, refl, sym, ◌∙◌, ap, subst, arith, inl, inr}
use Rattle.atomic_table.specs.Seated.{TableId}
use Rattle.tx_model.specs.declared.history.Commit.{Commit}
use Rattle.tx_model.specs.declared.pass.PassState.{PassState}
use Rattle.tx_model.specs.declared.pass.PassState.TheVariants as state
use Rattle.tx_model.specs.declared.view.Attempt.{Attempt}
use Rattle.tx_model.specs.declared.view.Owned.{Owned}
use Rattle.tx_model.specs.Memory.{Agrees, words_in}
use Rattle.tx_model.specs.History.{after_commit}
use Rattle.tx_model.specs.Attempt.{MayCommit, commit_of}
use Rattle.tx_model.specs.Calls.{IsLater}
use Rattle.tx_model.proofs.lemmas.Calls.{later_itself, later_then}
use Rattle.tx_model.proofs.lemmas.Histories.{beginning_length}
use Rattle.ring_core.specs.declared.caller.Caller.{Caller}
use Rattle.ring_core.specs.declared.action.Later.{Later}
use Rattle.ring_core.specs.declared.action.Progress.{Progress}
use Rattle.ring_core.specs.declared.action.Progress.TheVariants as answer
use Rattle.ring_core.specs.declared.stage.Stage.{Stage}
use Rattle.ring_core.specs.declared.stage.Stage.TheVariants.{Check}
use Rattle.ring_core.specs.declared.stage.Purpose.TheVariants.{Stamp}
use Rattle.ring_core.specs.declared.stage.CheckStage.TheVariants.{Index}
use Rattle.ring_core.specs.Machine.{steps_of}
use Rattle.ring_core.specs.Outcomes.{Outcome}
use Rattle.ring_core.specs.declared.action.Action.{Action}
use Rattle.ring_core.specs.declared.action.Action.TheVariants.{SwapIndex}
use Rattle.ring_core.specs.declared.shape.Shape.{Shape}
use Rattle.ring_core.specs.Request.{action_at, next_action}
use Rattle.ring_worlds.specs.declared.process.Process.{Process}
use Rattle.ring_worlds.specs.World.{process_after}
use Rattle.ring_words.specs.declared.table.About.{About}
use Rattle.ring_words.specs.declared.pass.RingPass.{RingPass}
use Rattle.ring_words.specs.Ring.{made_of}
use Rattle.ring_words.specs.Known.{history_known}
use Rattle.ring_words.specs.Pass.{process_with, process_now, attempt_now, view_of, noted_in, front_in, steps_made, IsSeated, Stepped}
use Rattle.ring_words.specs.Layout.{IsLoad}
use Rattle.ring_words.specs.Stamping.{IsStamp, HasTop, HadHappened, HasAttempt, StampsOn}
use Rattle.ring_words.proofs.Seated.{caller_now, now_is, from, after, outcome, made_is, caller_is, later_after, steps_after, new_now}
use Rattle.ring_words.proofs.StampFollows.{stamp_loads, IsTop, FollowsStamp, goes_on, stopped, wears, unpublished, busy, follows_stamp}

pub has_itself : (p : Process) → p.caller.state ≡ state.Active → HasAttempt p p
has_itself p active =
    record { active = active; start = omega arith; writes = refl; front = refl; reads = refl; sealed = refl; published = refl }

pub has_then : {p q r : Process} → HasAttempt p q → HasAttempt q r → HasAttempt p r
has_then a b =
    record {
      active = b.active;
      start = omega (arith, a.start, b.start);
      writes = b.writes ∙ a.writes;
      front = b.front ∙ a.front;
      reads = b.reads ∙ a.reads;
      sealed = b.sealed ∙ a.sealed;
      published = b.published ∙ a.published;
    }

-- what a commit asks of the attempt depends on what it did
pub may_same : (good : List ℕ → Type 0) (budget : List ℕ → ℕ) (a b : Attempt) (owned other : List Owned) → b.reads ≡ a.reads → b.writes ≡ a.writes
    → b.sealed ≡ a.sealed → b.published ≡ a.published → other ≡ owned → MayCommit good budget a owned → MayCommit good budget b other
may_same good budget a b owned other reads writes sealed published owned_is may memory is_good fits =
    subst (λ (d : Commit). good (after_commit memory d) × (budget (after_commit memory d) < budget memory))
    (λ i. commit_of (record { start = 0; reads = sym reads i; writes = sym writes i; sealed = sym sealed i; published = sym published i }) (sym owned_is i))
    (may memory is_good (record {
      reads = subst (λ l. Agrees l memory) reads fits.reads;
      contents = subst (λ (l : List Owned). (o : Owned) → Contains l o → words_in memory o.region ≡ o.at_sealing) owned_is fits.contents;
    }))

-- at its opening nothing is loaded
pub stamps_itself : {S : Type 0} (pass : RingPass S) → pass.local.caller.stage ≡ Check Stamp Index → pass.local.caller.state ≡ state.Active →
    StampsOn pass pass
stamps_itself pass stage active =
    record {
      stage = subst IsStamp (sym stage) tt;
      later = later_itself (view_of pass);
      has = has_itself (process_now pass) active;
      top = λ top has. absurd (subst (λ s. HasTop s top) stage has);
      seals = refl;
      rose = omega arith;
      steps = omega arith;
    }

-- the caller after a step that leaves its attempt, as its seat and its machine have it
module _ (opening : List ℕ) (history : List Commit) (q : Process) (active : q.caller.state ≡ state.Active) (stage : Stage) where
  abbrev Keeps : Outcome → Type 0
  Keeps o = o.caller.state ≡ q.caller.state → q.caller.start ≤ o.caller.start → o.caller.writes ≡ q.caller.writes
      → HasAttempt q (process_with (process_after opening history q stage o) o.caller)

  keeps_going : (c : Caller) → Keeps (record { caller = c; progress = answer.Going })
  keeps_going c same start writes =
      let is : c.state ≡ state.Active = same ∙ active in
      let now : Process = process_after opening history q stage (record { caller = c; progress = answer.Going }) in
      record {
        active = is;
        start = start;
        writes = writes;
        front = ap (λ (st : PassState). front_in st now) is;
        reads = ap (λ (st : PassState). noted_in st q.reads) is;
        sealed = ap (λ (st : PassState). noted_in st q.sealed) is;
        published = ap (λ (st : PassState). noted_in st q.published) is;
      }

  keeps_later : (c : Caller) (why : Later) → Keeps (record { caller = c; progress = answer.Later why })
  keeps_later c why same start writes =
      let is : c.state ≡ state.Active = same ∙ active in
      let now : Process = process_after opening history q stage (record { caller = c; progress = answer.Later why }) in
      record {
        active = is;
        start = start;
        writes = writes;
        front = ap (λ (st : PassState). front_in st now) is;
        reads = ap (λ (st : PassState). noted_in st q.reads) is;
        sealed = ap (λ (st : PassState). noted_in st q.sealed) is;
        published = ap (λ (st : PassState). noted_in st q.published) is;
      }

  pub keeps_on : (o : Outcome) → o.progress ≡ answer.Going → Keeps o
  keeps_on o is = subst (λ (progress : Progress). Keeps (record { caller = o.caller; progress = progress })) (sym is) (keeps_going o.caller)

  pub keeps_waiting : (o : Outcome) (why : Later) → o.progress ≡ answer.Later why → Keeps o
  keeps_waiting o why is = subst (λ (progress : Progress). Keeps (record { caller = o.caller; progress = progress })) (sym is) (keeps_later o.caller why)

module _ {S : Type 0} (good : S → List ℕ → List ℕ → Type 0) (budget : S → List ℕ → ℕ) (about : About S) (table : TableId) (old pass new : RingPass S)
    (progress : Progress) (kept : StampsOn old pass) (p : IsSeated good budget about table pass) (t : Stepped good budget pass new progress)
    (fewer : steps_of new.local < steps_of pass.local) where
  abbrev pub q : Process
  q = caller_now good budget about table pass p

  abbrev pub c : Caller
  c = pass.local.caller

  abbrev pub o : Outcome
  o = outcome good budget about table pass p new progress t

  pub is_active : c.state ≡ state.Active
  is_active = kept.has.active

  pub busy_start : c.start ≤ o.caller.start
  busy_start = (from good budget about table pass p new progress t).start (λ idle. let e : state.Active ≡ state.Idle = sym is_active ∙ idle in cc)

  pub follows : IsLoad (next_action pass.local.shape c) → FollowsStamp p.knowledge.about.shape c c.stage t.word o
  follows loads =
      follows_stamp p.knowledge.about.shape c c.stage t.word kept.stage
      (subst (λ (s : Shape). IsLoad (next_action s c)) (p.shaped ∙ sym (ap (λ (a : About S). a.shape) p.told)) loads)

  pub progress_is : progress ≡ o.progress
  progress_is = ap (λ (x : Outcome). x.progress) (made_is good budget about table pass p new progress t)

  pub later_on : IsLater (view_of old) (view_of new)
  later_on = later_then kept.later (later_after good budget about table pass p new progress t)

  -- the history that the seat knows now
  pub history_is : (view_of new).history ≡ (from good budget about table pass p new progress t).history
  history_is = ap history_known (from good budget about table pass p new progress t).now

  -- the index that the call has loaded had happened
  pub top_happened : (top : ℕ) → IsTop c.stage t.word top → HadHappened (view_of old) (view_of new) top
  top_happened top (inl has) =
      let was = kept.top top has in
      record {
        known = was.known;
        happened = omega (
          arith,
          was.happened,
          beginning_length (view_of pass).history (view_of new).history (later_after good budget about table pass p new progress t).history,
        );
      }
  top_happened top (inr (at, is)) =
      let found = (from good budget about table pass p new progress t).index (ap (action_at p.knowledge.about.shape c) at) in
      let same : top ≡ length (view_of new).history = sym is ∙ found ∙ ap length (sym history_is) in
      record {
        known = omega (arith, same, beginning_length (view_of old).history (view_of new).history later_on.history);
        happened = omega (arith, same);
      }

  -- the attempt as the last step left it
  pub has_after : o.progress ≡ answer.Going ⊎ ((why : Later) × (o.progress ≡ answer.Later why)) → o.caller.state ≡ c.state → o.caller.writes ≡ c.writes →
      HasAttempt (process_now old) (process_now new)
  has_after pending same writes =
      has_then kept.has
      (subst (λ x. HasAttempt x (process_now new)) (sym (now_is good budget about table pass p))
      (subst (HasAttempt q) (sym (new_now good budget about table pass p new progress t))
      (subst (λ (d : Caller). HasAttempt q (process_with (after good budget about table pass p new progress t).process d))
      (sym (caller_is good budget about table pass p new progress t)) (stays pending))))
    where
      stays : o.progress ≡ answer.Going ⊎ ((why : Later) × (o.progress ≡ answer.Later why)) →
          HasAttempt q (process_with (after good budget about table pass p new progress t).process o.caller)
      stays (inl is) =
          keeps_on p.knowledge.about.opening.value.items (from good budget about table pass p new progress t).history q is_active c.stage o is same
          busy_start writes
      stays (inr (why, is)) =
          keeps_waiting p.knowledge.about.opening.value.items (from good budget about table pass p new progress t).history q is_active c.stage o why is same
          busy_start writes

  pub steps_on : steps_made new + steps_of new.local ≤ steps_made old + steps_of old.local
  steps_on = omega (arith, kept.steps, steps_after good budget about table pass p new progress t, fewer)

  module _ (loads : IsLoad (next_action pass.local.shape c)) (going : progress ≡ answer.Going) where
    is_going : o.progress ≡ answer.Going
    is_going = sym progress_is ∙ going

    on_by : FollowsStamp p.knowledge.about.shape c c.stage t.word o → StampsOn old new
    on_by (goes_on is same writes stage tops) =
        record {
          stage = subst (λ (d : Caller). IsStamp d.stage) (sym (caller_is good budget about table pass p new progress t)) stage;
          later = later_on;
          has = has_after (inl is) same writes;
          top = λ top has. top_happened top
              (tops top (subst (λ (d : Caller). HasTop d.stage top) (caller_is good budget about table pass p new progress t) has));
          seals = t.seals ∙ kept.seals;
          rose = omega (arith, kept.rose, steps_after good budget about table pass p new progress t);
          steps = steps_on;
        }
    on_by (stopped stop top inner at has free is) = absurd (let e = sym (ap (λ (x : Outcome). x.progress) is) ∙ is_going in cc)
    on_by (wears at worn is) = absurd (let e = sym (ap (λ (x : Outcome). x.progress) is) ∙ is_going in cc)
    on_by (unpublished walk at is) = absurd (let e = sym (ap (λ (x : Outcome). x.progress) is) ∙ is_going in cc)
    on_by (busy top entry at is) = absurd (let e = sym (ap (λ (x : Outcome). x.progress) is) ∙ is_going in cc)

    pub stamps_after : StampsOn old new
    stamps_after = on_by (follows loads)

-- while the swap is still to come, the next step is a load
pub loads_next : {S : Type 0} (old pass : RingPass S) → StampsOn old pass → (next : Action) → next ≡ next_action pass.local.shape pass.local.caller
    → ((from : ℕ) → next ≢ SwapIndex from) → IsLoad (next_action pass.local.shape pass.local.caller)
loads_next old pass kept next is apart =
    stamp_loads pass.local.shape pass.local.caller pass.local.caller.stage kept.stage (λ index same. apart index (is ∙ same))

-- so it asks the same of the attempt after some loads
pub may_kept : {S : Type 0} (good : S → List ℕ → List ℕ → Type 0) (budget : S → List ℕ → ℕ) (about : About S) (old pass : RingPass S) → StampsOn old pass
    → MayCommit (good (made_of about).sense (made_of about).opening) (budget (made_of about).sense) (attempt_now old) (view_of old).owned
    → MayCommit (good (made_of about).sense (made_of about).opening) (budget (made_of about).sense) (attempt_now pass) (view_of pass).owned
may_kept good budget about old pass kept may =
    may_same (good (made_of about).sense (made_of about).opening) (budget (made_of about).sense) (attempt_now old) (attempt_now pass) (view_of old).owned
    (view_of pass).owned kept.has.reads kept.has.writes kept.has.sealed kept.has.published kept.later.owned may
