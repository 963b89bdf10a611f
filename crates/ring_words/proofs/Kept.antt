-- A request goes on by a step that doesn't answer it.
use Rattle.std.proofs.Common.{◌≡◌, ◌≢◌, ℕ, ◌<◌, List, refl, sym, ◌∙◌, ap, subst, arith}
use Rattle.atomic_table.specs.Seated.{TableId}
use Rattle.tx_model.specs.declared.history.Commit.{Commit}
use Rattle.tx_model.proofs.lemmas.Calls.{later_itself, later_then}
use Rattle.ring_core.specs.declared.caller.Caller.{Caller}
use Rattle.ring_core.specs.declared.action.Progress.{Progress}
use Rattle.ring_core.specs.declared.action.Progress.TheVariants as answer
use Rattle.ring_core.specs.declared.stage.Stage.{Stage}
use Rattle.ring_core.specs.Machine.{steps_of}
use Rattle.ring_core.specs.Outcomes.{Outcome}
use Rattle.ring_worlds.specs.declared.process.Process.{Process}
use Rattle.ring_worlds.specs.World.{process_after}
use Rattle.ring_words.specs.declared.table.About.{About}
use Rattle.ring_words.specs.declared.pass.RingPass.{RingPass}
use Rattle.ring_words.specs.Pass.{process_with, process_now, view_of, IsSeated, Stepped}
use Rattle.ring_words.specs.Requests.{asked_at, IsShort, IsAsking, KeptOn, Answered}
use Rattle.ring_words.proofs.Requests.{Follows, goes_on, begins, reads, stopped, follows_at, IsNoted, noted_by, noted_same, front_same}
use Rattle.ring_words.proofs.Seated.{caller_now, now_is, from, after, outcome, made_is, caller_is, later_after, steps_after, new_now}

asking_itself : (p : Process) → IsAsking p p
asking_itself p = record { asked = refl; state = refl; start = refl; writes = refl; front = refl; reads = refl; sealed = refl; published = refl }

asking_then : {p q r : Process} → IsAsking p q → IsAsking q r → IsAsking p r
asking_then a b =
    record {
      asked = b.asked ∙ a.asked;
      state = b.state ∙ a.state;
      start = b.start ∙ a.start;
      writes = b.writes ∙ a.writes;
      front = b.front ∙ a.front;
      reads = b.reads ∙ a.reads;
      sealed = b.sealed ∙ a.sealed;
      published = b.published ∙ a.published;
    }

pub kept_itself : {S : Type 0} (pass : RingPass S) → KeptOn pass pass
kept_itself pass = record { later = later_itself (view_of pass); asking = asking_itself (process_now pass); seals = refl; steps = omega arith }

pub kept_then : {S : Type 0} (old mid new : RingPass S) → KeptOn old mid → KeptOn mid new → KeptOn old new
kept_then old mid new a b =
    record {
      later = later_then a.later b.later;
      asking = asking_then a.asking b.asking;
      seals = b.seals ∙ a.seals;
      steps = omega (arith, a.steps, b.steps);
    }

-- the caller after a step that goes on, as its seat and its machine have it
module _ (opening : List ℕ) (history : List Commit) (q : Process) (noted : IsNoted q) (stage : Stage) where
  abbrev Goes : Outcome → Type 0
  Goes o = o.caller.state ≡ q.caller.state → o.caller.start ≡ q.caller.start → o.caller.writes ≡ q.caller.writes →
      asked_at o.caller.stage ≡ asked_at q.caller.stage
      → IsAsking q (process_with (process_after opening history q stage o) o.caller)

  goes : (c : Caller) → Goes (record { caller = c; progress = answer.Going })
  goes c state start writes asked =
      record {
        asked = asked;
        state = state;
        start = start;
        writes = writes;
        front = front_same c.state (process_after opening history q stage (record { caller = c; progress = answer.Going }))
            (λ is. omega (arith, noted.rested (sym state ∙ is), start));
        reads = noted_same c.state q.reads (λ is. noted.reads (sym state ∙ is));
        sealed = noted_same c.state q.sealed (λ is. noted.sealed (sym state ∙ is));
        published = noted_same c.state q.published (λ is. noted.published (sym state ∙ is));
      }

  pub going : (o : Outcome) → o.progress ≡ answer.Going → Goes o
  going o is = subst (λ (progress : Progress). Goes (record { caller = o.caller; progress = progress })) (sym is) (goes o.caller)

module _ {S : Type 0} (good : S → List ℕ → List ℕ → Type 0) (budget : S → List ℕ → ℕ) (about : About S) (table : TableId) (old pass new : RingPass S)
    (progress : Progress) (kept : KeptOn old pass) (p : IsSeated good budget about table pass) (short : IsShort (asked_at old.local.caller.stage))
    (t : Stepped good budget pass new progress) (fewer : steps_of new.local < steps_of pass.local) where
  abbrev q : Process
  q = caller_now good budget about table pass p

  pub still_short : IsShort (asked_at pass.local.caller.stage)
  still_short = subst IsShort (sym kept.asking.asked) short

  pub follows : Follows p.knowledge.about.shape pass.local.caller pass.local.caller.stage (outcome good budget about table pass p new progress t)
  follows = follows_at p.knowledge.about.shape pass.local.caller pass.local.caller.stage t.word still_short

  noted : IsNoted q
  noted = noted_by p.knowledge.process pass.local.caller p.moved.start

  module _ (is : progress ≡ answer.Going) where
    is_going : (outcome good budget about table pass p new progress t).progress ≡ answer.Going
    is_going = sym (ap (λ (o : Outcome). o.progress) (made_is good budget about table pass p new progress t)) ∙ is

    asks_on : Follows p.knowledge.about.shape pass.local.caller pass.local.caller.stage (outcome good budget about table pass p new progress t)
        → IsAsking q (process_with (after good budget about table pass p new progress t).process (outcome good budget about table pass p new progress t).caller)
    asks_on (goes_on is' state start writes asked) =
        going p.knowledge.about.opening.value.items (from good budget about table pass p new progress t).history q noted pass.local.caller.stage
        (outcome good budget about table pass p new progress t) is_going state start writes asked
    asks_on (begins start asked o_is) = absurd (let e = sym (ap (λ (o : Outcome). o.progress) o_is) ∙ is_going in cc)
    asks_on (reads addr value start asked for o_is) = absurd (let e = sym (ap (λ (o : Outcome). o.progress) o_is) ∙ is_going in cc)
    asks_on (stopped addr stop asked first o_is) = absurd (let e = sym (ap (λ (o : Outcome). o.progress) o_is) ∙ is_going in cc)

    asks_now : IsAsking (process_now pass) (process_now new)
    asks_now =
        subst (λ x. IsAsking x (process_now new)) (sym (now_is good budget about table pass p))
        (subst (IsAsking q) (sym (new_now good budget about table pass p new progress t))
        (subst (λ (c : Caller). IsAsking q (process_with (after good budget about table pass p new progress t).process c))
        (sym (caller_is good budget about table pass p new progress t)) (asks_on follows)))

    pub kept_after : KeptOn old new
    kept_after =
        record {
          later = later_then kept.later (later_after good budget about table pass p new progress t);
          asking = asking_then kept.asking asks_now;
          seals = t.seals ∙ kept.seals;
          steps = omega (arith, kept.steps, steps_after good budget about table pass p new progress t, fewer);
        }

  -- or it is answered
  pub answered_by : progress ≢ answer.Going → Answered good budget about table old new progress
  answered_by over = record { last = pass; seated = p; kept = kept; step = t; fewer = fewer; over = over }
