-- What every pass of the ring knows.
use Rattle.std.proofs.Common.{◌≡◌, ◌≢◌, ℕ, ◌<◌, ◌≤◌, List, [], length, Some, Contains, refl, sym, ◌∙◌, ap, subst, arith}
use Rattle.atomic_table.specs.Seated.{TableId}
use Rattle.tx_model.specs.declared.gate.Region.{Region}
use Rattle.tx_model.specs.declared.pass.PassState.{PassState}
use Rattle.tx_model.specs.declared.pass.PassState.TheVariants.{Idle, Active, Stamped}
use Rattle.tx_model.specs.declared.view.Attempt.{Attempt}
use Rattle.tx_model.specs.declared.view.Owned.{Owned}
use Rattle.tx_model.specs.declared.view.PassView.{PassView}
use Rattle.tx_model.specs.declared.word.Word.{Word}
use Rattle.tx_model.specs.Memory.{Agrees}
use Rattle.tx_model.specs.History.{state_at}
use Rattle.tx_model.specs.Made.{IsMade}
use Rattle.tx_model.specs.Attempt.{starting_at, commit_of}
use Rattle.tx_model.specs.Pass.{IsPass, IsAttempt, IsStamped, OwnsOnce}
use Rattle.ring_core.specs.declared.shape.Shape.{Shape}
use Rattle.ring_core.specs.declared.caller.Caller.{Caller}
use Rattle.ring_core.specs.declared.stage.Stage.{Stage}
use Rattle.ring_core.specs.declared.stage.Stage.TheVariants.{Closed, BeginIndex, BeginTag, ReadHeap, Check, StampSlot, StampSwap, Turn, Between}
use Rattle.ring_core.specs.Sound as core
use Rattle.ring_core.specs.Machine.{IsClosed}
use Rattle.ring_worlds.specs.declared.process.Process.{Process}
use Rattle.ring_worlds.specs.World.{attempt_of}
use Rattle.ring_worlds.proofs.lemmas.Members.{contains_none}
use Rattle.ring_words.specs.declared.table.About.{About}
use Rattle.ring_words.specs.declared.table.Knowledge.{Knowledge}
use Rattle.ring_words.specs.declared.pass.RingPass.{RingPass}
use Rattle.ring_words.specs.Ring.{given_of, made_of, process_of}
use Rattle.ring_words.specs.Sealings.{seals_of}
use Rattle.ring_words.specs.Told.{Knows, pass_in}
use Rattle.ring_words.specs.Pass.{HasMoved, process_with, noted_in, view_known, view_of, IsSeated, IsPassOf}

active_not : Active ≢ Idle
active_not e = cc

active_free : Active ≢ Stamped
active_free e = cc

stamped_not : Stamped ≢ Idle
stamped_not e = cc

-- what is noted of an attempt is noted of a caller that has one
noted_busy : {X : Type 0} (state : PassState) (noted : List X) → state ≢ Idle → noted_in state noted ≡ noted
noted_busy Idle noted busy = absurd (busy refl)
noted_busy Active noted busy = refl
noted_busy Stamped noted busy = refl

-- a caller has an attempt, which has been there since its last step
was_busy : (state : PassState) {p : PassState} → (state ≡ Active → p ≡ Active) → (state ≡ Stamped → p ≡ Stamped) → state ≢ Idle → p ≢ Idle
was_busy Idle active stamped busy = absurd (busy refl)
was_busy Active active stamped busy = λ idle. active_not (sym (active refl) ∙ idle)
was_busy Stamped active stamped busy = λ idle. stamped_not (sym (stamped refl) ∙ idle)

-- a stamped machine is past its start
pub past_start : (shape : Shape) (c : Caller) (stage : Stage) → core.IsStage shape c stage → c.state ≡ Stamped → c.start < c.stamp
past_start shape c Closed is_stage is = absurd (is_stage is)
past_start shape c BeginIndex is_stage is = absurd (stamped_not (sym is ∙ is_stage))
past_start shape c (BeginTag top at) is_stage is = absurd (stamped_not (sym is ∙ is_stage.0))
past_start shape c (ReadHeap addr) is_stage is = absurd (active_free (sym is_stage.0 ∙ is))
past_start shape c (Check why at) is_stage is = absurd (active_free (sym is_stage.0 ∙ is))
past_start shape c (StampSlot top) is_stage is = absurd (active_free (sym is_stage.active ∙ is))
past_start shape c (StampSwap top) is_stage is = absurd (active_free (sym is_stage.active ∙ is))
past_start shape c (Turn at) is_stage is = is_stage.0.after
past_start shape c (Between at) is_stage is = is_stage.0.after

module _ {S : Type 0} (good : S → List ℕ → List ℕ → Type 0) (budget : S → List ℕ → ℕ) (k : Knowledge S) (knows : Knows good budget k)
    (unowned : k.process.owned ≡ []) (c : Caller) (moved : HasMoved (given_of k.about) k.process (process_with k.process c)) where
  abbrev q : Process
  q = process_with k.process c

  abbrev attempt : Attempt
  attempt = attempt_of q

  abbrev view : PassView
  view = pass_in c.state k

  none_owned : (o : Owned) → Contains k.process.owned o → ⊥
  none_owned o among = contains_none o (subst (λ owned. Contains owned o) unowned among)

  started : c.start ≤ length k.history
  started = omega (arith, moved.start, knows.plain.reached)

  has_none : c.state ≡ Idle → attempt ≡ starting_at c.start
  has_none is =
      let writes = (moved.machine.idle is).writes in
      ap (λ (state : PassState). record {
        start = c.start;
        reads = noted_in state k.process.reads;
        writes = c.writes;
        sealed = noted_in state k.process.sealed;
        published = noted_in state k.process.published;
      }) is
      ∙ ap (λ (writes : List Word). record { start = c.start; reads = []; writes = writes; sealed = []; published = [] }) writes

  busy_before : c.state ≢ Idle → k.process.caller.state ≢ Idle
  busy_before = was_busy c.state moved.active (λ stamped. (moved.stamped stamped).was)

  doing : c.state ≢ Idle → IsAttempt (made_of k.about).opening (made_of k.about).regions view attempt
  doing busy =
      record {
        started = started;
        from_one = record {
          reads = subst (λ reads. Agrees reads (state_at (made_of k.about).opening k.history c.start)) (sym (noted_busy c.state k.process.reads busy))
              (subst (λ n. Agrees k.process.reads (state_at (made_of k.about).opening k.history n)) (sym moved.start)
              (knows.process_is.agree (busy_before busy)));
          contents = λ o among. absurd (none_owned o among);
        };
        follows = moved.follows;
        owns = λ region among.
            knows.process_is.publishes region (subst (λ l. Contains l region) (noted_busy c.state k.process.published busy) among);
        room = moved.machine.sized.fits;
      }

  -- a stamped caller's attempt is the last commit of its own
  committed : c.state ≡ Stamped → IsStamped view attempt
  committed stamped =
      let kept = moved.stamped stamped in
      let own = knows.plain.stamped kept.was in
      let start = past_start k.about.shape k.process.caller k.process.caller.stage knows.process_is.machine.stage kept.was in
      record {
        stamp = k.process.caller.stamp;
        before = own.before;
        mine = own.last;
        complete = own.complete;
        incomplete = omega (arith, start, knows.process_is.since (λ idle. stamped_not (sym kept.was ∙ idle)));
        there = knows.process_is.committed kept.was ∙ ap (λ (a : Attempt). Some (commit_of a k.process.owned)) (sym kept.same);
        after_start = omega (arith, start, moved.start);
      }

  free_before : c.state ≢ Stamped → k.process.caller.state ≢ Stamped
  free_before free was = free (moved.stays was)

  pub known_pass : IsPass good budget (made_of k.about) view attempt
  known_pass =
      record {
        legal = knows.history_is.legal;
        writers = knows.history_is.writers;
        rules = knows.history_is.rules;
        good_states = knows.history_is.good_states;
        lasts = knows.history_is.lasts;
        front = knows.plain.reached;
        mine = knows.plain.mine;
        settled = λ free own has. knows.plain.settled (free_before free) own has;
        stamped = committed;
        named = knows.plain.named;
        joined = knows.plain.joined;
        names_apart = knows.plain.apart;
        owns = λ o among. absurd (none_owned o among);
        owns_once = subst OwnsOnce (sym unowned) none_twice;
        owners = λ o among. absurd (none_owned o among);
        idle = has_none;
        attempting = doing;
        whole = λ whole free. let all = (knows.whole whole (free_before free)).0 in record { front = all.front; mine = all.mine };
        sealed = λ whole free. (knows.whole whole (free_before free)).1;
        last = λ whole active.
            let free = free_before (λ stamped. active_free (sym active ∙ stamped)) in
            let all = (knows.whole whole free).0 in
            let since = knows.process_is.since (λ idle. active_not (sym (moved.active active) ∙ idle)) in
            omega (arith, all.front, since, moved.start);
      }
    where
      none_twice : OwnsOnce []
      none_twice i j before below = omega (arith, below)

-- a pass of the ring is what its seat and its machine make it
pub pass_knows : {S : Type 0} (allows : S → List Region → Type 0) (good : S → List ℕ → List ℕ → Type 0) (budget : S → List ℕ → ℕ) (about : About S)
    (table : TableId) (pass : RingPass S)
    → IsMade allows good (made_of about) → IsSeated good budget about table pass → IsClosed pass.local →
    pass.seals ≡ seals_of (view_of pass).history (view_of pass).mine → IsPassOf allows good budget about table pass
pass_knows allows good budget about table pass is_made p closed counted =
    record {
      is_made = is_made;
      seated = p;
      closed = closed;
      counted = counted;
      is_pass = subst (λ known. IsPass good budget (made_of about) (view_known pass.local.caller.state known)
          (attempt_of (process_with (process_of pass.local.shape known) pass.local.caller))) (sym p.known)
          (subst (λ (a : About _). IsPass good budget (made_of a) (pass_in pass.local.caller.state p.knowledge)
          (attempt_of (process_with p.knowledge.process pass.local.caller))) p.told
          (known_pass good budget p.knowledge p.knows p.unowned pass.local.caller
          (subst (λ (a : About _). HasMoved (given_of a) p.knowledge.process (process_with p.knowledge.process pass.local.caller)) (sym p.told) p.moved)));
    }
