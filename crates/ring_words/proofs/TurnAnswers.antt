-- What an answered turn says of the pass.
use Rattle.std.proofs.Common.{◌≡◌, ◌≢◌, ℕ, ◌+◌, ◌-◌, ◌<◌, ◌≤◌, ◌++◌, true, List, [], ◌∷◌, length, Some, slice_get, refl, sym, ◌∙◌, ap, subst, arith}
use Rattle.atomic_table.specs.Seated.{TableId}
use Rattle.tx_model.specs.declared.history.Commit.{Commit}
use Rattle.tx_model.specs.History.{state_at}
use Rattle.tx_model.specs.Attempt.{owned_after, commit_of}
use Rattle.tx_model.specs.Pass.{AreStamps, IsWhole}
use Rattle.tx_model.specs.Calls.{IsLater}
use Rattle.tx_model.proofs.lemmas.Histories.{entry_stays}
use Rattle.ring_core.specs.declared.caller.Caller.{Caller}
use Rattle.ring_core.specs.declared.action.Later.{Later}
use Rattle.ring_core.specs.declared.action.Later.TheVariants.{Order}
use Rattle.ring_core.specs.declared.action.Progress.{Progress}
use Rattle.ring_core.specs.declared.action.Progress.TheVariants as answer
use Rattle.ring_core.specs.Machine.{steps_of}
use Rattle.ring_core.specs.Outcomes.{Outcome, made, idle, waits}
use Rattle.ring_worlds.specs.declared.process.Process.{Process}
use Rattle.ring_worlds.specs.World.{attempt_of, process_after}
use Rattle.ring_words.specs.declared.table.About.{About}
use Rattle.ring_words.specs.declared.table.Knowledge.{Knowledge}
use Rattle.ring_words.specs.declared.pass.RingPass.{RingPass}
use Rattle.ring_words.specs.Ring.{given_of, made_of, front_of, mine_of, share_of}
use Rattle.ring_words.specs.Sealings.{seals_of}
use Rattle.ring_words.specs.Told.{KeepsCommit, TellsOn, board_with}
use Rattle.ring_words.specs.Pass.{attempt_now, front_known, history_known, owned_known, view_of, steps_made, found_known, kind_known}
use Rattle.ring_words.specs.Turns.{IsLastOwn, Finished, StillStamped, IsOrder, TurnAnswered}
use Rattle.ring_words.proofs.Seated.{caller_now, now_is, from, outcome, steps_after}
use Rattle.ring_words.proofs.Sealings.{seals_later}
use Rattle.ring_words.proofs.Stores.{none_after}
use Rattle.ring_words.proofs.Turning.{Turned, goes_on, waits_for, completes, turned, progress_is, caller_then, later_on, still_stamped}

module _ {S : Type 0} (good : S → List ℕ → List ℕ → Type 0) (budget : S → List ℕ → ℕ) (about : About S) (table : TableId) (old new : RingPass S)
    (progress : Progress) (a : TurnAnswered good budget about table old new progress) where
  abbrev mid : RingPass S
  mid = a.last

  abbrev k : Knowledge S
  k = a.seated.knowledge

  abbrev c : Caller
  c = mid.local.caller

  abbrev q : Process
  q = caller_now good budget about table mid a.seated

  abbrev o : Outcome
  o = outcome good budget about table mid a.seated new progress a.step

  abbrev its_history : List Commit
  its_history = (from good budget about table mid a.seated new progress a.step).history

  later : IsLater (view_of old) (view_of new)
  later = later_on good budget about table old mid new progress a.turning a.seated a.step

  pub turn_few : steps_made new ≤ steps_made old + steps_of old.local
  turn_few = omega (arith, a.turning.steps, steps_after good budget about table mid a.seated new progress a.step, a.fewer)

  pub turn_rose : steps_made old < steps_made new
  turn_rose = omega (arith, a.turning.more, steps_after good budget about table mid a.seated new progress a.step)

  pub turn_counted : AreStamps (length (view_of old).history) (view_of old).mine → old.seals ≡ seals_of (view_of old).history (view_of old).mine →
      new.seals ≡ seals_of (view_of new).history (view_of new).mine
  turn_counted are counted = seals_later (view_of old) (view_of new) old.seals new.seals later are counted (a.step.seals ∙ a.turning.seals)

  -- ---- the stamped caller before the last step
  kept : KeepsCommit k.process q
  kept = a.seated.moved.stamped a.turning.still.stamped

  same_attempt : attempt_of k.process ≡ attempt_now old
  same_attempt = sym kept.same ∙ ap attempt_of (sym (now_is good budget about table mid a.seated)) ∙ a.turning.still.same

  same_owned : k.process.owned ≡ (view_of old).owned
  same_owned = ap owned_known (sym a.seated.known) ∙ a.turning.still.later.owned

  own : IsLastOwn (view_of old) c.stamp
  own =
      let last = a.seated.knows.plain.stamped kept.was in
      record {
        before = last.before;
        last = sym a.turning.still.later.mine ∙ ap mine_of a.seated.known ∙ last.last ∙ ap (λ n. last.before ++ n ∷ []) (sym kept.stamp);
      }

  history_is : history_known new.seat.me.0 ≡ its_history
  history_is = ap history_known (from good budget about table mid a.seated new progress a.step).now

  there : slice_get (view_of new).history (c.stamp - 1) ≡ Some (commit_of (attempt_now old) (view_of old).owned)
  there =
      ap (λ h. slice_get h (c.stamp - 1)) history_is
      ∙ entry_stays k.history its_history (c.stamp - 1) (commit_of (attempt_of k.process) k.process.owned)
      (from good budget about table mid a.seated new progress a.step).longer
      (ap (λ n. slice_get k.history (n - 1)) kept.stamp ∙ a.seated.knows.process_is.committed kept.was)
      ∙ (λ i. Some (commit_of (same_attempt i) (same_owned i)))

  -- ---- the answer
  abbrev process_by : Outcome → Process
  process_by x = process_after k.about.opening.value.items its_history q c.stage x

  turned_now : Turned k.about.shape c c.stage a.step.word o
  turned_now = turned good budget about table old mid new progress a.turning a.seated a.step

  says : progress ≡ o.progress
  says = progress_is good budget about table old mid new progress a.turning a.seated a.step

  over : o.progress ≢ answer.Going
  over going = a.over (says ∙ going)

  front_then : (x : Outcome) → o ≡ x → (view_of new).front ≡ front_of (process_by x)
  front_then x is =
      ap front_known (from good budget about table mid a.seated new progress a.step).now ∙ ap (λ (y : Outcome). front_of (process_by y)) is

  nothing_owned : (memory : List ℕ) → (view_of new).owned ≡ owned_after memory (attempt_now old) (view_of old).owned
  nothing_owned memory =
      later.owned ∙ sym same_owned ∙ a.seated.unowned ∙ sym (none_after memory k.process a.seated.unowned a.seated.unsealed)
      ∙ (λ i. owned_after memory (same_attempt i) (same_owned i))

  finished_by : Turned k.about.shape c c.stage a.step.word o → (stamp : ℕ) → progress ≡ answer.Completed stamp
      → Finished (made_of about).opening (view_of old) (view_of new) (attempt_now old) (record { stamp = stamp; wrote = true })
  finished_by (goes_on loaded next leads) stamp is = absurd (over (ap (λ (x : Outcome). x.progress) leads))
  finished_by (waits_for next entry some is_tag leads) stamp is =
      absurd (let e : answer.Later (Order entry a.step.word) ≡ answer.Completed stamp = sym (says ∙ ap (λ (x : Outcome). x.progress) leads) ∙ is in cc)
  finished_by (completes leads) stamp is =
      let same : c.stamp ≡ stamp =
      let e : answer.Completed c.stamp ≡ answer.Completed stamp = sym (says ∙ ap (λ (x : Outcome). x.progress) leads) ∙ is in cc in
      subst (λ n. Finished (made_of about).opening (view_of old) (view_of new) (attempt_now old) (record { stamp = n; wrote = true })) same
      (record {
        idle = ap (λ (d : Caller). d.state)
            (caller_then good budget about table old mid new progress a.turning a.seated a.step (made (idle k.about.shape c) (answer.Completed c.stamp)) leads);
        wrote = refl;
        own = own;
        history = later.history;
        there = there;
        complete = omega (arith, front_then (made (idle k.about.shape c) (answer.Completed c.stamp)) leads);
        front = later.front;
        mine = later.mine;
        owned = nothing_owned (state_at (made_of about).opening (view_of new).history c.stamp);
        share = later.share;
      })

  pub finished : (stamp : ℕ) → progress ≡ answer.Completed stamp
      → Finished (made_of about).opening (view_of old) (view_of new) (attempt_now old) (record { stamp = stamp; wrote = true })
  finished = finished_by turned_now

  waiting_by : Turned k.about.shape c c.stage a.step.word o → (later : Later) → progress ≡ answer.Later later
      → StillStamped (view_of old) (view_of new) (attempt_now old) (attempt_now new) × IsOrder new later
  waiting_by (goes_on loaded next leads) later_is is = absurd (over (ap (λ (x : Outcome). x.progress) leads))
  waiting_by (completes leads) later_is is =
      absurd (let e : answer.Completed c.stamp ≡ answer.Later later_is = sym (says ∙ ap (λ (x : Outcome). x.progress) leads) ∙ is in cc)
  waiting_by (waits_for next entry some is_tag leads) later_is is =
      let same : Order entry a.step.word ≡ later_is =
      let e : answer.Later (Order entry a.step.word) ≡ answer.Later later_is = sym (says ∙ ap (λ (x : Outcome). x.progress) leads) ∙ is in cc in
      let told = subst (TellsOn (given_of k.about) (board_with its_history (from good budget about table mid a.seated new progress a.step).tags) q) leads
      (from good budget about table mid a.seated new progress a.step).tells in
      let stamped = ap (λ (d : Caller). d.state)
      (caller_then good budget about table old mid new progress a.turning a.seated a.step (waits c next entry a.step.word) leads)
      ∙ a.turning.still.stamped in (
        still_stamped good budget about table old mid new progress a.turning a.seated a.step stamped,
        subst (IsOrder new) same (
          record {
            stamp = c.stamp;
            own = record { before = own.before; last = later.mine ∙ own.last };
            earlier = told.2;
            some = some;
            incomplete = told.1;
          },
          ap found_known (from good budget about table mid a.seated new progress a.step).now,
          ap kind_known (from good budget about table mid a.seated new progress a.step).now ∙ is_tag,
        ),
      )

  pub waiting : (later : Later) → progress ≡ answer.Later later
      → StillStamped (view_of old) (view_of new) (attempt_now old) (attempt_now new) × IsOrder new later
  waiting = waiting_by turned_now

  -- the only pass waits for nobody
  alone_by : Turned k.about.shape c c.stage a.step.word o → IsWhole (view_of old) → (later : Later) → progress ≡ answer.Later later → ⊥
  alone_by (goes_on loaded next leads) whole later_is is = over (ap (λ (x : Outcome). x.progress) leads)
  alone_by (completes leads) whole later_is is =
      let e : answer.Completed c.stamp ≡ answer.Later later_is = sym (says ∙ ap (λ (x : Outcome). x.progress) leads) ∙ is in cc
  alone_by (waits_for next entry some is_tag leads) whole later_is is =
      let told = subst (TellsOn (given_of k.about) (board_with its_history (from good budget about table mid a.seated new progress a.step).tags) q) leads
      (from good budget about table mid a.seated new progress a.step).tells in
      let its_share = sym (ap share_of a.seated.known) ∙ a.turning.still.later.share ∙ whole in
      let tag = (from good budget about table mid a.seated new progress a.step).alone its_share kept.was entry some (omega (arith, told.2, kept.stamp)) in
      omega (arith, told.0, told.1, tag)

  pub turn_alone : IsWhole (view_of old) → (later : Later) → progress ≡ answer.Later later → ⊥
  turn_alone = alone_by turned_now

  -- there is no other answer
  only_by : Turned k.about.shape c c.stage a.step.word o → ((stamp : ℕ) → progress ≢ answer.Completed stamp)
      → ((later : Later) → progress ≢ answer.Later later) → ⊥
  only_by (goes_on loaded next leads) no_completed no_later = over (ap (λ (x : Outcome). x.progress) leads)
  only_by (waits_for next entry some is_tag leads) no_completed no_later =
      no_later (Order entry a.step.word) (says ∙ ap (λ (x : Outcome). x.progress) leads)
  only_by (completes leads) no_completed no_later = no_completed c.stamp (says ∙ ap (λ (x : Outcome). x.progress) leads)

  pub turn_only : ((stamp : ℕ) → progress ≢ answer.Completed stamp) → ((later : Later) → progress ≢ answer.Later later) → ⊥
  turn_only = only_by turned_now
