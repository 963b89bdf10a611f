-- What a swap that found the index expected leaves of the pass: its attempt is the last commit.
use Rattle.std.proofs.Common.{◌≡◌, ℕ, ◌+◌, ◌-◌, ◌≤◌, ◌<◌, ◌++◌, List, [], ◌∷◌, length, Some, slice_get, Contains, refl, sym, ◌∙◌, ap, subst, arith}
use Rattle.std.proofs.lemmas.List.{length_push}
use Rattle.atomic_table.specs.Seated.{TableId}
use Rattle.tx_model.specs.declared.gate.Region.{Region}
use Rattle.tx_model.specs.declared.history.Commit.{Commit}
use Rattle.tx_model.specs.declared.pass.PassState.{PassState}
use Rattle.tx_model.specs.declared.pass.PassState.TheVariants as state
use Rattle.tx_model.specs.declared.view.Attempt.{Attempt}
use Rattle.tx_model.specs.declared.view.Owned.{Owned}
use Rattle.tx_model.specs.Memory.{Agrees, words_in}
use Rattle.tx_model.specs.History.{state_at, IsBeginning}
use Rattle.tx_model.specs.Attempt.{Fits, commit_of}
use Rattle.tx_model.specs.Pass.{AreStamps}
use Rattle.tx_model.proofs.lemmas.Histories.{beginning_then, beginning_length, entry_last, state_stays}
use Rattle.ring_core.specs.declared.caller.Caller.{Caller}
use Rattle.ring_core.specs.declared.action.Progress.{Progress}
use Rattle.ring_core.specs.declared.action.Progress.TheVariants as answer
use Rattle.ring_core.specs.declared.stage.Stage.{Stage}
use Rattle.ring_core.specs.declared.stage.Stage.TheVariants.{Between}
use Rattle.ring_core.specs.declared.stage.TurnStage.TheVariants.{Filling}
use Rattle.ring_core.specs.Outcomes.{Outcome, made, outcome_at}
use Rattle.ring_core.specs.Sound as core
use Rattle.ring_worlds.specs.declared.process.Process.{Process}
use Rattle.ring_worlds.specs.World.{attempt_of, process_after}
use Rattle.ring_worlds.proofs.lemmas.Outcomes.{swaps}
use Rattle.ring_words.specs.declared.table.About.{About}
use Rattle.ring_words.specs.declared.table.Knowledge.{Knowledge}
use Rattle.ring_words.specs.declared.pass.RingPass.{RingPass}
use Rattle.ring_words.specs.Ring.{made_of, mine_of, share_of}
use Rattle.ring_words.specs.Known.{history_known, front_known, owned_known}
use Rattle.ring_words.specs.Sealings.{seals_of}
use Rattle.ring_words.specs.Told.{Won, WonFrom}
use Rattle.ring_words.specs.Pass.{process_with, process_now, attempt_now, noted_in, view_of, IsSeated, Exchanged}
use Rattle.ring_words.specs.Stamping.{StampsOn, BecameCommit}
use Rattle.ring_words.proofs.Seated.{caller_now, now_is}
use Rattle.ring_words.proofs.SwapSeated as swap
use Rattle.ring_words.proofs.StampAnswers.{Says}
use Rattle.ring_words.proofs.Sealings.{seals_pushed}

module _ {S : Type 0} (good : S → List ℕ → List ℕ → Type 0) (budget : S → List ℕ → ℕ) (about : About S) (table : TableId) (old : RingPass S)
    (last : RingPass S) (p : IsSeated good budget about table last) (kept : StampsOn old last) where
  abbrev k : Knowledge S
  k = p.knowledge

  abbrev c : Caller
  c = last.local.caller

  abbrev q : Process
  q = caller_now good budget about table last p

  reads_are : q.reads ≡ (process_now old).reads
  reads_are = ap (λ (x : Process). x.reads) (sym (now_is good budget about table last p)) ∙ kept.has.reads

  is_stage : core.IsStage about.shape c c.stage
  is_stage = p.moved.machine.stage

  -- ---- the swap found the index expected
  module _ (new : RingPass S) (progress : Progress) (x : Exchanged good budget last new progress) (same : x.word ≡ x.from)
      (v : Won good budget (process_now last) x.word last.seat.me new.seat.me) where
    abbrev g : WonFrom good budget k q x.word new.seat.me
    g = swap.from good budget about table last p new progress x v

    abbrev number : ℕ
    number = x.from + 1

    abbrev stamped_to : Outcome
    stamped_to = made (record c { state = state.Stamped; stamp = number; stage = Between Filling }) (answer.Stamped number)

    is_stamped : swap.outcome good budget about table last p new progress x v ≡ stamped_to
    is_stamped =
        ap (λ (s : Stage). outcome_at k.about.shape c s x.word) x.stage
        ∙ swaps k.about.shape c (λ o. o ≡ stamped_to) x.from x.word (λ won. refl) (λ lost. absurd (lost same))

    stamped_caller : new.local.caller ≡ stamped_to.caller
    stamped_caller = ap (λ (o : Outcome). o.caller) (swap.made_is good budget about table last p new progress x v ∙ is_stamped)

    stamped_progress : progress ≡ answer.Stamped number
    stamped_progress = ap (λ (o : Outcome). o.progress) (swap.made_is good budget about table last p new progress x v ∙ is_stamped)

    abbrev longer : List Commit
    longer = g.history ++ commit_of (attempt_of q) q.owned ∷ []

    history_now : (view_of new).history ≡ longer
    history_now = ap history_known g.now

    history_before : (view_of last).history ≡ k.history
    history_before = ap history_known p.known

    at_end : length longer ≡ number
    at_end = omega (arith, length_push g.history (commit_of (attempt_of q) q.owned), g.last, same)

    begins : IsBeginning (view_of old).history (view_of new).history
    begins =
        beginning_then (view_of old).history (view_of last).history (view_of new).history kept.later.history
        (subst (λ h. IsBeginning h (view_of new).history) (sym history_before)
        (subst (IsBeginning k.history) (sym history_now)
        (beginning_then k.history g.history longer g.longer (commit_of (attempt_of q) q.owned ∷ [], refl))))

    known_before : length (view_of old).history ≤ x.from
    known_before =
        omega (
          arith,
          beginning_length (view_of old).history (view_of last).history kept.later.history,
          ap length history_before,
          beginning_length k.history g.history g.longer,
          g.last,
          same,
        )

    -- the attempt is the one that the call was asked for
    sealed_are : q.sealed ≡ (process_now old).sealed
    sealed_are = ap (λ (y : Process). y.sealed) (sym (now_is good budget about table last p)) ∙ kept.has.sealed

    published_are : q.published ≡ (process_now old).published
    published_are = ap (λ (y : Process). y.published) (sym (now_is good budget about table last p)) ∙ kept.has.published

    owned_are : q.owned ≡ (view_of old).owned
    owned_are = ap owned_known (sym p.known) ∙ kept.later.owned

    commit_is : commit_of (attempt_of q) q.owned ≡ commit_of (attempt_now old) (view_of old).owned
    commit_is i =
        commit_of (record { start = 0; reads = reads_are i; writes = kept.has.writes i; sealed = sealed_are i; published = published_are i }) (owned_are i)

    there : slice_get (view_of new).history (number - 1) ≡ Some (commit_of (attempt_now old) (view_of old).owned)
    there =
        ap (λ h. slice_get h (number - 1)) history_now
        ∙ ap (slice_get longer) (let e : number - 1 ≡ length g.history = omega (arith, g.last, same) in e)
        ∙ entry_last g.history (commit_of (attempt_of q) q.owned) ∙ ap Some commit_is

    state_is : state_at (made_of k.about).opening (view_of new).history (number - 1) ≡ state_at (made_of k.about).opening g.history (length g.history)
    state_is =
        ap (λ h. state_at (made_of k.about).opening h (number - 1)) history_now
        ∙ ap (state_at (made_of k.about).opening longer) (let e : number - 1 ≡ length g.history = omega (arith, g.last, same) in e)
        ∙ state_stays (made_of k.about).opening g.history longer (length g.history) (commit_of (attempt_of q) q.owned ∷ [], refl) (omega arith)

    fits : Fits (state_at (made_of about).opening (view_of new).history (number - 1)) (attempt_now old) (view_of old).owned
    fits =
        subst (λ (a : About S). Fits (state_at (made_of a).opening (view_of new).history (number - 1)) (attempt_now old) (view_of old).owned) p.told
        (subst (λ m. Fits m (attempt_now old) (view_of old).owned) (sym state_is)
        (record {
          reads = subst (λ reads. Agrees reads (state_at (made_of k.about).opening g.history (length g.history))) reads_are
              g.fits.reads;
          contents = subst (λ owned. (o : Owned) → Contains owned o →
              words_in (state_at (made_of k.about).opening g.history (length g.history)) o.region ≡ o.at_sealing) owned_are
              g.fits.contents;
        }))

    past : c.start < number
    past =
        let swapping = subst (core.IsStage about.shape c) x.stage is_stage in
        omega (arith, swapping.after)

    -- what the pass stands for now
    attempt_is : attempt_now new ≡ record { start = c.start; reads = q.reads; writes = c.writes; sealed = q.sealed; published = q.published }
    attempt_is =
        ap attempt_of (swap.new_now good budget about table last p new progress x v)
        ∙ ap (λ (d : Caller). attempt_of (process_with (swap.after good budget about table last p new progress x v).process d)) stamped_caller
        ∙ ap (λ (o : Outcome). attempt_of (process_with
        (process_after k.about.opening.value.items g.history q c.stage o) stamped_to.caller)) is_stamped

    view_before : (view_of last).mine ≡ k.mine
    view_before = ap mine_of p.known

    became : BecameCommit (made_of about).opening (view_of old) (view_of new) (attempt_now old) (attempt_now new) number
    became =
        record {
          stamped = ap (λ (d : Caller). d.state) stamped_caller;
          history = begins;
          last = sym at_end ∙ ap length (sym history_now);
          there = there;
          fits = fits;
          later = omega (arith, known_before);
          after_start = omega (arith, past, kept.has.start);
          front = omega (arith, kept.later.front, ap front_known p.known, g.front, ap front_known g.now);
          mine = ap mine_of g.now
              ∙ (λ i. (sym view_before ∙ kept.later.mine) i ++ (same i + 1) ∷ []);
          owned = ap owned_known g.now ∙ g.owned ∙ ap owned_known (sym p.known) ∙ kept.later.owned;
          share = ap share_of g.now ∙ ap share_of (sym p.known) ∙ kept.later.share;
          reads = ap (λ (a : Attempt). a.reads) attempt_is ∙ reads_are;
          writes = ap (λ (a : Attempt). a.writes) attempt_is ∙ kept.has.writes;
          sealed = ap (λ (a : Attempt). a.sealed) attempt_is ∙ sealed_are;
          published = ap (λ (a : Attempt). a.published) attempt_is ∙ published_are;
        }

    pub won_said : Says about old new progress
    won_said = subst (Says about old new) (sym stamped_progress) became

    -- as many of its own commits seal a region as before
    pub won_counted : AreStamps (length (view_of old).history) (view_of old).mine → old.seals ≡ seals_of (view_of old).history (view_of old).mine →
        new.seals ≡ seals_of (view_of new).history (view_of new).mine
    won_counted are counted =
        let begins' = beginning_then (view_of old).history (view_of last).history g.history kept.later.history
        (subst (λ h. IsBeginning h g.history) (sym history_before) g.longer) in
        x.seals ∙ kept.seals ∙ counted
        ∙ sym (seals_pushed (view_of old).history g.history (commit_of (attempt_of q) q.owned) (view_of old).mine begins' are none)
        ∙ (λ i. seals_of (sym history_now i) (mine_is i))
      where
        none : q.sealed ≡ []
        none = ap (noted_in c.state) p.unsealed ∙ nothing c.state
          where
            nothing : (st : PassState) → noted_in {X = Region} st [] ≡ []
            nothing state.Idle = refl
            nothing state.Active = refl
            nothing state.Stamped = refl

        mine_is : (view_of old).mine ++ (length g.history + 1) ∷ [] ≡ (view_of new).mine
        mine_is = (λ i. (sym kept.later.mine ∙ view_before) i ++ (sym g.last i + 1) ∷ []) ∙ ap mine_of (sym g.now)
