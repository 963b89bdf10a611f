-- What an answered beginning or read says of the pass.
use Rattle.std.proofs.Common.{◌≡◌, ◌≢◌, ◌⊎◌, ℕ, ◌+◌, ◌≤◌, ◌++◌, List, [], ◌∷◌, length, None, refl, sym, ◌∙◌, ap, subst, arith, inl, inr}
use Rattle.atomic_table.specs.Seated.{TableId}
use Rattle.tx_model.specs.declared.pass.PassState.{PassState}
use Rattle.tx_model.specs.declared.pass.PassState.TheVariants as state
use Rattle.tx_model.specs.declared.pass.Stop.{Stop}
use Rattle.tx_model.specs.declared.pass.Stop.TheVariants.{Met, Overrun}
use Rattle.tx_model.specs.declared.view.Attempt.{Attempt}
use Rattle.tx_model.specs.declared.word.Word.{Word}
use Rattle.tx_model.specs.Words.{value_of, addresses}
use Rattle.tx_model.specs.Attempt.{starting_at, reads_with}
use Rattle.tx_model.specs.Opacity.{ReadFromState}
use Rattle.tx_model.specs.Pass.{AreStamps}
use Rattle.tx_model.specs.Calls.{IsLater, Began, Read, Ended}
use Rattle.tx_model.proofs.lemmas.Calls.{later_then}
use Rattle.ring_core.specs.declared.caller.Caller.{Caller}
use Rattle.ring_core.specs.declared.action.Progress.{Progress}
use Rattle.ring_core.specs.declared.action.Progress.TheVariants as answer
use Rattle.ring_core.specs.Outcomes.{Outcome, started, ends, stops}
use Rattle.ring_core.specs.Machine.{steps_of}
use Rattle.ring_worlds.specs.declared.process.Process.{Process}
use Rattle.ring_worlds.specs.World.{attempt_of, process_after, read_of, asked_first}
use Rattle.ring_words.specs.declared.table.About.{About}
use Rattle.ring_words.specs.declared.table.Knowledge.{Knowledge}
use Rattle.ring_words.specs.declared.pass.RingPass.{RingPass}
use Rattle.ring_words.specs.Ring.{given_of, made_of, front_of, process_of}
use Rattle.ring_words.specs.Sealings.{seals_of}
use Rattle.ring_words.specs.Told.{TellsOn, board_with}
use Rattle.ring_words.specs.Pass.{process_with, process_now, attempt_now, noted_in, front_in, front_known, history_known, view_of, view_known, steps_made, IsSeated, shows_in}
use Rattle.ring_words.specs.Requests.{beginning, reading, asked_at, IsShort, Answered}
use Rattle.ring_words.proofs.Requests.{Follows, goes_on, begins, reads, stopped}
use Rattle.ring_words.proofs.Seated.{caller_now, now_is, new_now, from, after, outcome, made_is, later_after, steps_after}
use Rattle.ring_words.proofs.Kept.{follows}
use Rattle.ring_words.proofs.Sealings.{seals_later}

other_request : (addr : ℕ) → beginning ≢ reading addr
other_request addr e = cc

module _ {S : Type 0} (good : S → List ℕ → List ℕ → Type 0) (budget : S → List ℕ → ℕ) (about : About S) (table : TableId) (old new : RingPass S)
    (progress : Progress) (p : IsSeated good budget about table old) (a : Answered good budget about table old new progress)
    (short : IsShort (asked_at old.local.caller.stage)) where
  abbrev mid : RingPass S
  mid = a.last

  abbrev k : Knowledge S
  k = a.seated.knowledge

  abbrev c : Caller
  c = mid.local.caller

  abbrev q : Process
  q = caller_now good budget about table mid a.seated

  abbrev o : Outcome
  o = outcome good budget about table mid a.seated new progress a.step

  -- the pass has what it had, and each step left fewer of the bound
  pub later_on : IsLater (view_of old) (view_of new)
  later_on = later_then a.kept.later (later_after good budget about table mid a.seated new progress a.step)

  -- the same, whatever the pass was doing
  pub later_from : (st : PassState) → IsLater (view_known st old.seat.me.0) (view_of new)
  later_from st = record { history = later_on.history; front = later_on.front; mine = later_on.mine; owned = later_on.owned; share = later_on.share }

  -- and as many sealing commits
  pub counted_on : (st : PassState) → AreStamps (length (view_known st old.seat.me.0).history) (view_known st old.seat.me.0).mine
      → old.seals ≡ seals_of (view_known st old.seat.me.0).history (view_known st old.seat.me.0).mine →
      new.seals ≡ seals_of (view_of new).history (view_of new).mine
  counted_on st are counted = seals_later (view_known st old.seat.me.0) (view_of new) old.seals new.seals (later_from st) are counted
      (a.step.seals ∙ a.kept.seals)

  pub few : steps_made new ≤ steps_made old + steps_of old.local
  few = omega (arith, a.kept.steps, steps_after good budget about table mid a.seated new progress a.step, a.fewer)

  -- the last step answered it
  last : Follows k.about.shape c c.stage o
  last = follows good budget about table old mid new progress a.kept a.seated short a.step a.fewer

  progress_is : progress ≡ o.progress
  progress_is = ap (λ (x : Outcome). x.progress) (made_is good budget about table mid a.seated new progress a.step)

  over : o.progress ≢ answer.Going
  over going = a.over (progress_is ∙ going)

  caller_then : (x : Outcome) → o ≡ x → new.local.caller ≡ x.caller
  caller_then x is = ap (λ (y : Outcome). y.caller) (made_is good budget about table mid a.seated new progress a.step ∙ is)

  -- the attempt by what the step led to
  abbrev attempt_by : Outcome → Attempt
  attempt_by x = attempt_of (process_with
      (process_after k.about.opening.value.items (from good budget about table mid a.seated new progress a.step).history q c.stage x) x.caller)

  attempt_then : (x : Outcome) → o ≡ x → attempt_now new ≡ attempt_by x
  attempt_then x is =
      ap attempt_of (new_now good budget about table mid a.seated new progress a.step)
      ∙ ap (λ (d : Caller). attempt_of (process_with (after good budget about table mid a.seated new progress a.step).process d)) (caller_then o refl)
      ∙ ap attempt_by is

  tells_then : (x : Outcome) → o ≡ x → TellsOn (given_of k.about)
      (board_with (from good budget about table mid a.seated new progress a.step).history
      (from good budget about table mid a.seated new progress a.step).tags) q x
  tells_then x is =
      subst (TellsOn (given_of k.about) (board_with (from good budget about table mid a.seated new progress a.step).history
      (from good budget about table mid a.seated new progress a.step).tags) q) is
      (from good budget about table mid a.seated new progress a.step).tells

  history_is : history_known new.seat.me.0 ≡ (from good budget about table mid a.seated new progress a.step).history
  history_is = ap history_known (from good budget about table mid a.seated new progress a.step).now

  asked_mid : asked_at c.stage ≡ asked_at old.local.caller.stage
  asked_mid = a.kept.asking.asked

  -- ---- a beginning
  module _ (is_idle : old.local.caller.state ≡ state.Idle) (asks : asked_at old.local.caller.stage ≡ beginning) where
    front_before : q.front ≡ front_known old.seat.me.0
    front_before =
        ap (λ (x : Process). x.front) (sym (now_is good budget about table mid a.seated))
        ∙ a.kept.asking.front
        ∙ ap (λ st. front_in st (process_of old.local.shape old.seat.me.0)) is_idle
        ∙ ap (λ known. front_of (process_of old.local.shape known)) p.known
        ∙ ap front_known (sym p.known)

    begun_by : Follows k.about.shape c c.stage o → (st : PassState) → Began (view_known st old.seat.me.0) (view_of new) (attempt_now new)
    begun_by (goes_on going same_state same_start same_writes asked) st = absurd (over going)
    begun_by (begins start asked is) st =
        let caller = caller_then (started c start) is in
        let told = tells_then (started c start) is in
        let nothing = (a.seated.moved.machine.idle (a.kept.asking.state ∙ is_idle)).writes in
        let empty : attempt_now new ≡ starting_at start =
        attempt_then (started c start) is ∙ ap (λ (writes : List Word). record {
          start = start;
          reads = [];
          writes = writes;
          sealed = [];
          published = [];
        }) nothing in
        record {
          active = ap (λ (d : Caller). d.state) caller;
          later = later_from st;
          fresh = omega (arith, told.0, front_before, ap (λ (d : Caller). d.start) caller);
          empty = empty ∙ ap starting_at (sym (ap (λ (x : Attempt). x.start) empty));
        }
    begun_by (reads addr value start asked for is) st = absurd (other_request addr (sym (asked_mid ∙ asks) ∙ asked))
    begun_by (stopped addr stop asked first is) st = absurd (other_request addr (sym (asked_mid ∙ asks) ∙ asked))

    pub begun : (st : PassState) → Began (view_known st old.seat.me.0) (view_of new) (attempt_now new)
    begun = begun_by last

  -- ---- a read of a word that the attempt has not written
  module _ (is_active : old.local.caller.state ≡ state.Active) (addr : ℕ) (asks : asked_at old.local.caller.stage ≡ reading addr)
      (unwritten : value_of old.local.caller.writes addr ≡ None) where
    reads_before : q.reads ≡ (process_now old).reads
    reads_before = ap (λ (x : Process). x.reads) (sym (now_is good budget about table mid a.seated)) ∙ a.kept.asking.reads

    sealed_before : q.sealed ≡ (process_now old).sealed
    sealed_before = ap (λ (x : Process). x.sealed) (sym (now_is good budget about table mid a.seated)) ∙ a.kept.asking.sealed

    published_before : q.published ≡ (process_now old).published
    published_before = ap (λ (x : Process). x.published) (sym (now_is good budget about table mid a.seated)) ∙ a.kept.asking.published

    active_mid : c.state ≡ state.Active
    active_mid = a.kept.asking.state ∙ is_active

    same_address : (other : ℕ) → asked_at c.stage ≡ reading other → other ≡ addr
    same_address other is = let e : reading other ≡ reading addr = sym is ∙ asked_mid ∙ asks in cc

    -- the value answered
    valued_by : Follows k.about.shape c c.stage o → (value : ℕ) → progress ≡ answer.Value value →
        Read (made_of k.about).opening (view_of old) (view_of new) (attempt_now old) (attempt_now new) addr value
    valued_by (goes_on going same_state same_start same_writes asked) value is = absurd (over going)
    valued_by (begins start asked is') value is = absurd (other_request addr (sym asked ∙ asked_mid ∙ asks))
    valued_by (stopped other stop asked first is') value is = absurd (let e = sym is ∙ progress_is ∙ ap (λ (x : Outcome). x.progress) is' in cc)
    valued_by (reads other found start asked for is') value is =
        let x = ends (record c { start = start }) (answer.Value found) in
        let caller = caller_then x is' in
        let told = tells_then x is' in
        let same : found ≡ value = let e : answer.Value found ≡ answer.Value value = sym (progress_is ∙ ap (λ (x : Outcome). x.progress) is') ∙ is in cc in
        let one : read_of c.stage ≡ record { addr = addr; value = value } ∷ [] =
        for ∙ (λ i. record { addr = same_address other asked i; value = same i } ∷ []) in
        let all : q.reads ++ read_of c.stage ≡ (process_now old).reads ++ record { addr = addr; value = value } ∷ [] = λ i. reads_before i ++ one i in
        let now : attempt_now new ≡ record {
          start = start;
          reads = (process_now old).reads ++ record { addr = addr; value = value } ∷ [];
          writes = old.local.caller.writes;
          sealed = (process_now old).sealed;
          published = (process_now old).published;
        } =
        attempt_then x is'
        ∙ active_attempt start found
        ∙ (λ i. record { start = start; reads = all i; writes = a.kept.asking.writes i; sealed = sealed_before i; published = published_before i }) in
        record {
          goes_on = record {
            active = ap (λ (d : Caller). d.state) caller ∙ active_mid;
            later = later_on;
            start = omega (
              arith,
              a.kept.asking.start,
              (from good budget about table mid a.seated new progress a.step).start busy,
              ap (λ (x : Attempt). x.start) now,
              ap (λ (d : Caller). d.start) (caller_then o refl),
            );
          };
          written = λ last there. absurd (let e = sym unwritten ∙ there in cc);
          reads = ap (λ (x : Attempt). x.reads) now ∙ ap (λ v. reads_with v (process_now old).reads addr value) (sym unwritten);
          writes = ap (λ (x : Attempt). x.writes) now;
          sealed = ap (λ (x : Attempt). x.sealed) now;
          published = ap (λ (x : Attempt). x.published) now;
          one_state = subst (λ (x : Attempt). ReadFromState (made_of k.about).opening (history_known new.seat.me.0) x.reads x.start) (sym now)
              (subst (λ h. ReadFromState (made_of k.about).opening h ((process_now old).reads ++ record { addr = addr; value = value } ∷ []) start)
              (sym history_is)
              (subst (λ reads. ReadFromState (made_of k.about).opening (from good budget about table mid a.seated new progress a.step).history reads
              start) all told));
        }
      where
        busy : c.state ≢ state.Idle
        busy is = let e : state.Active ≡ state.Idle = sym active_mid ∙ is in cc

        active_attempt : (start found : ℕ) → attempt_by (ends (record c { start = start }) (answer.Value found))
            ≡ record { start = start; reads = q.reads ++ read_of c.stage; writes = c.writes; sealed = q.sealed; published = q.published }
        active_attempt start found =
            ap (λ st. record {
              start = start;
              reads = noted_in st (q.reads ++ read_of c.stage);
              writes = c.writes;
              sealed = noted_in st q.sealed;
              published = noted_in st q.published;
            }) active_mid

    -- the attempt had to stop
    stopped_by : Follows k.about.shape c c.stage o → (stop : Stop) → progress ≡ answer.Stopped stop
        → Ended (view_of old) (view_of new) (attempt_now old) ×
        shows_in k.about.shape (view_of new).history (attempt_now old).start (addr ∷ addresses (attempt_now old).reads) stop
    stopped_by (goes_on going same_state same_start same_writes asked) stop is = absurd (over going)
    stopped_by (begins start asked is') stop is = absurd (other_request addr (sym asked ∙ asked_mid ∙ asks))
    stopped_by (reads other found start asked for is') stop is = absurd (let e = sym is ∙ progress_is ∙ ap (λ (x : Outcome). x.progress) is' in cc)
    stopped_by (stopped other given asked first is') stop is =
        let x = stops k.about.shape c given in
        let caller = caller_then x is' in
        let same : given ≡ stop = let e : answer.Stopped given ≡ answer.Stopped stop = sym (progress_is ∙ ap (λ (x : Outcome). x.progress) is') ∙ is in cc in
        let read : asked_first c.stage q.reads ≡ addr ∷ addresses (process_now old).reads =
        first q.reads ∙ (λ i. same_address other asked i ∷ addresses (reads_before i)) in
        let front = ap front_known (from good budget about table mid a.seated new progress a.step).now in
        let start = ap (λ (d : Caller). d.start) (caller_then o refl) in (
          record {
            idle = ap (λ (d : Caller). d.state) caller;
            later = later_on;
            front = omega (arith, front, ap (λ (d : Caller). d.start) (sym (caller_then o refl) ∙ caller), a.kept.asking.start);
          },
          subst (λ h. shows_in k.about.shape h (process_now old).caller.start (addr ∷ addresses (process_now old).reads) stop) (sym history_is)
              (subst (λ st. shows_in k.about.shape (from good budget about table mid a.seated new progress a.step).history st
              (addr ∷ addresses (process_now old).reads) stop) a.kept.asking.start
              (subst (λ l. shows_in k.about.shape (from good budget about table mid a.seated new progress a.step).history c.start l stop) read
              (subst (shows_in k.about.shape (from good budget about table mid a.seated new progress a.step).history c.start (asked_first c.stage q.reads)) same
              (shown given (tells_then x is'))))),
        )
      where
        shown : (stop : Stop) → TellsOn (given_of k.about)
            (board_with (from good budget about table mid a.seated new progress a.step).history
            (from good budget about table mid a.seated new progress a.step).tags) q (stops k.about.shape c stop)
            → shows_in k.about.shape (from good budget about table mid a.seated new progress a.step).history c.start (asked_first c.stage q.reads) stop
        shown (Met entry) told = told
        shown (Overrun entry seen) told = told

    -- nothing else is answered
    only_by : Follows k.about.shape c c.stage o → ((value : ℕ) × (progress ≡ answer.Value value)) ⊎ ((stop : Stop) × (progress ≡ answer.Stopped stop))
    only_by (goes_on going same_state same_start same_writes asked) = absurd (over going)
    only_by (begins start asked is') = absurd (other_request addr (sym asked ∙ asked_mid ∙ asks))
    only_by (reads other found start asked for is') = inl (found, progress_is ∙ ap (λ (x : Outcome). x.progress) is')
    only_by (stopped other stop asked first is') = inr (stop, progress_is ∙ ap (λ (x : Outcome). x.progress) is')

    pub valued : (value : ℕ) → progress ≡ answer.Value value →
        Read (made_of k.about).opening (view_of old) (view_of new) (attempt_now old) (attempt_now new) addr value
    valued = valued_by last

    pub halted : (stop : Stop) → progress ≡ answer.Stopped stop
        → Ended (view_of old) (view_of new) (attempt_now old) ×
        shows_in k.about.shape (view_of new).history (attempt_now old).start (addr ∷ addresses (attempt_now old).reads) stop
    halted = stopped_by last

    pub only : ((value : ℕ) × (progress ≡ answer.Value value)) ⊎ ((stop : Stop) × (progress ≡ answer.Stopped stop))
    only = only_by last
