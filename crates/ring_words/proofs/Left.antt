-- What a step that leaves the words as they are leaves of its caller.
use Rattle.std.proofs.Common.{◌≡◌, ◌≢◌, ◌⊎◌, ℕ, ◌≤◌, true, List, refl, sym, ◌∙◌, subst, arith, inl, inr}
use Rattle.tx_model.specs.declared.history.Commit.{Commit}
use Rattle.tx_model.specs.declared.pass.PassState.TheVariants as state
use Rattle.tx_model.specs.declared.word.Word.{Word}
use Rattle.ring_core.specs.declared.shape.Shape.{Shape}
use Rattle.ring_core.specs.declared.caller.Caller.{Caller}
use Rattle.ring_core.specs.declared.action.Progress.{Progress}
use Rattle.ring_core.specs.declared.action.Progress.TheVariants as answer
use Rattle.ring_core.specs.declared.action.Later.TheVariants.{Lost, Unpublished, SlotBusy, Order}
use Rattle.ring_core.specs.declared.stage.Stage.{Stage}
use Rattle.ring_core.specs.declared.stage.Stage.TheVariants.{Closed, BeginIndex, BeginTag, ReadHeap, Check, StampSlot, StampSwap, Turn, Between}
use Rattle.ring_core.specs.declared.stage.Purpose.{Purpose}
use Rattle.ring_core.specs.declared.stage.Purpose.TheVariants.{Read, Stamp}
use Rattle.ring_core.specs.declared.stage.Walk.{Walk}
use Rattle.ring_core.specs.Request.{is_open, action_at, turn_action}
use Rattle.ring_core.specs.Outcomes.{Outcome, made, idle, started, checked, outcome_at}
use Rattle.ring_core.specs.Sound as core
use Rattle.ring_worlds.specs.declared.process.Process.{Process}
use Rattle.ring_worlds.specs.World.{front_after, owned_after, noted_after, reads_after, process_after}
use Rattle.ring_worlds.proofs.lemmas.Outcomes.{begins_from, begins_at, checks, slots, swaps, turns}
use Rattle.ring_words.proofs.Finds.{Finds, Leaves}
use Rattle.ring_words.specs.Told.{KeepsCommit}

-- an answer that such a step may give
abbrev pub IsQuiet : Progress → Type 0
IsQuiet (answer.Stamped stamp) = ⊥
IsQuiet (answer.Completed stamp) = ⊥
IsQuiet _ = Unit {0}

-- a request that goes on, or waits
abbrev pub IsPending : Progress → Type 0
IsPending answer.Going = Unit {0}
IsPending (answer.Later later) = Unit {0}
IsPending _ = ⊥

-- a stamped caller is in the middle of its write-back, and keeps its commit
pub record LeftStamped (q : Process) (o : Outcome) : Type 0 where
  pub was : q.caller.state ≡ state.Stamped
  pub stamp : o.caller.stamp ≡ q.caller.stamp
  pub start : o.caller.start ≡ q.caller.start
  pub writes : o.caller.writes ≡ q.caller.writes
  pub pending : IsPending o.progress

pub record Left (q : Process) (o : Outcome) : Type 0 where
  pub quiet : IsQuiet o.progress
  pub stays : q.caller.state ≡ state.Stamped → o.caller.state ≡ state.Stamped
  pub stamped : o.caller.state ≡ state.Stamped → LeftStamped q o
  pub rests : o.caller.state ≡ state.Idle → o.caller.start ≤ front_after q o.progress
  pub begins : q.caller.state ≡ state.Idle → (o.caller.start ≡ q.caller.start) ⊎ ((start : ℕ) × (o.progress ≡ answer.Started start))

-- a request is open
pub load_open : (shape : Shape) (p : Process) (stage : Stage) → Finds (action_at shape p.caller stage) → is_open stage ≡ true
load_open shape p Closed l = absurd l
load_open shape p BeginIndex l = refl
load_open shape p (BeginTag top at) l = refl
load_open shape p (ReadHeap addr) l = refl
load_open shape p (Check why at) l = refl
load_open shape p (StampSlot top) l = refl
load_open shape p (StampSwap top) l = refl
load_open shape p (Turn inner) l = refl
load_open shape p (Between inner) l = absurd l

-- such an answer leaves what the caller owns
pub quiet_owned : (opening : List ℕ) (history : List Commit) (q : Process) (progress : Progress) → IsQuiet progress →
    owned_after opening history q progress ≡ q.owned
quiet_owned opening history q answer.Going l = refl
quiet_owned opening history q (answer.Started start) l = refl
quiet_owned opening history q (answer.Value value) l = refl
quiet_owned opening history q (answer.Stopped stop) l = refl
quiet_owned opening history q (answer.Stamped stamp) l = absurd l
quiet_owned opening history q (answer.Later later) l = refl
quiet_owned opening history q (answer.Completed stamp) l = absurd l
quiet_owned opening history q (answer.Worn index) l = refl

active_not : state.Active ≢ state.Idle
active_not e = cc

active_free : state.Active ≢ state.Stamped
active_free e = cc

idle_free : state.Idle ≢ state.Stamped
idle_free e = cc

-- a request that goes on, or waits, leaves what is noted
noted_still : {X : Type 0} (noted : List X) (progress : Progress) → IsPending progress → noted_after noted progress ≡ noted
noted_still noted answer.Going on = refl
noted_still noted (answer.Later later) on = refl
noted_still noted (answer.Started start) on = absurd on
noted_still noted (answer.Value value) on = absurd on
noted_still noted (answer.Stopped stop) on = absurd on
noted_still noted (answer.Stamped stamp) on = absurd on
noted_still noted (answer.Completed stamp) on = absurd on
noted_still noted (answer.Worn index) on = absurd on

reads_still : (stage : Stage) (reads : List Word) (progress : Progress) → IsPending progress → reads_after stage reads progress ≡ reads
reads_still stage reads answer.Going on = refl
reads_still stage reads (answer.Later later) on = refl
reads_still stage reads (answer.Started start) on = absurd on
reads_still stage reads (answer.Value value) on = absurd on
reads_still stage reads (answer.Stopped stop) on = absurd on
reads_still stage reads (answer.Stamped stamp) on = absurd on
reads_still stage reads (answer.Completed stamp) on = absurd on
reads_still stage reads (answer.Worn index) on = absurd on

-- so a stamped caller has the commit that it had
pub keeps_commit : (opening : List ℕ) (history : List Commit) (q : Process) (stage : Stage) (o : Outcome) → LeftStamped q o
    → KeepsCommit q (process_after opening history q stage o)
keeps_commit opening history q stage o l =
    let reads = reads_still stage q.reads o.progress l.pending in
    let sealed = noted_still q.sealed o.progress l.pending in
    let published = noted_still q.published o.progress l.pending in
    record {
      was = l.was;
      stamp = l.stamp;
      same = λ i. record { start = l.start i; reads = reads i; writes = l.writes i; sealed = sealed i; published = published i };
    }

module _ (shape : Shape) (q : Process) (rests : q.caller.state ≡ state.Idle → q.caller.start ≤ q.front) where
  -- ---- a caller that isn't stamped
  module _ (free : q.caller.state ≢ state.Stamped) where
    out : (o : Outcome) → IsQuiet o.progress → o.caller.state ≢ state.Stamped
        → (o.caller.state ≡ state.Idle → o.caller.start ≤ front_after q o.progress)
        → (q.caller.state ≡ state.Idle → (o.caller.start ≡ q.caller.start) ⊎ ((start : ℕ) × (o.progress ≡ answer.Started start))) → Left q o
    out o quiet outside rested begun =
        record { quiet = quiet; stays = λ is. absurd (free is); stamped = λ is. absurd (outside is); rests = rested; begins = begun }

    ended : (stop : Progress) → IsQuiet stop → q.caller.start ≤ front_after q stop → Left q (made (idle shape q.caller) stop)
    ended stop quiet up = out (made (idle shape q.caller) stop) quiet idle_free (λ is. up) (λ is. inl refl)

    -- it stays what it is
    goes_on : (c : Caller) (progress : Progress) → IsPending progress → IsQuiet progress → c.state ≡ q.caller.state → c.start ≡ q.caller.start →
        front_after q progress ≡ q.front → Left q (made c progress)
    goes_on c progress pending quiet state start front =
        out (made c progress) quiet (λ is. free (sym state ∙ is)) (λ is. omega (arith, rests (sym state ∙ is), start, front)) (λ is. inl start)

    begun : (start : ℕ) → Left q (started q.caller start)
    begun start = out (started q.caller start) tt active_free (λ is. absurd (active_not is)) (λ is. inr (start, refl))

    -- the check of an attempt is over
    module _ (active : q.caller.state ≡ state.Active) where
      busy : {X : Type 0} → q.caller.state ≡ state.Idle → X
      busy {X} is = absurd (active_not (sym active ∙ is))

      shown : (why : Purpose) (walk : Walk) → Left q (checked q.caller why walk)
      shown (Read addr value) walk = out (checked q.caller (Read addr value) walk) tt free (λ is. busy is) (λ is. busy is)
      shown Stamp walk = out (checked q.caller Stamp walk) tt free (λ is. busy is) (λ is. busy is)

  idle_out : q.caller.state ≡ state.Idle → q.caller.state ≢ state.Stamped
  idle_out is stamped = idle_free (sym is ∙ stamped)

  active_out : q.caller.state ≡ state.Active → q.caller.state ≢ state.Stamped
  active_out is stamped = active_free (sym is ∙ stamped)

  -- ---- a stamped one
  turn_on : (c : Caller) (progress : Progress) → IsPending progress → IsQuiet progress → c.state ≡ q.caller.state → c.start ≡ q.caller.start →
      c.stamp ≡ q.caller.stamp → c.writes ≡ q.caller.writes → front_after q progress ≡ q.front → Left q (made c progress)
  turn_on c progress pending quiet state start stamp writes front =
      record {
        quiet = quiet;
        stays = λ is. state ∙ is;
        stamped = λ is. record { was = sym state ∙ is; stamp = stamp; start = start; writes = writes; pending = pending };
        rests = λ is. omega (arith, rests (sym state ∙ is), start, front);
        begins = λ is. inl start;
      }

  left_at : (stage : Stage) (word : ℕ) → core.IsStage shape q.caller stage → Leaves word (action_at shape q.caller stage) →
      Left q (outcome_at shape q.caller stage word)
  left_at Closed word is_stage l = absurd l
  left_at BeginIndex index is_stage l =
      let free = idle_out is_stage in
      begins_from shape q.caller (Left q) (λ top at. goes_on free _ answer.Going tt tt refl refl refl) (begun free) index index
  left_at (BeginTag top at) tag is_stage l =
      let free = idle_out is_stage.0 in
      begins_at shape q.caller (Left q) (λ t a. goes_on free _ answer.Going tt tt refl refl refl) (begun free) top at tag
  left_at (ReadHeap addr) value is_stage l = goes_on (active_out is_stage.0) _ answer.Going tt tt refl refl refl
  left_at (Check why at) word is_stage l =
      let free = active_out is_stage.0 in
      checks shape q.caller (Left q) why (λ loaded next. goes_on free _ answer.Going tt tt refl refl refl) (shown free is_stage.0 why)
      (λ stop. ended free (answer.Stopped stop) tt (omega arith)) (λ index. ended free (answer.Worn index) tt (omega arith))
      (λ is entry tag. goes_on free _ (answer.Later (Unpublished entry tag)) tt tt refl refl refl) at word
  left_at (StampSlot top) tag is_stage l =
      let free = active_out is_stage.active in
      slots shape q.caller (Left q) top tag (λ entry. goes_on free _ (answer.Later (SlotBusy entry tag)) tt tt refl refl refl)
      (goes_on free _ answer.Going tt tt refl refl refl)
  left_at (StampSwap top) word is_stage l =
      let free = active_out is_stage.active in
      swaps shape q.caller (Left q) top word (λ won. absurd (l won)) (λ lost. goes_on free _ (answer.Later (Lost word)) tt tt refl refl refl)
  left_at (Turn inner) word at l =
      turns shape q.caller (Left q) (λ loaded next. turn_on _ answer.Going tt tt refl refl refl refl refl)
      (λ next entry tag. turn_on _ (answer.Later (Order entry tag)) tt tt refl refl refl refl refl) inner word
      (λ is. absurd (subst (λ at. Leaves word (turn_action shape q.caller at)) is l))
  left_at (Between inner) word at l = absurd l

  pub left : (word : ℕ) → core.IsSound shape q.caller → Leaves word (action_at shape q.caller q.caller.stage) →
      Left q (outcome_at shape q.caller q.caller.stage word)
  left word sound l = left_at q.caller.stage word sound.stage l
