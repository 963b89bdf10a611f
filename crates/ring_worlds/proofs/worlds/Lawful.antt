-- What an attempt does in regions is by the rule, after every step.
use Rattle.std.proofs.Common.{◌≡◌, ◌≢◌, ℕ, List, [], ◌∷◌, ◌++◌, true, refl, sym, subst}
use Rattle.tx_model.specs.declared.gate.Region.{Region}
use Rattle.tx_model.specs.declared.word.Word.{Word}
use Rattle.tx_model.specs.declared.history.Commit.{Commit}
use Rattle.tx_model.specs.declared.pass.PassState.TheVariants as state
use Rattle.tx_model.specs.declared.pass.Stop.{Stop}
use Rattle.tx_model.specs.Attempt.{reads_with}
use Rattle.tx_model.specs.Rule.{AttemptFollows}
use Rattle.tx_model.proofs.lemmas.Rule.{start_follows, later_start_follows, read_follows}
use Rattle.tx_model.proofs.lemmas.Values.{missing_none}
use Rattle.ring_core.specs.declared.shape.Shape.{Shape}
use Rattle.ring_core.specs.declared.action.Progress.{Progress}
use Rattle.ring_core.specs.declared.action.Progress.TheVariants as answer
use Rattle.ring_core.specs.declared.stage.Stage.{Stage}
use Rattle.ring_core.specs.declared.stage.Stage.TheVariants.{Closed, BeginIndex, BeginTag, ReadHeap, Check, StampSlot, StampSwap, Turn, Between}
use Rattle.ring_core.specs.declared.stage.Purpose.{Purpose}
use Rattle.ring_core.specs.declared.stage.Purpose.TheVariants.{Read, Stamp}
use Rattle.ring_core.specs.declared.stage.CheckStage.{CheckStage}
use Rattle.ring_core.specs.declared.stage.TurnStage.{TurnStage}
use Rattle.ring_core.specs.declared.stage.Walk.{Walk}
use Rattle.ring_core.specs.Sound as core
use Rattle.ring_core.specs.Outcomes.{Outcome, made, goes, started, stops, idle, waits, checked}
use Rattle.ring_core.specs.Request.{is_open}
use Rattle.ring_worlds.specs.declared.process.Process.{Process}
use Rattle.ring_worlds.specs.World.{attempt_of, process_after, moved_at}
use Rattle.ring_worlds.specs.Sound.{MayAsk, IsLawful}
use Rattle.ring_worlds.proofs.lemmas.Outcomes as outcomes
use Rattle.ring_worlds.proofs.lemmas.Members.{contains_none}

active_not_idle : state.Active ≢ state.Idle
active_not_idle e = cc

stamped_not_idle : state.Stamped ≢ state.Idle
stamped_not_idle e = cc

module _ (shape : Shape) (opening : List ℕ) (regions : List Region) (history : List Commit) (p : Process) (lawful : IsLawful opening regions p)
    (sound : core.IsSound shape p.caller) where
  module _ (stage : Stage) where
    abbrev Kept : Outcome → Type 0
    Kept o = IsLawful opening regions (process_after opening history p stage o)

    -- the attempt is over
    over : (progress : Progress) → Kept (made (idle shape p.caller) progress) → Kept (made (idle shape p.caller) progress)
    over progress k = k

    stopped : (stop : Stop) → Kept (stops shape p.caller stop)
    stopped stop = record {
      follows = start_follows opening regions p.caller.start;
      asks = tt;
      publishes = λ region among. absurd (contains_none region among);
      quiet = λ e. (refl, refl);
    }

    worn : (index : ℕ) → Kept (made (idle shape p.caller) (answer.Worn index))
    worn index = record {
      follows = start_follows opening regions p.caller.start;
      asks = tt;
      publishes = λ region among. absurd (contains_none region among);
      quiet = λ e. (refl, refl);
    }

    completed : Kept (made (idle shape p.caller) (answer.Completed p.caller.stamp))
    completed = record {
      follows = start_follows opening regions p.caller.start;
      asks = tt;
      publishes = λ region among. absurd (contains_none region among);
      quiet = λ e. (refl, refl);
    }

    begun : p.caller.state ≡ state.Idle → (start : ℕ) → Kept (started p.caller start)
    begun is_idle start =
        record {
          follows = subst (λ (writes : List Word). AttemptFollows opening regions
              (record { start = start; reads = []; writes = writes; sealed = []; published = [] })) (sym (sound.idle is_idle).writes) (start_follows opening
              regions start);
          asks = tt;
          publishes = λ region among. absurd (contains_none region among);
          quiet = λ e. absurd (active_not_idle e);
        }

    waited : (next : TurnStage) (entry tag : ℕ) → Kept (waits p.caller next entry tag)
    waited next entry tag = record { follows = lawful.follows; asks = tt; publishes = lawful.publishes; quiet = lawful.quiet }

    turning : (loaded : List ℕ) (next : TurnStage) → Kept (goes (record p.caller { loaded = loaded }) (Turn next))
    turning loaded next = record { follows = lawful.follows; asks = tt; publishes = lawful.publishes; quiet = lawful.quiet }

  -- ---- a check
  still_asks : (why : Purpose) (stage next : CheckStage) (loaded : List ℕ) → MayAsk regions p (Check why stage)
      → MayAsk regions (record p { caller = record p.caller { loaded = loaded; stage = Check why next } }) (Check why next)
  still_asks (Read addr value) stage next loaded asked = record {
    may = record { gate_read = asked.may.gate_read; readable = asked.may.readable; not_published = asked.may.not_published };
    not_written = asked.not_written;
  }
  still_asks Stamp stage next loaded asked = tt

  checking : (why : Purpose) (stage next : CheckStage) (loaded : List ℕ) → MayAsk regions p (Check why stage)
      → Kept (Check why stage) (goes (record p.caller { loaded = loaded }) (Check why next))
  checking why stage next loaded asked = record {
    follows = lawful.follows;
    asks = still_asks why stage next loaded asked;
    publishes = lawful.publishes;
    quiet = lawful.quiet;
  }

  ended : (why : Purpose) (stage : CheckStage) (walk : Walk) → MayAsk regions p (Check why stage) → Kept (Check why stage) (checked p.caller why walk)
  ended Stamp stage walk asked = record {
    follows = later_start_follows opening regions (attempt_of p) walk.candidate lawful.follows;
    asks = tt;
    publishes = lawful.publishes;
    quiet = lawful.quiet;
  }
  ended (Read addr value) stage walk asked =
      let read : List Word = p.reads ++ record { addr = addr; value = value } ∷ [] in
      let joined = read_follows opening regions (attempt_of p) addr value asked.may lawful.follows in
      let plain : AttemptFollows opening regions (record (attempt_of p) { reads = read }) =
      subst (λ o. AttemptFollows opening regions (record (attempt_of p) { reads = reads_with o p.reads addr value }))
      (missing_none p.caller.writes addr asked.not_written) joined in
      record {
        follows = later_start_follows opening regions (record (attempt_of p) { reads = read }) walk.candidate plain;
        asks = tt;
        publishes = lawful.publishes;
        quiet = lawful.quiet;
      }

  pub lawful_at : (stage : Stage) (word : ℕ) → is_open stage ≡ true → core.IsStage shape p.caller stage → MayAsk regions p stage
      → IsLawful opening regions (moved_at shape opening history p stage word)
  lawful_at Closed word opened staged asked = absurd cc
  lawful_at (Between at) word opened staged asked = absurd cc
  lawful_at BeginIndex index opened staged asked =
      outcomes.begins_from shape p.caller (Kept BeginIndex) (λ top at. record
      { follows = lawful.follows; asks = tt; publishes = lawful.publishes; quiet = lawful.quiet }) (begun BeginIndex staged) index index
  lawful_at (BeginTag top at) tag opened staged asked =
      outcomes.begins_at shape p.caller (Kept (BeginTag top at))
      (λ t a. record { follows = lawful.follows; asks = tt; publishes = lawful.publishes; quiet = lawful.quiet }) (begun (BeginTag top at) staged.0) top at
      tag
  lawful_at (ReadHeap addr) value opened staged asked =
      record {
        follows = lawful.follows;
        asks = record {
          may = record
              { gate_read = asked.may.gate_read; readable = asked.may.readable; not_published = asked.may.not_published };
          not_written =
              asked.not_written;
        };
        publishes = lawful.publishes;
        quiet = lawful.quiet;
      }
  lawful_at (Check why at) word opened staged asked =
      outcomes.checks shape p.caller (Kept (Check why at)) why (λ loaded next. checking why at next loaded asked) (λ walk. ended why at walk asked)
      (stopped (Check why at)) (worn (Check why at))
      (λ is entry tag. record { follows = lawful.follows; asks = tt; publishes = lawful.publishes; quiet = lawful.quiet }) at word
  lawful_at (StampSlot top) tag opened staged asked =
      outcomes.slots shape p.caller (Kept (StampSlot top)) top tag
      (λ entry. record { follows = lawful.follows; asks = tt; publishes = lawful.publishes; quiet = lawful.quiet })
      (record { follows = lawful.follows; asks = tt; publishes = lawful.publishes; quiet = lawful.quiet })
  lawful_at (StampSwap top) found opened staged asked =
      outcomes.swaps shape p.caller (Kept (StampSwap top)) top found
      (λ won. record { follows = lawful.follows; asks = tt; publishes = lawful.publishes; quiet = λ e. absurd (stamped_not_idle e) })
      (λ lost. record { follows = lawful.follows; asks = tt; publishes = lawful.publishes; quiet = lawful.quiet })
  lawful_at (Turn stage) word opened fits asked = outcomes.turns shape p.caller (Kept (Turn stage)) (turning (Turn stage)) (waited (Turn stage)) stage word
      (λ last. completed (Turn stage))
