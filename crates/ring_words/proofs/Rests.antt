-- A caller without an attempt fits every world that the caller it was fits.
use Rattle.std.proofs.Common.{◌≡◌, ◌≢◌, ℕ, ◌≤◌, List, [], Contains, refl, sym, ◌∙◌, subst, arith}
use Rattle.std.proofs.lemmas.List.{length-replicate}
use Rattle.tx_model.specs.declared.gate.Region.{Region}
use Rattle.tx_model.specs.declared.pass.PassState.TheVariants as state
use Rattle.tx_model.specs.declared.view.Owned.{Owned}
use Rattle.tx_model.specs.declared.word.Word.{Word}
use Rattle.tx_model.specs.Rule.{AttemptFollows}
use Rattle.tx_model.proofs.lemmas.Rule.{start_follows}
use Rattle.ring_sig.specs.Signature.{IsSignatureOf}
use Rattle.ring_sig.proofs.Lemmas.{empty_signature}
use Rattle.ring_core.specs.declared.shape.Shape.{Shape}
use Rattle.ring_core.specs.declared.caller.Caller.{Caller}
use Rattle.ring_core.specs.declared.stage.Stage.{Stage}
use Rattle.ring_core.specs.declared.stage.Stage.TheVariants.{Closed, BeginIndex, BeginTag, ReadHeap, Check, StampSlot, StampSwap, Turn, Between}
use Rattle.ring_core.specs.Outcomes.{idle}
use Rattle.ring_core.specs.Sound as core
use Rattle.ring_worlds.specs.declared.process.Process.{Process}
use Rattle.ring_worlds.specs.World.{Board, board_of, attempt_of}
use Rattle.ring_worlds.specs.Reader.{IsReaderAt}
use Rattle.ring_worlds.specs.Own.{IsOwnAt}
use Rattle.ring_worlds.specs.Owner.{IsOwner}
use Rattle.ring_worlds.specs.Sound.{IsProcess, MayAsk}
use Rattle.ring_worlds.specs.Laws.{BecomeKeeps}
use Rattle.ring_worlds.proofs.lemmas.Members.{contains_none}
use Rattle.ring_words.specs.Ring.{Given, front_of}
use Rattle.ring_words.specs.Pass.{MayBecome, HasMoved, process_by, process_with}

idle_free : state.Idle ≢ state.Stamped
idle_free e = cc

active_not : state.Active ≢ state.Idle
active_not e = cc

-- no request is open, or a beginning was just opened
abbrev pub IsQuietStage : Stage → Type 0
IsQuietStage Closed = Unit {0}
IsQuietStage BeginIndex = Unit {0}
IsQuietStage _ = ⊥

at_quiet : (P : Stage → Type 0) → P Closed → P BeginIndex → (stage : Stage) → IsQuietStage stage → P stage
at_quiet P closed begins Closed h = closed
at_quiet P closed begins BeginIndex h = begins
at_quiet P closed begins (BeginTag top at) h = absurd h
at_quiet P closed begins (ReadHeap addr) h = absurd h
at_quiet P closed begins (Check why at) h = absurd h
at_quiet P closed begins (StampSlot top) h = absurd h
at_quiet P closed begins (StampSwap top) h = absurd h
at_quiet P closed begins (Turn inner) h = absurd h
at_quiet P closed begins (Between inner) h = absurd h

-- a machine whose attempt is over is sound
pub idle_sound : (shape : Shape) (c : Caller) → core.IsSound shape c → core.IsSound shape (idle shape c)
idle_sound shape c sound =
    record {
      sized = record {
        lived = sound.sized.lived;
        reads = length-replicate {A = ℕ} shape.sig_words 0;
        fits = omega arith;
        apart = λ i j before below. absurd (omega (arith, below));
        within = λ i d below. absurd (omega (arith, below));
        wrote = length-replicate {A = ℕ} shape.sig_words 0;
        signed = empty_signature shape.sig_words;
        scratch = sound.sized.scratch;
      };
      idle = λ e. record { reads = refl; writes = refl; wrote = refl; stamp = refl };
      unstamped = λ e. refl;
      stage = idle_free;
    }

-- the caller with this machine, no attempt and this front
abbrev pub resting_with : Caller → ℕ → List Owned → Process
resting_with c front owned = record { caller = c; front = front; reads = []; sealed = []; published = []; owned = owned }

module _ (shape : Shape) (c : Caller) (sound : core.IsSound shape c) (is_idle : c.state ≡ state.Idle) where
  -- its attempt has nothing
  pub rest_follows : (opening : List ℕ) (regions : List Region) (front : ℕ) (owned : List Owned) →
      AttemptFollows opening regions (attempt_of (resting_with c front owned))
  rest_follows opening regions front owned =
      subst (λ (writes : List Word). AttemptFollows opening regions
      (record { start = c.start; reads = []; writes = writes; sealed = []; published = [] })) (sym (sound.idle is_idle).writes)
      (start_follows opening regions c.start)

  module _ (quiet : IsQuietStage c.stage) (opening : List ℕ) (regions : List Region) (b : Board) (p : Process)
      (was : IsProcess shape opening regions b p) (front : ℕ) (start_in : c.start ≤ b.complete) (up : p.front ≤ front) (front_in : front ≤ b.complete) where
    abbrev q : Process
    q = resting_with c front p.owned

    signed : IsSignatureOf [] c.read_sig
    signed = subst (IsSignatureOf []) (sym (sound.idle is_idle).reads) (empty_signature shape.sig_words)

    reader_at : (stage : Stage) → IsQuietStage stage → IsReaderAt shape opening regions b q stage
    reader_at =
        at_quiet (IsReaderAt shape opening regions b q)
        (record {
          behind = start_in;
          signed = signed;
          ruled = λ addr among. absurd (contains_none addr among);
          fresh = λ e. refl;
          agree = λ e. absurd (active_not (sym e ∙ is_idle));
          knows = tt;
        })
        (record {
          behind = start_in;
          signed = signed;
          ruled = λ addr among. absurd (contains_none addr among);
          fresh = λ e. refl;
          agree = λ e. absurd (active_not (sym e ∙ is_idle));
          knows = tt;
        })

    owner : (o : Owned) → Contains p.owned o → IsOwner opening regions b q o
    owner o among =
        let before = was.owns o among in
        record {
          ownable = before.ownable;
          entry = before.entry;
          some = before.some;
          noted = omega (arith, before.noted, up);
          commit = before.commit;
          there = before.there;
          seals = before.seals;
          still = before.still;
          kept = before.kept;
        }

    pub rests_beside : IsProcess shape opening regions b q
    rests_beside =
        record {
          machine = sound;
          since = record { known = front_in; since = λ busy. absurd (busy is_idle) };
          reader = reader_at c.stage quiet;
          own = at_quiet (IsOwnAt shape b q) tt tt c.stage quiet;
          lawful = record {
            follows = rest_follows opening regions front p.owned;
            asks = at_quiet (MayAsk regions q) tt tt c.stage quiet;
            publishes = λ region among. absurd (contains_none region among);
            quiet = λ e. (refl, refl);
          };
          owns = owner;
        }

-- ---- a caller whose attempt is over, or that has just opened a beginning
module _ (becomes : BecomeKeeps) (given : Given) (p : Process) (c : Caller) (sound : core.IsSound given.shape c) (is_idle : c.state ≡ state.Idle)
    (quiet : IsQuietStage c.stage) (was_free : p.caller.state ≢ state.Stamped) (start : c.start ≡ p.caller.start) where
  rest_may : MayBecome given p (process_by state.Idle p c)
  rest_may w who made s here =
      let sound' = subst (λ (g : Given). core.IsSound g.shape c) (sym made) sound in
      let me = s.each who p here in
      becomes w who p (process_by state.Idle p c) s here
      (rests_beside w.shape c sound' is_idle quiet w.opening w.regions (board_of w s.complete) p me (front_of p)
      (omega (arith, start, me.reader.behind)) (omega arith) (omega (arith, me.since.known, me.reader.behind)))
      refl was_free (λ stamped. idle_free (sym is_idle ∙ stamped))

  at_rest : HasMoved given p (process_by state.Idle p c)
  at_rest =
      record {
        may = rest_may;
        machine = sound;
        stays = λ stamped. absurd (was_free stamped);
        stamped = λ stamped. absurd (idle_free (sym is_idle ∙ stamped));
        active = λ active. absurd (active_not (sym active ∙ is_idle));
        start = start;
        follows = rest_follows given.shape c sound is_idle given.opening given.regions (front_of p) p.owned;
      }

  pub moved_to_rest : HasMoved given p (process_with p c)
  moved_to_rest = subst (λ st. HasMoved given p (process_by st p c)) (sym is_idle) at_rest
