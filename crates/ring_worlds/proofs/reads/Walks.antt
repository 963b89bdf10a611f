-- The steps of a check keep what the attempt's reads are worth.
use Rattle.std.proofs.Common.{◌≡◌, ◌≢◌, ℕ, ◌<◌, ◌≤◌, nat_lt, List, [], ◌∷◌, ◌++◌, slice_get, Some, Contains, refl, sym, ◌∙◌, ap, subst, arith, inl, inr}
use Rattle.std.proofs.lemmas.Bool.{cases_lt, cond_both, ltb-false}
use Rattle.std.proofs.lemmas.List.{append-nil}
use Rattle.std.proofs.lemmas.List.Elements.{All-append, Contains-append_left}
use Rattle.tx_model.specs.declared.gate.Region.{Region}
use Rattle.tx_model.specs.declared.word.Word.{Word}
use Rattle.tx_model.specs.declared.view.Owned.{Owned}
use Rattle.tx_model.specs.declared.pass.PassState.TheVariants as state
use Rattle.tx_model.specs.declared.pass.Stop.{Stop}
use Rattle.tx_model.specs.Words.{addresses}
use Rattle.tx_model.specs.Memory.{Agrees}
use Rattle.tx_model.specs.History.{state_at}
use Rattle.ring_sig.specs.Signature.{IsSignatureOf}
use Rattle.ring_sig.proofs.Lemmas.{empty_signature}
use Rattle.ring_core.specs.declared.shape.Shape.{Shape}
use Rattle.ring_core.specs.declared.stage.Stage.{Stage}
use Rattle.ring_core.specs.declared.stage.Stage.TheVariants.{Check}
use Rattle.ring_core.specs.declared.stage.Purpose.{Purpose}
use Rattle.ring_core.specs.declared.stage.Purpose.TheVariants.{Read, Stamp}
use Rattle.ring_core.specs.declared.stage.CheckStage.{CheckStage}
use Rattle.ring_core.specs.declared.stage.Walk.{Walk}
use Rattle.ring_core.specs.declared.action.Progress.TheVariants as answer
use Rattle.ring_core.specs.Outcomes.{made, below, checked, check_from, stops, idle}
use Rattle.ring_worlds.specs.declared.process.Process.{Process}
use Rattle.ring_worlds.specs.World.{Board, read_for}
use Rattle.ring_worlds.specs.Board.{IsBoard}
use Rattle.ring_worlds.specs.Reader.{AreSame, IsWalking, IsRuled, IsReader}
use Rattle.ring_worlds.specs.Answers.{Tells, Keeps}
use Rattle.ring_worlds.proofs.reads.Compare.{agrees_there, agrees_one}

pub idle_not_active : state.Idle ≢ state.Active
idle_not_active e = cc

module _ (shape : Shape) (opening : List ℕ) (regions : List Region) (b : Board) (ok : IsBoard shape opening regions b) where
  -- a caller with no attempt
  pub idles : (p : Process) (front : ℕ) (sealed published : List Region) (owned : List Owned) → p.caller.start ≤ b.complete
      → IsReader shape opening regions b (record {
        caller = idle shape p.caller;
        front = front;
        reads = [];
        sealed = sealed;
        published = published;
        owned = owned;
      })
  idles p front sealed published owned behind =
      record {
        behind = behind;
        signed = empty_signature shape.sig_words;
        ruled = λ addr (k, below, at). absurd (let none : k < 0 = below in omega (arith, none));
        fresh = λ e. refl;
        agree = λ e. absurd (idle_not_active e);
        knows = tt;
      }

  pub stopped : (p : Process) (stage : Stage) (stop : Stop) → p.caller.start ≤ b.complete
      → Tells shape opening regions b p stage p.caller.start (answer.Stopped stop) → Keeps shape opening regions b p stage (stops shape p.caller stop)
  stopped p stage stop behind shown = record { reader = idles p _ _ _ _ behind; later = λ _. omega arith; tells = shown }

  pub worn_out : (p : Process) (stage : Stage) (index : ℕ) → p.caller.start ≤ b.complete
      → Tells shape opening regions b p stage p.caller.start (answer.Worn index)
      → Keeps shape opening regions b p stage (made (idle shape p.caller) (answer.Worn index))
  worn_out p stage index behind shown = record { reader = idles p _ _ _ _ behind; later = λ _. omega arith; tells = shown }

  -- a walk that may have come to the start
  pub record IsReady (start : ℕ) (addrs : List ℕ) (purpose : Purpose) (walk : Walk) : Type 0 where
    pub reached : start ≤ walk.at
    pub within : walk.at ≤ walk.top
    pub kept : start ≤ walk.candidate
    pub most : walk.candidate ≤ walk.top
    pub walking : IsWalking shape opening regions b start addrs purpose walk

  module _ (p : Process) (purpose : Purpose) (stage : CheckStage) (active : p.caller.state ≡ state.Active) (behind : p.caller.start ≤ b.complete)
      (signed : IsSignatureOf (addresses (p.reads ++ read_for purpose)) p.caller.read_sig)
      (ruled : (addr : ℕ) → Contains (addresses (p.reads ++ read_for purpose)) addr → IsRuled shape opening regions p.reads addr)
      (agree : Agrees p.reads (state_at opening b.history p.caller.start)) where
    -- the start comes to the candidate
    candidate_behind : (start : ℕ) (addrs : List ℕ) (walk : Walk) → start ≤ b.complete → walk.at ≤ start
        → IsWalking shape opening regions b start addrs purpose walk → walk.candidate ≤ b.complete
    candidate_behind start addrs walk early reached walking =
        elim (cases_lt b.complete walk.candidate) [
          | inl past ↦ let low = walking.moves past in omega (arith, low, early, reached)
          | inr not_past ↦ omega (arith, not_past)
        ]

    check_ends : (walk : Walk) → IsReady p.caller.start (addresses (p.reads ++ read_for purpose)) purpose walk → walk.at ≤ p.caller.start
        → Keeps shape opening regions b p (Check purpose stage) (checked p.caller purpose walk)
    check_ends walk ready reached = go purpose signed ruled ready
        (candidate_behind p.caller.start (addresses (p.reads ++ read_for purpose)) walk behind reached ready.walking)
      where
        at_start : walk.at ≡ p.caller.start
        at_start = omega (arith, ready.reached, reached)

        go : (why : Purpose) → IsSignatureOf (addresses (p.reads ++ read_for why)) p.caller.read_sig
            → ((addr : ℕ) → Contains (addresses (p.reads ++ read_for why)) addr → IsRuled shape opening regions p.reads addr)
            → IsReady p.caller.start (addresses (p.reads ++ read_for why)) why walk → walk.candidate ≤ b.complete
            → Keeps shape opening regions b p (Check why stage) (checked p.caller why walk)
        go (Read addr value) s r w low =
            let reads : List Word = p.reads ++ record { addr = addr; value = value } ∷ [] in
            let asks : addresses (reads ++ []) ≡ addresses reads = ap addresses (append-nil reads) in
            let start : ℕ = p.caller.start in
            let loaded : slice_get (state_at opening b.history start) addr ≡ Some value =
            let v = w.walking.value in
            let here : v.entry ≡ start = omega (arith, v.after, v.within, reached) in
            elim v.value [
              | inl e ↦ subst (λ n. slice_get (state_at opening b.history n) addr ≡ Some value) here e
              | inr (later, sealing) ↦ absurd (omega (arith, later, here))
            ] in
            let same : AreSame shape opening regions b.history (addresses reads) start walk.candidate =
            subst (λ n. AreSame shape opening regions b.history (addresses reads) n walk.candidate) at_start w.walking.same in
            let agrees : Agrees reads (state_at opening b.history walk.candidate) =
            agrees_there reads (state_at opening b.history start) (state_at opening b.history walk.candidate)
            (All-append (λ word. slice_get (state_at opening b.history start) word.addr ≡ Some word.value) p.reads _ agree
            (agrees_one (state_at opening b.history start) addr value loaded))
            (λ a among. same walk.candidate w.kept (omega arith) a among) in
            record {
              later = λ _. w.kept;
              tells = record { happened = omega (arith, low, ok.counted); agree = agrees };
              reader = record {
                behind = low;
                signed = subst (λ addrs. IsSignatureOf addrs p.caller.read_sig) (sym asks) s;
                ruled = λ a among region has is_in.
                    let g = r a (subst (λ addrs. Contains addrs a) asks among) region has is_in in
                    record { value = g.value; read = Contains-append_left p.reads _ _ g.read; not_sealed = g.not_sealed };
                fresh = λ e. absurd (idle_not_active (sym e ∙ active));
                agree = λ e. agrees;
                knows = tt;
              };
            }
        go Stamp s r w low =
            let start : ℕ = p.caller.start in
            let asks : addresses (p.reads ++ []) ≡ addresses p.reads = ap addresses (append-nil p.reads) in
            let same : AreSame shape opening regions b.history (addresses p.reads) start walk.top =
            subst (λ n. AreSame shape opening regions b.history (addresses p.reads) n walk.top) at_start
            (subst (λ addrs. AreSame shape opening regions b.history addrs walk.at walk.top) asks w.walking.same) in
            let each : (k : ℕ) → start ≤ k → k ≤ walk.top → Agrees p.reads (state_at opening b.history k) =
            λ k low high. agrees_there p.reads (state_at opening b.history start) (state_at opening b.history k) agree (λ a among. same k low high a among) in
            record {
              later = λ _. w.kept;
              tells = tt;
              reader = record {
                behind = low;
                signed = s;
                ruled = r;
                fresh = λ e. absurd (idle_not_active (sym e ∙ active));
                agree = λ e. each walk.candidate w.kept w.most;
                knows = record {
                  known = w.walking.known;
                  agree = λ k low high. each k (omega (arith, low, w.kept)) high;
                  published = λ some. elim (cases_lt walk.at walk.top) [
                    | inl newer ↦ w.walking.published refl newer
                    | inr same_entry ↦ let done = ok.done walk.top some (omega (arith, same_entry, reached, behind)) in omega (arith, done)
                  ];
                };
              };
            }

    pub check_goes : (walk : Walk) → IsReady p.caller.start (addresses (p.reads ++ read_for purpose)) purpose walk
        → Keeps shape opening regions b p (Check purpose stage) (check_from p.caller purpose walk)
    check_goes walk ready =
        cond_both (nat_lt p.caller.start walk.at) _ _ (Keeps shape opening regions b p (Check purpose stage))
        (λ yes. record {
          later = λ _. omega arith;
          tells = tt;
          reader = record {
            behind = behind;
            signed = signed;
            ruled = ruled;
            fresh = λ e. absurd (idle_not_active (sym e ∙ active));
            agree = λ e. agree;
            knows = ready.walking;
          };
        })
        (λ no. check_ends walk ready (let n = ltb-false _ _ no in omega (arith, n)))
