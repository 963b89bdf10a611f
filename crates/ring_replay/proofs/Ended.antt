-- What the parts of a replay come to.
use Rattle.std.proofs.Common.{◌≡◌, inl, inr, ℕ, ◌<◌, List, length, None, Some, Result, Ok, Err, slice_get, refl, sym, ◌∙◌, ap, subst, arith}
use Rattle.std.specs.Prelude.{Vec}
use Rattle.std.specs.declared.alloc.Global.{Global}
use Rattle.std.proofs.lemmas.Bool.{cases_lt}
use Rattle.std.proofs.lemmas.Option.{slice_get_within}
use Rattle.mail_io.specs.Reading.{TakesAll}
use Rattle.mail_io.specs.declared.errors.PutError.{PutError}
use Rattle.ring_state.specs.declared.setup.Setup.{Setup}
use Rattle.ring_runs.specs.declared.event.Event.{Event}
use Rattle.ring_runs.specs.declared.trace.ReplayError.{ReplayError}
use Rattle.ring_runs.specs.declared.trace.ReplayError.TheVariants as refusal
use Rattle.ring_runs.specs.Trace.{IsRefused, Replays}
use Rattle.ring_script.specs.declared.error.ScriptError.{ScriptError}
use Rattle.ring_script.specs.declared.error.ScriptError.TheVariants as script
use Rattle.ring_script.specs.Script.{Reads}
use Rattle.ring_replay.specs.declared.stop.ReplayStop.{ReplayStop}
use Rattle.ring_replay.specs.declared.stop.ReplayStop.TheVariants.{ReadFault, TooLarge, BadScript, WriteFault, Memory}
use Rattle.ring_replay.specs.Stops.{event_index, stop_of_script}
use Rattle.ring_replay.specs.Traces.{Answers, Traces}
use Rattle.ring_replay.specs.Outcome.{SourceSeen, SinkSeen, IsReplayed, IsWhole, input_limit}

-- ---- the event that is refused
refused_below : (setup : Setup) (events : List Event) (error : ReplayError) (at : ℕ) → (refused : IsRefused setup events error) → at ≡ refused.index
    → at < length events
refused_below setup events error at refused is =
    let below = slice_get_within events refused.index refused.event refused.there in
    omega (arith, below, is)

same_index : (at index : ℕ) → Some at ≡ Some index → at ≡ index
same_index at index is = cc (is)

pub index_below : (setup : Setup) (events : List Event) (error : ReplayError) (at : ℕ) → Replays setup events (Err error) → event_index error ≡ Some at
    → at < length events
index_below setup events (refusal.NoCaller index) at replays is =
    refused_below setup events (refusal.NoCaller index) at replays (sym (same_index index at is) ∙ replays.refuses.0)
index_below setup events (refusal.NotNow index) at replays is =
    refused_below setup events (refusal.NotNow index) at replays (sym (same_index index at is) ∙ replays.refuses.0)
index_below setup events (refusal.OutOfRange index) at replays is =
    refused_below setup events (refusal.OutOfRange index) at replays (sym (same_index index at is) ∙ replays.refuses.0)
index_below setup events refusal.Memory at replays is = absurd (cc (is))

refused_line : (setup : Setup) (events : List Event) (error : ReplayError) (stop : ReplayStop) (at : ℕ) → (refused : IsRefused setup events error)
    → at ≡ refused.index → ((event : Event) → slice_get events at ≡ Some event → stop ≡ BadScript event.line) → Answers setup events (Err stop)
refused_line setup events error stop at refused is line =
    let there : slice_get events at ≡ Some refused.event = ap (slice_get events) is ∙ refused.there in
    subst (λ s. Answers setup events (Err s)) (sym (line refused.event there)) (record { error = error; refused = refused; at_line = refl })

pub refused_answer : (setup : Setup) (events : List Event) (error : ReplayError) (stop : ReplayStop) → Replays setup events (Err error)
    → ((at : ℕ) (event : Event) → event_index error ≡ Some at → slice_get events at ≡ Some event → stop ≡ BadScript event.line)
    → (event_index error ≡ None → stop ≡ Memory) → Answers setup events (Err stop)
refused_answer setup events (refusal.NoCaller at) stop replays line memory =
    refused_line setup events (refusal.NoCaller at) stop at replays replays.refuses.0 (λ event there. line at event refl there)
refused_answer setup events (refusal.NotNow at) stop replays line memory =
    refused_line setup events (refusal.NotNow at) stop at replays replays.refuses.0 (λ event there. line at event refl there)
refused_answer setup events (refusal.OutOfRange at) stop replays line memory =
    refused_line setup events (refusal.OutOfRange at) stop at replays replays.refuses.0 (λ event there. line at event refl there)
refused_answer setup events refusal.Memory stop replays line memory = subst (λ s. Answers setup events (Err s)) (sym (memory refl)) tt

-- ---- the text
pub script_refused : (text : List ℕ) (error : ScriptError) (stop : ReplayStop) → stop ≡ stop_of_script error → Reads text (Err error) → Traces text (Err stop)
script_refused text (script.BadLine line) stop is reads = subst (λ s. Traces text (Err s)) (sym is) (inl reads)
script_refused text script.Memory stop is reads = subst (λ s. Traces text (Err s)) (sym is) tt

module _ {K : Type 0} (offered : K → List ℕ → Result ℕ PutError → K → Type 0) (source source_after : SourceSeen) (sink : SinkSeen K) where
  -- the source was read whole, within the limit
  pub read_whole : (text : Vec ℕ Global) (taking : TakesAll source.left source_after.left input_limit (Ok text)) → source_after.faults ≡ source.faults
      → IsWhole offered source source_after sink sink taking.taken
  read_whole text taking quiet = record {
    whole = taking.ok.1;
    within = elim (cases_lt input_limit (length taking.taken)) [ inl above ↦ absurd (cc (taking.exactly_large.1 above)) | inr within ↦ within ];
    no_fault = quiet;
  }

  pub trace_stopped : (text : Vec ℕ Global) (bytes : List ℕ) (stop : ReplayStop) → bytes ≡ text.items
      → TakesAll source.left source_after.left input_limit (Ok text) → source_after.faults ≡ source.faults → Traces bytes (Err stop)
      → IsReplayed offered source source_after sink sink (Err stop)
  trace_stopped text bytes (BadScript line) is taking quiet traces = record {
    taken = taking.taken;
    moved = taking.moved;
    ends = (read_whole text taking quiet, subst (λ b. Traces b (Err (BadScript line))) (is ∙ taking.ok.0) traces, refl);
  }
  trace_stopped text bytes Memory is taking quiet traces =
      record { taken = taking.taken; moved = taking.moved; ends = (quiet, refl, inl refl) }
  trace_stopped text bytes ReadFault is taking quiet traces = absurd traces
  trace_stopped text bytes TooLarge is taking quiet traces = absurd traces
  trace_stopped text bytes WriteFault is taking quiet traces = absurd traces
