-- What a script says may be printed.
use Rattle.std.proofs.Common.{◌≡◌, inl, inr, ℕ, suc, ◌<◌, ◌≤◌, ◌^◌, ◌==◌, ◌&&◌, Bool, true, false, List, [], ◌∷◌, length, replicate, slice_set, cond, codes, All, Contains, refl, sym, ap, subst, arith, eq-eqb}
use Rattle.std.proofs.lemmas.Bool.{cond_both}
use Rattle.std.proofs.lemmas.List.Elements.{All-nil, All-cons, All-set, All-replicate}
use Rattle.tx_model.specs.declared.word.Word.{Word}
use Rattle.tx_model.specs.Memory.{after}
use Rattle.ring_worlds.proofs.lemmas.Members.{contains_none, contains_cases, contains_more}
use Rattle.ring_runs.specs.declared.event.Act.{Act}
use Rattle.ring_runs.specs.declared.event.Act.TheVariants as act
use Rattle.ring_runs.specs.declared.event.Event.{Event}
use Rattle.ring_script.specs.Lines.{Line}
use Rattle.ring_script.specs.Grammar.{AreNumbers, IsNamedLine, IsEventLine, AsksFor, may_run}
use Rattle.ring_script.specs.Script.{tokens_at, event_at, AreWords, IsEvents, AreEvents}
use Rattle.ring_script.specs.Written.{is_run, is_run_by, asked_with, asked_of, MayAsk}
use Rattle.ring_script.specs.Laws.{ScriptsMayBePrinted}
use Rattle.ring_script.proofs.Asking.{both_true}
use Rattle.ring_script.proofs.Decimals.{AllFit}
use Rattle.ring_script.proofs.Asked.{MayBeAsked}
use Rattle.ring_script.proofs.Growing.{regions_count}
use Rattle.ring_script.proofs.Opening.{scripts_open}

-- ---- numbers
are_fit : (tokens : List (List ℕ)) (numbers : List ℕ) → AreNumbers tokens numbers → AllFit numbers
are_fit [] [] are = tt
are_fit [] (number ∷ numbers) are = absurd are
are_fit (token ∷ tokens) [] are = tt
are_fit (token ∷ tokens) (number ∷ numbers) are = let is = are.0 in (is.fits, are_fit tokens numbers are.1)

line_fits : (tokens : List (List ℕ)) (name numbers : List ℕ) → IsNamedLine tokens name numbers → AllFit numbers
line_fits tokens name numbers line = are_fit line.given numbers line.are

-- ---- words
abbrev Fits : ℕ → Type 0
Fits value = value < 2 ^ 64

after_fits : (memory : List ℕ) (words : List Word) → All Fits memory → ((word : Word) → Contains words word → Fits word.value) → All Fits (after memory words)
after_fits memory [] all fit = all
after_fits memory (word ∷ words) all fit =
    after_fits (slice_set memory word.addr word.value) words
    (All-set Fits memory word.addr word.value (fit word (0, omega arith, refl)) all) (λ other among. fit other (contains_more word words other among))

words_fit : (lines : List Line) (words : List Word) → AreWords lines words → (word : Word) → Contains words word → Fits word.value
words_fit lines [] are word among = absurd (contains_none word among)
words_fit [] (first ∷ words) are word among = absurd are
words_fit (line ∷ lines) (first ∷ words) are word among =
    elim (contains_cases first words word among) [
      | inl same ↦
          let fit = line_fits (tokens_at line) (codes "word") (first.addr ∷ first.value ∷ []) are.0 in
          subst (λ (w : Word). Fits w.value) same fit.1.0
      | inr rest ↦ words_fit lines words are.1 word rest
    ]

-- ---- events
act_may : (tokens : List (List ℕ)) (a : Act) → AsksFor tokens a → MayAsk a
act_may tokens act.Begin asks = tt
act_may tokens (act.Read addr) asks = let fit = line_fits tokens (codes "read") (addr ∷ []) asks in fit.0
act_may tokens (act.Write addr value) asks = let fit = line_fits tokens (codes "write") (addr ∷ value ∷ []) asks in (fit.0, fit.1.0)
act_may tokens act.Stamp asks = tt
act_may tokens act.Turn asks = tt
act_may tokens act.Done asks = tt
act_may tokens act.GiveUp asks = tt
act_may tokens (act.Seal region) asks = let fit = line_fits tokens (codes "seal") (region ∷ []) asks in fit.0
act_may tokens (act.Publish region) asks = let fit = line_fits tokens (codes "publish") (region ∷ []) asks in fit.0
act_may tokens (act.Load addr) asks = let fit = line_fits tokens (codes "load") (addr ∷ []) asks in fit.0
act_may tokens (act.Store addr value) asks = let fit = line_fits tokens (codes "store") (addr ∷ value ∷ []) asks in (fit.0, fit.1.0)
act_may tokens (act.Step count) (line, some, most) = (some, most)
act_may tokens act.Run asks = tt

event_may : (line : Line) (tokens : List (List ℕ)) (who : ℕ) (a : Act) → IsEventLine tokens who a → MayBeAsked (event_at line who a)
event_may line tokens who a is = let number = is.number in (number.fits, act_may is.asked a is.asks)

line_may : (line : Line) (events others : List Event) → IsEvents line events others → All MayBeAsked others → All MayBeAsked events
line_may line events others is all =
    elim is.asks [
      | inl one ↦
          let may = event_may line (tokens_at line) is.who is.act one.0 in
          subst (All MayBeAsked) (sym one.1) (All-cons MayBeAsked (event_at line is.who is.act) others may all)
      | inr two ↦
          let run = two.0 in
          let may = event_may line run.before is.who is.act run.request in
          let runs = event_at line is.who act.Run in
          subst (All MayBeAsked) (sym two.1)
          (
          All-cons MayBeAsked (event_at line is.who is.act) (runs ∷ others) may
          (All-cons MayBeAsked runs others (may.0, tt) all))
    ]

events_may : (lines : List Line) (events : List Event) → AreEvents lines events → All MayBeAsked events
events_may [] events are = subst (All MayBeAsked) (sym are) (All-nil MayBeAsked)
events_may (line ∷ lines) events are = line_may line events are.0 are.1 (events_may lines are.0 are.2)

-- ---- how many lines are printed
abbrev asks : List Event → ℕ
asks events = length (asked_of events)

-- one event more has a line more at the most, and no line less
more_asks : (event : Event) (events : List Event) → (asks events ≤ asks (event ∷ events)) × (asks (event ∷ events) ≤ suc (asks events))
more_asks event [] = (omega arith, omega arith)
more_asks event (next ∷ events) =
    let rest = more_asks next events in
    cond_both (is_run_by event next) (asked_with event true ∷ asked_of events) (asked_with event false ∷ asked_of (next ∷ events))
    (λ more. (asks (next ∷ events) ≤ length more) × (length more ≤ suc (asks (next ∷ events)))) (λ is. (omega (arith, rest.1), omega (arith, rest.0)))
    (λ other. (omega arith, omega arith))

run_joins : (line : Line) (who : ℕ) (a : Act) → may_run a ≡ true → is_run_by (event_at line who a) (event_at line who act.Run) ≡ true
run_joins line who a may =
    let at = line.number in
    both_true (may_run a) (is_run act.Run && (who == who && at == at)) may
    (both_true (is_run act.Run) (who == who && at == at) refl (both_true (who == who) (at == at) (eq-eqb who who refl) (eq-eqb at at refl)))

line_asks : (line : Line) (events others : List Event) → IsEvents line events others → asks events ≤ suc (asks others)
line_asks line events others is =
    elim is.asks [
      | inl one ↦ let more = more_asks (event_at line is.who is.act) others in subst (λ es. asks es ≤ suc (asks others)) (sym one.1) more.1
      | inr two ↦
          let run = two.0 in
          let event = event_at line is.who is.act in
          let runs = event_at line is.who act.Run in
          let joined : asks (event ∷ runs ∷ others) ≡ suc (asks others) =
          ap (λ (t : Bool). length (cond t (asked_with event true ∷ asked_of others) (asked_with event false ∷ asked_of (runs ∷ others))))
          (run_joins line is.who is.act run.may) in
          subst (λ es. asks es ≤ suc (asks others)) (sym two.1) (omega (arith, joined))
    ]

few_asks : (lines : List Line) (events : List Event) → AreEvents lines events → asks events ≤ length lines
few_asks [] events are = subst (λ es. asks es ≤ 0) (sym are) (omega arith)
few_asks (line ∷ lines) events are =
    let first = line_asks line events are.0 are.1 in
    let rest = few_asks lines are.0 are.2 in
    omega (arith, first, rest)

-- ---- the script
pub scripts_may_be_printed : ScriptsMayBePrinted
scripts_may_be_printed lines setup events s =
    let opens = scripts_open lines setup events s in
    let counted = regions_count s.region_lines setup.regions s.regions in
    let few = few_asks s.event_lines events s.happens in
    let zeros : All Fits (replicate setup.shape.heap 0) = All-replicate Fits setup.shape.heap 0 (omega arith) in
    record {
      opens = opens.0;
      few_words = s.memory.1;
      words = subst (All Fits) (sym s.first) (after_fits (replicate setup.shape.heap 0) s.words zeros (words_fit s.word_lines s.words s.opens));
      callers = s.callers;
      few_regions = omega (arith, counted, s.few_regions);
      asks = events_may s.event_lines events s.happens;
      few_lines = omega (arith, few, s.few_events);
    }
