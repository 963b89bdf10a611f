-- What a line asks, printed and read again.
use Rattle.std.proofs.Common.{◌≡◌, inl, inr, ℕ, ◌+◌, ◌<◌, ◌^◌, ◌==◌, ◌&&◌, Bool, true, false, List, [], ◌∷◌, ◌++◌, map, codes, decimal, All, refl, sym, ◌∙◌, ap, subst, arith, append_assoc, eqb-true}
use Rattle.std.proofs.lemmas.Bool.{cond_both}
use Rattle.std.proofs.lemmas.List.{append-nil}
use Rattle.std.proofs.lemmas.List.Elements.{All-head, All-tail}
use Rattle.ring_runs.specs.declared.event.Act.{Act}
use Rattle.ring_runs.specs.declared.event.Act.TheVariants as act
use Rattle.ring_runs.specs.declared.event.Event.{Event}
use Rattle.ring_script.specs.declared.name.Name.{Name}
use Rattle.ring_script.specs.declared.name.Name.TheVariants as name
use Rattle.ring_script.specs.declared.reading.Request.{Request}
use Rattle.ring_script.specs.declared.reading.Asked.{Asked}
use Rattle.ring_script.specs.Lines.{tokens_of}
use Rattle.ring_script.specs.Grammar.{AsksFor, IsNamedLine, IsEventLine, IsRunLine, may_run}
use Rattle.ring_script.specs.Names.{text_of}
use Rattle.ring_script.specs.Script.{IsEvents, AreEvents}
use Rattle.ring_script.specs.Draft.{events_by, events_of}
use Rattle.ring_script.specs.Printed.{with_numbers}
use Rattle.ring_script.specs.Written.{is_run, is_run_by, asked_with, asked_of, act_text, run_text, asked_text, MayAsk}
use Rattle.ring_script.specs.Laws.{requests_of}
use Rattle.ring_script.proofs.Asking.{name_for, numbers_for}
use Rattle.ring_script.proofs.Plain.{IsPlain, ArePlain, IsLine, plain_text, both_are, plain_append, behind_spaces, spaces_append, joined, tokens_joined, line_of, numbered_lines}
use Rattle.ring_script.proofs.Decimals.{AllFit, numbers_decimal, plain_numbers, number_decimal, plain_decimal}

-- ---- a name and numbers
abbrev pub named_tokens : List ℕ → List ℕ → List (List ℕ)
named_tokens name numbers = name ∷ map decimal numbers

pub is_named : (name numbers : List ℕ) → AllFit numbers → IsNamedLine (named_tokens name numbers) name numbers
is_named name numbers fit = record { given = map decimal numbers; whole = refl; are = numbers_decimal numbers fit }

pub number_spaces : (numbers : List ℕ) → with_numbers numbers ≡ behind_spaces (map decimal numbers)
number_spaces [] = refl
number_spaces (number ∷ numbers) = ap (λ l. 32 ∷ (decimal number ++ l)) (number_spaces numbers)

-- ---- acts
plain_name : (n : Name) → IsPlain (text_of n)
plain_name name.Begin = plain_text (codes "begin") refl
plain_name name.Read = plain_text (codes "read") refl
plain_name name.Write = plain_text (codes "write") refl
plain_name name.Stamp = plain_text (codes "stamp") refl
plain_name name.Turn = plain_text (codes "turn") refl
plain_name name.Done = plain_text (codes "done") refl
plain_name name.GiveUp = plain_text (codes "give-up") refl
plain_name name.Seal = plain_text (codes "seal") refl
plain_name name.Publish = plain_text (codes "publish") refl
plain_name name.Load = plain_text (codes "load") refl
plain_name name.Store = plain_text (codes "store") refl
plain_name name.Step = plain_text (codes "step") refl
plain_name name.Run = plain_text (codes "run") refl

act_fits : (a : Act) → MayAsk a → AllFit (numbers_for a)
act_fits act.Begin may = tt
act_fits (act.Read addr) may = (may, tt)
act_fits (act.Write addr value) may = (may.0, (may.1, tt))
act_fits act.Stamp may = tt
act_fits act.Turn may = tt
act_fits act.Done may = tt
act_fits act.GiveUp may = tt
act_fits (act.Seal region) may = (may, tt)
act_fits (act.Publish region) may = (may, tt)
act_fits (act.Load addr) may = (may, tt)
act_fits (act.Store addr value) may = (may.0, (may.1, tt))
act_fits (act.Step count) may = (omega (arith, may.1), tt)
act_fits act.Run may = tt

abbrev act_tokens : Act → List (List ℕ)
act_tokens a = named_tokens (text_of (name_for a)) (numbers_for a)

asks_act : (a : Act) → MayAsk a → AsksFor (act_tokens a) a
asks_act act.Begin may = is_named (codes "begin") [] tt
asks_act (act.Read addr) may = is_named (codes "read") (addr ∷ []) (may, tt)
asks_act (act.Write addr value) may = is_named (codes "write") (addr ∷ value ∷ []) (may.0, (may.1, tt))
asks_act act.Stamp may = is_named (codes "stamp") [] tt
asks_act act.Turn may = is_named (codes "turn") [] tt
asks_act act.Done may = is_named (codes "done") [] tt
asks_act act.GiveUp may = is_named (codes "give-up") [] tt
asks_act (act.Seal region) may = is_named (codes "seal") (region ∷ []) (may, tt)
asks_act (act.Publish region) may = is_named (codes "publish") (region ∷ []) (may, tt)
asks_act (act.Load addr) may = is_named (codes "load") (addr ∷ []) (may, tt)
asks_act (act.Store addr value) may = is_named (codes "store") (addr ∷ value ∷ []) (may.0, (may.1, tt))
asks_act (act.Step count) may = (is_named (codes "step") (count ∷ []) (omega (arith, may.1), tt), may.0, may.1)
asks_act act.Run may = is_named (codes "run") [] tt

act_spaces : (a : Act) → act_text a ≡ text_of (name_for a) ++ with_numbers (numbers_for a)
act_spaces act.Begin = refl
act_spaces (act.Read addr) = refl
act_spaces (act.Write addr value) = refl
act_spaces act.Stamp = refl
act_spaces act.Turn = refl
act_spaces act.Done = refl
act_spaces act.GiveUp = refl
act_spaces (act.Seal region) = refl
act_spaces (act.Publish region) = refl
act_spaces (act.Load addr) = refl
act_spaces (act.Store addr value) = refl
act_spaces (act.Step count) = refl
act_spaces act.Run = refl

-- ---- a line with events
abbrev run_tokens : Bool → List (List ℕ)
run_tokens true = codes "run" ∷ []
run_tokens false = []

run_spaces : (runs : Bool) → run_text runs ≡ behind_spaces (run_tokens runs)
run_spaces true = refl
run_spaces false = refl

plain_run : (runs : Bool) → ArePlain (run_tokens runs)
plain_run true = (plain_name name.Run, tt)
plain_run false = tt

abbrev tokens_by : ℕ → Act → Bool → List (List ℕ)
tokens_by who a runs = decimal who ∷ (act_tokens a ++ run_tokens runs)

abbrev pub asked_tokens : Asked → List (List ℕ)
asked_tokens asked = tokens_by asked.request.who asked.request.act asked.runs

pub asked_line : (asked : Asked) → asked_text asked ≡ line_of (asked_tokens asked)
asked_line asked =
    let who = decimal asked.request.who in
    let a = asked.request.act in
    let runs = asked.runs in
    let text = act_text a in
    let name = text_of (name_for a) in
    let is_text : text ≡ name ++ behind_spaces (map decimal (numbers_for a)) = act_spaces a ∙ ap (λ l. name ++ l) (number_spaces (numbers_for a)) in
    let spaces : behind_spaces (act_tokens a ++ run_tokens runs) ≡ 32 ∷ (text ++ run_text runs) =
    spaces_append (act_tokens a) (run_tokens runs) ∙ ap (λ l. 32 ∷ (l ++ behind_spaces (run_tokens runs))) (sym is_text)
    ∙ ap (λ l. 32 ∷ (text ++ l)) (sym (run_spaces runs)) in
    let whole : line_of (asked_tokens asked) ≡ who ++ 32 ∷ (text ++ (run_text runs ++ 10 ∷ [])) =
    append_assoc who (behind_spaces (act_tokens a ++ run_tokens runs)) (10 ∷ []) ∙ ap (λ l. who ++ (l ++ 10 ∷ [])) spaces
    ∙ ap (λ l. who ++ 32 ∷ l) (append_assoc text (run_text runs) (10 ∷ [])) in
    sym whole

-- what may be asked on one line
pub record IsFine (asked : Asked) : Type 0 where
  pub who : asked.request.who < 2 ^ 64
  pub may : MayAsk asked.request.act
  pub runs : asked.runs ≡ true → may_run asked.request.act ≡ true

abbrev pub AreFine : List Asked → Type 0
AreFine [] = Unit {0}
AreFine (asked ∷ asks) = IsFine asked × AreFine asks

pub line_asked : (asked : Asked) → IsFine asked → IsLine (asked_tokens asked)
line_asked asked fine =
    let a = asked.request.act in (
      plain_decimal asked.request.who fine.who,
      plain_append (act_tokens a) (run_tokens asked.runs) (plain_name (name_for a), plain_numbers (numbers_for a) (act_fits a fine.may)) (plain_run asked.runs),
    )

request_line : (who : ℕ) (a : Act) → who < 2 ^ 64 → MayAsk a → IsEventLine (decimal who ∷ act_tokens a) who a
request_line who a below may =
    record { caller = decimal who; asked = act_tokens a; whole = refl; number = number_decimal who below; asks = asks_act a may }

events_on : (number who : ℕ) (a : Act) (runs : Bool) (content : List ℕ) (others : List Event) → tokens_of content ≡ tokens_by who a runs
    → who < 2 ^ 64 → MayAsk a → (runs ≡ true → may_run a ≡ true)
    → IsEvents (record { number = number; content = content }) (events_by runs (record { who = who; act = a; line = number }) ++ others) others
events_on number who a true content others is below may run =
    let line : IsRunLine (tokens_by who a true) who a = record {
      before = decimal who ∷ act_tokens a;
      whole = refl;
      request = request_line who a below may;
      may = run refl;
    } in
    record { who = who; act = a; asks = inr (subst (λ ts. IsRunLine ts who a) (sym is) line, refl) }
events_on number who a false content others is below may run =
    let whole : tokens_by who a false ≡ decimal who ∷ act_tokens a = ap (λ ts. decimal who ∷ ts) (append-nil (act_tokens a)) in
    let line = subst (λ ts. IsEventLine ts who a) (sym (is ∙ whole)) (request_line who a below may) in
    record { who = who; act = a; asks = inl (line, refl) }

-- ---- lines with events
-- the events of these lines, from this number on
abbrev pub events_at : ℕ → List Asked → List Event
events_at number [] = []
events_at number (asked ∷ asks) = events_of number asked ++ events_at (number + 1) asks

pub are_events : (number : ℕ) (asks : List Asked) → AreFine asks → AreEvents (numbered_lines number (map asked_tokens asks)) (events_at number asks)
are_events number [] fine = refl
are_events number (asked ∷ asks) fine =
    let one = fine.0 in (
      events_at (number + 1) asks,
      events_on number asked.request.who asked.request.act asked.runs (joined (asked_tokens asked)) (events_at (number + 1) asks)
          (tokens_joined (asked_tokens asked) (line_asked asked one)) one.who one.may one.runs,
      are_events (number + 1) asks fine.1,
    )

-- ---- requests and their runs
run_is : (a : Act) → is_run a ≡ true → a ≡ act.Run
run_is act.Begin is = absurd (cc (is))
run_is (act.Read addr) is = absurd (cc (is))
run_is (act.Write addr value) is = absurd (cc (is))
run_is act.Stamp is = absurd (cc (is))
run_is act.Turn is = absurd (cc (is))
run_is act.Done is = absurd (cc (is))
run_is act.GiveUp is = absurd (cc (is))
run_is (act.Seal region) is = absurd (cc (is))
run_is (act.Publish region) is = absurd (cc (is))
run_is (act.Load addr) is = absurd (cc (is))
run_is (act.Store addr value) is = absurd (cc (is))
run_is (act.Step count) is = absurd (cc (is))
run_is act.Run is = refl

runs_same : (event next : Event) → is_run_by event next ≡ true → (may_run event.act ≡ true) × (next.act ≡ act.Run) × (next.who ≡ event.who)
runs_same event next is =
    let may = both_are (may_run event.act) (is_run next.act && (next.who == event.who && next.line == event.line)) is in
    let run = both_are (is_run next.act) (next.who == event.who && next.line == event.line) may.1 in
    let by = both_are (next.who == event.who) (next.line == event.line) run.1 in
    (may.0, run_is next.act run.0, eqb-true next.who event.who by.0)

abbrev request : ℕ → Act → Request
request who a = record { who = who; act = a }

pub asks_again : (number : ℕ) (events : List Event) → requests_of (events_at number (asked_of events)) ≡ requests_of events
asks_again number [] = refl
asks_again number (event ∷ []) = refl
asks_again number (event ∷ next ∷ events) =
    cond_both (is_run_by event next) (asked_with event true ∷ asked_of events) (asked_with event false ∷ asked_of (next ∷ events))
    (λ asks. requests_of (events_at number asks) ≡ requests_of (event ∷ next ∷ events))
    (λ is.
    let same = runs_same event next is in
    let rest = asks_again (number + 1) events in
    ap (λ rs. request event.who event.act ∷ request event.who act.Run ∷ rs) rest
    ∙ ap (λ w. request event.who event.act ∷ request w act.Run ∷ requests_of events) (sym same.2)
    ∙ ap (λ a. request event.who event.act ∷ request next.who a ∷ requests_of events) (sym same.1))
    (λ other. ap (λ rs. request event.who event.act ∷ rs) (asks_again (number + 1) (next ∷ events)))

abbrev pub MayBeAsked : Event → Type 0
MayBeAsked event = (event.who < 2 ^ 64) × MayAsk event.act

pub all_fine : (events : List Event) → All MayBeAsked events → AreFine (asked_of events)
all_fine [] all = tt
all_fine (event ∷ []) all =
    let may = All-head MayBeAsked event [] all in
    (record { who = may.0; may = may.1; runs = λ is. absurd (cc (is)) }, tt)
all_fine (event ∷ next ∷ events) all =
    let may = All-head MayBeAsked event (next ∷ events) all in
    let rest = All-tail MayBeAsked event (next ∷ events) all in
    cond_both (is_run_by event next) (asked_with event true ∷ asked_of events) (asked_with event false ∷ asked_of (next ∷ events)) AreFine
    (λ is.
    let same = runs_same event next is in
    (record { who = may.0; may = may.1; runs = λ run. same.0 }, all_fine events (All-tail MayBeAsked next events rest)))
    (λ other. (record { who = may.0; may = may.1; runs = λ run. absurd (cc (run)) }, all_fine (next ∷ events) rest))
