-- What a run says, by where it ended.
use Rattle.std.proofs.Common.{◌≡◌, ℕ, ◌++◌, Bool, ◌⊎◌, true, List, [], Option, None, Some, Result, Ok, Err, inl, inr, refl, sym, ◌∙◌, ap, subst}
use Rattle.std.proofs.KnownBytes.{Consumes-nil}
use Rattle.std.proofs.lemmas.Bool.{true≢false}
use Rattle.mail_io.specs.declared.errors.PutError.{PutError}
use Rattle.mail_line.specs.CommandLine.{Asked as Line, replay, ask, settings_of}
use Rattle.mail_query.specs.declared.query.Query.{Query}
use Rattle.ring_replay.specs.Outcome.{IsReplayed, SourceSeen}
use Rattle.ring_replay.specs.declared.stop.ReplayStop.{ReplayStop}
use Rattle.ring_replay.specs.declared.stop.ReplayStop.TheVariants as stop
use Rattle.mail_search.specs.Answers.{lines_of}
use Rattle.mail_search.specs.CommandLine.{Asking, asking_by}
use Rattle.mail_answers.specs.Sending.{Output, SendsAll, SendsPart, SendsSome}
use Rattle.mail_answers.specs.Hits.{lines_in}
use Rattle.mail_index.specs.Indexed.{IsIndexOf}
use Rattle.mail_words.specs.Key.{KeyNumbers}
use Rattle.mail_search.specs.Outcome.{AsksOf, AsksThese, IsAsked, AreListed, EndsAs, HasEnded, HasAnswered, AreAnswered, MakesMailbox, OfLines, IsAnswered, IsSent, searched, lists_of}
use Rattle.mail_search.specs.Replays.{HasReplayed, trace_in}
use Rattle.mail_search.specs.Reports.{Closed, report_of}
use Rattle.mail_search.specs.Statuses.{refuses_line, status_of_replay, status_of_stop}
use Rattle.mail_search.proofs.Lines.{lines_over}
use Rattle.mail_search.specs.declared.status.Status.{Status}
use Rattle.mail_search.specs.declared.status.Status.TheVariants.{Done, ReadFault, Usage, NotMbox, TooLarge, BadQuery, WriteFault, Memory, TooManyMessages, TooManyPostings, BadScript}

none_is_some : {T : Type 0} (value : T) → None ≡ Some value → ⊥
none_is_some value is = cc (is)

-- words that make a mailbox ask for its number of messages
abbrev made_of : Option Asking → Option ℕ
made_of None = None
made_of (Some asking) = asking.generate

pub makes_this : (words : List (List ℕ)) (generate : Option ℕ) → AsksOf words generate → (makes : MakesMailbox words) → generate ≡ Some makes.0
makes_this words generate asks (count, asking, is, made) = ap made_of (sym asks.line ∙ is) ∙ made

module _ {K : Type 0} (offered : K → List ℕ → Result ℕ PutError → K → Type 0) (words : List (List ℕ)) where
  -- ---- by what the words ask for
  -- where they ask queries
  by_queries : (line : Option Line) (asking : Asking) (source source_after : SourceSeen) (sink sink_after : Output K) (closed : Option Closed) (status : Status)
      → asking_by line ≡ Some asking → IsAnswered offered words source source_after sink sink_after closed status
      → EndsAs offered words source source_after sink sink_after line closed status
  by_queries None asking source source_after sink sink_after closed status is answered = answered
  by_queries (Some replay) asking source source_after sink sink_after closed status is answered = absurd (none_is_some asking is)
  by_queries (Some (ask workers ring bits report generate texts)) asking source source_after sink sink_after closed status is answered = answered

  pub ended : {generate : Option ℕ} (source source_after : SourceSeen) (sink sink_after : Output K) (closed : Option Closed) (status : Status)
      → AsksOf words generate → IsAnswered offered words source source_after sink sink_after closed status
      → HasEnded offered words source source_after sink sink_after closed status
  ended source source_after sink sink_after closed status asks answered =
      by_queries (settings_of words) _ source source_after sink sink_after closed status asks.line answered

  -- where they ask for a replay
  pub replayed : (source source_after : SourceSeen) (sink sink_after : Output K) (closed : Option Closed) (status : Status) → settings_of words ≡ Some replay
      → HasReplayed offered source source_after sink sink_after closed status → HasEnded offered words source source_after sink sink_after closed status
  replayed source source_after sink sink_after closed status line is =
      subst (λ (l : Option Line). EndsAs offered words source source_after sink sink_after l closed status) (sym line) is

  -- such words make no mailbox
  pub makes_none : settings_of words ≡ Some replay → MakesMailbox words → ⊥
  makes_none line (count, asking, is, made) = none_is_some asking (sym (ap asking_by line) ∙ is)

  -- memory was refused before anything was read
  no_memory : (line : Option Line) (source : SourceSeen) (sink : Output K) → EndsAs offered words source source sink sink line None Memory
  no_memory None source sink =
      record { taken = []; moved = Consumes-nil source.left; caused = tt; hides_none = (refl, refl); written = inl refl }
  no_memory (Some replay) source sink = record {
    result = Err stop.Memory;
    ended = refl;
    no_ring = refl;
    replayed = record { taken = []; moved = Consumes-nil source.left; ends = (refl, refl, inl refl) };
  }
  no_memory (Some (ask workers ring bits report generate texts)) source sink =
      record { taken = []; moved = Consumes-nil source.left; caused = tt; hides_none = (refl, refl); written = inl refl }

  -- the words ask nothing
  pub asked_refused : (source : SourceSeen) (sink : Output K) (status : Status) → IsAsked words (Err status)
      → HasEnded offered words source source sink sink None status
  asked_refused source sink Usage asked =
      subst (λ (l : Option Line). EndsAs offered words source source sink sink l None Usage) (sym asked)
      (record { taken = []; moved = Consumes-nil source.left; caused = asked; hides_none = (refl, refl); written = refl })
  asked_refused source sink (BadQuery number error) asked =
      by_queries (settings_of words) asked.0 source source sink sink None (BadQuery number error) asked.1
      (record { taken = []; moved = Consumes-nil source.left; caused = asked; hides_none = (refl, refl); written = refl })
  asked_refused source sink Memory asked = no_memory (settings_of words) source sink
  asked_refused source sink (BadScript line) asked = absurd asked
  asked_refused source sink Done asked = absurd asked
  asked_refused source sink ReadFault asked = absurd asked
  asked_refused source sink NotMbox asked = absurd asked
  asked_refused source sink TooLarge asked = absurd asked
  asked_refused source sink WriteFault asked = absurd asked
  asked_refused source sink TooManyMessages asked = absurd asked
  asked_refused source sink TooManyPostings asked = absurd asked

  -- what is asked of a source
  asks_source : {generate : Option ℕ} → AsksOf words generate → generate ≡ None → AsksOf words None
  asks_source asks none = subst (AsksOf words) none asks

  module _ {generate : Option ℕ} {report : Bool} {queries : List Query} (these : AsksThese words generate report queries)
      (source source_after : SourceSeen) (sink sink_after : Output K) where
    -- ---- there are no lists
    no_lists : (status : Status) → AreListed generate source source_after (Err status) → sink_after ≡ sink
        → IsAnswered offered words source source_after sink sink_after None status
    no_lists ReadFault are same = record {
      taken = are.taken;
      moved = are.moved;
      caused = (asks_source these.asks are.lists.0, are.lists.1, are.lists.2);
      hides_none = ap (λ (s : Output K). s.faults) same;
      written = same;
    }
    no_lists TooLarge are same = record {
      taken = are.taken;
      moved = are.moved;
      caused = (asks_source these.asks are.lists.0, are.lists.1);
      hides_none = (are.lists.2, ap (λ (s : Output K). s.faults) same);
      written = same;
    }
    no_lists NotMbox are same = record {
      taken = are.taken;
      moved = are.moved;
      caused = (asks_source these.asks are.lists.0, are.lists.1);
      hides_none = (are.lists.2, ap (λ (s : Output K). s.faults) same);
      written = same;
    }
    no_lists TooManyMessages are same = record {
      taken = are.taken;
      moved = are.moved;
      caused = (asks_source these.asks are.lists.0, are.lists.1);
      hides_none = (are.lists.2, ap (λ (s : Output K). s.faults) same);
      written = same;
    }
    no_lists TooManyPostings are same = record {
      taken = are.taken;
      moved = are.moved;
      caused = (asks_source these.asks are.lists.0, are.lists.1);
      hides_none = (are.lists.2, ap (λ (s : Output K). s.faults) same);
      written = same;
    }
    no_lists Memory are same = record {
      taken = are.taken;
      moved = are.moved;
      caused = tt;
      hides_none = (are.lists, ap (λ (s : Output K). s.faults) same);
      written = inl same;
    }
    no_lists Done are same = absurd are.lists
    no_lists Usage are same = absurd are.lists
    no_lists (BadQuery number error) are same = absurd are.lists
    no_lists WriteFault are same = absurd are.lists
    no_lists (BadScript line) are same = absurd are.lists

    -- ---- there are
    module _ (lists : List (List KeyNumbers)) (are : AreListed generate source source_after (Ok lists)) where
      -- the lines over the lists are those over what is searched
      all_lines : (closed : Closed) → lines_in lists queries ++ report_of report closed
          ≡ lines_of (searched generate are.taken) queries ++ report_of these.asks.report closed
      all_lines closed =
          ap (λ (ls : List (List KeyNumbers)). lines_in ls queries ++ report_of report closed) are.lists.1
          ∙ ap (λ (ls : List (List ℕ)). ls ++ report_of report closed) (lines_over (searched generate are.taken) queries)
          ∙ ap (λ (r : Bool). lines_of (searched generate are.taken) queries ++ report_of r closed) (sym these.reports)

      of_lines : (closed : Closed) (Holds : List (List ℕ) → Type 0) → IsIndexOf lists closed → Holds (lines_in lists queries ++ report_of report closed)
          → OfLines offered words source source_after sink sink_after are.taken closed Holds
      of_lines closed Holds index holds = (
        _,
        these.asks.line,
        queries,
        these.all,
        subst (λ (ls : List (List KeyNumbers)). IsIndexOf ls closed) are.lists.1 index,
        subst Holds (all_lines closed) holds,
      )

      -- the answers were written
      all_written : (closed : Closed) → IsSent offered sink sink_after lists (λ closed. lines_in lists queries ++ report_of report closed) (Ok closed)
          → IsAnswered offered words source source_after sink sink_after (Some closed) Done
      all_written closed sent = record {
        taken = are.taken;
        moved = are.moved;
        caused = record { generate = _; asks = these.asks; mailbox = are.lists.0 };
        hides_none = (are.lists.2, sent.1.no_fault);
        written = of_lines closed (SendsAll offered sink sink_after) sent.0 sent.1;
      }

      -- not all of them were
      cut_off : (status : Status) → IsSent offered sink sink_after lists (λ closed. lines_in lists queries ++ report_of report closed) (Err status)
          → IsAnswered offered words source source_after sink sink_after None status
      cut_off WriteFault ((closed, index, part), rose) = record {
        taken = are.taken;
        moved = are.moved;
        caused = (record { generate = _; asks = these.asks; mailbox = are.lists.0 }, rose);
        hides_none = are.lists.2;
        written = (closed, of_lines closed (SendsPart offered sink sink_after) index part);
      }
      cut_off Memory (inl none, no_fault) =
          record { taken = are.taken; moved = are.moved; caused = tt; hides_none = (are.lists.2, no_fault); written = inl none }
      cut_off Memory (inr (closed, index, some), no_fault) = record {
        taken = are.taken;
        moved = are.moved;
        caused = tt;
        hides_none = (are.lists.2, no_fault);
        written = inr (closed, of_lines closed (SendsSome offered sink sink_after) index some);
      }
      cut_off Done sent = absurd sent
      cut_off ReadFault sent = absurd sent
      cut_off Usage sent = absurd sent
      cut_off NotMbox sent = absurd sent
      cut_off TooLarge sent = absurd sent
      cut_off (BadQuery number error) sent = absurd sent
      cut_off TooManyMessages sent = absurd sent
      cut_off TooManyPostings sent = absurd sent
      cut_off (BadScript line) sent = absurd sent

    pub answered : (closed : Closed) → HasAnswered offered generate report queries source source_after sink sink_after (Ok closed)
        → HasEnded offered words source source_after sink sink_after (Some closed) Done
    answered closed (lists, are, sent) =
        ended source source_after sink sink_after (Some closed) Done these.asks (all_written lists are closed sent)

    pub not_answered : (status : Status) → HasAnswered offered generate report queries source source_after sink sink_after (Err status)
        → HasEnded offered words source source_after sink sink_after None status
    not_answered status (inl (lists, are, sent)) = ended source source_after sink sink_after None status these.asks (cut_off lists are status sent)
    not_answered status (inr (are, same)) = ended source source_after sink sink_after None status these.asks (no_lists status are same)

-- ---- what refuses no words
-- a replay that stopped
takes_line : (result : Result (Unit {0}) ReplayStop) → refuses_line (status_of_replay result) ≡ true → ⊥
takes_line (Ok value) is = absurd (true≢false (sym is))
takes_line (Err stop.ReadFault) is = absurd (true≢false (sym is))
takes_line (Err stop.TooLarge) is = absurd (true≢false (sym is))
takes_line (Err (stop.BadScript line)) is = absurd (true≢false (sym is))
takes_line (Err stop.WriteFault) is = absurd (true≢false (sym is))
takes_line (Err stop.Memory) is = absurd (true≢false (sym is))

pub takes_replay : {K : Type 0} {offered : K → List ℕ → Result ℕ PutError → K → Type 0} {source source_after : SourceSeen} {sink sink_after : Output K}
    (closed : Option Closed) (status : Status) → HasReplayed offered source source_after sink sink_after closed status → refuses_line status ≡ true → ⊥
takes_replay closed status has refuses = takes_line has.result (ap refuses_line (sym has.ended) ∙ refuses)

module _ {K : Type 0} (offered : K → List ℕ → Result ℕ PutError → K → Type 0) (generate : Option ℕ) (report : Bool) (queries : List Query)
    (source source_after : SourceSeen) (sink sink_after : Output K) where
  -- queries that were asked
  pub takes_queries : (status : Status) → HasAnswered offered generate report queries source source_after sink sink_after (Err status)
      → refuses_line status ≡ true → ⊥
  takes_queries Usage (inl (lists, are, sent)) refuses = sent
  takes_queries Usage (inr (are, same)) refuses = are.lists
  takes_queries (BadQuery number error) (inl (lists, are, sent)) refuses = sent
  takes_queries (BadQuery number error) (inr (are, same)) refuses = are.lists
  takes_queries Done has refuses = absurd (true≢false (sym refuses))
  takes_queries ReadFault has refuses = absurd (true≢false (sym refuses))
  takes_queries NotMbox has refuses = absurd (true≢false (sym refuses))
  takes_queries TooLarge has refuses = absurd (true≢false (sym refuses))
  takes_queries WriteFault has refuses = absurd (true≢false (sym refuses))
  takes_queries Memory has refuses = absurd (true≢false (sym refuses))
  takes_queries TooManyMessages has refuses = absurd (true≢false (sym refuses))
  takes_queries TooManyPostings has refuses = absurd (true≢false (sym refuses))
  takes_queries (BadScript line) has refuses = absurd (true≢false (sym refuses))

  -- ---- the lines were sent that go with these lists, or not all of them
  pub lines_sent : (lists : List (List KeyNumbers)) → AreListed generate source source_after (Ok lists) → (result : Result Closed Status)
      → IsSent offered sink sink_after lists (λ closed. lines_in lists queries ++ report_of report closed) result
      → HasAnswered offered generate report queries source source_after sink sink_after result
  lines_sent lists are (Ok closed) sent = (lists, are, sent)
  lines_sent lists are (Err status) sent = inl (lists, are, sent)
