-- When each status comes, and what the sink then holds.
use Rattle.std.specs.Prelude.{ℕ, ◌/◌, ◌++◌, ◌≡◌, ◌⊎◌, ◌<◌, ◌≤◌, Bool, true, false, List, length, None, Some, ⊤, Result, Ok, Err, Vec}
use Rattle.std.specs.declared.alloc.Global.{Global}
use Rattle.std.specs.declared.option.Option.{Option}
use Rattle.std.specs.Io.KnownBytes.{Consumes, IsAtEnd}
use Rattle.mail_io.specs.Causes.{Rose}
use Rattle.mail_io.specs.declared.errors.PutError.{PutError}
use Rattle.mail_answers.specs.Hits.{lines_in}
use Rattle.mail_answers.specs.Sending.{Output, SendsAll, SendsPart, SendsSome}
use Rattle.mail_index.specs.Indexed.{IsIndexOf}
use Rattle.ring_sig.specs.Signature.{IsWordCount}
use Rattle.mail_gen.specs.Generator.{mailbox}
use Rattle.mbox_cut.specs.Mbox.{is_mbox, messages_of}
use Rattle.mail_words.specs.Lists.{word_lists, postings_in}
use Rattle.mail_words.specs.Key.{KeyNumbers}
use Rattle.mail_query.specs.declared.error.QueryError.{QueryError}
use Rattle.mail_query.specs.declared.query.Query.{Query}
use Rattle.mail_search.specs.Answers.{lines_of}
use Rattle.mail_line.specs.CommandLine.{Asked as Line, replay, settings_of}
use Rattle.mail_search.specs.CommandLine.{Asking, asking_of, first_refused, AllRead}
use Rattle.mail_search.specs.Replays.{HasReplayed}
use Rattle.ring_replay.specs.Outcome.{SourceSeen}
use Rattle.mail_search.specs.declared.asked.Task.{Task}
use Rattle.mail_search.specs.declared.asked.Task.TheVariants.{Replay, Answer}
use Rattle.mail_search.specs.Reports.{Closed, report_of}
use Rattle.mail_search.specs.declared.status.Status.{Status}
use Rattle.mail_search.specs.declared.status.Status.TheVariants.{Done, ReadFault, Usage, NotMbox, TooLarge, BadQuery, WriteFault, Memory, TooManyMessages, TooManyPostings, BadScript}

-- the most bytes of input that are taken
abbrev pub input_limit : ℕ
input_limit = 67108864

-- the most messages of a mailbox
abbrev pub message_limit : ℕ
message_limit = 1048576

-- the most pairs of a word and a message that has it
abbrev pub posting_limit : ℕ
posting_limit = 8388608

-- queries are asked, of a mailbox that is made of so many messages or of one that is read
pub record AsksOf (words : List (List ℕ)) (generate : Option ℕ) : Type 0 where
  pub report : Bool
  pub texts : List (List ℕ)
  pub line : asking_of words ≡ Some (record { report = report; generate = generate; texts = texts })
  pub read : first_refused 1 texts ≡ None

-- the words ask for a mailbox that is made
abbrev pub MakesMailbox : List (List ℕ) → Type 0
MakesMailbox words = (count : ℕ) × (asking : Asking) × (asking_of words ≡ Some asking) × (asking.generate ≡ Some count)

-- a text is refused as a query
abbrev pub HasBadQuery : List (List ℕ) → ℕ → QueryError → Type 0
HasBadQuery words number error = (asking : Asking) × (asking_of words ≡ Some asking) × (first_refused 1 asking.texts ≡ Some (number, error))

-- the bytes that are searched: those that were taken from the source, or a mailbox of so many messages
abbrev pub searched : Option ℕ → List ℕ → List ℕ
searched None taken = taken
searched (Some count) taken = mailbox count

-- the word lists of a mailbox
abbrev pub lists_of : List ℕ → List (List KeyNumbers)
lists_of bytes = word_lists bytes (messages_of bytes)

-- how many pairs of a word and a message there are
abbrev pub postings_of : List ℕ → ℕ
postings_of bytes = postings_in (lists_of bytes)

-- These are all bytes of the source: they are within the limit, and a mailbox or not.
pub record IsInput (bytes : List ℕ) (left : Option (List ℕ)) (mailbox : Bool) : Type 0 where
  pub whole : IsAtEnd left
  pub within : length bytes ≤ input_limit
  pub kind : is_mbox bytes ≡ mailbox

-- a mailbox with too many messages
pub record HasTooManyMessages (bytes : List ℕ) (left : Option (List ℕ)) : Type 0 where
  pub input : IsInput bytes left true
  pub messages : message_limit < length (messages_of bytes)

-- a mailbox whose messages aren't too many, but their postings
pub record HasTooManyPostings (bytes : List ℕ) (left : Option (List ℕ)) : Type 0 where
  pub input : IsInput bytes left true
  pub messages : length (messages_of bytes) ≤ message_limit
  pub postings : posting_limit < postings_of bytes

-- a mailbox within the limits is searched; one that is read is all that the source has
pub record IsMailbox (generate : Option ℕ) (taken : List ℕ) (left : Option (List ℕ)) : Type 0 where
  pub whole : generate ≡ None → IsAtEnd left
  pub within : length (searched generate taken) ≤ input_limit
  pub kind : is_mbox (searched generate taken) ≡ true
  pub messages : length (messages_of (searched generate taken)) ≤ message_limit
  pub postings : postings_of (searched generate taken) ≤ posting_limit

-- queries are asked, of a mailbox within the limits
pub record AsksMailbox (words : List (List ℕ)) (taken : List ℕ) (left : Option (List ℕ)) : Type 0 where
  pub generate : Option ℕ
  pub asks : AsksOf words generate
  pub mailbox : IsMailbox generate taken left

-- What is said of a run over the words of the command line, by what the source and the sink are before it and after it, and by how the sink says
-- what a call of `put` is.
module _ {K : Type 0} (offered : K → List ℕ → Result ℕ PutError → K → Type 0) (words : List (List ℕ))
    (source source_after : SourceSeen) (sink sink_after : Output K) where
  -- The cause of each status, by the bytes that were taken from the source. The causes are tested in this order: the words, the queries, reading
  -- and its limit, the mailbox and its limits, writing. A cause is named only where none before it holds. Want of memory may come at any place.
  -- No script is read.
  abbrev pub IsCaused : List ℕ → Status → Type 0
  IsCaused taken Usage = settings_of words ≡ None
  IsCaused taken (BadQuery query error) = HasBadQuery words query error
  IsCaused taken ReadFault = AsksOf words None × (length taken ≤ input_limit) × Rose source.faults source_after.faults
  IsCaused taken TooLarge = AsksOf words None × (input_limit < length taken)
  IsCaused taken NotMbox = AsksOf words None × IsInput taken source_after.left false
  IsCaused taken TooManyMessages = AsksOf words None × HasTooManyMessages taken source_after.left
  IsCaused taken TooManyPostings = AsksOf words None × HasTooManyPostings taken source_after.left
  IsCaused taken (BadScript line) = ⊥
  IsCaused taken WriteFault = AsksMailbox words taken source_after.left × Rose sink.faults sink_after.faults
  IsCaused taken Memory = ⊤
  IsCaused taken Done = AsksMailbox words taken source_after.left

  -- no fault was passed over: the source's count rose at `ReadFault` alone, and the sink's at `WriteFault` alone
  abbrev pub HidesNone : Status → Type 0
  HidesNone ReadFault = sink_after.faults ≡ sink.faults
  HidesNone WriteFault = source_after.faults ≡ source.faults
  HidesNone _ = (source_after.faults ≡ source.faults) × (sink_after.faults ≡ sink.faults)

  -- A fact on all lines over what is searched, whose index on a closed ring is this one: the answer lines of the queries that the texts read as,
  -- and the report, where it is asked for.
  abbrev pub OfLines : List ℕ → Closed → (List (List ℕ) → Type 0) → Type 0
  OfLines taken closed Holds =
      (asking : Asking) × (asking_of words ≡ Some asking) × (queries : List Query) × AllRead asking.texts queries
      × IsIndexOf (lists_of (searched asking.generate taken)) closed
      × Holds (lines_of (searched asking.generate taken) queries ++ report_of asking.report closed)

  -- What the sink was sent, and the ring that is handed back: each line in one piece at the end, some of them where writing or memory failed, and
  -- else nothing, so that it is as it was. The ring is handed back at the end alone.
  abbrev pub IsWritten : List ℕ → Status → Option Closed → Type 0
  IsWritten taken Done (Some closed) = OfLines taken closed (SendsAll offered sink sink_after)
  IsWritten taken Done None = ⊥
  IsWritten taken status (Some closed) = ⊥
  IsWritten taken WriteFault None = (closed : Closed) × OfLines taken closed (SendsPart offered sink sink_after)
  IsWritten taken Memory None = (sink_after ≡ sink) ⊎ ((closed : Closed) × OfLines taken closed (SendsSome offered sink sink_after))
  IsWritten taken _ None = sink_after ≡ sink

  -- how a run ended that read these bytes of the source
  pub record IsAnswered (closed : Option Closed) (status : Status) : Type 0 where
    pub taken : List ℕ
    pub moved : Consumes source.left source_after.left taken
    pub caused : IsCaused taken status
    pub hides_none : HidesNone status
    pub written : IsWritten taken status closed

  -- how a run ended, by what the words ask for
  abbrev pub EndsAs : Option Line → Option Closed → Status → Type 0
  EndsAs (Some replay) closed status = HasReplayed offered source source_after sink sink_after closed status
  EndsAs _ closed status = IsAnswered closed status

  abbrev pub HasEnded : Option Closed → Status → Type 0
  HasEnded closed status = EndsAs (settings_of words) closed status

-- ---- the parts of a run
-- the words ask these queries, of a mailbox of at most 100,000 messages where one is made, with a report or without
pub record AsksThese (words : List (List ℕ)) (generate : Option ℕ) (report : Bool) (queries : List Query) : Type 0 where
  pub asks : AsksOf words generate
  pub all : AllRead asks.texts queries
  pub few : (count : ℕ) → generate ≡ Some count → count ≤ 100000
  pub reports : asks.report ≡ report

-- the index can be made in this way
pub record CanIndex (workers ring bits : ℕ) : Type 0 where
  pub can_work : (1 ≤ workers) × (workers ≤ 64)
  pub has_entries : (1 ≤ ring) × (ring ≤ 4096)
  pub has_words : IsWordCount (bits / 64)

-- what the words ask, or why they ask nothing
abbrev pub IsAsked : List (List ℕ) → Result Task Status → Type 0
IsAsked words (Ok Replay) = settings_of words ≡ Some replay
IsAsked words (Ok (Answer asked)) =
    AsksThese words asked.generate asked.report asked.queries.items × CanIndex asked.workers asked.ring asked.bits
IsAsked words (Err Usage) = settings_of words ≡ None
IsAsked words (Err (BadQuery query error)) = HasBadQuery words query error
IsAsked words (Err Memory) = ⊤
IsAsked words (Err _) = ⊥

-- the queries that the texts are, or why there are none
abbrev pub AreRead : List (List ℕ) → Result (Vec Query Global) Status → Type 0
AreRead texts (Ok queries) = (first_refused 1 texts ≡ None) × AllRead texts queries.items
AreRead texts (Err (BadQuery query error)) = first_refused 1 texts ≡ Some (query, error)
AreRead texts (Err Memory) = ⊤
AreRead texts (Err _) = ⊥

-- the bytes that are searched, or why there are none, by those that were taken from the source
abbrev pub Gives : Option ℕ → SourceSeen → SourceSeen → List ℕ → Result (Vec ℕ Global) Status → Type 0
Gives generate source source_after taken (Ok bytes) =
    (bytes.items ≡ searched generate taken) × (generate ≡ None → IsAtEnd source_after.left × (length taken ≤ input_limit))
    × (source_after.faults ≡ source.faults)
Gives generate source source_after taken (Err ReadFault) =
    (generate ≡ None) × (length taken ≤ input_limit) × Rose source.faults source_after.faults
Gives generate source source_after taken (Err TooLarge) =
    (generate ≡ None) × (input_limit < length taken) × (source_after.faults ≡ source.faults)
Gives generate source source_after taken (Err Memory) = source_after.faults ≡ source.faults
Gives generate source source_after taken (Err _) = ⊥

pub record IsTaken (generate : Option ℕ) (source source_after : SourceSeen) (result : Result (Vec ℕ Global) Status) : Type 0 where
  pub taken : List ℕ
  pub moved : Consumes source.left source_after.left taken
  pub gives : Gives generate source source_after taken result

-- the word lists of the mailbox, or why there are none
abbrev pub AreLists : List ℕ → Result (List (List KeyNumbers)) Status → Type 0
AreLists bytes (Ok lists) =
    (is_mbox bytes ≡ true) × (length (messages_of bytes) ≤ message_limit) × (postings_of bytes ≤ posting_limit) × (lists ≡ lists_of bytes)
AreLists bytes (Err NotMbox) = is_mbox bytes ≡ false
AreLists bytes (Err TooManyMessages) = (is_mbox bytes ≡ true) × (message_limit < length (messages_of bytes))
AreLists bytes (Err TooManyPostings) =
    (is_mbox bytes ≡ true) × (length (messages_of bytes) ≤ message_limit) × (posting_limit < postings_of bytes)
AreLists bytes (Err Memory) = ⊤
AreLists bytes (Err _) = ⊥

-- the word lists of what is searched, or why there are none, by the bytes that were taken from the source
abbrev pub Lists : Option ℕ → SourceSeen → SourceSeen → List ℕ → Result (List (List KeyNumbers)) Status → Type 0
Lists generate source source_after taken (Ok lists) =
    IsMailbox generate taken source_after.left × (lists ≡ lists_of (searched generate taken)) × (source_after.faults ≡ source.faults)
Lists generate source source_after taken (Err ReadFault) =
    (generate ≡ None) × (length taken ≤ input_limit) × Rose source.faults source_after.faults
Lists generate source source_after taken (Err TooLarge) =
    (generate ≡ None) × (input_limit < length taken) × (source_after.faults ≡ source.faults)
Lists generate source source_after taken (Err NotMbox) =
    (generate ≡ None) × IsInput taken source_after.left false × (source_after.faults ≡ source.faults)
Lists generate source source_after taken (Err TooManyMessages) =
    (generate ≡ None) × HasTooManyMessages taken source_after.left × (source_after.faults ≡ source.faults)
Lists generate source source_after taken (Err TooManyPostings) =
    (generate ≡ None) × HasTooManyPostings taken source_after.left × (source_after.faults ≡ source.faults)
Lists generate source source_after taken (Err Memory) = source_after.faults ≡ source.faults
Lists generate source source_after taken (Err _) = ⊥

pub record AreListed (generate : Option ℕ) (source source_after : SourceSeen) (result : Result (List (List KeyNumbers)) Status) : Type 0 where
  pub taken : List ℕ
  pub moved : Consumes source.left source_after.left taken
  pub lists : Lists generate source source_after taken result

module _ {K : Type 0} (offered : K → List ℕ → Result ℕ PutError → K → Type 0) (sink sink_after : Output K) where
  -- the lines were sent that go with an index of the lists, or some of them where writing or memory failed
  abbrev pub OfIndex : List (List KeyNumbers) → (Closed → List (List ℕ)) → (List (List ℕ) → Type 0) → Type 0
  OfIndex lists lines Holds = (closed : Closed) × IsIndexOf lists closed × Holds (lines closed)

  abbrev pub IsSent : List (List KeyNumbers) → (Closed → List (List ℕ)) → Result Closed Status → Type 0
  IsSent lists lines (Ok closed) = IsIndexOf lists closed × SendsAll offered sink sink_after (lines closed)
  IsSent lists lines (Err WriteFault) = OfIndex lists lines (SendsPart offered sink sink_after) × Rose sink.faults sink_after.faults
  IsSent lists lines (Err Memory) =
      ((sink_after ≡ sink) ⊎ OfIndex lists lines (SendsSome offered sink sink_after)) × (sink_after.faults ≡ sink.faults)
  IsSent lists lines (Err _) = ⊥

  -- the report was sent, where it is asked for, and the closed ring comes back; or not all of it was
  abbrev pub IsReported : Bool → Closed → Result Closed Status → Type 0
  IsReported report closed (Ok back) = (back ≡ closed) × SendsAll offered sink sink_after (report_of report closed)
  IsReported report closed (Err WriteFault) = SendsPart offered sink sink_after (report_of report closed) × Rose sink.faults sink_after.faults
  IsReported report closed (Err Memory) = SendsSome offered sink sink_after (report_of report closed) × (sink_after.faults ≡ sink.faults)
  IsReported report closed (Err _) = ⊥

module _ {K : Type 0} (offered : K → List ℕ → Result ℕ PutError → K → Type 0) (generate : Option ℕ) (report : Bool) (queries : List Query)
    (source source_after : SourceSeen) (sink sink_after : Output K) where
  -- the lines over the word lists of what is searched were sent, or not all of them
  abbrev pub AreAnswered : Result Closed Status → Type 0
  AreAnswered result =
      (lists : List (List KeyNumbers)) × AreListed generate source source_after (Ok lists)
      × IsSent offered sink sink_after lists (λ closed. lines_in lists queries ++ report_of report closed) result

  -- or there are no lists, and the sink is as it was
  abbrev pub HasAnswered : Result Closed Status → Type 0
  HasAnswered (Ok closed) = AreAnswered (Ok closed)
  HasAnswered (Err status) = AreAnswered (Err status) ⊎ (AreListed generate source source_after (Err status) × (sink_after ≡ sink))
