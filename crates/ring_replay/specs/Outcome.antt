-- What replaying the script of a source leaves of it and of the sink.
use Rattle.std.specs.Prelude.{◌≡◌, ◌⊎◌, ℕ, ◌<◌, ◌≤◌, true, false, List, [], ◌∷◌, length, Result, Ok, Err}
use Rattle.std.specs.declared.option.Option.{Option}
use Rattle.std.specs.Io.KnownBytes.{Appends, Consumes, IsAtEnd}
use Rattle.mail_io.specs.Causes.{Rose}
use Rattle.mail_io.specs.Writing.{Offers, SendsPart}
use Rattle.mail_io.specs.declared.errors.PutError.{PutError}
use Rattle.ring_runs.specs.declared.trace.Trace.{Trace}
use Rattle.ring_script.specs.Printed.{printed}
use Rattle.ring_replay.specs.declared.stop.ReplayStop.{ReplayStop}
use Rattle.ring_replay.specs.declared.stop.ReplayStop.TheVariants.{ReadFault, TooLarge, BadScript, WriteFault, Memory}
use Rattle.ring_replay.specs.Stops.{number_of, line_of}
use Rattle.ring_replay.specs.Traces.{HasTrace, HasBadLine}

-- the most bytes that are taken
abbrev pub input_limit : ℕ
input_limit = 67108864

-- of a source: the bytes that are left, where it tells them, and its count of faults
pub record SourceSeen : Type 0 where
  pub left : Option (List ℕ)
  pub faults : ℕ

abbrev pub source_seen : {S : Type 0} → (S → Option (List ℕ)) → (S → ℕ) → S → SourceSeen
source_seen left faults source = record { left = left source; faults = faults source }

-- of a sink: itself, the bytes that it holds, where it tells them, and its counts of faults and of wants of memory
pub record SinkSeen (K : Type 0) : Type 0 where
  pub sink : K
  pub held : Option (List ℕ)
  pub faults : ℕ
  pub wants : ℕ

abbrev pub sink_seen : {K : Type 0} → (K → Option (List ℕ)) → (K → ℕ) → (K → ℕ) → K → SinkSeen K
sink_seen held faults wants sink = record { sink = sink; held = held sink; faults = faults sink; wants = wants sink }

module _ {K : Type 0} (offered : K → List ℕ → Result ℕ PutError → K → Type 0) (source source_after : SourceSeen) (sink sink_after : SinkSeen K) where
  -- the bytes are all of the source, within the limit, and no fault was met
  pub record IsWhole (taken : List ℕ) : Type 0 where
    pub whole : IsAtEnd source_after.left
    pub within : length taken ≤ input_limit
    pub no_fault : source_after.faults ≡ source.faults

  -- the sink's bytes grew by the text, which was offered in one piece, with no fault and no want of memory
  pub record HasAll (text : List ℕ) : Type 0 where
    pub grown : Appends sink.held sink_after.held text
    pub calls : Offers offered sink.sink (text ∷ []) false sink_after.sink
    pub no_fault : sink_after.faults ≡ sink.faults
    pub no_want : sink_after.wants ≡ sink.wants

  -- they grew by a beginning of it, up to a call that was refused
  pub record HasBeginning (text : List ℕ) : Type 0 where
    pub sent : ℕ
    pub part : SendsPart sink.held sink_after.held text sent
    pub calls : Offers offered sink.sink (text ∷ []) true sink_after.sink

  -- a fact on the text of the trace of the script that the bytes are
  abbrev pub OfTrace : List ℕ → (List ℕ → Type 0) → Type 0
  OfTrace taken Holds = (trace : Trace) × HasTrace taken trace × Holds (printed trace)

  -- The cause of each end, by the bytes that were taken from the source, and what the sink was sent. The causes are tested in this order: reading
  -- and its limit, the script, its events, writing. Want of memory may come anywhere; where a part was written, the sink's count of wants rose.
  -- No byte is written before all events are done, and no fault is passed over.
  abbrev pub Ends : List ℕ → Result (Unit {0}) ReplayStop → Type 0
  Ends taken (Ok _) = IsWhole taken × OfTrace taken HasAll
  Ends taken (Err ReadFault) = (length taken ≤ input_limit) × Rose source.faults source_after.faults × (sink_after ≡ sink)
  Ends taken (Err TooLarge) = (input_limit < length taken) × (source_after.faults ≡ source.faults) × (sink_after ≡ sink)
  Ends taken (Err (BadScript line)) = IsWhole taken × HasBadLine taken line × (sink_after ≡ sink)
  Ends taken (Err WriteFault) = IsWhole taken × OfTrace taken HasBeginning × Rose sink.faults sink_after.faults
  Ends taken (Err Memory) =
      (source_after.faults ≡ source.faults) × (sink_after.faults ≡ sink.faults)
      × ((sink_after ≡ sink) ⊎ (OfTrace taken HasBeginning × Rose sink.wants sink_after.wants))

  -- how replaying ended, over these bytes of the source
  pub record IsReplayed (result : Result (Unit {0}) ReplayStop) : Type 0 where
    pub taken : List ℕ
    pub moved : Consumes source.left source_after.left taken
    pub ends : Ends taken result

  -- one end has the status and the line
  abbrev pub IsNumbered : Result (Unit {0}) ReplayStop → ℕ → ℕ → Type 0
  IsNumbered (Ok _) status line = (status ≡ 0) × (line ≡ 0)
  IsNumbered (Err stop) status line = (status ≡ number_of stop) × (line ≡ line_of stop)

  pub record IsReplayedBy (status line : ℕ) : Type 0 where
    pub result : Result (Unit {0}) ReplayStop
    pub numbered : IsNumbered result status line
    pub replayed : IsReplayed result
