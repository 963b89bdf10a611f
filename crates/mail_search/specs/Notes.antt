-- The note that is written for each status, and what the sink of the notes then holds.
use Rattle.std.specs.Prelude.{ℕ, ◌≡◌, ◌<◌, ◌⊎◌, List, [], ◌∷◌, ◌++◌, length, codes, decimal, Result}
use Rattle.mail_io.specs.Causes.{Rose}
use Rattle.mail_io.specs.declared.errors.PutError.{PutError}
use Rattle.mail_query.specs.declared.error.QueryError.{QueryError}
use Rattle.mail_query.specs.declared.error.QueryError.TheVariants as query
use Rattle.mail_answers.specs.Sending.{Output, SendsAll, SendsPart}
use Rattle.mail_search.specs.declared.status.Status.{Status}
use Rattle.mail_search.specs.declared.status.Status.TheVariants.{Done, ReadFault, Usage, NotMbox, TooLarge, BadQuery, WriteFault, Memory, TooManyMessages, TooManyPostings, BadScript}

-- why a query is refused
abbrev pub reason_of : QueryError → List ℕ
reason_of query.Bad = codes ": bad\n"
reason_of query.LongWord = codes ": long word\n"
reason_of query.Deep = codes ": too deep\n"
reason_of query.Long = codes ": too long\n"
reason_of query.Memory = codes ": no memory\n"

-- the note of a refused query
abbrev pub query_note : ℕ → QueryError → List ℕ
query_note number error = codes "mailring: query " ++ decimal number ++ reason_of error

-- the note of a script that isn't read, or isn't replayed to its end
abbrev pub script_note : ℕ → List ℕ
script_note line = codes "mailring: script line " ++ decimal line ++ codes " is not read\n"

-- one line, and none at the end
abbrev pub note_of : Status → List ℕ
note_of Done = []
note_of ReadFault = codes "mailring: reading failed\n"
note_of Usage = codes "mailring: usage: mailring [--workers N] [--ring R] [--bits B] [--report] [--generate N] QUERY... or mailring --replay\n"
note_of NotMbox = codes "mailring: input is not an mbox\n"
note_of TooLarge = codes "mailring: input is larger than 67108864 bytes\n"
note_of (BadQuery number error) = query_note number error
note_of WriteFault = codes "mailring: writing failed\n"
note_of Memory = codes "mailring: no memory\n"
note_of TooManyMessages = codes "mailring: too many messages\n"
note_of TooManyPostings = codes "mailring: too many postings\n"
note_of (BadScript line) = script_note line

-- The note was offered in one piece, and the bytes held grew by it, or by less of it only where a count rose.
module _ {K : Type 0} (offered : K → List ℕ → Result ℕ PutError → K → Type 0) (before after : Output K) where
  -- less of the note than all of it
  pub record HasPart (note : List ℕ) : Type 0 where
    pub sends : SendsPart offered before after (note ∷ [])
    pub short : sends.sent < length note
    pub cause : Rose before.faults after.faults ⊎ Rose before.wants after.wants

  abbrev pub HasNote : List ℕ → Type 0
  HasNote note = SendsAll offered before after (note ∷ []) ⊎ HasPart note

  abbrev pub IsNoted : Status → Type 0
  IsNoted status = HasNote (note_of status)

-- the note of a status other than a refused query or script
abbrev pub IsFixedNote : Status → List ℕ → Type 0
IsFixedNote (BadQuery number error) note = Unit {0}
IsFixedNote (BadScript line) note = Unit {0}
IsFixedNote status note = note ≡ note_of status
