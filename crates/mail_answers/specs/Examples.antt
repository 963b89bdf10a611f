-- Worked examples of the definitions.
use Rattle.std.specs.Prelude.{◌≡◌, ℕ, List, [], ◌∷◌, codes, Some, Result, Ok, Err}
use Rattle.mail_io.specs.declared.errors.PutError.{PutError}
use Rattle.mail_io.specs.declared.errors.WriteError.TheVariants.{Failed, Memory}
use Rattle.tx_model.specs.declared.word.Word as read_word
use Rattle.tx_model.specs.declared.view.Attempt.{Attempt}
use Rattle.tx_model.specs.WordLaws.{word}
use Rattle.mail_words.specs.Key.{KeyNumbers, numbers, key_of}
use Rattle.mail_query.specs.declared.query.Query.TheVariants.{Word, Not}
use Rattle.tx_heap.specs.Heap.{Heap}
use Rattle.mail_answers.specs.declared.attempt.Unread.TheVariants.{Sealed}
use Rattle.mail_answers.specs.Asking.{numbers_in, DidRead, DidAsk}
use Rattle.mail_answers.specs.Complete.{IsComplete}
use Rattle.mail_answers.specs.Hits.{hits_in}
use Rattle.mail_answers.specs.Lists.{ListMap, HasNone}
use Rattle.mail_answers.specs.Sending.{Output}
use Rattle.mail_answers.specs.Sent.{AreSent}

-- ---- hits
abbrev pub hello : KeyNumbers
hello = key_of (codes "hello")

abbrev pub ring : KeyNumbers
ring = key_of (codes "ring")

-- the first list has both words, the second one, and the third none
abbrev pub three_lists : List (List KeyNumbers)
three_lists = (hello ∷ ring ∷ []) ∷ (hello ∷ []) ∷ [] ∷ []

abbrev pub HitsExample : Type 0
HitsExample = (hits_in three_lists (Word hello) ≡ 1 ∷ 2 ∷ []) × (hits_in three_lists (Word ring) ≡ 1 ∷ [])

abbrev pub WithoutExample : Type 0
WithoutExample = hits_in three_lists (Not (Word ring)) ≡ 2 ∷ 3 ∷ []

-- ---- an index
-- of one list with one word, as far as it counts here: the needs and the gates
abbrev pub index_with : ℕ → ℕ → Heap
index_with need gate = record {
  pool = 8;
  lanes = [];
  needs = need ∷ [];
  gates = gate ∷ 1 ∷ 1 ∷ 1 ∷ 1 ∷ 1 ∷ 1 ∷ 1 ∷ [];
  links = [];
  segments = [];
}

abbrev pub CompleteExample : Type 0
CompleteExample = IsComplete ((ring ∷ []) ∷ []) (index_with 0 1)

-- a word is still to come
abbrev pub NeedsExample : Type 0
NeedsExample = ¬ IsComplete ((ring ∷ []) ∷ []) (index_with 1 1)

-- a segment is sealed
abbrev pub SealedExample : Type 0
SealedExample = ¬ IsComplete ((ring ∷ []) ∷ []) (index_with 0 2)

-- ---- what an attempt did
abbrev pub NumbersExample : Type 0
NumbersExample = numbers_in (numbers 1 2 3 4 ∷ numbers 5 6 7 8 ∷ []) ≡ 1 ∷ 2 ∷ 3 ∷ 4 ∷ 5 ∷ 6 ∷ 7 ∷ 8 ∷ []

-- it read these words and wrote those
abbrev pub having : List read_word.Word → List read_word.Word → Attempt
having reads writes = record { start = 0; reads = reads; writes = writes; sealed = []; published = [] }

-- no keys were asked for
abbrev pub DidReadExample : Type 0
DidReadExample = (read : ListMap) → HasNone read → DidRead three_lists [] [] read (having [] [])

-- it wrote a word
abbrev pub DidWriteExample : Type 0
DidWriteExample = (read : ListMap) → ¬ DidRead three_lists [] [] read (having [] (word 1 5 ∷ []))

-- the gate of segment 0 of three lists was read as sealed
abbrev pub DidMeetSealedExample : Type 0
DidMeetSealedExample = (read : ListMap) → DidAsk three_lists [] (ring ∷ []) read (Some (Sealed 0)) (having (word 19 2 ∷ []) [])

-- ---- what was sent
-- a sink that held nothing, and says nothing of its calls
abbrev pub any_call : Unit {0} → List ℕ → Result ℕ PutError → Unit {0} → Type 0
any_call sink piece result next = Unit {0}

abbrev pub with_bytes : List ℕ → ℕ → Output (Unit {0})
with_bytes held faults = record { sink = tt; held = Some held; faults = faults; wants = 0 }

-- the line was sent
abbrev pub SentExample : Type 0
SentExample = AreSent any_call (with_bytes [] 0) (with_bytes (codes "0:\n") 0) (codes "0:\n" ∷ []) {T = Unit {0}} (Ok tt)

-- the sink failed after two bytes
abbrev pub PartExample : Type 0
PartExample = AreSent any_call (with_bytes [] 0) (with_bytes (codes "0:") 1) (codes "0:\n" ∷ []) {T = Unit {0}} (Err (Failed 2))

-- memory was wanted before the line
abbrev pub SomeExample : Type 0
SomeExample = AreSent any_call (with_bytes [] 0) (with_bytes [] 0) (codes "0:\n" ∷ []) {T = Unit {0}} (Err (Memory 0))

-- two bytes were sent, and one is told
abbrev pub MiscountedExample : Type 0
MiscountedExample = ¬ AreSent any_call (with_bytes [] 0) (with_bytes (codes "0:") 1) (codes "0:\n" ∷ []) {T = Unit {0}} (Err (Failed 1))
