-- Worked examples, over indexes of one lane and two segments of 30 words.
use Rattle.std.specs.Prelude.{◌≡◌, ℕ, List, [], ◌∷◌, ◌++◌, map, replicate}
use Rattle.std.specs.List.{range_with_len}
use Rattle.mail_words.specs.Key.{KeyNumbers}
use Rattle.tx_heap.specs.Heap.{Heap}
use Rattle.tx_heap.specs.Examples.{letter, a, c, small, header, key_words, two_keys, heap_with, all_added, grown}
use Rattle.tx_postings.specs.Batch.{batch_of, AddsKeys, TakeWords, LacksRoom, HasRoomFor}
use Rattle.tx_postings.specs.Moves.{IsMailMove}
use Rattle.tx_postings.specs.Listing.{AreListed, IsCutShort}

abbrev pub e : KeyNumbers
e = letter 101

-- ---- batches
-- message 1 has `a` and message 2 has `c`; the word `a` of message 3 is still to come
abbrev pub one_short : List ℕ
one_short = header 26 2 2 ++ (0 ∷ 18 ∷ []) ++ key_words a ++ (0 ∷ 16 ∷ 1 ∷ 0 ∷ []) ++ key_words c ++ (10 ∷ 24 ∷ 2 ∷ 0 ∷ 0 ∷ 0 ∷ 0 ∷ 0 ∷ [])

abbrev pub to_come : Heap
to_come = heap_with (0 ∷ 0 ∷ 1 ∷ []) 1 one_short

-- of twenty words two are in the index, and the next sixteen are the batch
abbrev pub BatchExample : Type 0
BatchExample = batch_of (map letter (range_with_len 97 20) ∷ []) (heap_with (18 ∷ []) 1 one_short) 1 ≡ map letter (range_with_len 99 16)

-- the record of `a` gets a cell of message 3
abbrev pub AddsExample : Type 0
AddsExample = AddsKeys small 3 (a ∷ []) to_come all_added

-- the need is lowered without a row
abbrev pub LostRowExample : Type 0
LostRowExample = ¬ AddsKeys small 3 (a ∷ []) to_come (heap_with (0 ∷ 0 ∷ 0 ∷ []) 1 one_short)

-- ---- room
-- `a` has a record and takes a cell, and `e` takes a record too
abbrev pub TakesExample : Type 0
TakesExample = TakeWords small to_come 0 (a ∷ e ∷ []) 10

-- a segment with this first free offset and no record
abbrev pub with_free : ℕ → Heap
with_free free = heap_with (1 ∷ []) 1 (header free 0 0 ++ (0 ∷ 0 ∷ []))

-- six free words are too few for a new key
abbrev pub ShortExample : Type 0
ShortExample = LacksRoom small (e ∷ []) 0 0 6 8 (with_free 32762)

-- eight are enough
abbrev pub EnoughExample : Type 0
EnoughExample = HasRoomFor small (e ∷ []) (with_free 32760)

-- ---- messages of a key
-- segment 1 stands in front of segment 0, and has `a` in message 4
abbrev pub two_segments : ℕ → Heap
two_segments gate = record {
  pool = 2;
  lanes = 2 ∷ [];
  needs = 0 ∷ 0 ∷ 0 ∷ 0 ∷ [];
  gates = gate ∷ 1 ∷ [];
  links = 0 ∷ 1 ∷ [];
  segments = two_keys ∷ (header 18 1 1 ++ (0 ∷ 10 ∷ []) ++ key_words a ++ (0 ∷ 16 ∷ 4 ∷ 0 ∷ []) ++ replicate 12 0) ∷ [];
}

abbrev pub ListExample : Type 0
ListExample = AreListed small a (two_segments 1) (4 ∷ 3 ∷ 1 ∷ [])

-- the key is in the first segment, and the older ones are left out
abbrev pub EndsEarlyExample : Type 0
EndsEarlyExample = ¬ AreListed small a (two_segments 1) (4 ∷ [])

-- a packed segment is passed over
abbrev pub PackedExample : Type 0
PackedExample = AreListed small a (two_segments 3) (4 ∷ [])

-- a sealed one cuts the list short
abbrev pub SealedExample : Type 0
SealedExample = IsCutShort small a 0 (two_segments 2) (4 ∷ []) × (¬ AreListed small a (two_segments 2) (4 ∷ []))

-- ---- moves
-- the word of message 3 is still to come
abbrev pub one_to_come : Heap
one_to_come = heap_with (0 ∷ 0 ∷ 1 ∷ []) 1 two_keys

-- the segment is sealed
abbrev pub with_sealed : Heap
with_sealed = heap_with (0 ∷ 0 ∷ 0 ∷ []) 2 two_keys

-- one word less is to come, and the segment is sealed
abbrev pub MoveExample : Type 0
MoveExample = IsMailMove one_to_come with_sealed

-- a further segment is opened
abbrev pub OpensMoveExample : Type 0
OpensMoveExample = IsMailMove all_added grown

-- a word comes back
abbrev pub NeedRisesExample : Type 0
NeedRisesExample = ¬ IsMailMove all_added one_to_come

-- the sealed segment is open again
abbrev pub GateFallsExample : Type 0
GateFallsExample = ¬ IsMailMove with_sealed all_added
