-- Worked examples. Segments of 30 words with two buckets, and an index of one lane and two such segments.
use Rattle.std.specs.Prelude.{◌≡◌, ℕ, ◌*◌, ◌/◌, ◌%◌, ◌^◌, List, [], ◌∷◌, ◌++◌, length, replicate, codes}
use Rattle.mail_words.specs.Key.{KeyNumbers, key_of}
use Rattle.tx_model.specs.declared.pass.PassState.TheVariants.{Active}
use Rattle.tx_model.specs.declared.word.Word.{Word}
use Rattle.tx_model.specs.declared.view.Attempt.{Attempt}
use Rattle.tx_model.specs.declared.view.PassView.{PassView}
use Rattle.tx_model.specs.Made.{Made}
use Rattle.tx_model.specs.WordLaws.{word}
use Rattle.tx_heap.specs.Fresh.{with_fresh, HasUnused, IsFull}
use Rattle.tx_heap.specs.Calls.{OpenedSegment, FoundUnused, MadeFresh, writes_of_fresh}
use Rattle.tx_heap.specs.Layout.{Layout, mail_layout, sizes_of, regions_of}
use Rattle.tx_heap.specs.Segment.{open_rows, IsInForm, HaveCells}
use Rattle.tx_heap.specs.Packed.{packed_rows, IsPacked, AreOfLane}
use Rattle.tx_heap.specs.Heap.{Heap, lane_segments, budget_of}
use Rattle.tx_heap.specs.Index.{rows_of, IsGoodIndex}
use Rattle.tx_heap.specs.Mail.{IsGoodMail, mail_heap, mail_budget}
use Rattle.tx_heap.specs.Opening.{opening_of}

-- the key of a word of one letter
abbrev pub letter : ℕ → KeyNumbers
letter code = record { k0 = code * 2 ^ 56; k1 = 0; k2 = 0; k3 = 0 }

abbrev pub a : KeyNumbers
a = letter 97

abbrev pub c : KeyNumbers
c = letter 99

-- the last bit of the first letter is the bucket, and there is one lane
abbrev pub small : Layout
small = record { buckets = 2; bucket_of = λ key. key.k0 / 2 ^ 56 % 2; lane_of = λ key. 0; least_rows = 3 }

-- ---- segments
-- message 1 has `a`, message 2 has `c`, message 3 has `a`: a record at 10 with cells at 26 and 16, one at 18 with a cell at 24
abbrev pub header : ℕ → ℕ → ℕ → List ℕ
header free keys cells = free ∷ keys ∷ cells ∷ 0 ∷ 0 ∷ 0 ∷ 0 ∷ 0 ∷ []

abbrev pub key_words : KeyNumbers → List ℕ
key_words key = key.k0 ∷ key.k1 ∷ key.k2 ∷ key.k3 ∷ []

abbrev pub with_keys : ℕ → KeyNumbers → KeyNumbers → List ℕ
with_keys free first second =
    header free 2 3 ++ (0 ∷ 18 ∷ []) ++ key_words first ++ (0 ∷ 26 ∷ 1 ∷ 0 ∷ []) ++ key_words second ++ (10 ∷ 24 ∷ 2 ∷ 0 ∷ 3 ∷ 16 ∷ 0 ∷ 0 ∷ [])

abbrev pub two_keys : List ℕ
two_keys = with_keys 28 a c

abbrev pub OpenRowsExample : Type 0
OpenRowsExample = open_rows small two_keys ≡ (c, 2) ∷ (a, 3) ∷ (a, 1) ∷ []

abbrev pub InFormExample : Type 0
InFormExample = IsInForm small 0 two_keys × HaveCells small two_keys

-- two records have the key `a`
abbrev pub OneKeyTwiceExample : Type 0
OneKeyTwiceExample = ¬ IsInForm small 0 (with_keys 28 a a)

-- the free offset is two past the last cell
abbrev pub WrongFreeExample : Type 0
WrongFreeExample = ¬ IsInForm small 0 (with_keys 30 a c)

-- the record at 10 has no cell yet
abbrev pub bare_record : List ℕ
bare_record = header 16 1 0 ++ (0 ∷ 10 ∷ []) ++ key_words a ++ replicate 16 0

abbrev pub BareRecordExample : Type 0
BareRecordExample = IsInForm small 0 bare_record × (¬ HaveCells small bare_record)

-- ---- packed segments: the same rows, by keys
abbrev pub packed_with : ℕ → ℕ → List ℕ
packed_with first second =
    (23 ∷ 2 ∷ 3 ∷ 1 ∷ 0 ∷ 0 ∷ 0 ∷ 0 ∷ []) ++ key_words a ++ (20 ∷ 2 ∷ []) ++ key_words c ++ (22 ∷ 1 ∷ first ∷ second ∷ 2 ∷ []) ++ replicate 7 0

abbrev pub packed : List ℕ
packed = packed_with 1 3

abbrev pub PackedRowsExample : Type 0
PackedRowsExample = packed_rows packed ≡ (a, 1) ∷ (a, 3) ∷ (c, 2) ∷ []

abbrev pub PackedExample : Type 0
PackedExample = IsPacked packed × AreOfLane small 0 packed

-- the messages of `a` fall
abbrev pub FallingMessagesExample : Type 0
FallingMessagesExample = ¬ IsPacked (packed_with 3 1)

-- ---- an index: the lists of the three messages, all of whose words are in it
abbrev pub lists : List (List KeyNumbers)
lists = (a ∷ []) ∷ (c ∷ []) ∷ (a ∷ []) ∷ []

abbrev pub heap_with : List ℕ → ℕ → List ℕ → Heap
heap_with needs gate words =
    record { pool = 1; lanes = 1 ∷ []; needs = needs; gates = gate ∷ 0 ∷ []; links = 0 ∷ 0 ∷ []; segments = words ∷ replicate 30 0 ∷ [] }

abbrev pub all_added : Heap
all_added = heap_with (0 ∷ 0 ∷ 0 ∷ []) 1 two_keys

abbrev pub RowsExample : Type 0
RowsExample = rows_of small all_added ≡ (c, 2) ∷ (a, 3) ∷ (a, 1) ∷ []

abbrev pub IndexExample : Type 0
IndexExample = IsGoodIndex small lists all_added

abbrev pub BudgetExample : Type 0
BudgetExample = budget_of all_added ≡ 2

-- the word of message 3 is in the index, and is still to come
abbrev pub NeedTooHighExample : Type 0
NeedTooHighExample = ¬ IsGoodIndex small lists (heap_with (0 ∷ 0 ∷ 1 ∷ []) 1 two_keys)

-- the lane's own segment is sealed
abbrev pub OwnSealedExample : Type 0
OwnSealedExample = ¬ IsGoodIndex small lists (heap_with (0 ∷ 0 ∷ 0 ∷ []) 2 two_keys)

-- ---- a fresh segment
-- segment 1 is opened in front of segment 0, which is the lane's own
abbrev pub grown : Heap
grown = record {
  pool = 2;
  lanes = 2 ∷ [];
  needs = 0 ∷ 0 ∷ 0 ∷ [];
  gates = 1 ∷ 1 ∷ [];
  links = 0 ∷ 1 ∷ [];
  segments = two_keys ∷ (10 ∷ replicate 29 0) ∷ [];
}

abbrev pub FreshExample : Type 0
FreshExample = with_fresh small 0 0 all_added ≡ grown

abbrev pub LaneSegmentsExample : Type 0
LaneSegmentsExample = lane_segments grown 0 ≡ 1 ∷ 0 ∷ []

-- no further segment is there
abbrev pub UnusedExample : Type 0
UnusedExample = HasUnused all_added × (¬ HasUnused grown)

-- 127 free words are too few, and 128 aren't
abbrev pub FullExample : Type 0
FullExample = IsFull (32641 ∷ []) × (¬ IsFull (32640 ∷ []))

-- ---- the opening of a mailbox of three messages, whose lists have 4, 4 and 2 words
abbrev pub three_lists : List (List KeyNumbers)
three_lists =
    (key_of (codes "hello") ∷ key_of (codes "ring") ∷ key_of (codes "subject") ∷ key_of (codes "test") ∷ [])
    ∷ (key_of (codes "bloom") ∷ key_of (codes "hello") ∷ key_of (codes "other") ∷ key_of (codes "subject") ∷ [])
    ∷ (key_of (codes "bloom") ∷ key_of (codes "ring") ∷ []) ∷ []

abbrev pub OpeningExample : Type 0
OpeningExample = IsGoodMail three_lists (opening_of three_lists) (opening_of three_lists)

abbrev pub OpeningSizeExample : Type 0
OpeningSizeExample = length (opening_of three_lists) ≡ 262179

abbrev pub OpeningNeedsExample : Type 0
OpeningNeedsExample = (mail_heap three_lists (opening_of three_lists)).needs ≡ 4 ∷ 4 ∷ 2 ∷ []

abbrev pub OpeningRowsExample : Type 0
OpeningRowsExample = rows_of mail_layout (mail_heap three_lists (opening_of three_lists)) ≡ []

abbrev pub OpeningBudgetExample : Type 0
OpeningBudgetExample = mail_budget three_lists (opening_of three_lists) ≡ 10

-- ---- attempts on the opening of three messages, whose gates are words 19 to 26, and whose segments begin at word 35
abbrev pub made_for : List (List KeyNumbers) → Made (List (List KeyNumbers))
made_for given = record { sense = given; opening = opening_of given; regions = regions_of (sizes_of given); life = 9 }

abbrev pub the_made : Made (List (List KeyNumbers))
the_made = made_for three_lists

abbrev pub the_pass : PassView
the_pass = record { state = Active; history = []; front = 0; mine = []; owned = []; share = [] ∷ [] }

abbrev pub having : List Word → List Word → Attempt
having reads writes = record { start = 0; reads = reads; writes = writes; sealed = []; published = [] }

-- the word of lane 0 was read, and then the gate of its segment
abbrev pub OpenedSegmentExample : Type 0
OpenedSegmentExample = OpenedSegment the_made the_pass the_pass (having [] []) (having (word 1 1 ∷ word 19 1 ∷ []) []) 0 0

-- ---- attempts on the opening of 3,952 messages of one word each, which has nine segments
abbrev pub many_lists : List (List KeyNumbers)
many_lists = replicate 3952 (a ∷ [])

-- the pool was read as 8, and the gate of segment 8 as unused. Three messages have no such segment
abbrev pub FoundUnusedExample : Type 0
FoundUnusedExample =
    FoundUnused (made_for many_lists) the_pass the_pass (having [] []) (having (word 0 8 ∷ word 3976 0 ∷ []) []) 8
    × (¬ FoundUnused the_made the_pass the_pass (having [] []) (having (word 0 8 ∷ word 27 0 ∷ []) []) 8)

-- segment 8 in front of segment 2, which is lane 2's own: its gate, its free offset, its link, the lane, and the pool
abbrev pub FreshWritesExample : Type 0
FreshWritesExample =
    writes_of_fresh (made_for many_lists) [] 2 2 8 ≡ word 3976 1 ∷ word 266130 1032 ∷ word 3985 3 ∷ word 3 9 ∷ word 0 9 ∷ []

-- the pool wasn't raised
abbrev pub MadeFreshExample : Type 0
MadeFreshExample =
    ¬ MadeFresh (made_for many_lists) the_pass the_pass (having [] [])
    (having (word 0 8 ∷ word 3976 0 ∷ []) (word 3976 1 ∷ word 266130 1032 ∷ word 3985 3 ∷ word 3 9 ∷ [])) 2 2 8
