-- The first words of the lanes' own segments, which a batch reads once and writes once.
use Rattle.std.specs.Prelude.{◌≡◌, ℕ, ◌-◌, ◌<◌, ◌≤◌, List, [], ◌∷◌, length, drop, Option, None, Some, slice_index_or}
use Rattle.tx_model.specs.declared.word.Word.{Word}
use Rattle.tx_model.specs.declared.view.Attempt.{Attempt}
use Rattle.tx_model.specs.declared.view.PassView.{PassView}
use Rattle.tx_model.specs.Made.{Made}
use Rattle.mail_words.specs.Key.{KeyNumbers}
use Rattle.mail_words.specs.Hash as hash
use Rattle.tx_heap.specs.Layout.{Sizes, segment_len}
use Rattle.tx_heap.specs.Segment.{free_of, keys_of, cells_of}
use Rattle.tx_heap.specs.Heap.{own_of, segment_of}
use Rattle.tx_heap.specs.Calls.{made_sizes, HoldsOverIndex}
use Rattle.tx_buckets.specs.Reading.{IsOpened}
use Rattle.tx_buckets.specs.Writing.{word, with_words}
use Rattle.tx_postings.specs.declared.heads.Head.{Head}

-- ---- of one segment
-- the words of a segment with these first three
abbrev pub headed : Head → List ℕ → List ℕ
headed head words = head.free ∷ head.keys ∷ head.cells ∷ drop 3 words

abbrev pub head_words : Head → List Word
head_words head = word 0 head.free ∷ word 1 head.keys ∷ word 2 head.cells ∷ []

-- ---- of the lanes, each of which may have none yet
-- how many words a batch takes in the lane
abbrev pub needs_of : Option Head → ℕ
needs_of None = 0
needs_of (Some head) = head.needs

abbrev pub HaveFree : List (Option Head) → Type 0
HaveFree heads = (lane : ℕ) (head : Head) → slice_index_or heads lane None ≡ Some head → head.free ≤ segment_len

abbrev pub Lacks : Head → Type 0
Lacks head = segment_len - head.free < head.needs

-- no lane's segment lacks words, or this is the lowest lane whose segment does
abbrev pub IsLowest : List (Option Head) → Option (ℕ × Head) → Type 0
IsLowest heads None = (lane : ℕ) (head : Head) → lane < length heads → slice_index_or heads lane None ≡ Some head → ¬ Lacks head
IsLowest heads (Some (lane, head)) =
    (lane < length heads) × (slice_index_or heads lane None ≡ Some head) × Lacks head
    × ((other : ℕ) (first : Head) → other < lane → slice_index_or heads other None ≡ Some first → ¬ Lacks first)

-- ---- of an attempt
-- the lane's own segment was opened, and has these first words
pub record IsHead (made : Made (List (List KeyNumbers))) (view : PassView) (attempt : Attempt) (lane : ℕ) (head : Head) : Type 0 where
  pub opened : IsOpened (made_sizes made) attempt head.segment
  pub own : HoldsOverIndex made attempt (λ heap. own_of heap lane ≡ head.segment)
  pub free : HoldsOverIndex made attempt (λ heap. free_of (segment_of heap head.segment) ≡ head.free)
  pub keys : HoldsOverIndex made attempt (λ heap. keys_of (segment_of heap head.segment) ≡ head.keys)
  pub cells : HoldsOverIndex made attempt (λ heap. cells_of (segment_of heap head.segment) ≡ head.cells)

-- the lanes of the first keys have their heads
pub record HasHeads (made : Made (List (List KeyNumbers))) (view : PassView) (attempt : Attempt) (keys : List KeyNumbers) (k : ℕ)
    (heads : List (Option Head)) : Type 0 where
  pub many : length heads ≡ 8
  pub are : (lane : ℕ) (head : Head) → slice_index_or heads lane None ≡ Some head → IsHead made view attempt lane head
  pub met : (j : ℕ) (key : KeyNumbers) → j < k → j < length keys
      → (head : Head) × (slice_index_or heads (hash.lane_of (slice_index_or keys j key)) None ≡ Some head)

-- the attempt with the first words of these segments written
abbrev pub with_heads : Sizes → Attempt → List (Option Head) → Attempt
with_heads sizes attempt [] = attempt
with_heads sizes attempt (None ∷ heads) = with_heads sizes attempt heads
with_heads sizes attempt (Some head ∷ heads) = with_heads sizes (with_words sizes head.segment attempt (head_words head)) heads
