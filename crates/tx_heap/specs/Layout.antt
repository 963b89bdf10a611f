-- Where the words of an index lie in a memory.
use Rattle.std.specs.Prelude.{ℕ, ◌+◌, ◌*◌, ◌/◌, ◌≤◌, List, length, map}
use Rattle.std.specs.List.{range_with_len}
use Rattle.tx_model.specs.declared.gate.Region.{Region}
use Rattle.mail_words.specs.Key.{KeyNumbers}
use Rattle.mail_words.specs.Hash as hash
use Rattle.mail_words.specs.Lists.{postings_in}

-- ---- what the definitions of an index leave open
-- how many buckets a segment has, which bucket and which lane a key is in, and how many rows a segment has at least
-- that was left for a fresh one
pub record Layout : Type 0 where
  pub buckets : ℕ
  pub bucket_of : KeyNumbers → ℕ
  pub lane_of : KeyNumbers → ℕ
  pub least_rows : ℕ

-- the layout of the index of a mailbox
abbrev pub mail_layout : Layout
mail_layout = record { buckets = 1024; bucket_of = hash.bucket_of; lane_of = hash.lane_of; least_rows = 3952 }

-- a segment of so few free words may not have room for a batch
abbrev pub full_below : ℕ
full_below = 128

-- ---- sizes
-- how many messages and how many segments a memory has words for
pub record Sizes : Type 0 where
  pub messages : ℕ
  pub segments : ℕ

-- a segment left for a fresh one has at least 3,952 rows, and each of the eight lanes has a segment from the start
abbrev pub segments_for : ℕ → ℕ
segments_for postings = 8 + postings / 3952

abbrev pub sizes_of : List (List KeyNumbers) → Sizes
sizes_of lists = record { messages = length lists; segments = segments_for (postings_in lists) }

-- the sizes that a memory may have
pub record IsWithinLimits (sizes : Sizes) : Type 0 where
  pub messages : sizes.messages ≤ 1048576
  pub lanes : 8 ≤ sizes.segments
  pub segments : sizes.segments ≤ 2130

abbrev pub segment_len : ℕ
segment_len = 32768

-- ---- addresses: the pool, the eight lanes, seven unused words, a need for each message, a gate and a link for each
-- segment, the segments
abbrev pub pool_at : ℕ
pool_at = 0

abbrev pub lane_at : ℕ → ℕ
lane_at lane = 1 + lane

-- messages count from 1
abbrev pub need_at : ℕ → ℕ
need_at message = 15 + message

abbrev pub gate_at : Sizes → ℕ → ℕ
gate_at sizes segment = 16 + sizes.messages + segment

abbrev pub link_at : Sizes → ℕ → ℕ
link_at sizes segment = 16 + sizes.messages + sizes.segments + segment

abbrev pub base_at : Sizes → ℕ → ℕ
base_at sizes segment = 16 + sizes.messages + 2 * sizes.segments + segment_len * segment

-- the number of words
abbrev pub words_of : Sizes → ℕ
words_of sizes = base_at sizes sizes.segments

abbrev pub region_of : Sizes → ℕ → Region
region_of sizes segment =
    record { gate = gate_at sizes segment; base = base_at sizes segment; len = segment_len }

-- the regions of a memory: its segments
abbrev pub regions_of : Sizes → List Region
regions_of sizes = map (region_of sizes) (range_with_len 0 sizes.segments)
