-- The memory that an index begins with: no word of any message is in it yet.
use Rattle.std.specs.Prelude.{ℕ, ◌-◌, List, ◌∷◌, ◌++◌, length, map, replicate, nat_lt, if◌then◌else◌}
use Rattle.std.specs.List.{flat_map, range_with_len}
use Rattle.tx_model.specs.declared.gate.TheConstants.{GATE_UNUSED, GATE_OPEN}
use Rattle.mail_words.specs.Key.{KeyNumbers}
use Rattle.tx_heap.specs.Layout.{sizes_of, segment_len, mail_layout}
use Rattle.tx_heap.specs.Segment.{first_at}

-- a segment with the free offset `free`, of so many words
unfoldable pub blank_segment : ℕ → ℕ → List ℕ
blank_segment free len = free ∷ replicate (len - 1) 0

-- the first eight segments are open and empty, the others unused
abbrev pub opening_free : ℕ → ℕ
opening_free segment = if nat_lt segment 8 then first_at mail_layout else 0

abbrev pub opening_segment : ℕ → List ℕ
opening_segment segment = blank_segment (opening_free segment) segment_len

-- eight segments in use; lane j has segment j, as j + 1; seven unused words
abbrev pub opening_lanes : List ℕ
opening_lanes = 8 ∷ range_with_len 1 8 ++ replicate 7 0

-- all words of each message are still to come
abbrev pub opening_needs : List (List KeyNumbers) → List ℕ
opening_needs lists = map length lists

abbrev pub opening_gates : ℕ → List ℕ
opening_gates segments = replicate 8 GATE_OPEN ++ replicate (segments - 8) GATE_UNUSED

abbrev pub opening_links : ℕ → List ℕ
opening_links segments = replicate segments 0

abbrev pub opening_segments : ℕ → List ℕ
opening_segments segments = flat_map opening_segment (range_with_len 0 segments)

abbrev pub opening_with : List (List KeyNumbers) → ℕ → List ℕ
opening_with lists segments =
    opening_lanes ++ (opening_needs lists ++ (opening_gates segments ++ (opening_links segments ++ opening_segments segments)))

abbrev pub opening_of : List (List KeyNumbers) → List ℕ
opening_of lists = opening_with lists (sizes_of lists).segments
