-- What the words of a memory mean that has the index of a mailbox.
use Rattle.std.specs.Prelude.{◌≡◌, ℕ, List, length}
use Rattle.tx_model.specs.declared.gate.Region.{Region}
use Rattle.mail_words.specs.Key.{KeyNumbers}
use Rattle.tx_heap.specs.Layout.{mail_layout, sizes_of, words_of, regions_of}
use Rattle.tx_heap.specs.Heap.{Heap, heap_of, budget_of}
use Rattle.tx_heap.specs.Index.{IsGoodIndex}
use Rattle.tx_heap.specs.Opening.{opening_of}

-- the regions are the segments of the plan
abbrev pub AllowsRegions : List (List KeyNumbers) → List Region → Type 0
AllowsRegions lists regions = regions ≡ regions_of (sizes_of lists)

abbrev pub mail_heap : List (List KeyNumbers) → List ℕ → Heap
mail_heap lists memory = heap_of (sizes_of lists) memory

-- a good memory: it began as the opening of the lists, and its words are an index of them
pub record IsGoodMail (lists : List (List KeyNumbers)) (opening memory : List ℕ) : Type 0 where
  pub opened : opening ≡ opening_of lists
  pub size : length memory ≡ words_of (sizes_of lists)
  pub index : IsGoodIndex mail_layout lists (mail_heap lists memory)

abbrev pub mail_budget : List (List KeyNumbers) → List ℕ → ℕ
mail_budget lists memory = budget_of (mail_heap lists memory)
