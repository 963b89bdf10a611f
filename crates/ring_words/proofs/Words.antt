-- The words of a world in the table.
use Rattle.std.proofs.Common.{◌≡◌, ℕ, suc, ◌+◌, ◌*◌, ◌%◌, ◌<◌, ◌≤◌, ◌++◌, length, slice_index, refl, sym, ◌∙◌, ap, arith, mod-lt}
use Rattle.std.proofs.lemmas.List.{get_or_append_left, get_or-append-add}
use Rattle.std.proofs.lemmas.Nat.{mul-le}
use Rattle.tx_model.specs.Words.{no_word}
use Rattle.ring_core.specs.declared.shape.Shape.{Shape}
use Rattle.ring_core.specs.declared.caller.Caller.{Caller}
use Rattle.ring_core.specs.declared.action.Action.{Action}
use Rattle.ring_core.specs.declared.action.Action.TheVariants as action
use Rattle.ring_core.specs.declared.stage.Stage.{Stage}
use Rattle.ring_core.specs.declared.stage.Stage.TheVariants.{Closed, BeginIndex, BeginTag, ReadHeap, Check, StampSlot, StampSwap, Turn, Between}
use Rattle.ring_core.specs.declared.stage.Purpose.{Purpose}
use Rattle.ring_core.specs.declared.stage.CheckStage.{CheckStage}
use Rattle.ring_core.specs.declared.stage.CheckStage.TheVariants.{Index, First, Words, Second}
use Rattle.ring_core.specs.declared.stage.TurnStage.{TurnStage}
use Rattle.ring_core.specs.declared.stage.TurnStage.TheVariants.{Filling, Signature, Writing, Earlier, EarlierWords, EarlierAgain, Heap, Before, Complete}
use Rattle.ring_core.specs.Request.{next_action, action_at, check_action, turn_action}
use Rattle.ring_core.specs.Sound.{IsSound, IsStage, IsCheckStage, IsTurnStage}
use Rattle.ring_core.specs.Shape.{IsShape}
use Rattle.ring_worlds.specs.World.{World}
use Rattle.ring_worlds.specs.Sound.{Sound}
use Rattle.ring_worlds.specs.Steps.{found}
use Rattle.ring_worlds.specs.Table.{words_of}
use Rattle.ring_words.specs.Layout.{table_size, index_at, IsInside}
use Rattle.ring_words.proofs.Finds.{Finds}

-- ---- the next step of a caller touches a word of the ring
below_rows : (slot ring words word : ℕ) → slot < ring → word < words → slot * words + word < ring * words
below_rows slot ring words word row column =
    let rows : (slot + 1) * words ≤ ring * words = mul-le (slot + 1) words ring words (omega arith) (omega arith) in grind arith

module _ (shape : Shape) (limits : IsShape shape) where
  slot_below : (entry : ℕ) → entry % shape.ring < shape.ring
  slot_below entry = mod-lt entry (omega (arith, limits.some_entry))

  word_below : (entry word : ℕ) → word < shape.sig_words → entry % shape.ring * shape.sig_words + word < shape.ring * shape.sig_words
  word_below entry word below = below_rows (entry % shape.ring) shape.ring shape.sig_words word (slot_below entry) below

  module _ (c : Caller) (sound : IsSound shape c) where
    check_inside : (purpose : Purpose) (inner : CheckStage) → IsCheckStage shape c.start purpose inner → IsInside shape (check_action shape inner)
    check_inside purpose Index at = tt
    check_inside purpose (First walk) at = slot_below walk.at
    check_inside purpose (Words walk word) at = word_below walk.at word at.1
    check_inside purpose (Second walk) at = slot_below walk.at

    turn_inside : (inner : TurnStage) → IsTurnStage shape c inner → IsInside shape (turn_action shape c inner)
    turn_inside Filling at = slot_below c.stamp
    turn_inside (Signature word) at = word_below c.stamp word at
    turn_inside Writing at = slot_below c.stamp
    turn_inside (Earlier entry) at = slot_below entry
    turn_inside (EarlierWords entry word) at = word_below entry word at.1
    turn_inside (EarlierAgain entry) at = slot_below entry
    turn_inside (Heap index) at = sound.sized.within index no_word at
    turn_inside Before at = slot_below _
    turn_inside Complete at = slot_below c.stamp

    inside_at : (stage : Stage) → IsStage shape c stage → IsInside shape (action_at shape c stage)
    inside_at Closed at = tt
    inside_at BeginIndex at = tt
    inside_at (BeginTag top entry) at = slot_below entry
    inside_at (ReadHeap addr) at = at.1
    inside_at (Check purpose inner) at = check_inside purpose inner at.2
    inside_at (StampSlot top) at = slot_below _
    inside_at (StampSwap top) at = tt
    inside_at (Turn inner) at = turn_inside inner at.1
    inside_at (Between inner) at = tt

    pub next_inside : IsInside shape (next_action shape c)
    next_inside = inside_at c.stage sound.stage

  pub index_below : (a : Action) → IsInside shape a → index_at shape a < table_size shape
  index_below action.LoadIndex inside = omega arith
  index_below (action.SwapIndex from) inside = omega arith
  index_below (action.LoadTag slot) inside = let below : slot < shape.ring = inside in omega (arith, below)
  index_below (action.StoreTag slot tag) inside = let below : slot < shape.ring = inside in omega (arith, below)
  index_below (action.LoadSig slot word) inside =
      let at : ℕ = slot * shape.sig_words + word in let all : ℕ = shape.ring * shape.sig_words in let below : at < all = inside in
      let goal : 1 + shape.ring + at < 1 + shape.ring + all + shape.heap = omega (arith, below) in goal
  index_below (action.StoreSig slot word value) inside =
      let at : ℕ = slot * shape.sig_words + word in let all : ℕ = shape.ring * shape.sig_words in let below : at < all = inside in
      let goal : 1 + shape.ring + at < 1 + shape.ring + all + shape.heap = omega (arith, below) in goal
  index_below (action.LoadHeap addr) inside = let below : addr < shape.heap = inside in omega (arith, below)
  index_below (action.StoreHeap addr value) inside = let below : addr < shape.heap = inside in omega (arith, below)
  index_below action.Idle inside = omega arith

-- ---- what is found there
module _ (w : World) (s : Sound w) where
  behind_tags : (n : ℕ) → slice_index (words_of w) (1 + w.shape.ring + n) ≡ slice_index (w.sigs ++ w.heap) n
  behind_tags n =
      let at : 1 + w.shape.ring + n ≡ suc (length w.tags + n) = omega (arith, s.board.slots) in
      ap (slice_index (words_of w)) at ∙ get_or-append-add w.tags (w.sigs ++ w.heap) n 0

  pub word_here : (a : Action) → Finds a → IsInside w.shape a → slice_index (words_of w) (index_at w.shape a) ≡ found w a
  word_here action.LoadIndex load inside = refl
  word_here (action.LoadTag slot) load inside =
      let at : 1 + slot ≡ suc slot = omega arith in
      let below : slot < length w.tags = omega (arith, inside, s.board.slots) in
      ap (slice_index (words_of w)) at ∙ get_or_append_left w.tags (w.sigs ++ w.heap) 0 slot below
  word_here (action.LoadSig slot word) load inside =
      let below : slot * w.shape.sig_words + word < length w.sigs = subst_below (sym s.board.words) inside in
      behind_tags (slot * w.shape.sig_words + word) ∙ get_or_append_left w.sigs w.heap 0 (slot * w.shape.sig_words + word) below
    where
      subst_below : {m n : ℕ} → m ≡ n → slot * w.shape.sig_words + word < m → slot * w.shape.sig_words + word < n
      subst_below {m} {n} e below = omega (arith, e, below)
  word_here (action.LoadHeap addr) load inside =
      let rows : ℕ = w.shape.ring * w.shape.sig_words in
      let as_many : rows ≡ length w.sigs = sym s.board.words in
      let at : 1 + w.shape.ring + rows + addr ≡ 1 + w.shape.ring + (length w.sigs + addr) = omega (arith, as_many) in
      ap (slice_index (words_of w)) at ∙ behind_tags (length w.sigs + addr) ∙ get_or-append-add w.sigs w.heap addr 0
  word_here (action.SwapIndex from) load inside = refl
  word_here (action.StoreTag slot tag) load inside = absurd load
  word_here (action.StoreSig slot word value) load inside = absurd load
  word_here (action.StoreHeap addr value) load inside = absurd load
  word_here action.Idle load inside = absurd load
