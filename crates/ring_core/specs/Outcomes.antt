-- What follows from the word that a step found: the caller's state after it, and the answer.
use Rattle.std.specs.Prelude.{ℕ, ◌+◌, ◌-◌, Bool, false, ◌==◌, ◌&&◌, nat_lt, nat_le, if◌then◌else◌, [], length, take, replicate, min, slice_set}
use Rattle.tx_model.specs.declared.pass.PassState.TheVariants as state
use Rattle.tx_model.specs.declared.pass.Stop.{Stop}
use Rattle.tx_model.specs.declared.pass.Stop.TheVariants.{Met, Overrun}
use Rattle.ring_sig.specs.Signature.{place_of, bits_of, with_place, meets}
use Rattle.ring_core.specs.declared.shape.Shape.{Shape}
use Rattle.ring_core.specs.declared.caller.Caller.{Caller}
use Rattle.ring_core.specs.declared.action.Progress.{Progress}
use Rattle.ring_core.specs.declared.action.Progress.TheVariants as answer
use Rattle.ring_core.specs.declared.action.Later.TheVariants.{Lost, Unpublished, SlotBusy, Order}
use Rattle.ring_core.specs.declared.stage.Stage.{Stage}
use Rattle.ring_core.specs.declared.stage.Stage.TheVariants.{Closed, BeginIndex, BeginTag, ReadHeap, Check, StampSlot, StampSwap, Turn, Between}
use Rattle.ring_core.specs.declared.stage.Purpose.{Purpose}
use Rattle.ring_core.specs.declared.stage.Purpose.TheVariants.{Read, Stamp}
use Rattle.ring_core.specs.declared.stage.CheckStage.{CheckStage}
use Rattle.ring_core.specs.declared.stage.CheckStage.TheVariants.{Index, First, Words, Second}
use Rattle.ring_core.specs.Tags.{writing, complete, entry_of}
use Rattle.ring_core.specs.declared.stage.Walk.{Walk}
use Rattle.ring_core.specs.declared.stage.TurnStage.{TurnStage}
use Rattle.ring_core.specs.declared.stage.TurnStage.TheVariants.{Filling, Signature, Writing, Earlier, EarlierWords, EarlierAgain, Heap, Before, Complete}

pub record Outcome : Type 0 where
  pub caller : Caller
  pub progress : Progress

abbrev pub made : Caller → Progress → Outcome
made c progress = record { caller = c; progress = progress }

-- the request goes on at this stage
abbrev pub goes : Caller → Stage → Outcome
goes c stage = made (record c { stage = stage }) answer.Going

-- the request ends
abbrev pub ends : Caller → Progress → Outcome
ends c progress = made (record c { stage = Closed }) progress

-- an attempt without reads and writes, at this start
abbrev pub started : Caller → ℕ → Outcome
started c start = made (record c { state = state.Active; start = start; stage = Closed }) (answer.Started start)

-- a turn waits here
abbrev pub waits : Caller → TurnStage → ℕ → ℕ → Outcome
waits c stage entry tag = made (record c { stage = Between stage }) (answer.Later (Order entry tag))

-- the walk at the entry before
abbrev pub below : Walk → ℕ → Walk
below walk candidate = record { top = walk.top; at = walk.at - 1; candidate = candidate }

-- the caller before its first attempt
abbrev pub opening : Shape → Caller
opening shape = record {
  state = state.Idle;
  start = 0;
  stamp = 0;
  read_sig = replicate shape.sig_words 0;
  writes = [];
  write_sig = replicate shape.sig_words 0;
  loaded = replicate 16 0;
  stage = Closed;
}

-- the caller with no attempt
abbrev pub idle : Shape → Caller → Caller
idle shape c = record c {
  state = state.Idle;
  stamp = 0;
  read_sig = replicate shape.sig_words 0;
  writes = [];
  write_sig = replicate shape.sig_words 0;
  stage = Closed;
}

-- ---- begin: the start is the greatest complete entry among the last of the ring, or the number of those before them
module _ (shape : Shape) where
  abbrev pub begin_from : Caller → ℕ → ℕ → Outcome
  begin_from c top at =
      if nat_lt (top - shape.ring) at then goes c (BeginTag top at) else started c (top - shape.ring)

  abbrev pub begin_tag : Caller → ℕ → ℕ → ℕ → Outcome
  begin_tag c top at tag =
      if nat_le (complete at) tag then started c at else begin_from c top (at - 1)

-- ---- read: the address joins the signature, and then the newer entries are checked
abbrev pub read_at : Caller → ℕ → Caller
read_at c addr = record c { read_sig = with_place c.read_sig (place_of addr (bits_of c.read_sig)) }

abbrev pub read_heap : Caller → ℕ → ℕ → Outcome
read_heap c addr value = goes (read_at c addr) (Check (Read addr value) Index)

-- ---- check: every entry after the start, the newest first
-- the end of a check: a read has its value, and a stamp goes on
abbrev pub checked : Caller → Purpose → Walk → Outcome
checked c (Read addr value) walk = ends (record c { start = walk.candidate }) (answer.Value value)
checked c Stamp walk = goes (record c { start = walk.candidate }) (StampSlot walk.top)

abbrev pub check_from : Caller → Purpose → Walk → Outcome
check_from c purpose walk =
    if nat_lt c.start walk.at then goes c (Check purpose (First walk)) else checked c purpose walk

-- the newest entry isn't published: a read passes it over, and is known good only up to the entry before
abbrev pub unpublished : Caller → Purpose → Walk → ℕ → Outcome
unpublished c (Read addr value) walk tag =
    check_from c (Read addr value) (below walk (min walk.candidate (walk.at - 1)))
unpublished c Stamp walk tag = ends c (answer.Later (Unpublished walk.at tag))

-- an entry that is still writing isn't passed by the start
abbrev pub candidate_after : Walk → ℕ → ℕ
candidate_after walk tag =
    if tag == writing walk.at then min walk.candidate (walk.at - 1) else walk.candidate

module _ (shape : Shape) where
  abbrev pub stops : Caller → Stop → Outcome
  stops c stop = made (idle shape c) (answer.Stopped stop)

  abbrev pub is_worn : Purpose → ℕ → Bool
  is_worn (Read addr value) index = false
  is_worn Stamp index = index == shape.life

  abbrev pub check_index : Caller → Purpose → ℕ → Outcome
  check_index c purpose index =
      if is_worn purpose index then made (idle shape c) (answer.Worn index) else
      (if nat_lt shape.ring (index - c.start) then stops c (Overrun (c.start + 1) index) else
      check_from c purpose (record { top = index; at = index; candidate = index }))

  abbrev pub check_first : Caller → Purpose → Walk → ℕ → Outcome
  check_first c purpose walk tag =
      if nat_lt (complete walk.at) tag then stops c (Overrun walk.at (entry_of tag)) else
      (if nat_lt tag (writing walk.at) then unpublished c purpose walk tag else goes c (Check purpose (Words walk 0)))

  abbrev pub check_words : Caller → Purpose → Walk → ℕ → ℕ → Outcome
  check_words c purpose walk word value =
      goes (record c { loaded = slice_set c.loaded word value })
      (Check purpose (if nat_lt (word + 1) shape.sig_words then Words walk (word + 1) else Second walk))

  abbrev pub check_second : Caller → Purpose → Walk → ℕ → Outcome
  check_second c purpose walk tag =
      if nat_lt (complete walk.at) tag then stops c (Overrun walk.at (entry_of tag)) else
      (if meets (take shape.sig_words c.loaded) c.read_sig then stops c (Met walk.at) else
      check_from c purpose (below walk (candidate_after walk tag)))

  abbrev pub check_after : Caller → Purpose → CheckStage → ℕ → Outcome
  check_after c purpose Index index = check_index c purpose index
  check_after c purpose (First walk) tag = check_first c purpose walk tag
  check_after c purpose (Words walk word) value = check_words c purpose walk word value
  check_after c purpose (Second walk) tag = check_second c purpose walk tag

  -- ---- stamp: the slot that is wanted must be free of its old entry
  abbrev pub stamp_slot : Caller → ℕ → ℕ → Outcome
  stamp_slot c top tag =
      let old = top + 1 - shape.ring in
      if nat_lt shape.ring (top + 1) && nat_lt tag (complete old) then ends c (answer.Later (SlotBusy old tag)) else goes c (StampSwap top)

abbrev pub stamp_swap : Caller → ℕ → ℕ → Outcome
stamp_swap c top found =
    if found == top then
    made (record c { state = state.Stamped; stamp = top + 1; stage = Between Filling }) (answer.Stamped (top + 1))
    else ends c (answer.Later (Lost found))

-- ---- turn
-- every entry after the start is waited for, the newest first, where its signature meets the caller's; then the words are stored
abbrev pub earlier_from : Caller → ℕ → Outcome
earlier_from c at = goes c (Turn (if nat_lt c.start at then Earlier at else Heap 0))

abbrev pub turn_earlier : Caller → ℕ → ℕ → Outcome
turn_earlier c at tag =
    if nat_le (complete at) tag then earlier_from c (at - 1) else goes c (Turn (EarlierWords at 0))

abbrev pub turn_again : Caller → ℕ → ℕ → Outcome
turn_again c at tag =
    if nat_le (complete at) tag then earlier_from c (at - 1) else waits c (EarlierAgain at) at tag

-- the words are stored in order, and then the entry before must be complete, if there is one
abbrev pub turn_heap : Caller → ℕ → Outcome
turn_heap c index =
    goes c (Turn (if nat_lt (index + 1) (length c.writes) then Heap (index + 1) else
    (if c.stamp == 1 then Complete else Before)))

abbrev pub turn_before : Caller → ℕ → Outcome
turn_before c tag =
    if nat_le (complete (c.stamp - 1)) tag then goes c (Turn Complete) else waits c Before (c.stamp - 1) tag

module _ (shape : Shape) where
  abbrev pub turn_signature : Caller → ℕ → Outcome
  turn_signature c word =
      goes c (Turn (if nat_lt (word + 1) shape.sig_words then Signature (word + 1) else Writing))

  abbrev pub compared : Caller → ℕ → Outcome
  compared c at =
      if meets (take shape.sig_words c.loaded) c.write_sig then goes c (Turn (EarlierAgain at)) else earlier_from c (at - 1)

  abbrev pub turn_words : Caller → ℕ → ℕ → ℕ → Outcome
  turn_words c at word value =
      let c' = record c { loaded = slice_set c.loaded word value } in
      if nat_lt (word + 1) shape.sig_words then goes c' (Turn (EarlierWords at (word + 1))) else compared c' at

  abbrev pub turn_after : Caller → TurnStage → ℕ → Outcome
  turn_after c Filling word = goes c (Turn (Signature 0))
  turn_after c (Signature j) word = turn_signature c j
  turn_after c Writing word = earlier_from c (c.stamp - 1)
  turn_after c (Earlier at) tag = turn_earlier c at tag
  turn_after c (EarlierWords at j) word = turn_words c at j word
  turn_after c (EarlierAgain at) tag = turn_again c at tag
  turn_after c (Heap index) word = turn_heap c index
  turn_after c Before tag = turn_before c tag
  turn_after c Complete word = made (idle shape c) (answer.Completed c.stamp)

  -- ---- all requests
  abbrev pub outcome_at : Caller → Stage → ℕ → Outcome
  outcome_at c Closed word = made c answer.Going
  outcome_at c BeginIndex index = begin_from shape c index index
  outcome_at c (BeginTag top at) tag = begin_tag shape c top at tag
  outcome_at c (ReadHeap addr) value = read_heap c addr value
  outcome_at c (Check purpose stage) word = check_after shape c purpose stage word
  outcome_at c (StampSlot top) tag = stamp_slot shape c top tag
  outcome_at c (StampSwap top) found = stamp_swap c top found
  outcome_at c (Turn stage) word = turn_after c stage word
  outcome_at c (Between stage) word = made c answer.Going

  -- the caller and the answer after its next step found this word
  abbrev pub absorbed : Caller → ℕ → Outcome
  absorbed c word = outcome_at c c.stage word
