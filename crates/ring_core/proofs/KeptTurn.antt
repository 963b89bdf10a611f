-- A step of a turn keeps what holds of a caller, and leaves fewer steps.
use Rattle.std.proofs.Common.{ℕ, ◌+◌, ◌-◌, ◌<◌, ◌≤◌, ◌==◌, nat_lt, nat_le, length, take, set, refl, arith}
use Rattle.std.proofs.lemmas.Bool.{cond_both, ltb-true, eqb-false}
use Rattle.ring_sig.specs.Signature.{meets}
use Rattle.ring_core.specs.declared.shape.Shape.{Shape}
use Rattle.ring_core.specs.declared.caller.Caller.{Caller}
use Rattle.ring_core.specs.declared.stage.Stage.TheVariants.{Turn}
use Rattle.ring_core.specs.declared.stage.TurnStage.{TurnStage}
use Rattle.ring_core.specs.declared.stage.TurnStage.TheVariants.{Filling, Signature, Writing, Earlier, EarlierWords, EarlierAgain, Heap, Before, Complete}
use Rattle.ring_core.specs.Shape.{IsShape}
use Rattle.ring_core.specs.Outcomes.{goes, earlier_from, turn_signature, turn_earlier, compared, turn_words, turn_again, turn_heap, turn_before, turn_after}
use Rattle.ring_core.specs.Steps.{steps_at, walk_steps}
use Rattle.ring_core.specs.Sound.{IsTurnStage, IsStamped}
use Rattle.ring_core.specs.Tags.{complete}
use Rattle.ring_core.proofs.Kept.{Keeps, IsSteady, some_words, stamped_steady, loads, one_entry, same_rest, goes_keeps, waits_keeps, idle_keeps}

module _ (shape : Shape) (good : IsShape shape) where
  module _ (c : Caller) (steady : IsSteady shape c) (at : IsStamped shape c.state c.writes c.start c.stamp) where
    wide : 0 < shape.sig_words
    wide = some_words shape.sig_words good.words

    turn_keeps : (stage : TurnStage) (bound : ℕ) → IsTurnStage shape c stage → steps_at shape c (Turn stage) < bound → Keeps shape bound (goes c (Turn stage))
    turn_keeps stage bound fits fewer = goes_keeps shape good c steady (Turn stage) bound refl (at, fits) fewer

    -- some entry before, or none any more
    earlier_keeps : (entry bound : ℕ) → entry < c.stamp → walk_steps shape (entry - c.start) + length c.writes + 2 < bound
        → Keeps shape bound (earlier_from c entry)
    earlier_keeps entry bound before fewer =
        let some = at.wrote in
        cond_both (nat_lt c.start entry) _ _ (λ stage. Keeps shape bound (goes c (Turn stage)))
        (λ yes. turn_keeps (Earlier entry) bound (ltb-true _ _ yes, before) fewer)
        (λ no. turn_keeps (Heap 0) bound some (omega arith))

    signature_keeps : (word : ℕ) → word < shape.sig_words → Keeps shape (steps_at shape c (Turn (Signature word))) (turn_signature shape c word)
    signature_keeps word below =
        cond_both (nat_lt (word + 1) shape.sig_words) _ _ (λ stage. Keeps shape (steps_at shape c (Turn (Signature word))) (goes c (Turn stage)))
        (λ yes. turn_keeps (Signature (word + 1)) _ (ltb-true _ _ yes) (omega arith))
        (λ no. turn_keeps Writing _ tt (omega arith))

    earlier_tag_keeps : (entry tag : ℕ) → (c.start < entry) × (entry < c.stamp)
        → Keeps shape (steps_at shape c (Turn (Earlier entry))) (turn_earlier c entry tag)
    earlier_tag_keeps entry tag (after, before) =
        let steps = one_entry shape good entry c.start after in
        let rest = same_rest shape good entry c.start in
        let some = wide in
        cond_both (nat_le (complete entry) tag) _ _ (Keeps shape (steps_at shape c (Turn (Earlier entry))))
        (λ yes. earlier_keeps (entry - 1) _ (omega arith) (omega arith))
        (λ no. turn_keeps (EarlierWords entry 0) _ ((after, before), some) (omega arith))

    compared_keeps : (entry bound : ℕ) → (c.start < entry) × (entry < c.stamp) → walk_steps shape (entry - c.start - 1) + 1 + length c.writes + 2 < bound
        → Keeps shape bound (compared shape c entry)
    compared_keeps entry bound (after, before) fewer =
        let rest = same_rest shape good entry c.start in
        cond_both (meets (take shape.sig_words c.loaded) c.write_sig) _ _ (Keeps shape bound)
        (λ yes. turn_keeps (EarlierAgain entry) bound (after, before) fewer)
        (λ no. earlier_keeps (entry - 1) bound (omega arith) (omega arith))

    again_keeps : (entry tag : ℕ) → (c.start < entry) × (entry < c.stamp)
        → Keeps shape (steps_at shape c (Turn (EarlierAgain entry))) (turn_again c entry tag)
    again_keeps entry tag (after, before) =
        let rest = same_rest shape good entry c.start in
        cond_both (nat_le (complete entry) tag) _ _ (Keeps shape (steps_at shape c (Turn (EarlierAgain entry))))
        (λ yes. earlier_keeps (entry - 1) _ (omega arith) (omega arith))
        (λ no. waits_keeps shape good c steady (EarlierAgain entry) entry tag _ (at, (after, before)) (omega arith))

    heap_keeps : (index : ℕ) → index < length c.writes → Keeps shape (steps_at shape c (Turn (Heap index))) (turn_heap c index)
    heap_keeps index below =
        let after = at.after in
        cond_both (nat_lt (index + 1) (length c.writes)) _ _ (λ stage. Keeps shape (steps_at shape c (Turn (Heap index))) (goes c (Turn stage)))
        (λ yes. turn_keeps (Heap (index + 1)) _ (ltb-true _ _ yes) (omega arith))
        (λ no. cond_both (c.stamp == 1) _ _ (λ stage. Keeps shape (steps_at shape c (Turn (Heap index))) (goes c (Turn stage)))
        (λ yes. turn_keeps Complete _ tt (omega arith))
        (λ no. turn_keeps Before _ (let apart = eqb-false _ _ no in omega arith) (omega arith)))

    before_keeps : (tag : ℕ) → 2 ≤ c.stamp → Keeps shape 2 (turn_before c tag)
    before_keeps tag later =
        cond_both (nat_le (complete (c.stamp - 1)) tag) _ _ (Keeps shape 2)
        (λ yes. turn_keeps Complete 2 tt (omega arith))
        (λ no. waits_keeps shape good c steady Before (c.stamp - 1) tag _ (at, later) (omega arith))

  words_keeps : (c : Caller) → IsSteady shape c → IsStamped shape c.state c.writes c.start c.stamp → (entry word value : ℕ)
      → (c.start < entry) × (entry < c.stamp) → word < shape.sig_words
      → Keeps shape (steps_at shape c (Turn (EarlierWords entry word))) (turn_words shape c entry word value)
  words_keeps c steady at entry word value between below =
      let steady' : IsSteady shape (record c { loaded = set c.loaded word value }) =
      stamped_steady shape (record c { loaded = set c.loaded word value }) (loads shape word value steady.sized) at.stamped in
      cond_both (nat_lt (word + 1) shape.sig_words) _ _ (Keeps shape (steps_at shape c (Turn (EarlierWords entry word))))
      (λ yes. turn_keeps (record c { loaded = set c.loaded word value }) steady' at (EarlierWords entry (word + 1)) _ (between, ltb-true _ _ yes) (omega arith))
      (λ no. compared_keeps (record c { loaded = set c.loaded word value }) steady' at entry _ between (omega arith))

  pub turn_after_keeps : (c : Caller) → IsSteady shape c → IsStamped shape c.state c.writes c.start c.stamp → (stage : TurnStage) (word : ℕ)
      → IsTurnStage shape c stage → Keeps shape (steps_at shape c (Turn stage)) (turn_after shape c stage word)
  turn_after_keeps c steady at Filling word fits = turn_keeps c steady at (Signature 0) _ (some_words shape.sig_words good.words) (omega arith)
  turn_after_keeps c steady at (Signature j) word fits = signature_keeps c steady at j fits
  turn_after_keeps c steady at Writing word fits = let a = at.after in earlier_keeps c steady at (c.stamp - 1) _ (omega arith) (omega arith)
  turn_after_keeps c steady at (Earlier entry) word fits = earlier_tag_keeps c steady at entry word fits
  turn_after_keeps c steady at (EarlierWords entry j) word fits = words_keeps c steady at entry j word fits.0 fits.1
  turn_after_keeps c steady at (EarlierAgain entry) word fits = again_keeps c steady at entry word fits
  turn_after_keeps c steady at (Heap index) word fits = heap_keeps c steady at index fits
  turn_after_keeps c steady at Before word fits = before_keeps c steady at word fits
  turn_after_keeps c steady at Complete word fits = idle_keeps shape good c steady _ _ (λ e. cc) (omega arith)
