-- A step of a check or a stamp keeps what holds of a caller, and leaves fewer steps.
use Rattle.std.proofs.Common.{◌≡◌, ℕ, ◌+◌, ◌-◌, ◌<◌, ◌≤◌, ◌==◌, ◌&&◌, inl, inr, nat_lt, cond, length, take, set, min, refl, arith}
use Rattle.std.proofs.lemmas.Bool.{cond_both, ltb-true, ltb-false, eqb-false}
use Rattle.tx_model.specs.declared.pass.PassState.TheVariants as state
use Rattle.tx_model.specs.declared.pass.Stop.TheVariants.{Overrun}
use Rattle.ring_sig.specs.Signature.{place_of, bits_of, with_place, meets}
use Rattle.ring_core.specs.declared.shape.Shape.{Shape}
use Rattle.ring_core.specs.declared.caller.Caller.{Caller}
use Rattle.ring_core.specs.declared.action.Progress.TheVariants as answer
use Rattle.ring_core.specs.declared.stage.Stage.TheVariants.{ReadHeap, Check, StampSwap, Between}
use Rattle.ring_core.specs.declared.stage.TurnStage.TheVariants.{Filling}
use Rattle.ring_core.specs.declared.stage.Purpose.{Purpose}
use Rattle.ring_core.specs.declared.stage.Purpose.TheVariants.{Read, Stamp}
use Rattle.ring_core.specs.declared.stage.CheckStage.{CheckStage}
use Rattle.ring_core.specs.declared.stage.CheckStage.TheVariants.{Index, First, Words, Second}
use Rattle.ring_core.specs.declared.stage.Walk.{Walk}
use Rattle.ring_core.specs.Shape.{IsShape}
use Rattle.ring_core.specs.Outcomes.{made, goes, idle, below, read_heap, check_index, unpublished, check_first, check_words, candidate_after, check_second, check_after, check_from, stamp_slot, stamp_swap}
use Rattle.ring_core.specs.Steps.{steps_at, walk_steps, after_check}
use Rattle.ring_core.specs.Sound.{IsPurpose, IsCheckStage, IsWalk, IsStamping}
use Rattle.ring_core.specs.Words.{IsCheckWord}
use Rattle.ring_core.specs.Tags.{writing, complete}
use Rattle.ring_core.proofs.Kept.{Keeps, IsReady, IsSteady, active≢stamped, some_words, sound_of, active_steady, stamped_steady, resized, loads, one_entry, same_rest, most_entries, goes_keeps, ends_keeps, idle_keeps, check_from_keeps}

module _ (shape : Shape) (good : IsShape shape) where
  -- the walk at the entry before
  stepped : (start : ℕ) (purpose : Purpose) (walk : Walk) (candidate : ℕ) → IsWalk shape start purpose walk → walk.at - 1 ≤ candidate → candidate ≤ walk.top
      → IsReady shape start purpose (below walk candidate)
  stepped start purpose walk candidate w kept most =
      let after = w.after in
      let within = w.within in
      record {
        reached = omega arith;
        within = omega arith;
        lived = w.lived;
        near = w.near;
        kept = kept;
        most = most;
        free = w.free;
      }

  module _ (c : Caller) (steady : IsSteady shape c) (active : c.state ≡ state.Active) where
    unstamped : c.stamp ≡ 0
    unstamped = steady.unstamped (active≢stamped c.state active)

    pub read_heap_keeps : (addr value : ℕ) → length (with_place c.read_sig (place_of addr (bits_of c.read_sig))) ≡ shape.sig_words
        → Keeps shape (steps_at shape c (ReadHeap addr)) (read_heap c addr value)
    read_heap_keeps addr value wide = record {
      sound = sound_of shape (read_heap c addr value).caller
          (active_steady shape (read_heap c addr value).caller (resized shape steady.sized steady.sized.lived wide steady.sized.scratch) active unstamped)
          (active, tt, tt);
      fewer = omega arith;
      tells = inl (refl, refl);
    }

    from_index : (purpose : Purpose) (index : ℕ) → IsPurpose shape c purpose → c.start ≤ index → index ≤ shape.life → (purpose ≡ Stamp → index < shape.life)
        → Keeps shape (1 + walk_steps shape shape.ring + after_check purpose)
        (cond (nat_lt shape.ring (index - c.start)) (made (idle shape c) (answer.Stopped (Overrun (c.start + 1) index)))
        (check_from c purpose (record { top = index; at = index; candidate = index })))
    from_index purpose index wants above lived free =
        cond_both (nat_lt shape.ring (index - c.start)) _ _ (Keeps shape (1 + walk_steps shape shape.ring + after_check purpose))
        (λ yes. idle_keeps shape good c steady _ _ (λ e. cc) (omega arith))
        (λ no.
        let near : index - c.start ≤ shape.ring = ltb-false _ _ no in
        let most = most_entries shape good (index - c.start) near in
        check_from_keeps shape good c purpose _ _ steady active wants
        (record {
          reached = above;
          within = omega arith;
          lived = lived;
          near = near;
          kept = omega arith;
          most = omega arith;
          free = free;
        }) (omega arith))

    check_index_keeps : (purpose : Purpose) (index : ℕ) → IsPurpose shape c purpose → c.start ≤ index → index ≤ shape.life
        → Keeps shape (1 + walk_steps shape shape.ring + after_check purpose) (check_index shape c purpose index)
    check_index_keeps (Read addr value) index wants above lived =
        from_index (Read addr value) index wants above lived (λ e. absurd (cc))
    check_index_keeps Stamp index wants above lived =
        cond_both (index == shape.life) _ _ (Keeps shape (1 + walk_steps shape shape.ring + 2))
        (λ yes. idle_keeps shape good c steady _ _ (λ e. cc) (omega arith))
        (λ no. from_index Stamp index wants above lived (λ e. let apart = eqb-false _ _ no in omega arith))

    unpublished_keeps : (purpose : Purpose) (walk : Walk) (tag : ℕ) → IsPurpose shape c purpose → IsWalk shape c.start purpose walk
        → Keeps shape (walk_steps shape (walk.at - c.start) + after_check purpose) (unpublished c purpose walk tag)
    unpublished_keeps (Read addr value) walk tag wants w =
        let after = w.after in
        let kept = w.kept in
        let most = w.most in
        let steps = one_entry shape good walk.at c.start after in
        check_from_keeps shape good c (Read addr value) _ _ steady active wants
        (stepped c.start (Read addr value) walk (min walk.candidate (walk.at - 1)) w (omega arith) (omega arith)) (omega arith)
    unpublished_keeps Stamp walk tag wants w = ends_keeps shape good c steady _ _ (λ e. cc) (active≢stamped c.state active) (omega arith)

    check_first_keeps : (purpose : Purpose) (walk : Walk) (tag : ℕ) → IsPurpose shape c purpose → IsWalk shape c.start purpose walk
        → Keeps shape (walk_steps shape (walk.at - c.start) + after_check purpose) (check_first shape c purpose walk tag)
    check_first_keeps purpose walk tag wants w =
        let after = w.after in
        let steps = one_entry shape good walk.at c.start after in
        let rest = same_rest shape good walk.at c.start in
        let wide = some_words shape.sig_words good.words in
        let bound : ℕ = walk_steps shape (walk.at - c.start) + after_check purpose in
        cond_both (nat_lt (complete walk.at) tag) _ _ (Keeps shape bound)
        (λ yes. idle_keeps shape good c steady _ _ (λ e. cc) (omega arith))
        (λ no. cond_both (nat_lt tag (writing walk.at)) _ _ (Keeps shape bound)
        (λ yes. unpublished_keeps purpose walk tag wants w)
        (λ no. goes_keeps shape good c steady (Check purpose (Words walk 0)) bound refl (active, wants, (w, wide)) (omega arith)))

    check_words_keeps : (purpose : Purpose) (walk : Walk) (word value : ℕ) → IsPurpose shape c purpose → IsWalk shape c.start purpose walk
        → word < shape.sig_words
        → Keeps shape (walk_steps shape (walk.at - c.start - 1) + (shape.sig_words - word) + 1 + after_check purpose)
        (check_words shape c purpose walk word value)
    check_words_keeps purpose walk word value wants w below =
        let bound : ℕ = walk_steps shape (walk.at - c.start - 1) + (shape.sig_words - word) + 1 + after_check purpose in
        let steady' : IsSteady shape (record c { loaded = set c.loaded word value }) =
        active_steady shape (record c { loaded = set c.loaded word value }) (loads shape word value steady.sized) active unstamped in
        cond_both (nat_lt (word + 1) shape.sig_words) _ _ (λ stage. Keeps shape bound
        (goes (record c { loaded = set c.loaded word value }) (Check purpose stage)))
        (λ yes. goes_keeps shape good (record c { loaded = set c.loaded word value }) steady' (Check purpose (Words walk (word + 1))) bound refl
        (active, wants, (w, ltb-true _ _ yes)) (omega arith))
        (λ no. goes_keeps shape good (record c { loaded = set c.loaded word value }) steady' (Check purpose (Second walk)) bound refl (active, wants, w)
        (omega arith))

    check_second_keeps : (purpose : Purpose) (walk : Walk) (tag : ℕ) → IsPurpose shape c purpose → IsWalk shape c.start purpose walk
        → Keeps shape (walk_steps shape (walk.at - c.start - 1) + 1 + after_check purpose) (check_second shape c purpose walk tag)
    check_second_keeps purpose walk tag wants w =
        let after = w.after in
        let kept = w.kept in
        let most = w.most in
        let within = w.within in
        let rest = same_rest shape good walk.at c.start in
        let bound : ℕ = walk_steps shape (walk.at - c.start - 1) + 1 + after_check purpose in
        let next : IsReady shape c.start purpose (below walk (candidate_after walk tag)) =
        cond_both (tag == (writing walk.at)) _ _ (λ n. IsReady shape c.start purpose (below walk n))
        (λ yes. stepped c.start purpose walk (min walk.candidate (walk.at - 1)) w (omega arith) (omega arith))
        (λ no. stepped c.start purpose walk walk.candidate w (omega arith) most)
        in
        cond_both (nat_lt (complete walk.at) tag) _ _ (Keeps shape bound)
        (λ yes. idle_keeps shape good c steady _ _ (λ e. cc) (omega arith))
        (λ no. cond_both (meets (take shape.sig_words c.loaded) c.read_sig) _ _ (Keeps shape bound)
        (λ yes. idle_keeps shape good c steady _ _ (λ e. cc) (omega arith))
        (λ no. check_from_keeps shape good c purpose _ _ steady active wants next (omega arith)))

    pub check_after_keeps : (purpose : Purpose) (stage : CheckStage) (word : ℕ) → IsPurpose shape c purpose → IsCheckStage shape c.start purpose stage
        → IsCheckWord shape c stage word → Keeps shape (steps_at shape c (Check purpose stage)) (check_after shape c purpose stage word)
    check_after_keeps purpose Index index wants at word = check_index_keeps purpose index wants word.0 word.1
    check_after_keeps purpose (First walk) tag wants at word = check_first_keeps purpose walk tag wants at
    check_after_keeps purpose (Words walk j) value wants at word = check_words_keeps purpose walk j value wants at.0 at.1
    check_after_keeps purpose (Second walk) tag wants at word = check_second_keeps purpose walk tag wants at

  -- ---- stamp
  module _ (c : Caller) (steady : IsSteady shape c) (top : ℕ) (at : IsStamping shape c.state c.writes c.start top) where
    pub stamp_slot_keeps : (tag : ℕ) → Keeps shape 2 (stamp_slot shape c top tag)
    stamp_slot_keeps tag =
        cond_both (nat_lt shape.ring (top + 1) && nat_lt tag (complete (top + 1 - shape.ring))) _ _ (Keeps shape 2)
        (λ yes. ends_keeps shape good c steady _ _ (λ e. cc) (active≢stamped c.state at.active) (omega arith))
        (λ no. goes_keeps shape good c steady (StampSwap top) _ refl at (omega arith))

    pub stamp_swap_keeps : (found : ℕ) → Keeps shape 1 (stamp_swap c top found)
    stamp_swap_keeps found =
        cond_both (found == top) _ _ (Keeps shape 1)
        (λ yes. record {
          sound = sound_of shape (made (record c { state = state.Stamped; stamp = top + 1; stage = Between Filling }) (answer.Stamped (top + 1))).caller
              (stamped_steady shape _ steady.sized refl) (
                record {
                  stamped = refl;
                  wrote = at.wrote;
                  after = let a = at.after in omega arith;
                  near = let a = at.near in omega arith;
                  lived = let a = at.free in omega arith;
                },
                tt,
              );
          fewer = omega arith;
          tells = inr (refl, λ e. cc);
        })
        (λ no. ends_keeps shape good c steady _ _ (λ e. cc) (active≢stamped c.state at.active) (omega arith))
