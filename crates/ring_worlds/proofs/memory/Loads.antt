-- What a load of a word of the heap finds.
use Rattle.std.proofs.Common.{◌≡◌, ℕ, suc, ◌+◌, ◌-◌, ◌<◌, length, slice_get, Some, refl, sym, ◌∙◌, ap, subst, arith, inl, inr}
use Rattle.std.proofs.lemmas.Bool.{cases_lt}
use Rattle.std.proofs.lemmas.List.{get_or_default}
use Rattle.std.proofs.lemmas.Option.{slice_get_within}
use Rattle.tx_model.specs.Words.{no_word, word_at}
use Rattle.tx_model.specs.History.{state_at}
use Rattle.ring_core.specs.declared.shape.Shape.{Shape}
use Rattle.ring_worlds.specs.World.{World}
use Rattle.ring_worlds.specs.Stored.{words_left, stored_at}
use Rattle.ring_worlds.proofs.memory.Needs.{Needs, WordIsFrom}
use Rattle.ring_worlds.specs.Memory.{IsMemory, IsPublished}
use Rattle.ring_worlds.proofs.memory.LastStored.{last_of, state_has}

module _ (shape : Shape) (w : World) (complete : ℕ) (ring : Needs shape complete w) (mem : IsMemory shape complete w) where
  -- an entry that has stored a word is published
  pub published : (k count : ℕ) → k < length w.history → slice_get mem.counts k ≡ Some count → 0 < count → IsPublished shape w (k + 1)
  published k count within stored more =
      elim (cases_lt k complete) [
        | inl early ↦ let full = ring.finished (k + 1) (omega arith) (omega (arith, early)) in omega (arith, full)
        | inr late ↦
            let owner = ring.belongs k late within in
            let at : owner.process.caller.stamp - 1 ≡ k = omega (arith, owner.stamp) in
            let counted = (mem.writing owner.who owner.process owner.here).counted owner.stamped in
            let same : stored_at owner.process.caller owner.process.caller.stage ≡ count =
            (let e = sym counted ∙ ap (slice_get mem.counts) at ∙ stored in cc) in
            let tag = ring.begun owner.who owner.process owner.here owner.stamped (omega (arith, same, more)) in
            subst (λ e. IsPublished shape w e) owner.stamp (omega (arith, tag))
      ]

pub word_is_from : WordIsFrom
word_is_from shape w complete ring mem start addr value early inside free found =
    elim (last_of w.opening w.history mem.counts start addr mem.sized (omega (arith, early, ring.reached)) inside ring.once
    (λ k c before there. mem.whole k c (omega (arith, before, early)) there)) [
      | inl same ↦ record {
        state = start;
        from = omega arith;
        happened = omega (arith, early, ring.reached);
        here = sym same ∙ sym (mem.heap addr free) ∙ found;
        since = inl refl;
      }
      | inr last ↦
          let within = slice_get_within w.history last.entry last.commit last.there in
          let next : last.entry + 1 ≡ suc last.entry = omega arith in
          let back : last.entry + 1 - 1 ≡ last.entry = omega arith in
          record {
            state = last.entry + 1;
            from = omega (arith, last.later);
            happened = omega (arith, within);
            here =
                ap (λ k. slice_get (state_at w.opening w.history k) addr) next
                ∙ subst (λ a. slice_get (state_at w.opening w.history (suc last.entry)) a ≡ Some (word_at (words_left last.commit) last.index).value) last.is
                (state_has w.opening w.history last.entry last.commit last.index last.there (ring.once last.entry last.commit last.there) last.within
                (omega (arith, last.is, inside)))
                ∙ sym last.found ∙ sym (mem.heap addr free) ∙ found;
            since = inr (
              omega (arith, last.later),
              published shape w complete ring mem last.entry last.count within last.stored (omega (arith, last.below)),
              record {
                commit = last.commit;
                there = ap (slice_get w.history) back ∙ last.there;
                leaves = (
                  last.index,
                  word_at (words_left last.commit) last.index,
                  last.within,
                  get_or_default (words_left last.commit) last.index (word_at (words_left last.commit) last.index) no_word last.within,
                  last.is,
                );
              },
            );
          }
    ]
