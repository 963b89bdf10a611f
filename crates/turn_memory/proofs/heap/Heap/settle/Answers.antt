-- Each round of the loop puts the next write into the words.
use Rattle.std.proofs.lemmas.Grind.{common_steps}
use Rattle.std.proofs.Common.{◌≡◌, ◌<◌, ◌+◌, ◌∙◌, ℕ, List, set, add-one, ap, arith, length, sym, take}
use Rattle.std.proofs.Math.Seq.{take-suc}
use Rattle.tx_model.specs.declared.word.Word.{Word}
use Rattle.tx_model.specs.Memory.{after}
use Rattle.tx_model.specs.Words.{no_word, word_at}
use Rattle.tx_model.proofs.lemmas.Memories.{after_push}
use Rattle.tx_model.proofs.lemmas.States.{after_length}
use Rattle.tx_model.proofs.lemmas.WordIndexes.{has_address_at}
use Rattle.turn_memory.proofs.heap.Heap.settle.Goals as goal

one_more : (memory : List ℕ) (words : List Word) (at : ℕ) → at < length words
    → after memory (take (at + 1) words) ≡ set (after memory (take at words)) (word_at words at).addr (word_at words at).value
one_more memory words at below = rw (add-one, take-suc words at no_word below) (after_push memory (take at words) (word_at words at))

pub index_mut-requires : goal.index_mut-requires
index_mut-requires c =
    let h = c.self.inside in
    let at = c.loop-at.at in
    let below : at < length h.writes.value = omega (arith, c.loop-at-test.true, c.len-at-end.ensures.count, ap length c.deref.ensures) in
    let here : c.at-word.result ≡ word_at h.writes.value at = cc in
    let within = c.self.invariant.within _ (has_address_at h.writes.value c.at-word.result.addr at below (ap (λ (w : Word). w.addr) (sym here))) in
    omega (
      arith,
      within,
      ap length c.loop-at.invariant.words,
      after_length h.words.items (take at h.writes.value),
      c.loop-at.self-inside.words.ok.0,
    )

pub loop-at-preserved : goal.loop-at-preserved
loop-at-preserved c =
    let h = c.self.inside in
    let at = c.loop-at.at in
    let below : at < length h.writes.value = omega (arith, c.loop-at-test.true, c.len-at-end.ensures.count, ap length c.deref.ensures) in
    let here : c.at-word.result ≡ word_at h.writes.value at = cc in
    record {
      words = rw (c.loop-at.invariant.words, here) (sym (one_more h.words.items h.writes.value at below));
      writes = c.loop-at.invariant.writes;
      commits = c.loop-at.invariant.commits;
    }

pub invariant_of-self : goal.invariant_of-self
invariant_of-self c =
    let h = c.self.inside in
    let kept = c.loop-at.invariant in
    let long = ap length kept.words ∙ after_length h.words.items (take c.loop-at.at h.writes.value) in
    record {
      apart = rw kept.writes c.self.invariant.apart;
      within = λ addr has. omega (arith, c.self.invariant.within addr (rw kept.writes at has), long);
    }

pub returns : goal.returns
returns c = grind (arith, common_steps)
