-- The write is put among the others.
use Rattle.std.proofs.Common.{◌≡◌, ◌<◌, ℕ, List, None, Some, ap, arith, length}
use Rattle.tx_model.specs.declared.word.Word.{Word}
use Rattle.tx_model.specs.Words.{index_of, put, put_at}
use Rattle.tx_model.specs.Rule.{ArePlaced}
use Rattle.tx_model.proofs.lemmas.Rule.{put_placed}
use Rattle.turn_memory.specs.Heap.{HeapView}
use Rattle.turn_memory.proofs.heap.Heap.write.Goals as goal

still_placed : (seen : HeapView) (words : List ℕ) (writes new : List Word) (addr value : ℕ) → words ≡ seen.words → addr < length seen.words
    → ArePlaced words writes → new ≡ put writes addr value → ArePlaced words new
still_placed seen words writes new addr value same below placed is =
    rw is (put_placed words writes addr value (omega (arith, below, ap length same)) placed)

pub invariant_of-self : goal.invariant_of-self
invariant_of-self c =
    let h = c.self.inside in
    let found : index_of h.writes.value c.args.addr ≡ Some c.in-Some.index = cc in
    let is : c.set.new.self ≡ put_at (Some c.in-Some.index) h.writes.value (record { addr = c.args.addr; value = c.args.value }) = cc in
    still_placed c.args.self.now h.words.items h.writes.value c.set.new.self c.args.addr c.args.value (ap (λ (v : HeapView). v.words) c.self.view_is)
    c.requires c.self.invariant (rw found is)

pub invariant_of-self-in-None : goal.invariant_of-self-in-None
invariant_of-self-in-None c =
    let h = c.self.inside in
    let none : index_of h.writes.value c.args.addr ≡ None = cc in
    let is : c.push.new.self ≡ put_at None h.writes.value (record { addr = c.args.addr; value = c.args.value }) = cc in
    still_placed c.args.self.now h.words.items h.writes.value c.push.new.self c.args.addr c.args.value (ap (λ (v : HeapView). v.words) c.self.view_is)
    c.requires c.self.invariant (rw none is)
