-- The words of a posting.
use Rattle.std.proofs.Common.{◌≡◌, ◌+◌, Some, None, refl, sym, ◌∙◌, ap, subst, arith}
use Rattle.tx_model.specs.declared.view.PassView.{PassView}
use Rattle.tx_heap.specs.Segment.{head_at}
use Rattle.tx_heap.specs.Calls.{made_sizes}
use Rattle.tx_buckets.specs.Reading.{ReadWord}
use Rattle.tx_buckets.specs.Writing.{with_words}
use Rattle.tx_postings.specs.Filling.{new_words, head_then, PutPosting}
use Rattle.tx_postings.specs.declared.heads.Head.{Head}
use Rattle.tx_postings.proofs.posting.put_posting.Goals as goal

pub returns-in_ok-newest-in-Some-clause-put : goal.returns-in_ok-newest-in-Some-clause-put
returns-in_ok-newest-in-Some-clause-put g c =
    let made = g.M.TxMemory.made c.args.mem.now in
    let old = g.M.TxMemory.view c.args.pass.now in
    let before = g.M.TxMemory.attempt c.args.pass.now in
    let between = g.M.TxMemory.attempt c.read_word.new.pass in
    let now = g.M.TxMemory.attempt c.write_words.new.pass in
    let head = c.args.head in
    subst (λ p. PutPosting made old (g.M.TxMemory.view c.write_words.new.pass) before now c.args.key.now c.args.message p head
    (head_then head (Some c.in-Some.at)))
    (sym c.in-Some.is)
    (subst (λ (v : PassView). PutPosting made old v before now c.args.key.now c.args.message (Some c.in-Some.at) head (head_then head (Some c.in-Some.at)))
    (sym c.write_words.ensures.same) (record {
      between = between;
      was = c.in_ok-newest-in-Some.newest;
      read = c.in_ok-newest-in-Some.ensures.word;
      wrote = c.write_words.ensures.written ∙ ap (with_words (made_sizes made) head.segment between) c.known_words-words.ensures;
      head_is = refl;
    }))

pub returns-in_ok-next-in-None-clause-put : goal.returns-in_ok-next-in-None-clause-put
returns-in_ok-next-in-None-clause-put g c =
    let made = g.M.TxMemory.made c.args.mem.now in
    let old = g.M.TxMemory.view c.args.pass.now in
    let mid = g.M.TxMemory.view c.read_word-in-None.new.pass in
    let before = g.M.TxMemory.attempt c.args.pass.now in
    let between = g.M.TxMemory.attempt c.read_word-in-None.new.pass in
    let now = g.M.TxMemory.attempt c.write_words-in-None.new.pass in
    let head = c.args.head in
    let next = c.in_ok-next-in-None.next in
    let then : Head = record {
      segment = head.segment;
      free = head.free + 6 + 2;
      keys = head.keys + 1;
      cells = head.cells + 1;
      needs = head.needs;
    } in
    let bucket = c.bucket_of-bucket.ensures.bucket in
    let then_is : then ≡ head_then head None =
    ap (λ n. record { segment = head.segment; free = n; keys = head.keys + 1; cells = head.cells + 1; needs = head.needs }) (omega arith) in
    subst (λ p. PutPosting made old (g.M.TxMemory.view c.write_words-in-None.new.pass) before now c.args.key.now c.args.message p head then)
    (sym c.in-None.is)
    (subst (λ (v : PassView). PutPosting made old v before now c.args.key.now c.args.message None head then)
    (sym c.write_words-in-None.ensures.same) (record {
      between = between;
      was = next;
      read = subst (λ b. ReadWord made old mid before between head.segment (head_at b) next) bucket c.in_ok-next-in-None.ensures.word;
      wrote =
          c.write_words-in-None.ensures.written
          ∙ ap (with_words (made_sizes made) head.segment between) c.new_words-words.ensures
          ∙ ap (λ b. with_words (made_sizes made) head.segment between (new_words head c.args.key.now (head_at b) next c.args.message)) bucket;
      head_is = then_is;
    }))
