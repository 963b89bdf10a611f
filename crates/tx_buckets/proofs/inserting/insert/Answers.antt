-- A record goes where the free words begin.
use Rattle.std.proofs.Common.{ℕ, ◌+◌, ◌<◌, sym, ◌∙◌, ap, subst, arith}
use Rattle.std.specs.List.{All}
use Rattle.std.proofs.lemmas.Result.{err_from_is_err_and}
use Rattle.tx_model.specs.declared.word.Word.{Word}
use Rattle.tx_model.specs.declared.view.Attempt.{Attempt}
use Rattle.tx_model.specs.declared.view.PassView.{PassView}
use Rattle.tx_heap.specs.Layout.{segment_len}
use Rattle.tx_heap.specs.Calls.{made_sizes}
use Rattle.tx_model.proofs.lemmas.Attempts.{only_reads_then}
use Rattle.tx_buckets.specs.Writing.{record_words, with_words, Inserted}
use Rattle.tx_heap.proofs.lemmas.Stops.{stopped_after}
use Rattle.tx_buckets.proofs.InsertSteps.{looked, bounds, words_inside, inserted}
use Rattle.tx_buckets.proofs.inserting.insert.Goals as goal

pub returns-in_err-at-clause-cause : goal.returns-in_err-at-clause-cause
returns-in_err-at-clause-cause g c =
    let p = err_from_is_err_and c.from_residual-in_err-at.result c.from_residual-in_err-at.ensures.1 in
    rw (p.1, p.2) (stopped_after c.in_ok-head.ensures.word.only c.in_err-at.ensures.cause)

pub returns-in_err-keys-clause-cause : goal.returns-in_err-keys-clause-cause
returns-in_err-keys-clause-cause g c =
    let p = err_from_is_err_and c.from_residual-in_err-keys.result c.from_residual-in_err-keys.ensures.1 in
    rw (p.1, p.2) (stopped_after (only_reads_then c.in_ok-head.ensures.word.only c.in_ok-at.ensures.word.only) c.in_err-keys.ensures.cause)

pub record_words-words-requires-clause-at : goal.record_words-words-requires-clause-at
record_words-words-requires-clause-at g c =
    let look = looked c.args.key.now (8 + c.bucket_of-bucket.result)
    (ap (λ (n : ℕ). 8 + n) c.bucket_of-bucket.ensures.bucket) c.in_ok-head.ensures.word c.in_ok-at.ensures.word c.in_ok-keys.ensures.word in
    (bounds c.args.key.now look c.pass_knows.ensures c.requires.index c.requires.lane c.requires.free).1

pub record_words-words-requires-clause-keys : goal.record_words-words-requires-clause-keys
record_words-words-requires-clause-keys g c =
    let look = looked c.args.key.now (8 + c.bucket_of-bucket.result)
    (ap (λ (n : ℕ). 8 + n) c.bucket_of-bucket.ensures.bucket) c.in_ok-head.ensures.word c.in_ok-at.ensures.word c.in_ok-keys.ensures.word in
    (bounds c.args.key.now look c.pass_knows.ensures c.requires.index c.requires.lane c.requires.free).2

pub write_words-requires-clause-inside : goal.write_words-requires-clause-inside
write_words-requires-clause-inside g c =
    let bucket_is = ap (λ (n : ℕ). 8 + n) c.bucket_of-bucket.ensures.bucket in
    let look = looked c.args.key.now (8 + c.bucket_of-bucket.result) bucket_is c.in_ok-head.ensures.word c.in_ok-at.ensures.word c.in_ok-keys.ensures.word in
    let is = c.record_words-words.ensures ∙ ap (λ (o : ℕ). record_words c.in_ok-at.at o c.in_ok-head.head c.in_ok-keys.keys c.args.key.now) bucket_is in
    subst (All (λ (word : Word). word.addr < segment_len)) (sym is)
    (words_inside c.args.key.now look c.pass_knows.ensures c.requires.index c.requires.lane c.requires.free
    (omega (arith, c.bucket_of-bucket.ensures.bucket, c.bucket_of-bucket.ensures.below)) c.requires.missing)

pub returns-clause-inserted : goal.returns-clause-inserted
returns-clause-inserted g c =
    let made = g.M.TxMemory.made c.args.mem.now in
    let bucket_is = ap (λ (n : ℕ). 8 + n) c.bucket_of-bucket.ensures.bucket in
    let look = looked c.args.key.now (8 + c.bucket_of-bucket.result) bucket_is c.in_ok-head.ensures.word c.in_ok-at.ensures.word c.in_ok-keys.ensures.word in
    let is = c.record_words-words.ensures ∙ ap (λ (o : ℕ). record_words c.in_ok-at.at o c.in_ok-head.head c.in_ok-keys.keys c.args.key.now) bucket_is in
    let wrote = c.write_words.ensures.written ∙ ap (with_words (made_sizes made) c.args.segment (g.M.TxMemory.attempt c.read_word-3.new.pass)) is in
    subst (λ (view : PassView). Inserted made (g.M.TxMemory.view c.args.pass.now) view (g.M.TxMemory.attempt c.args.pass.now)
    (g.M.TxMemory.attempt c.write_words.new.pass) c.args.segment c.args.key.now c.in_ok-at.at) (sym c.write_words.ensures.same)
    (subst (λ (attempt : Attempt). Inserted made (g.M.TxMemory.view c.args.pass.now) (g.M.TxMemory.view c.read_word-3.new.pass)
    (g.M.TxMemory.attempt c.args.pass.now) attempt c.args.segment c.args.key.now c.in_ok-at.at) (sym wrote)
    (inserted c.args.key.now look c.pass_knows.ensures c.requires.index c.requires.lane c.requires.free
    (omega (arith, c.bucket_of-bucket.ensures.bucket, c.bucket_of-bucket.ensures.below)) c.requires.missing))
