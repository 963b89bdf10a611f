-- A record is put where it is of the lane, has none, and there is room.
use Rattle.std.proofs.Common.{◌≡◌, ◌+◌, ◌<◌, ℕ, List, [], length, sym, ◌∙◌, ap, subst, arith}
use Rattle.std.specs.Prelude.{Contains, None}
use Rattle.std.specs.declared.option.Option.{Option}
use Rattle.mail_words.specs.Hash as hash
use Rattle.tx_model.specs.Memory.{after}
use Rattle.tx_model.specs.Attempt.{Fits}
use Rattle.tx_heap.specs.Layout.{mail_layout}
use Rattle.tx_heap.specs.Heap.{segment_of, lane_segments}
use Rattle.tx_heap.specs.Index.{IsIndex}
use Rattle.tx_heap.specs.Mail.{IsGoodMail, mail_heap}
use Rattle.tx_heap.specs.Calls.{made_sizes}
use Rattle.tx_model.proofs.lemmas.Attempts.{only_reads_then}
use Rattle.tx_heap.proofs.lemmas.Reads.{holds_after_reads}
use Rattle.tx_model.proofs.lemmas.States.{after_length}
use Rattle.tx_heap.proofs.lemmas.HeapWords.{lanes_many}
use Rattle.tx_buckets.specs.Records.{IsFound}
use Rattle.tx_buckets.proofs.lemmas.Opened.{own_in_lane}
use Rattle.index_tests.proofs.Ready.{ready_after_reads, ready_after_insert}
use Rattle.index_tests.proofs.buckets.put.Goals as goal

pub returns-in_default-clause-ready : goal.returns-in_default-clause-ready
returns-in_default-clause-ready g c = ready_after_reads c.in_ok-find.ensures.found.only c.in_ok-find.ensures.found.opened c.requires.ready

pub returns-then-free-gt-LAST_FREE-clause-ready : goal.returns-then-free-gt-LAST_FREE-clause-ready
returns-then-free-gt-LAST_FREE-clause-ready g c =
    let word = c.in_ok-free.ensures.word in
    ready_after_reads (only_reads_then c.in_ok-find.ensures.found.only word.only) word.opened c.requires.ready

pub insert-requires-clause-index : goal.insert-requires-clause-index
insert-requires-clause-index g c =
    let word = c.in_ok-free.ensures.word in
    (ready_after_reads (only_reads_then c.in_ok-find.ensures.found.only word.only) word.opened c.requires.ready).index

pub insert-requires-clause-lane : goal.insert-requires-clause-lane
insert-requires-clause-lane g c =
    let made = g.M.TxMemory.made c.args.mem.now in
    let word = c.in_ok-free.ensures.word in
    let ready = ready_after_reads (only_reads_then c.in_ok-find.ensures.found.only word.only) word.opened c.requires.ready in
    λ memory good fits.
    let words = after memory (g.M.TxMemory.attempt c.read_word.new.pass).writes in
    let many = lanes_many (made_sizes made) words (after_length memory (g.M.TxMemory.attempt c.read_word.new.pass).writes ∙ good.size) in
    subst (λ lane. Contains (lane_segments (mail_heap made.sense words) lane) c.args.segment) (sym c.if-lane_of-lane.false ∙ c.lane_of.ensures.lane)
    (own_in_lane (ready.index memory good fits).lanes (omega (arith, many, c.if-lane_of-lane.false, c.lane_of.ensures.below)) (ready.own memory good fits))

pub insert-requires-clause-missing : goal.insert-requires-clause-missing
insert-requires-clause-missing g c =
    let made = g.M.TxMemory.made c.args.mem.now in
    let good = IsGoodMail made.sense made.opening in
    let attempt = g.M.TxMemory.attempt c.find.new.pass in
    let has : Option ℕ → List ℕ → Type 0 =
    λ offset memory. IsFound mail_layout (segment_of (mail_heap made.sense memory) c.args.segment) c.args.key.now offset in
    holds_after_reads c.in_ok-free.ensures.word.only good (has None)
    (subst (λ (offset : Option ℕ). (memory : List ℕ) → good memory → Fits memory attempt [] → has offset (after memory attempt.writes)) c.in-None.is
    c.in_ok-find.ensures.found.found)

pub returns-clause-ready : goal.returns-clause-ready
returns-clause-ready g c =
    let word = c.in_ok-free.ensures.word in
    let ready = ready_after_reads (only_reads_then c.in_ok-find.ensures.found.only word.only) word.opened c.requires.ready in
    ready_after_insert c.in_ok-at.ensures.inserted ready
