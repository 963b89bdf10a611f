-- A word of an open segment.
use Rattle.std.proofs.Common.{ℕ, ◌+◌, ◌∙◌, ap}
use Rattle.std.proofs.lemmas.Result.{IfOk-weaker}
use Rattle.tx_heap.specs.Layout.{Sizes, sizes_of, base_at}
use Rattle.tx_buckets.proofs.ReadSteps.{may_read_word, read_word, word_stopped}
use Rattle.tx_buckets.proofs.reading.read_word.Goals as goal

pub read-requires-clause-rule : goal.read-requires-clause-rule
read-requires-clause-rule g c =
    may_read_word c.args.offset (c.base.result + c.args.offset) c.made_well.ensures c.requires.opened c.requires.inside
    (ap (λ (base : ℕ). base + c.args.offset) (c.base.ensures
    ∙ ap (λ (sizes : Sizes). base_at sizes c.args.segment) (c.plan-plan.ensures.plan ∙ ap sizes_of c.sense.ensures)))

pub returns-clause-word : goal.returns-clause-word
returns-clause-word g c =
    IfOk-weaker _ _ _
    (λ value read. read_word c.args.offset (c.base.result + c.args.offset) c.pass_knows.ensures c.requires.active c.requires.opened c.requires.inside
    (ap (λ (base : ℕ). base + c.args.offset) (c.base.ensures
    ∙ ap (λ (sizes : Sizes). base_at sizes c.args.segment) (c.plan-plan.ensures.plan ∙ ap sizes_of c.sense.ensures))) read)
    c.read.ensures.read

pub returns-clause-cause : goal.returns-clause-cause
returns-clause-cause g c =
    word_stopped (g.M.TxMemory.shows c.args.mem.now) (g.M.TxMemory.view c.read.new.pass) (c.base.result + c.args.offset) c.pass_knows.ensures
    c.requires.active c.read.result c.read.ensures.ended c.read.ensures.cause_stop
