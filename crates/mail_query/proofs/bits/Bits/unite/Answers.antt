use Rattle.std.proofs.Common.{◌<◌, ◌∙◌, bit_or, ◌||◌, length, get_or, ap, arith}
use Rattle.std.proofs.lemmas.List.{get_or_read}
use Rattle.mail_query.proofs.BitWords.{worked_none, worked_more, worked_all, or_bit}
use Rattle.mail_query.proofs.bits.Bits.unite.Goals as goal

pub loop-index-init : goal.loop-index-init
loop-index-init c = worked_none bit_or _ _

pub loop-index-preserved : goal.loop-index-preserved
loop-index-preserved c =
    let index = c.loop-index.index in
    let size = c.loop-index.invariant.size in
    let all = c.len-index-end.ensures ∙ c.args.self.now.words.ok.0 in
    let within : index < length c.loop-index.self.words.items = omega (arith, all, size) in
    let other : index < length c.args.other.now.words.items = omega (arith, all, c.requires) in
    worked_more bit_or c.args.self.now.words.items c.args.other.now.words.items c.loop-index.self.words.items index
    (bit_or c.index_mut.result.now c.index.result.now) within
    (ap (λ word. bit_or word c.index.result.now) (get_or_read c.loop-index.self.words.items index c.index_mut.result.now within c.index_mut.ensures.value 0)
    ∙ ap (λ word. bit_or (get_or c.loop-index.self.words.items index 0) word)
    (get_or_read c.args.other.now.words.items index c.index.result.now other c.index.ensures 0))
    c.loop-index.invariant

pub returns-clause-either : goal.returns-clause-either
returns-clause-either c =
    let all = c.len-index-end.ensures ∙ c.args.self.now.words.ok.0 in
    worked_all bit_or (λ a b. a || b) c.args.self.now.words.items c.args.other.now.words.items c.loop-index.self.words.items c.loop-index.index
    (omega (arith, all)) c.loop-index.invariant
    (λ k i within small. or_bit (get_or c.args.self.now.words.items k 0) (get_or c.args.other.now.words.items k 0) i)
