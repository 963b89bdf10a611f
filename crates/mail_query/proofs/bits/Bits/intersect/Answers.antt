use Rattle.std.proofs.Common.{◌<◌, ◌∙◌, bit_and, ◌&&◌, length, get_or, ap, arith}
use Rattle.std.proofs.lemmas.List.{get_or_read}
use Rattle.mail_query.proofs.BitWords.{worked_none, worked_more, worked_all, and_bit}
use Rattle.mail_query.proofs.bits.Bits.intersect.Goals as goal

pub loop-place-init : goal.loop-place-init
loop-place-init c = worked_none bit_and _ _

pub loop-place-preserved : goal.loop-place-preserved
loop-place-preserved c =
    let place = c.loop-place.place in
    let size = c.loop-place.invariant.size in
    let all = c.len-place-end.ensures ∙ c.args.self.now.words.ok.0 in
    let within : place < length c.loop-place.self.words.items = omega (arith, all, size) in
    let other : place < length c.args.other.now.words.items = omega (arith, all, c.requires) in
    worked_more bit_and c.args.self.now.words.items c.args.other.now.words.items c.loop-place.self.words.items place
    (bit_and c.index_mut.result.now c.index.result.now) within
    (ap (λ word. bit_and word c.index.result.now) (get_or_read c.loop-place.self.words.items place c.index_mut.result.now within c.index_mut.ensures.value 0)
    ∙ ap (λ word. bit_and (get_or c.loop-place.self.words.items place 0) word)
    (get_or_read c.args.other.now.words.items place c.index.result.now other c.index.ensures 0))
    c.loop-place.invariant

pub returns-clause-both : goal.returns-clause-both
returns-clause-both c =
    let all = c.len-place-end.ensures ∙ c.args.self.now.words.ok.0 in
    worked_all bit_and (λ a b. a && b) c.args.self.now.words.items c.args.other.now.words.items c.loop-place.self.words.items c.loop-place.place
    (omega (arith, all)) c.loop-place.invariant
    (λ k i within small. and_bit (get_or c.args.self.now.words.items k 0) (get_or c.args.other.now.words.items k 0) i)
