use Rattle.std.proofs.Common.{◌<◌, ◌∙◌, not, length, get_or, ap, bit_xor, arith}
use Rattle.std.proofs.lemmas.List.{get_or_read}
use Rattle.mail_query.proofs.BitWords.{worked_none, worked_more, worked_all, not_bit}
use Rattle.mail_query.proofs.bits.Bits.complement.Goals as goal

pub loop-index-init : goal.loop-index-init
loop-index-init c = worked_none (λ word other. bit_xor word 18446744073709551615) _ _

pub loop-index-preserved : goal.loop-index-preserved
loop-index-preserved c =
    let index = c.loop-index.index in
    let size = c.loop-index.invariant.size in
    let all = c.len-index-end.ensures ∙ c.args.self.now.words.ok.0 in
    let within : index < length c.loop-index.self.words.items = omega (arith, all, size) in
    worked_more (λ word other. bit_xor word 18446744073709551615) c.args.self.now.words.items c.args.self.now.words.items c.loop-index.self.words.items index
    (bit_xor c.index_mut.result.now 18446744073709551615) within
    (ap (λ word. bit_xor word 18446744073709551615) (get_or_read c.loop-index.self.words.items index c.index_mut.result.now within c.index_mut.ensures.value 0))
    c.loop-index.invariant

pub returns-clause-others : goal.returns-clause-others
returns-clause-others c =
    let all = c.len-index-end.ensures ∙ c.args.self.now.words.ok.0 in
    worked_all (λ word other. bit_xor word 18446744073709551615)
    (λ a b. not a) c.args.self.now.words.items c.args.self.now.words.items c.loop-index.self.words.items c.loop-index.index
    (omega (arith, all)) c.loop-index.invariant
    (λ k i within small. not_bit (get_or c.args.self.now.words.items k 0) i small)
