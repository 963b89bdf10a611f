use Rattle.std.proofs.lemmas.Grind.{common_steps}
use Rattle.std.proofs.Common.{◌≡◌, ℕ, List, ◌<◌, get_or, sym, ◌∙◌, ap, subst, arith}
use Rattle.tx_model.specs.declared.word.Word.{Word}
use Rattle.tx_model.specs.Words.{word_at, index_of}
use Rattle.ring_core.proofs.Chained.{IsSought, search_begins, search_found, search_goes_on, search_ends}
use Rattle.ring_core.proofs.WritesLemmas.{nothing_written}
use Rattle.ring_core.proofs.writes.WriteSet.index_of.Goals as goal

pub returns-then-len-eq0 : goal.returns-then-len-eq0
returns-then-len-eq0 c = nothing_written c.args.self.now c.args.addr (sym c.len.ensures.count ∙ c.if-len-eq0.true)

pub loop-number-init : goal.loop-number-init
loop-number-init c =
    subst (λ p. IsSought c.self.inside.items.items c.args.addr (get_or c.self.inside.newest p 0)) (sym c.place.ensures.place)
    (search_begins _ _ _ c.self.invariant.2 c.args.addr (subst (λ p. p < 512) c.place.ensures.place c.place.ensures.within))

-- the address that the loop looks at
looked_at : (items seen : List Word) (index : ℕ) (write : Word) → write ≡ word_at seen index → items ≡ seen → write.addr ≡ (word_at items index).addr
looked_at items seen index write at same =
    ap (λ (w : Word). w.addr) at ∙ ap (λ ws. (word_at ws index).addr) (sym same)

pub returns-then-at-addr : goal.returns-then-at-addr
returns-then-at-addr c =
    sym (search_found _ _ _ c.self.invariant.2 c.args.addr c.loop-number.number c.loop-number.invariant c.loop-number-test.true
    (sym (looked_at _ _ _ c.at.result c.at.ensures c.self.view_is) ∙ c.if-at-addr.true))
    ∙ ap (λ ws. index_of ws c.args.addr) c.self.view_is

pub loop-number-preserved : goal.loop-number-preserved
loop-number-preserved c =
    search_goes_on _ _ _ c.self.invariant.2 c.args.addr c.loop-number.number c.loop-number.invariant c.loop-number-test.true
    (λ same. c.if-at-addr.false (looked_at _ _ _ c.at.result c.at.ensures c.self.view_is ∙ same))

pub returns : goal.returns
returns c =
    let none : c.loop-number.number ≡ 0 = omega (arith, c.loop-number-test.false) in
    sym (search_ends _ c.args.addr (subst (λ n. IsSought c.self.inside.items.items c.args.addr n) none c.loop-number.invariant))
    ∙ ap (λ ws. index_of ws c.args.addr) c.self.view_is

pub loop-number-smaller : goal.loop-number-smaller
loop-number-smaller c = grind (arith, common_steps)
