use Rattle.std.proofs.Common.{◌≡◌, ◌*◌, ◌/◌, ◌<◌, length, sym, ap, subst, ◌∙◌, arith}
use Rattle.std.proofs.lemmas.Nat.{div_below}
use Rattle.ring_sig.specs.Signature.{IsWordCount, bits_of, place_of, with_place}
use Rattle.ring_sig.specs.Padded.{used_length}
use Rattle.ring_sig.proofs.Places.{adds_place, place_within, array_with}
use Rattle.ring_sig.proofs.sig.Sig.add.Goals as goal

written : goal.returns-clause-set
written c =
    let long : length c.args.self.now ≡ c.self.inside.count = ap length (sym c.self.view_is) ∙ used_length _ _ c.self.invariant in
    let in_words : c.place-at.result / 64 < c.self.inside.count = div_below _ 64 _ (omega arith) (let w = c.place-at.ensures.within in omega (arith, w)) in
    array_with c.self.inside.words c.self.inside.count c.place-at.result in_words (let w = c.self.invariant.within in omega (arith, c.self.told))
    ∙ ap (λ ws. with_place ws c.place-at.result) c.self.view_is
    ∙ ap (λ p. with_place c.args.self.now p) (c.place-at.ensures.place ∙ ap (λ n. place_of c.args.addr (64 * n)) (sym long))

pub returns-clause-set : goal.returns-clause-set
returns-clause-set c = written c

pub returns-clause-gained : goal.returns-clause-gained
returns-clause-gained c =
    let long : length c.args.self.now ≡ c.self.inside.count = ap length (sym c.self.view_is) ∙ used_length _ _ c.self.invariant in
    let counted : IsWordCount (length c.args.self.now) = subst (λ n. IsWordCount n) (sym long) c.self.invariant.counted in
    rw (written c) (adds_place c.args.self.now (place_of c.args.addr (bits_of c.args.self.now)) (place_within c.args.addr c.args.self.now counted))
