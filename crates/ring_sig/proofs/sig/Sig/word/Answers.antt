use Rattle.std.proofs.Common.{◌≡◌, arith, length, ap, sym, ◌∙◌}
use Rattle.ring_sig.specs.Padded.{used_length}
use Rattle.ring_sig.proofs.sig.Sig.word.Goals as goal

pub offset_bounds-words-j : goal.offset_bounds-words-j
offset_bounds-words-j c =
    let long : length c.args.self.now ≡ c.self.inside.count = ap length (sym c.self.view_is) ∙ used_length _ _ c.self.invariant in
    let most = c.self.invariant.within in
    omega (arith, long, most)
