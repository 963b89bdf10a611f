use Rattle.std.proofs.Common.{◌<◌, ◌^◌, get_or, sym, refl, arith}
use Rattle.std.proofs.lemmas.Bool.{false_from_ne_true, false≢true}
use Rattle.ring_sig.proofs.Arrays.{shares, apart}
use Rattle.ring_sig.proofs.Shared.{meets_from_shares, shares_from_meets}
use Rattle.ring_sig.proofs.sig.Sig.meets.Goals as goal

pub returns-then-common-ne0 : goal.returns-then-common-ne0
returns-then-common-ne0 c =
    let fits : get_or c.self.inside.words c.loop-j.j 0 < 2 ^ 64 = omega arith in
    let both = shares _ _ _ _ c.self.invariant c.other.invariant _ _ c.self.view_is c.other.view_is c.requires c.loop-j.j
    (omega arith) c.if-common-ne0.true fits in
    record { value = sym (meets_from_shares _ _ both); shared = (λ _. both, λ _. refl) }

pub returns : goal.returns
returns c =
    let none = apart _ _ _ _ c.self.invariant c.other.invariant _ _ c.self.view_is c.other.view_is c.requires (λ k below. c.loop-j.invariant k (omega arith)) in
    record {
      value = sym (false_from_ne_true _ (λ yes. none (shares_from_meets _ _ yes)));
      shared = (λ yes. absurd (false≢true yes), λ both. absurd (none both));
    }
