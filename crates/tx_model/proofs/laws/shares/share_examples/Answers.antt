use Rattle.std.proofs.Common.{refl}
use Rattle.tx_model.proofs.laws.shares.share_examples.Goals as goal

pub returns : goal.returns
returns c =
    record {
      split = (refl, refl);
      rejoined = refl;
      split_again = (refl, refl);
      three_parts = refl;
      two_parts = refl;
      half = (λ is. cc, λ is. cc);
    }
