-- The two halves of a seat that is split.
use Rattle.std.proofs.Common.{◌≡◌, ◌≢◌, List, [], ◌∷◌, arith}
use Rattle.tx_model.specs.declared.pass.PassState.TheVariants as state
use Rattle.tx_model.specs.ShareLaws.{SplitApart, HalvesNormal, HalvesNotEmpty}
use Rattle.tx_model.specs.Shares.{Name, kept_half, given_half}
use Rattle.ring_worlds.proofs.lemmas.Members.{contains_none}
use Rattle.ring_words.specs.declared.table.Knowledge.{Knowledge}
use Rattle.ring_words.specs.Ring.{kept_part, given_part, IsPlain}

idle_free : state.Idle ≢ state.Stamped
idle_free e = cc

pub no_half_whole : (share : List Name) → kept_half share ≡ [] ∷ [] → ⊥
no_half_whole [] is = cc
no_half_whole (name ∷ names) is = cc

pub no_given_whole : (share : List Name) → given_half share ≡ [] ∷ [] → ⊥
no_given_whole [] is = cc
no_given_whole (name ∷ names) is = cc

module _ {S : Type 0} where
  module _ (halves_apart : SplitApart) (normal : HalvesNormal) (not_empty : HalvesNotEmpty) (k : Knowledge S) (plain : IsPlain k) where
    pub plain_left : IsPlain (kept_part k)
    plain_left =
        record {
          reached = plain.reached;
          rested = plain.rested;
          mine = plain.mine;
          settled = plain.settled;
          stamped = plain.stamped;
          named = (not_empty k.share plain.named).0;
          joined = (normal k.share plain.apart plain.joined).0;
          apart = (halves_apart k.share plain.apart).0;
        }

    pub plain_right : IsPlain (given_part k)
    plain_right =
        record {
          reached = omega (arith, plain.reached);
          rested = λ e. omega arith;
          mine = record { rise = λ i j before below. absurd (omega (arith, below)); within = λ i below. absurd (omega (arith, below)) };
          settled = λ free own has. absurd (contains_none own has);
          stamped = λ e. absurd (idle_free e);
          named = (not_empty k.share plain.named).1;
          joined = (normal k.share plain.apart plain.joined).1;
          apart = (halves_apart k.share plain.apart).1;
        }
