-- The derived comparison joins the fields' answers from the left, and the clause says them from the right.
use Rattle.std.proofs.Common.{◌≡◌, Option, Some, None, refl, arith}
use Rattle.std.specs.Ordering.{partial_ordering_then}
use Rattle.std.specs.declared.cmp.Ordering.{Ordering}
use Rattle.std.specs.declared.cmp.Ordering.TheVariants.{Less, Equal, Greater}
use Rattle.mail_words.proofs.key.KeyPartialOrd.partial_cmp.Goals as goal

then-then : (p q r : Option Ordering) → partial_ordering_then (partial_ordering_then p q) r ≡ partial_ordering_then p (partial_ordering_then q r)
then-then None q r = refl
then-then (Some Less) q r = refl
then-then (Some Equal) q r = refl
then-then (Some Greater) q r = refl

joined : (p q r s x y z w : Option Ordering) → x ≡ p → y ≡ partial_ordering_then x q → z ≡ partial_ordering_then y r → w ≡ partial_ordering_then z s
    → w ≡ partial_ordering_then p (partial_ordering_then q (partial_ordering_then r s))
joined p q r s x y z w is_x is_y is_z is_w =
    let a = then-then p q (partial_ordering_then r s) in
    let b = then-then (partial_ordering_then p q) r s in
    cc

pub returns : goal.returns
returns c =
    let all = joined _ _ _ _ _ _ _ _ c.partial_cmp.ensures c.or_partial_cmp.ensures c.or_partial_cmp-2.ensures c.or_partial_cmp-3.ensures in
    grind (arith, all)
