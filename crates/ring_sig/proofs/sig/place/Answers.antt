use Rattle.std.proofs.Common.{◌*◌, ◌/◌, ◌%◌, ◌^◌, arith, ap}
use Rattle.ring_sig.specs.Signature.{place_of}
use Rattle.ring_sig.proofs.Places.{shift_is, shift_fits, place_below}
use Rattle.ring_sig.proofs.sig.place.Goals as goal

pub overflow_shr-result : goal.overflow_shr-result
overflow_shr-result c = omega (arith, shift_fits c.args.bits c.requires)

pub returns-clause-place : goal.returns-clause-place
unfolding place_of
returns-clause-place c =
    ap (λ d. c.args.addr * 0x9E3779B97F4A7C15 % 2 ^ 64 / d) (shift_is c.args.bits c.requires)

pub returns-clause-within : goal.returns-clause-within
unfolding place_of
returns-clause-within c = rw (shift_is c.args.bits c.requires) (place_below c.args.addr c.args.bits c.requires)
