-- The opening world is sound, and nothing is sealed in it.
use Rattle.std.proofs.Common.{sym, subst}
use Rattle.ring_worlds.specs.Sound.{Sound}
use Rattle.ring_runs.proofs.Moving.{nothing_sealed}
use Rattle.ring_runs.proofs.world.World.of.Goals as goal

pub invariant_of-result : goal.invariant_of-result
invariant_of-result c =
    let plain = c.in_ok-plain.plain in
    let setup = c.args.setup.now in
    record {
      sound = subst Sound (sym c.in_ok-plain.ensures.opens) (c.opening_keeps.ensures setup.shape setup.regions setup.first setup.callers c.requires.open);
      nothing_sealed = nothing_sealed plain;
      shapes = c.in_ok-plain.ensures.shapes;
    }
