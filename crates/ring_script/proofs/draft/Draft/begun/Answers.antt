-- The first line has a head and a shape.
use Rattle.std.proofs.Common.{◌≡◌, refl, arith, subst}
use Rattle.ring_script.specs.Draft.{IsShapeOf}
use Rattle.ring_script.proofs.draft.Draft.begun.Goals as goal

pub returns-in_default : goal.returns-in_default
returns-in_default c may =
    let found = (c.head_of.ensures may.0).1 may.2 in
    absurd (cc (found, c.in_default.is))

pub returns-in_default-shape_of : goal.returns-in_default-shape_of
returns-in_default-shape_of c may =
    let head = c.in-Some.head in
    let found = (c.head_of.ensures may.0).1 may.2 in
    let same : may.0 ≡ head = cc (found, c.in-Some.is) in
    let shaped = (c.shape_of.ensures may.1).1 (subst (λ h. IsShapeOf h may.1) same may.3) in
    absurd (cc (shaped, c.in_default-shape_of.is))

pub zeros-requires : goal.zeros-requires
zeros-requires c =
    let shape = (c.shape_of.ensures c.in-Some-shape_of.shape).0 c.in-Some-shape_of.is in
    omega (arith, shape.heap, shape.memory)

pub returns-in-Ok : goal.returns-in-Ok
returns-in-Ok c =
    let head = c.in-Some.head in
    record {
      head = head;
      line = (c.head_of.ensures head).0 c.in-Some.is;
      shape = (c.shape_of.ensures c.in-Some-shape_of.shape).0 c.in-Some-shape_of.is;
      callers = refl;
      regions = c.new.ensures.items;
      first = c.in-Ok.ensures.zeros;
      group = refl;
      event_lines = refl;
      events = c.new-in-Ok.ensures.items;
    }
