-- The machine's stage is that of the caller.
use Rattle.std.proofs.Common.{sym, ◌∙◌, ap}
use Rattle.ring_core.specs.declared.caller.Caller.{Caller}
use Rattle.ring_core.specs.Kinds.{kind_at}
use Rattle.ring_worlds.specs.Runs.{resting}
use Rattle.ring_worlds.specs.Calls.{process_at}
use Rattle.ring_worlds.proofs.lemmas.Elements.{elem_there}
use Rattle.ring_runs.proofs.world.World.kind.Goals as goal

pub returns-clause-next : goal.returns-clause-next
returns-clause-next c kind is =
    let w = c.args.self.now in
    record {
      process = process_at w c.args.who;
      here = elem_there w.processes c.args.who (resting w.shape) c.requires;
      is_kind = ap (λ (q : Caller). kind_at q.stage) (sym c.local.ensures) ∙ sym c.kind.ensures.kind ∙ is;
    }
