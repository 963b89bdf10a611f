-- A caller of the benchmark between two attempts, and during one.
use Rattle.std.specs.Prelude.{◌≡◌, ◌^◌}
use Rattle.tx_model.specs.declared.pass.PassState.{PassState}
use Rattle.tx_model.specs.declared.pass.PassState.TheVariants as state
use Rattle.ring_core.specs.Machine.{Machine, IsClosed}

-- no request is open, and the heap is the benchmark's
pub record IsIn (now : PassState) (m : Machine) : Type 0 where
  pub state : m.caller.state ≡ now
  pub closed : IsClosed m
  pub heap : m.shape.heap ≡ 2 ^ 20

abbrev pub IsReady : Machine → Type 0
IsReady m = IsIn state.Idle m

abbrev pub IsRunning : Machine → Type 0
IsRunning m = IsIn state.Active m
