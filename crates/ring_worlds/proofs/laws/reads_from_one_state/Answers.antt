use Rattle.std.proofs.Common.{◌≡◌, sym, ◌∙◌, arith}
use Rattle.tx_model.specs.declared.pass.PassState.TheVariants.{Active, Idle}
use Rattle.ring_worlds.proofs.laws.reads_from_one_state.Goals as goal

not_idle : Active ≡ Idle → ⊥
not_idle e = cc

pub returns : goal.returns
returns c w who p s here active =
    let me = s.each who p here in (
      record { happened = omega (arith, me.reader.behind, s.board.counted); agree = me.reader.agree active },
      me.since.since (λ e. not_idle (sym active ∙ e)),
    )
