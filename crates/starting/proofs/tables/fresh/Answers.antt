-- `fresh` is the all-zero state with its table.
use mathlib.Core.Path.{ap}
use Rattle.rules.specs.declared.State.{State}
use Rattle.rules.specs.Calls.{fresh_state, zero_state}
use Rattle.rules.proofs.Zero.{default_zero}
use Rattle.starting.proofs.tables.fresh.Goals as goal

pub returns : goal.returns
unfolding fresh_state zero_state
returns c =
    let a = c.args in
    ap (λ (s : State). record s { tasks = a.tasks; ladder = a.ladder }) (default_zero c.default.result c.default.ensures)
