-- The state of a refused start is the all-zero one, which is the default of its struct.
use mathlib.Core.Path.{refl}
use Rattle.rules.specs.Calls.{started_by, zero_state, fresh_state, fresh_tally, tasks_from}
use Rattle.rules.proofs.Zero.{default_zero}
use Rattle.piszczalin.specs.Plain.{plain_state_of}
use Rattle.piszczalin.specs.Calls.{plain_started}
use Rattle.piszczalin.proofs.answers.PlainStartedFromResultStateRefusal.from.Goals as goal

pub returns-in-Err : goal.returns-in-Err
unfolding plain_started started_by plain_state_of zero_state fresh_state fresh_tally tasks_from
returns-in-Err c =
    let zero = default_zero c.default.result c.default.ensures in
    rw (c.into.ensures, c.from-state-in-Err.ensures, zero, c.in-Err.is) refl
