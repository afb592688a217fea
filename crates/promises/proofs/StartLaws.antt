-- The state of an accepted start, in the words of its table.
use mathlib.Core.Path.{◌≡◌}
use Prim.Native.Nat.{◌≤◌}
use lib.ListN.{length}
use Rattle.rules.specs.declared.State.{State}
use Rattle.rules.specs.Limits.{most_tasks, most_speeds}
use Rattle.rules.specs.Admission.{great_of}
use Rattle.rules.specs.Calls.{tasks_from, ladder_from, fresh_state, start_of}
use Rattle.rules.proofs.Tables.{Passes, passes, match_most}
use Rattle.rules.proofs.CallRows.{start_is}
use Rattle.promises.specs.Runs.{Table, started}

-- a table at tick 0
abbrev pub fresh_of : Table → State
fresh_of table = fresh_state (tasks_from (great_of table.periods) table.periods table.reserves) (ladder_from table.speeds table.volts)

module _ (table : Table) (e : (started table).number ≡ 0) where
  pub started_is : (started table).state ≡ fresh_of table
  unfolding started
  started_is = start_is table.periods table.reserves table.speeds table.volts e

  -- its table passed 1 to 8
  pub passed : Passes table.periods table.reserves table.speeds table.volts
  unfolding started start_of
  passed = passes table.periods table.reserves table.speeds table.volts e

  pub tasks_few : length table.periods ≤ most_tasks
  tasks_few = match_most most_tasks table.periods table.reserves passed.forms.tasks_match

  pub speeds_few : length table.speeds ≤ most_speeds
  speeds_few = match_most most_speeds table.speeds table.volts passed.forms.speeds_match

  -- as many tasks and speeds as the lists have, and no tick done
  pub tasks_count : (started table).state.tasks.count ≡ length table.periods
  unfolding fresh_state tasks_from
  tasks_count = rw started_is

  pub speeds_count : (started table).state.ladder.count ≡ length table.speeds
  unfolding fresh_state ladder_from
  speeds_count = rw started_is

  pub start_done : (started table).state.done.0 ≡ 0
  unfolding fresh_state
  start_done = rw started_is
