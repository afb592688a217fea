-- "arrays of fixed length": what stands at a place of the state, and the lists of its first places. Places count from 0: task 1 stands at place 0.
use Rattle.std.specs.Prelude.{ℕ, ◌-◌, ◌≡◌, Bool, false, List, get_or, set, length}
use Rattle.units.specs.Units.{ticks, cycles, speed, volts}
use Rattle.units.specs.declared.Ticks.{Ticks}
use Rattle.rules.specs.declared.Tasks.{Tasks}
use Rattle.rules.specs.declared.Jobs.{Jobs}
use Rattle.rules.specs.declared.Job.{Job}
use Rattle.rules.specs.declared.Ladder.{Ladder}
use Rattle.rules.specs.declared.Tally.{Tally}
use Rattle.rules.specs.declared.State.{State}
use Rattle.rules.specs.Words.{up_to}
use Rattle.rules.specs.Limits.{most_tasks, most_speeds}

-- the period and the reserve of the task at a place, the speed and the volts at a place, and the cycles counted at that speed; 0 past the array's end
unfoldable pub period_at : Tasks → ℕ → ℕ
period_at ts i = (get_or ts.periods i (ticks 0)).0

unfoldable pub reserve_at : Tasks → ℕ → ℕ
reserve_at ts i = (get_or ts.reserves i (cycles 0)).0

unfoldable pub speed_at : Ladder → ℕ → ℕ
speed_at l i = (get_or l.speeds i (speed 0)).0

unfoldable pub volts_at : Ladder → ℕ → ℕ
volts_at l i = (get_or l.volts i (volts 0)).0

unfoldable pub count_at : Tally → ℕ → ℕ
count_at tally i = (get_or tally.counts i (cycles 0)).0

-- the state of these parts
abbrev pub state_from : Ticks → Tasks → Jobs → Ladder → Tally → State
state_from done ts js l tally = record { done = done; tasks = ts; jobs = js; ladder = l; tally = tally }

-- the task at place i with its current job, and the jobs with another run count and mark there
unfoldable pub job_at : Tasks → Jobs → ℕ → Job
job_at ts js i =
    record {
      period = get_or ts.periods i (ticks 0);
      reserve = get_or ts.reserves i (cycles 0);
      run = get_or js.run i (cycles 0);
      over = get_or js.over i false;
    }

unfoldable pub put_at : Jobs → ℕ → ℕ → Bool → Jobs
put_at js i run over = record { run = set js.run i (cycles run); over = set js.over i over }

-- the lists of the first places, as many as the count says
unfoldable pub jobs_of : Tasks → Jobs → List Job
jobs_of ts js = up_to ts.count (job_at ts js)

unfoldable pub periods_of : Tasks → List ℕ
periods_of ts = up_to ts.count (period_at ts)

unfoldable pub reserves_of : Tasks → List ℕ
reserves_of ts = up_to ts.count (reserve_at ts)

unfoldable pub speeds_of : Ladder → List ℕ
speeds_of l = up_to l.count (speed_at l)

unfoldable pub volts_of : Ladder → List ℕ
volts_of l = up_to l.count (volts_at l)

-- the top speed is the last of the list
unfoldable pub top_of : List ℕ → ℕ
top_of ss = get_or ss (length ss - 1) 0

-- "arrays of fixed length": sixteen places on the task side, eight on the speed side, as the types of the arrays say
pub record Shaped (s : State) : Type 0 where
  pub periods : length s.tasks.periods ≡ most_tasks
  pub reserves : length s.tasks.reserves ≡ most_tasks
  pub runs : length s.jobs.run ≡ most_tasks
  pub marks : length s.jobs.over ≡ most_tasks
  pub speeds : length s.ladder.speeds ≡ most_speeds
  pub volts : length s.ladder.volts ≡ most_speeds
  pub counts : length s.tally.counts ≡ most_speeds
