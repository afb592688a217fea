-- The four calls: what each answers for every input, refusals too.
use Rattle.std.specs.Prelude.{ℕ, false, cond, List, [], eqb, length, get_or, Result, Ok, Err}
use Rattle.units.specs.Units.{ticks, cycles, speed, volts}
use Rattle.rules.specs.declared.Tasks.{Tasks}
use Rattle.rules.specs.declared.Jobs.{Jobs}
use Rattle.rules.specs.declared.Ladder.{Ladder}
use Rattle.rules.specs.declared.Tally.{Tally}
use Rattle.rules.specs.declared.State.{State}
use Rattle.rules.specs.declared.Choice.TheVariants.{Nothing}
use Rattle.rules.specs.declared.Advice.{Advice}
use Rattle.refusals.specs.declared.Refusal.{Refusal}
use Rattle.refusals.specs.Refusals.{number_of}
use Rattle.rules.specs.Answers.{Started, Told, Ticked, Used}
use Rattle.rules.specs.Words.{up_to}
use Rattle.rules.specs.Limits.{most_tasks, most_speeds}
use Rattle.rules.specs.Choice.{choice_of, speed_place, speed_of}
use Rattle.rules.specs.Settlement.{settled}
use Rattle.rules.specs.Counting.{next_of, energy_sum}
use Rattle.rules.specs.Admission.{great_of}
use Rattle.rules.specs.Numbers.{start_number, now_number, tick_number, energy_number}

-- the task side and the speed side of a table from its lists, with zero past the last
unfoldable pub tasks_from : ℕ → List ℕ → List ℕ → Tasks
tasks_from great periods reserves =
    record {
      count = length periods;
      great = ticks great;
      periods = up_to most_tasks (λ i. ticks (get_or periods i 0));
      reserves = up_to most_tasks (λ i. cycles (get_or reserves i 0));
    }

unfoldable pub ladder_from : List ℕ → List ℕ → Ladder
ladder_from ss vs =
    record {
      count = length ss;
      speeds = up_to most_speeds (λ i. speed (get_or ss i 0));
      volts = up_to most_speeds (λ i. volts (get_or vs i 0));
    }

-- jobs that have not run, and counts of nothing
unfoldable pub fresh_jobs : Jobs
fresh_jobs = record { run = up_to most_tasks (λ i. cycles 0); over = up_to most_tasks (λ i. false) }

unfoldable pub fresh_tally : Tally
fresh_tally = record { counts = up_to most_speeds (λ i. cycles 0); idle = cycles 0; late = 0; cut = 0 }

-- a table at tick 0, every task released; the all-zero state is that of no table
unfoldable pub fresh_state : Tasks → Ladder → State
fresh_state ts l = record { done = ticks 0; tasks = ts; jobs = fresh_jobs; ladder = l; tally = fresh_tally }

unfoldable pub zero_state : State
zero_state = fresh_state (tasks_from 0 [] []) (ladder_from [] [])

-- start: a number, and the fresh state or the all-zero one
unfoldable pub start_of : List ℕ → List ℕ → List ℕ → List ℕ → Started
start_of periods reserves ss vs =
    let n = start_number periods reserves ss vs in
    record {
      number = n;
      state = cond (eqb n 0) (fresh_state (tasks_from (great_of periods) periods reserves) (ladder_from ss vs)) zero_state;
    }

-- now: a number, the choice and the speed; refused, nothing chosen and speed 0
unfoldable pub now_of : State → Told
now_of s =
    let n = now_number s in
    record {
      number = n;
      choice = cond (eqb n 0) (choice_of s) Nothing;
      speed = speed (cond (eqb n 0) (speed_of s) 0);
    }

-- tick, for a report and a grants list of so many places: a number, and the next state or the one given
unfoldable pub tick_of : State → List ℕ → ℕ → Ticked
tick_of s report grantPlaces =
    let n = tick_number s report grantPlaces in
    record { number = n; state = cond (eqb n 0) (next_of s (speed_place s) (settled s (speed_of s) report)) s }

-- tick: the grants list after the call, each task's cycles; refused, as it was
unfoldable pub grants_of : State → List ℕ → List ℕ → List ℕ
grants_of s report grants =
    cond (eqb (tick_number s report (length grants)) 0)
    (up_to s.tasks.count (λ i. (get_or (settled s (speed_of s) report).grants i (cycles 0)).0))
    grants

-- energy: a number, and the energy; refused, 0
unfoldable pub energy_of : State → Used
energy_of s =
    let n = energy_number s in
    record { number = n; energy = cond (eqb n 0) (energy_sum s.ladder s.tally) 0 }

-- what each call's answer, or its refusal, says in those numbers and values: 0 beside an answer; beside a refusal its number,
-- the all-zero state of start, nothing chosen and speed 0 of now, the state given of tick, the energy 0 of energy
unfoldable pub started_by : Result State Refusal → Started
started_by (Ok s) = record { number = 0; state = s }
started_by (Err r) = record { number = number_of r; state = zero_state }

unfoldable pub told_by : Result Advice Refusal → Told
told_by (Ok a) = record { number = 0; choice = a.choice; speed = a.speed }
told_by (Err r) = record { number = number_of r; choice = Nothing; speed = speed 0 }

unfoldable pub ticked_by : State → Result State Refusal → Ticked
ticked_by given (Ok s) = record { number = 0; state = s }
ticked_by given (Err r) = record { number = number_of r; state = given }

unfoldable pub used_by : Result ℕ Refusal → Used
used_by (Ok e) = record { number = 0; energy = e }
used_by (Err r) = record { number = number_of r; energy = 0 }
