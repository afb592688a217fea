-- Demand 2: admission, choice of task and choice of speed "equal the rules of Figures 1 and 4 of that paper for EDF": "the lowest listed speed that carries the load, compared exactly, with no rounding".
use Rattle.std.specs.Prelude.{ℕ, ◌+◌, ◌*◌, ◌≤◌, ◌<◌, ◌≡◌, true, false, List, ◌↔◌, length, get_or}
use Rattle.std.specs.Int.{◌∣◌}
use Rattle.rules.specs.declared.State.{State}
use Rattle.rules.specs.State.{jobs_of, periods_of, speed_at, top_of}
use Rattle.rules.specs.Load.{load}
use Rattle.rules.specs.Choice.{deadline_at, ready_at, task_of, due_of, load_of}
use Rattle.rules.specs.Admission.{great_of, full_load}
use Rattle.rules.specs.Numbers.{sound}
use Rattle.rules.specs.Calls.{now_of}
use Rattle.promises.specs.Runs.{Table, started}

-- a common multiple of the periods that is not 0
pub record CommonMultiple (multiple : ℕ) (periods : List ℕ) : Type 0 where
  pub some : 0 < multiple
  pub of_each : (k : ℕ) → k < length periods → get_or periods k 0 ∣ multiple

-- Figure 1, EDF: C1 / P1 + .. + Cn / Pn is at most the speed. With both sides multiplied by any common multiple of the periods, it is the same test as with H.
unfoldable pub Figure1 : Type 0
Figure1 =
    (periods reserves : List ℕ) (multiple : ℕ) → CommonMultiple multiple periods
    → (s : ℕ) → (full_load multiple periods reserves ≤ s * multiple) ↔ (full_load (great_of periods) periods reserves ≤ s * great_of periods)

-- Rule 7. So start tests by it: the test holds of a table that start accepts, at top speed, and fails of one that it turns away for load.
unfoldable pub StartTestsFigure1 : Type 0
StartTestsFigure1 =
    (table : Table) (multiple : ℕ) → CommonMultiple multiple table.periods
    → ((started table).number ≡ 0 → full_load multiple table.periods table.reserves ≤ top_of table.speeds * multiple)
    × ((started table).number ≡ 8 → top_of table.speeds * multiple < full_load multiple table.periods table.reserves)

-- Figure 4, and rule 2: U1 + .. + Un is at most the speed, where U is use / P: the same of the load of a state.
unfoldable pub Figure4 : Type 0
Figure4 =
    (state : State) → sound state ≡ true
    → (multiple : ℕ) → CommonMultiple multiple (periods_of state.tasks)
    → (s : ℕ) → (load multiple (jobs_of state.tasks state.jobs) ≤ s * multiple) ↔ (load_of state ≤ s * state.tasks.great.0)

-- Rule 3. The speed that now answers is listed, it carries the load, and no lower listed one does.
pub record LowestThatCarries (state : State) (answered : ℕ) : Type 0 where
  pub place : ℕ
  pub is_listed : place < state.ladder.count
  pub answered_is : speed_at state.ladder place ≡ answered
  pub carries : load_of state ≤ answered * state.tasks.great.0
  pub no_lower : (k : ℕ) → k < state.ladder.count → speed_at state.ladder k < answered → speed_at state.ladder k * state.tasks.great.0 < load_of state

unfoldable pub LowestSpeedIsTold : Type 0
LowestSpeedIsTold = (state : State) → (now_of state).number ≡ 0 → LowestThatCarries state (now_of state).speed.0

-- Rule 3. The task that now names is ready, answered with its deadline, and no ready task comes before it: none is due earlier, and of those due then none has a lower number.
pub record Earliest (state : State) (task due : ℕ) : Type 0 where
  pub place : ℕ
  pub is_task : place < state.tasks.count
  pub numbered : task ≡ place + 1
  pub is_ready : ready_at state place ≡ true
  pub due_is : due ≡ deadline_at state place
  pub first : (k : ℕ) → k < state.tasks.count → ready_at state k ≡ true → due ≤ deadline_at state k
  pub lower_number : (k : ℕ) → k < state.tasks.count → ready_at state k ≡ true → deadline_at state k ≡ due → place ≤ k

-- Named 0, there is no ready task; any other number is the earliest.
pub record ChoiceIs (state : State) (task due : ℕ) : Type 0 where
  pub nothing : task ≡ 0 → (k : ℕ) → k < state.tasks.count → ready_at state k ≡ false
  pub something : (task ≡ 0 → ⊥) → Earliest state task due

unfoldable pub EarliestDeadlineIsTold : Type 0
EarliestDeadlineIsTold = (state : State) → (now_of state).number ≡ 0 → ChoiceIs state (task_of (now_of state).choice) (due_of (now_of state).choice)
