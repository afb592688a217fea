-- Demand 3: "At each release the task's previous job is over." Never late, at the lowered speeds, for any reports.
use Rattle.std.specs.Prelude.{ℕ, ◌+◌, ◌-◌, ◌*◌, ◌/◌, ◌%◌, ◌≤◌, ◌<◌, ◌≡◌, true, cond, ◌&&◌, List, eqb, leb, length}
use Rattle.rules.specs.declared.State.{State}
use Rattle.rules.specs.Limits.{most_tasks}
use Rattle.rules.specs.State.{period_at, job_at, periods_of}
use Rattle.rules.specs.Load.{use_of}
use Rattle.rules.specs.Choice.{deadline_at, ready_at, load_of}
use Rattle.rules.specs.Settlement.{remaining, settled, keeps_rule4}
use Rattle.rules.specs.Counting.{next_of}
use Rattle.rules.specs.Admission.{great_of}
use Rattle.rules.specs.Numbers.{run_right}
use Rattle.promises.specs.Runs.{Table, Call, Step, Each, started, after, steps, sum_to}

-- Rule 5. Once a tick at a speed is settled, every task that is released at the new t, since its period divides that, has its job over.
unfoldable pub OverAtRelease : State → ℕ → List ℕ → Type 0
OverAtRelease s speed report =
    (i : ℕ) → i < s.tasks.count → eqb ((s.done.0 + 1) % period_at s.tasks i) 0 ≡ true
    → (job_at s.tasks (settled s speed report).jobs i).over ≡ true

-- Never late: so it is at each accepted tick of a run, and no job is ever counted as late.
pub record NeverLate (table : Table) (calls : List Call) : Type 0 where
  pub over_at_release : Each (λ (x : Step). OverAtRelease x.before x.speed x.report) (steps (started table).state calls)
  pub none_late : (after (started table).state calls).tally.late ≡ 0

unfoldable pub NeverLateInAnyRun : Type 0
NeverLateInAnyRun = (table : Table) → (started table).number ≡ 0 → (calls : List Call) → NeverLate table calls

-- Why: at every tick t and for every number d, the jobs that are due by d (rule 1) still owe, times H, no more than they have room for until they
-- are due, where rule 2 gives a task use x (H / P) in each tick. What the task at place i owes by d, and its room:
unfoldable pub owed_at : State → ℕ → ℕ → ℕ
owed_at s d i =
    cond (leb (deadline_at s i) d && ready_at s i) (remaining (job_at s.tasks s.jobs i) * s.tasks.great.0) 0

unfoldable pub room_at : State → ℕ → ℕ → ℕ
room_at s d i =
    cond (leb (deadline_at s i) d)
    (use_of (job_at s.tasks s.jobs i) * (s.tasks.great.0 / period_at s.tasks i) * (deadline_at s i - s.done.0))
    0

-- the first is at most the second, summed over the tasks, for every d
unfoldable pub Covered : State → Type 0
Covered s = (d : ℕ) → sum_to s.tasks.count (owed_at s d) ≤ sum_to s.tasks.count (room_at s d)

-- What the step below asks of a state beside that, and keeps: at most 16 tasks, no period that is 0, H right, a place for each job, and each run count
-- right. It asks nothing of the speeds, the counts or t.
pub record TasksRight (s : State) : Type 0 where
  pub few : s.tasks.count ≤ most_tasks
  pub period_some : (i : ℕ) → i < s.tasks.count → 1 ≤ period_at s.tasks i
  pub great_is : s.tasks.great.0 ≡ great_of (periods_of s.tasks)
  pub run_right_lem : (i : ℕ) → i < s.tasks.count → run_right (job_at s.tasks s.jobs i) ≡ true
  pub runs : length s.jobs.run ≡ most_tasks
  pub marks : length s.jobs.over ≡ most_tasks

-- Both together; a fresh start has them.
pub record OnCourse (s : State) : Type 0 where
  pub tasks_right_lem : TasksRight s
  pub covered : Covered s

unfoldable pub FreshStartIsOnCourse : Type 0
FreshStartIsOnCourse = (table : Table) → (started table).number ≡ 0 → OnCourse (started table).state

-- And ANY tick that keeps rule 4, whose speed carries the load wherever a job is ready, counts no job as late and keeps both, at whatever place its cycles
-- are counted: the governor's lowest speed is one such.
pub record OnTime (s : State) (place speed : ℕ) (report : List ℕ) : Type 0 where
  pub over_at_release : OverAtRelease s speed report
  pub none_late : (next_of s place (settled s speed report)).tally.late ≡ s.tally.late
  pub stays : OnCourse (next_of s place (settled s speed report))

unfoldable pub AnyTickThatCarriesTheLoad : Type 0
AnyTickThatCarriesTheLoad =
    (s : State) → OnCourse s
    → (place speed : ℕ) (report : List ℕ) → keeps_rule4 s speed report ≡ true
    → ((i : ℕ) → i < s.tasks.count → ready_at s i ≡ true → load_of s ≤ speed * s.tasks.great.0)
    → OnTime s place speed report
