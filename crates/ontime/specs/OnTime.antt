-- Never late, for tasks released at any tick, each due at most a period later, in at most 16 places: the step that every kind of run repeats. It knows of no state, no speed list and no count.
use Rattle.std.specs.Prelude.{ℕ, ◌+◌, ◌-◌, ◌*◌, ◌/◌, ◌≤◌, ◌<◌, ◌≡◌, Bool, true, false, cond, not, ◌&&◌, List, ◌⊎◌, leb, length}
use Rattle.rules.specs.declared.Tasks.{Tasks}
use Rattle.rules.specs.declared.Jobs.{Jobs}
use Rattle.rules.specs.declared.Job.{Job}
pub use Rattle.rules.specs.Words.{sum_to}
use Rattle.rules.specs.Limits.{most_tasks}
use Rattle.rules.specs.State.{job_at}
use Rattle.rules.specs.Load.{use_of}
use Rattle.rules.specs.Choice.{order_by}
use Rattle.rules.specs.Settlement.{remaining, settle_all, all_allowed, at_tick_start}
use Rattle.rules.specs.Numbers.{run_right}

-- What a tick finds: the tasks and their jobs, how many places are looked at and which of them hold a task, the tick, and when each place's job is due.
-- The tasks' great period may be any number that serves for H: a common multiple of the periods where a job is released or H is changed.
pub record Course : Type 0 where
  pub tasks : Tasks
  pub jobs : Jobs
  pub places : ℕ
  pub held : ℕ → Bool
  pub tick : ℕ
  pub due : ℕ → ℕ

-- the job at a place, of jobs js, and whether it counts by d: the place holds a task, and its job is due by then
abbrev pub job_of : Course → Jobs → ℕ → Job
job_of c js i = job_at c.tasks js i

unfoldable pub counts : Course → ℕ → ℕ → Bool
counts c d i = c.held i && leb (c.due i) d

-- what a job that counts still owes, times H; and the room that it has from a tick on until it is due
unfoldable pub owes : ℕ → Bool → Job → ℕ
owes great b j = cond (b && not j.over) (remaining j * great) 0

unfoldable pub room : ℕ → Bool → ℕ → Job → ℕ
room great b ticks j = cond b (use_of j * (great / j.period.0) * ticks) 0

abbrev pub owed_at : Course → Jobs → ℕ → ℕ → ℕ
owed_at c js d i = owes c.tasks.great.0 (counts c d i) (job_of c js i)

abbrev pub room_at : Course → Jobs → ℕ → ℕ → ℕ → ℕ
room_at c js from d i = room c.tasks.great.0 (counts c d i) (c.due i - from) (job_of c js i)

-- for every d, what is owed by d is within the room for it, from a tick on
unfoldable pub CoveredFrom : Course → Jobs → ℕ → Type 0
CoveredFrom c js from = (d : ℕ) → sum_to c.places (owed_at c js d) ≤ sum_to c.places (room_at c js from d)

abbrev pub Covered : Course → Type 0
Covered c = CoveredFrom c c.jobs c.tick

-- Rule 2. The load of the places that hold a task.
unfoldable pub load_at : Course → ℕ → ℕ
load_at c i = cond (c.held i) (use_of (job_of c c.jobs i) * (c.tasks.great.0 / (job_of c c.jobs i).period.0)) 0

abbrev pub load_in : Course → ℕ
load_in c = sum_to c.places (load_at c)

-- Rule 3. The ready ones, by deadline; rule 4 in that order.
unfoldable pub ready_in : Course → ℕ → Bool
ready_in c i = c.held i && not (job_of c c.jobs i).over

abbrev pub order_in : Course → List ℕ
order_in c = order_by c.due (ready_in c) c.places

abbrev pub settled_in : Course → ℕ → List ℕ → Jobs
settled_in c speed report = (settle_all c.tasks report (order_in c) (at_tick_start c.jobs speed)).jobs

-- What a tick asks of the tasks and jobs, and leaves of them: at most 16 places, H at least 1, deadlines at most a period away, run counts right, a place for each job.
pub record Right (c : Course) (js : Jobs) : Type 0 where
  pub few : c.places ≤ most_tasks
  pub some : 1 ≤ c.tasks.great.0
  pub near : (i : ℕ) → i < c.places → c.held i ≡ true → c.due i ≤ c.tick + (job_of c js i).period.0
  pub run_right_lem : (i : ℕ) → i < c.places → c.held i ≡ true → run_right (job_of c js i) ≡ true
  pub runs : length js.run ≡ most_tasks
  pub marks : length js.over ≡ most_tasks

-- What a tick leaves: for every d what is owed by d has room from the next tick on, and every job that is due by then is over.
pub record Paid (c : Course) (js : Jobs) : Type 0 where
  pub covered : CoveredFrom c js (c.tick + 1)
  pub over_when_due : (i : ℕ) → i < c.places → c.held i ≡ true → c.due i ≤ c.tick + 1 → (job_of c js i).over ≡ true
  pub right : Right c js

-- ANY tick that keeps rule 4, whose speed carries the load wherever a job is ready, leaves that.
unfoldable pub AnyTickPays : Type 0
AnyTickPays =
    (c : Course) → Right c c.jobs → Covered c
    → (speed : ℕ) (report : List ℕ) → all_allowed c.tasks report (order_in c) (at_tick_start c.jobs speed) ≡ true
    → ((i : ℕ) → i < c.places → ready_in c i ≡ true → load_in c ≤ speed * c.tasks.great.0)
    → Paid c (settled_in c speed report)

-- How a place goes on from jobs js to another course: as it is, be it empty; or its job was due by the other course's tick, and a new one is released
-- with a whole period to go, or it is gone; or it was empty and a task joins, released at once.
unfoldable pub Same : Course → Jobs → Course → ℕ → Type 0
Same c js e i = (e.held i ≡ c.held i) × (e.due i ≡ c.due i) × (job_of e e.jobs i ≡ job_of c js i)

pub record Fresh (e : Course) (i : ℕ) : Type 0 where
  pub due_is : e.due i ≡ e.tick + (job_of e e.jobs i).period.0
  pub run_is : (job_of e e.jobs i).run.0 ≡ 0
  pub not_over : (job_of e e.jobs i).over ≡ false
  pub whole : e.tasks.great.0 / (job_of e e.jobs i).period.0 * (job_of e e.jobs i).period.0 ≡ e.tasks.great.0

unfoldable pub Closed : Course → ℕ → ℕ → Type 0
Closed c from i = (c.held i ≡ false) ⊎ (c.due i ≤ from)

unfoldable pub GoesOn : Course → Jobs → Course → ℕ → Type 0
GoesOn c js e i = Same c js e i ⊎ (Closed c e.tick i × (Fresh e i ⊎ (e.held i ≡ false)))

-- Releases, vanishing and joins leave what is owed within its room, as long as H stays. (That the new course is Right is its user's to show.)
unfoldable pub ReleasesKeep : Type 0
ReleasesKeep =
    (c : Course) (js : Jobs) (e : Course) → e.places ≡ c.places → e.tasks.great ≡ c.tasks.great
    → ((i : ℕ) → i < c.places → GoesOn c js e i)
    → CoveredFrom c js e.tick → Covered e

-- So does a change of H to a multiple of it, and back, where each period divides the smaller one.
unfoldable pub AnyMultipleWillDo : Type 0
AnyMultipleWillDo =
    (c e : Course) (k : ℕ) → 1 ≤ k → e.tasks.great.0 ≡ k * c.tasks.great.0
    → e.places ≡ c.places → e.tick ≡ c.tick
    → ((i : ℕ) → i < c.places → Same c c.jobs e i)
    → ((i : ℕ) → i < c.places → c.held i ≡ true
    → (1 ≤ (job_of c c.jobs i).period.0) × (c.tasks.great.0 / (job_of c c.jobs i).period.0 * (job_of c c.jobs i).period.0 ≡ c.tasks.great.0))
    → (Covered c → Covered e) × (Covered e → Covered c)
