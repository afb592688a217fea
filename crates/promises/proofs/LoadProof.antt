-- After any run the load is by the reports: the use of each task's job in the end, from any state on by induction on the accepted ticks, and the sum of these.
use mathlib.Core.Path.{◌≡◌, ap, ap₂, ◌∙◌}
use mathlib.Core.List.{List, [], ◌∷◌}
use Prim.Native.Nat.{ℕ, ◌*◌, ◌/◌, ◌≤◌, ◌<◌}
use native.Mathlib.Omega.{arith}
use lib.ListN.{length, get_or}
use Rattle.rules.specs.declared.Tasks.{Tasks}
use Rattle.rules.specs.declared.Jobs.{Jobs}
use Rattle.rules.specs.declared.State.{State}
use Rattle.rules.specs.State.{period_at, reserve_at, job_at}
use Rattle.rules.specs.Load.{use_of}
use Rattle.rules.specs.Choice.{load_of}
use Rattle.rules.specs.Counting.{next_of}
use Rattle.rules.specs.Admission.{great_of}
use Rattle.rules.specs.Calls.{tasks_from, fresh_state}
use Rattle.rules.proofs.Fresh.{period_laid}
use Rattle.promises.specs.Runs.{Table, Call, Step, started, after, step_of, steps, grants_to, entries_of, sum_to}
use Rattle.promises.specs.PaperLoad.{use_by, LoadIsByTheReports}
use Rattle.promises.proofs.RunLaws.{next, Taken, by_steps}
use Rattle.ontime.proofs.Sums.{sum_same}
use Rattle.promises.proofs.StartLaws.{started_is, tasks_few, tasks_count}
use Rattle.promises.proofs.SoundRuns.{SoundAndShaped, sound_next, sound_start, same_tasks}
use Rattle.promises.proofs.PlainCourse.{load_sum}
use Rattle.promises.proofs.StepPlaces.{OfJob, Onward, go_some, fresh_onward, step_portion, tick_first}
use Rattle.promises.proofs.UseWindows.{UseToCome, uses_by, uses_none, uses_on, uses_due}

-- a use to come of a task, and of the task at a place of a state, by its grants and entries from then on
abbrev UsesOf : ℕ → ℕ → ℕ → OfJob
UsesOf used reserve period over run togo gs us = UseToCome reserve period over run togo gs us used

abbrev UsesOnward : ℕ → State → List ℕ → List ℕ → ℕ → Type 0
UsesOnward i s gs us used = Onward (UsesOf used (reserve_at s.tasks i) (period_at s.tasks i)) i s gs us

-- the use of each task of a state in the end of a run from it
abbrev AllUses : State → State → List Step → Type 0
AllUses s end xs = (i : ℕ) → i < s.tasks.count → UsesOnward i s (grants_to i xs) (entries_of i xs) (use_of (job_at s.tasks end.jobs i))

-- with no tick, and with an accepted tick in front
all_none : (s : State) → SoundAndShaped s → AllUses s s []
unfolding job_at reserve_at use_of grants_to entries_of
all_none s kept i h =
    uses_none (reserve_at s.tasks i) (period_at s.tasks i) _ _ _
    (go_some s.done.0 (period_at s.tasks i) (kept.facts.period_some i h))

all_more : (s : State) (call : Call) (end : State) (xs : List Step) → SoundAndShaped s → Taken s call → AllUses (next s call) end xs → AllUses s end (step_of s call ∷ xs)
unfolding job_at reserve_at next_of
all_more s call end xs kept e rest i h =
    let part = step_portion s call kept.shape e i h in
    let period = period_at s.tasks i in
    let used = use_of (job_at s.tasks end.jobs i) in
    let Here : OfJob = UsesOf used (reserve_at s.tasks i) period in
    tick_first s call kept.shape e i h Here Here
    (λ togo gs us a. uses_on period _ _ _ _ part gs us used togo a)
    (λ r gs us a. uses_due period _ _ _ _ part gs us used (kept.facts.period_some i h) a)
    xs (rest i h)

all_uses : (calls : List Call) (s : State) → SoundAndShaped s → AllUses s (after s calls) (steps s calls)
all_uses = by_steps SoundAndShaped sound_next AllUses all_none all_more

-- from an accepted start on, in the words of its table
module _ (table : Table) (e : (started table).number ≡ 0) where
  abbrev begun : State
  begun = (started table).state

  great_listed : begun.tasks.great.0 ≡ great_of table.periods
  unfolding fresh_state tasks_from
  great_listed = rw (started_is table e)

  period_listed : (js : Jobs) (i : ℕ) → i < length table.periods → (job_at begun.tasks js i).period.0 ≡ get_or table.periods i 0
  unfolding fresh_state job_at period_at
  period_listed js i h =
      rw (started_is table e)
      (period_laid (great_of table.periods) table.periods table.reserves i (omega (arith, tasks_few table e)))

  -- a task's first job is at hand at tick 0, with a whole period to go
  use_listed : (i : ℕ) → i < length table.periods → (gs us : List ℕ) (used : ℕ) → UsesOnward i begun gs us used → used ≡ use_by (get_or table.reserves i 0) (get_or table.periods i 0) us
  use_listed i h gs us used to_come =
      let some = (sound_start table e).facts.period_some i (omega (arith, tasks_count table e)) in
      let (long, all) = fresh_onward
      (λ reserve period over run togo xs ys. (1 ≤ period) × UsesOf used reserve period over run togo xs ys)
      table e i h gs us (some, to_come) in
      uses_by (get_or table.reserves i 0) (get_or table.periods i 0) gs us used long all

  module _ (calls : List Call) where
    abbrev end : State
    end = after begun calls

    -- what a task with its job of the end adds to the load, and what it adds by its entries
    abbrev spent : Tasks → ℕ → ℕ
    spent ts i = use_of (job_at ts end.jobs i) * (ts.great.0 / (job_at ts end.jobs i).period.0)

    abbrev reported : ℕ → ℕ
    reported i = use_by (get_or table.reserves i 0) (get_or table.periods i 0) (entries_of i (steps begun calls)) * (great_of table.periods / get_or table.periods i 0)

    -- the tasks in the end are those of the start
    load_spent : load_of end ≡ sum_to (length table.periods) (spent begun.tasks)
    load_spent =
        load_sum end
        ∙ ap (λ (ts : Tasks). sum_to ts.count (spent ts)) (same_tasks calls begun (sound_start table e))
        ∙ ap (λ n. sum_to n (spent begun.tasks)) (tasks_count table e)

    spent_reported : (i : ℕ) → i < length table.periods → spent begun.tasks i ≡ reported i
    spent_reported i h =
        let xs = steps begun calls in
        let to_come = all_uses calls begun (sound_start table e) i (omega (arith, tasks_count table e)) in
        ap₂ ◌*◌
        (use_listed i h (grants_to i xs) (entries_of i xs) (use_of (job_at begun.tasks end.jobs i)) to_come)
        (ap₂ ◌/◌ great_listed (period_listed end.jobs i h))

    load_reported : load_of end ≡ sum_to (length table.periods) reported
    load_reported = load_spent ∙ sum_same (spent begun.tasks) reported (length table.periods) spent_reported

-- Demand 2: the load, and so the speed, is by the reports alone.
pub load_by_reports : LoadIsByTheReports
unfolding LoadIsByTheReports
load_by_reports = load_reported
