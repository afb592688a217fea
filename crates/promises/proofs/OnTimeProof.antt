-- Never late: a fresh start is covered, each job having a whole period, and each accepted tick keeps the invariant. By induction on the accepted ticks.
use mathlib.Core.Path.{◌≡◌, refl, ap, ◌∙◌}
use mathlib.Core.Bool.{false}
use mathlib.Core.Logic.{inl, inr}
use mathlib.Core.List.{List}
use Prim.Native.Nat.{ℕ, ◌+◌, ◌<◌}
use native.Mathlib.Nat.{zero-mod, le_trans}
use native.Mathlib.Omega.{arith}
use Rattle.units.specs.declared.Cycles.{Cycles}
use Rattle.rules.specs.declared.Job.{Job}
use Rattle.rules.specs.declared.State.{State}
use Rattle.rules.specs.State.{period_at, job_at}
use Rattle.rules.specs.Load.{deadline}
use Rattle.rules.specs.Choice.{deadline_at, speed_place, speed_of}
use Rattle.rules.specs.Calls.{fresh_tally, fresh_state}
use Rattle.rules.proofs.Loads.{speed_enough}
use Rattle.rules.proofs.GreatLaws.{great_whole}
use Rattle.rules.proofs.Fresh.{run_fresh, over_fresh}
use Rattle.promises.specs.Runs.{Table, Call, Step, Each, started, after, steps, step_of}
use Rattle.promises.specs.NeverLate.{OverAtRelease, NeverLateInAnyRun, Covered, TasksRight, OnCourse, FreshStartIsOnCourse, OnTime, AnyTickThatCarriesTheLoad}
use Rattle.promises.proofs.RunLaws.{Taken, next, tests_passed, step_speed, by_steps}
use Rattle.ontime.proofs.Sums.{sum_zero}
use Rattle.promises.proofs.StartLaws.{fresh_of, started_is}
use Rattle.promises.proofs.SoundRuns.{SoundAndShaped, sound_next, sound_start}
use Rattle.promises.proofs.Invariant.{Kept}
use Rattle.promises.proofs.PlainCourse.{course_of, covered_is, any_tick}
use Rattle.ontime.specs.OnTime.{Course, CoveredFrom, GoesOn, Closed, counts, owes, ReleasesKeep}
use Rattle.ontime.proofs.Theorems.{releases}

-- the tasks of a sound state are right
sound_right : (s : State) → SoundAndShaped s → TasksRight s
sound_right s kept =
    let f = kept.facts in
    record {
      few = f.tasks_most;
      period_some = f.period_some;
      great_is = f.great_is;
      run_right_lem = f.run_right_lem;
      runs = kept.shape.runs;
      marks = kept.shape.marks;
    }

-- at tick 0 a deadline is a whole period away
first_deadline : (j : Job) → deadline 0 j ≡ 0 + j.period.0
unfolding deadline
first_deadline j = omega (arith, zero-mod j.period.0)

-- an accepted start
module _ (table : Table) (e : (started table).number ≡ 0) where
  fresh_right : TasksRight (fresh_of table)
  fresh_right = rw (started_is table e) at (sound_right (started table).state (sound_start table e))

  -- no job has run or is over, so each has room for all that it owes
  not_run : (i : ℕ) → i < (fresh_of table).tasks.count → (job_at (fresh_of table).tasks (fresh_of table).jobs i).run.0 ≡ 0
  unfolding job_at fresh_state
  not_run i h = ap (λ (c : Cycles). c.0) (run_fresh i (le_trans h fresh_right.few))

  not_over : (i : ℕ) → i < (fresh_of table).tasks.count → (job_at (fresh_of table).tasks (fresh_of table).jobs i).over ≡ false
  unfolding job_at fresh_state
  not_over i h = over_fresh i (le_trans h fresh_right.few)

  -- a fresh start is one at which every task joins, where there was none
  before : Course
  before = record { tasks = (fresh_of table).tasks; jobs = (fresh_of table).jobs; places = (fresh_of table).tasks.count; held = λ i. false; tick = 0; due = λ i. 0 }

  joins : (i : ℕ) → i < (fresh_of table).tasks.count → GoesOn before (fresh_of table).jobs (course_of (fresh_of table)) i
  unfolding GoesOn Closed before deadline_at fresh_state
  joins i h =
      inr (
        inl refl,
        inl (record {
          due_is = first_deadline (job_at (fresh_of table).tasks (fresh_of table).jobs i);
          run_is = not_run i h;
          not_over = not_over i h;
          whole = unfold job_at period_at in great_whole (fresh_of table) fresh_right.great_is i h;
        }),
      )

  none_yet : CoveredFrom before (fresh_of table).jobs 0
  unfolding CoveredFrom counts owes before
  none_yet d = omega (arith, sum_zero (λ i. 0) (fresh_of table).tasks.count (λ i l. refl))

  fresh_is_covered : Covered (fresh_of table)
  unfolding ReleasesKeep before fresh_state
  fresh_is_covered =
      rw (covered_is (fresh_of table))
      (releases before (fresh_of table).jobs (course_of (fresh_of table)) refl refl joins none_yet)

  pub kept_start : Kept (started table).state
  kept_start = record { base = sound_start table e; covered = rw (started_is table e) fresh_is_covered }

  none_late_yet : (started table).state.tally.late ≡ 0
  unfolding fresh_state fresh_tally
  none_late_yet = rw (started_is table e)

-- a state of a run is on course
on_course : (s : State) → Kept s → OnCourse s
on_course s k = record { tasks_right_lem = sound_right s k.base; covered = k.covered }

pub fresh_on_course : FreshStartIsOnCourse
unfolding FreshStartIsOnCourse
fresh_on_course table e = on_course (started table).state (kept_start table e)

-- an accepted tick from a state that keeps the invariant: the governor's lowest speed is one that carries the load
module _ (s : State) (call : Call) (k : Kept s) (taken : Taken s call) where
  on_time : OnTime s (speed_place s) (speed_of s) call.report
  unfolding AnyTickThatCarriesTheLoad
  on_time =
      any_tick s (on_course s k) (speed_place s) (speed_of s) call.report
      (tests_passed s call taken).lawful (λ i h r. speed_enough s k.base.facts)

  pub kept_over : OverAtRelease s (speed_of s) call.report
  kept_over = on_time.over_at_release

  pub kept_next : Kept (next s call)
  kept_next = record { base = sound_next s call k.base taken; covered = on_time.stays.covered }

  step_over : OverAtRelease (step_of s call).before (step_of s call).speed (step_of s call).report
  unfolding step_of
  step_over = rw (step_speed s call taken) kept_over

-- from a state that keeps the invariant to another by these accepted ticks: at each release the job is over, and no more jobs are late
abbrev OnTimeBy : State → State → List Step → Type 0
OnTimeBy s end xs = Each (λ (x : Step). OverAtRelease x.before x.speed x.report) xs × (end.tally.late ≡ s.tally.late)

pub in_any_run : NeverLateInAnyRun
unfolding NeverLateInAnyRun
in_any_run table e calls =
    let run : OnTimeBy (started table).state (after (started table).state calls) (steps (started table).state calls) =
    by_steps Kept kept_next OnTimeBy (λ s k. (tt, refl))
    (λ s call end xs k taken q. ((step_over s call k taken, q.0), q.1 ∙ (on_time s call k taken).none_late))
    calls (started table).state (kept_start table e) in
    record { over_at_release = run.0; none_late = run.1 ∙ none_late_yet table e }
