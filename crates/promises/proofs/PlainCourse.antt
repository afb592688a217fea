-- A tick of a state is a tick of its course: every place below the count holds a task, and its deadline is rule 1's. So the step of `ontime` is one of states.
use mathlib.Core.Path.{◌≡◌, refl, sym, ap, ◌∙◌}
use mathlib.Core.Bool.{Bool, true, false, cond}
use mathlib.Core.Logic.{inl, inr}
use mathlib.Core.List.{List}
use Prim.Native.Nat.{ℕ, ◌+◌, ◌*◌, ◌/◌, ◌%◌, ◌≤◌, ◌<◌}
use native.Mathlib.Omega.{arith}
use native.Mathlib.Nat.{le_of_eq}
use lib.Dec.{eqb}
use borrow.Author.Tests.{eqb-true, eqb-false}
use Rattle.rules.specs.declared.Jobs.{Jobs}
use Rattle.rules.specs.declared.Job.{Job}
use Rattle.rules.specs.declared.Releasing.{Releasing}
use Rattle.rules.specs.declared.State.{State}
use Rattle.rules.specs.State.{period_at, job_at, jobs_of}
use Rattle.rules.specs.Load.{deadline, use_of, load}
use Rattle.rules.specs.Choice.{deadline_at, ready_at, order_of, load_of}
use Rattle.rules.specs.Settlement.{all_allowed, at_tick_start, settled}
use Rattle.rules.specs.Counting.{counted, next_of}
use Rattle.rules.proofs.Totals.{total_places}
use Rattle.rules.proofs.Stores.{with_run}
use Rattle.rules.proofs.Deadlines.{deadline_most, deadline_next, due_stays, due_moves}
use Rattle.rules.proofs.GreatLaws.{great_whole, great_some}
use Rattle.rules.proofs.Releases.{after_release, lates, releases_late_is}
use Rattle.rules.proofs.Keeps.{JobsRight, all_allowed_lem, job_after, jobs_after}
use Rattle.ontime.specs.OnTime.{Course, CoveredFrom, Right, Paid, load_in, load_at, ready_in, counts, owes, room, Same, Fresh, Closed, GoesOn, AnyTickPays, ReleasesKeep}
use Rattle.ontime.proofs.Theorems.{tick_pays, releases}
use Rattle.ontime.proofs.Sums.{sum_zero}
use Rattle.promises.specs.Runs.{sum_to}
use Rattle.promises.specs.NeverLate.{OverAtRelease, owed_at, room_at, Covered, TasksRight, AnyTickThatCarriesTheLoad}

abbrev pub course_of : State → Course
course_of s = record { tasks = s.tasks; jobs = s.jobs; places = s.tasks.count; held = λ i. true; tick = s.done.0; due = deadline_at s }

-- the books of both
pub covered_is : (s : State) → Covered s ≡ CoveredFrom (course_of s) s.jobs s.done.0
unfolding Covered CoveredFrom owed_at room_at owes room counts ready_at job_at period_at
covered_is s = refl

pub load_is : (s : State) → load_of s ≡ load_in (course_of s)
unfolding load_of load jobs_of load_at
load_is s = total_places (λ (j : Job). use_of j * (s.tasks.great.0 / j.period.0)) (job_at s.tasks s.jobs) s.tasks.count

module _ (s : State) (r : TasksRight s) where
  right_jobs : JobsRight s
  right_jobs = record { few = r.few; right = r.run_right_lem; runs = r.runs; marks = r.marks }

  some : (i : ℕ) → i < s.tasks.count → 1 ≤ (job_at s.tasks s.jobs i).period.0
  unfolding job_at period_at
  some i h = r.period_some i h

  right_is : Right (course_of s) s.jobs
  unfolding deadline_at
  right_is =
      record {
        few = r.few;
        some = great_some s r.great_is r.period_some;
        near = λ i l h. deadline_most s.done.0 (job_at s.tasks s.jobs i) (some i l);
        run_right_lem = λ i l h. r.run_right_lem i l;
        runs = r.runs;
        marks = r.marks;
      }

-- a tick at a speed that carries the load wherever a job is ready
module _ (s : State) (r : TasksRight s) (covered : Covered s) (place speed : ℕ) (report : List ℕ)
    (lawful : all_allowed s.tasks report (order_of s) (at_tick_start s.jobs speed) ≡ true)
    (fast : (i : ℕ) → i < s.tasks.count → ready_at s i ≡ true → load_of s ≤ speed * s.tasks.great.0) where
  abbrev ran : Jobs
  ran = (settled s speed report).jobs

  abbrev later : State
  later = next_of s place (settled s speed report)

  paid : Paid (course_of s) ran
  unfolding AnyTickPays order_of ready_in ready_at settled
  paid =
      tick_pays (course_of s) (right_is s r) (rw (covered_is s) at covered) speed report lawful
      (λ i l h. rw (← load_is s) (fast i l h))

  -- a task is released where its deadline is the next tick
  module _ (i : ℕ) (h : i < s.tasks.count) where
    period_some : 1 ≤ (job_at s.tasks ran i).period.0
    unfolding job_at period_at
    period_some = r.period_some i h

    due_then : eqb ((s.done.0 + 1) % period_at s.tasks i) 0 ≡ true → deadline_at s i ≡ s.done.0 + 1
    unfolding deadline_at job_at period_at
    due_then e = eqb-true (deadline_at s i) (s.done.0 + 1) (sym (deadline_next s.done.0 (job_at s.tasks s.jobs i) (r.period_some i h)) ∙ e)

    due_later : eqb ((s.done.0 + 1) % period_at s.tasks i) 0 ≡ false → deadline_at later i ≡ deadline_at s i
    unfolding deadline_at deadline job_at period_at next_of
    due_later e = due_stays s.done.0 (period_at s.tasks i) (r.period_some i h) (eqb-false (deadline_at s i) (s.done.0 + 1) (sym (deadline_next s.done.0 (job_at s.tasks s.jobs i) (r.period_some i h)) ∙ e))

    due_new : eqb ((s.done.0 + 1) % period_at s.tasks i) 0 ≡ true → deadline_at later i ≡ s.done.0 + 1 + period_at s.tasks i
    unfolding deadline_at deadline job_at period_at next_of
    due_new e = due_moves s.done.0 (period_at s.tasks i) (r.period_some i h) (due_then e)

    job_then : job_at s.tasks later.jobs i ≡ after_release (s.done.0 + 1) (period_at s.tasks i) (job_at s.tasks ran i)
    job_then = job_after s (right_jobs s r) speed report lawful place i h

    goes_on : GoesOn (course_of s) ran (course_of later) i
    unfolding GoesOn Same Closed job_at next_of
    goes_on = go (eqb ((s.done.0 + 1) % period_at s.tasks i) 0) refl
      where
        go : (b : Bool) → eqb ((s.done.0 + 1) % period_at s.tasks i) 0 ≡ b → GoesOn (course_of s) ran (course_of later) i
        go true e = inr (inr (due_now e), inl (fresh e))
          where
            due_now : eqb ((s.done.0 + 1) % period_at s.tasks i) 0 ≡ true → deadline_at s i ≤ later.done.0
            due_now e = unfold next_of in le_of_eq (due_then e)

            new_job : eqb ((s.done.0 + 1) % period_at s.tasks i) 0 ≡ true → job_at s.tasks later.jobs i ≡ with_run (job_at s.tasks ran i) 0 false
            new_job e = job_then ∙ (unfold after_release in rw e)

            fresh : eqb ((s.done.0 + 1) % period_at s.tasks i) 0 ≡ true → Fresh (course_of later) i
            fresh e =
                record {
                  due_is = due_new e ∙ (unfold next_of job_at period_at in refl);
                  run_is = ap (λ (j : Job). j.run.0) (new_job e) ∙ (unfold with_run in refl);
                  not_over = ap (λ (j : Job). j.over) (new_job e) ∙ (unfold with_run in refl);
                  whole = unfold next_of job_at period_at in great_whole s r.great_is i h;
                }
        go false e = inl (refl, due_later e, job_then ∙ (unfold after_release in rw e))

  over_then : OverAtRelease s speed report
  unfolding OverAtRelease
  over_then i h e = paid.over_when_due i h refl (le_of_eq (due_then i h e))

  covered_then : Covered later
  unfolding ReleasesKeep
  covered_then =
      rw (covered_is later)
      (releases (course_of s) ran (course_of later) (unfold next_of in refl) (unfold next_of in refl) goes_on (unfold next_of in paid.covered))

  none_late : (i : ℕ) → i < s.tasks.count → lates s.tasks (s.done.0 + 1) (record { jobs = ran; late = s.tally.late }) i ≡ 0
  unfolding OverAtRelease
  none_late i h = go (eqb ((s.done.0 + 1) % period_at s.tasks i) 0) refl
    where
      go : (b : Bool) → eqb ((s.done.0 + 1) % period_at s.tasks i) 0 ≡ b → ◌≡◌ {A = ℕ} (cond b (cond (job_at s.tasks ran i).over 0 1) 0) 0
      go true e = rw (over_then i h e)
      go false e = refl

  late_stays : later.tally.late ≡ s.tally.late
  unfolding next_of counted
  late_stays =
      let before : Releasing = record { jobs = ran; late = s.tally.late } in
      releases_late_is s.tasks (s.done.0 + 1) before s.tasks.count
      ∙ omega (arith, sum_zero (lates s.tasks (s.done.0 + 1) before) s.tasks.count none_late)

  right_then : TasksRight later
  unfolding next_of
  right_then =
      let jobs = jobs_after s (right_jobs s r) speed report lawful place in
      record { few = r.few; period_some = r.period_some; great_is = r.great_is; run_right_lem = jobs.right; runs = jobs.runs; marks = jobs.marks }

pub any_tick : AnyTickThatCarriesTheLoad
unfolding AnyTickThatCarriesTheLoad
any_tick s course place speed report lawful fast =
    let r = course.tasks_right_lem in
    let c = course.covered in
    let a = all_allowed_lem s speed report lawful in
    record {
      over_at_release = over_then s r c place speed report a fast;
      none_late = late_stays s r c place speed report a fast;
      stays = record { tasks_right_lem = right_then s r c place speed report a fast; covered = covered_then s r c place speed report a fast };
    }

-- the load, task by task
pub load_sum : (s : State) → load_of s ≡ sum_to s.tasks.count (λ i. use_of (job_at s.tasks s.jobs i) * (s.tasks.great.0 / (job_at s.tasks s.jobs i).period.0))
unfolding load_of load jobs_of
load_sum s = total_places (λ (j : Job). use_of j * (s.tasks.great.0 / j.period.0)) (job_at s.tasks s.jobs) s.tasks.count
