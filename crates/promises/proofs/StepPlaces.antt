-- A task at one place, by its job at hand and the ticks to go to its deadline: after an accepted start, and with an accepted tick in front. By whether the task is released then.
use mathlib.Core.Path.{◌≡◌, refl, sym, ap, ◌∙◌}
use mathlib.Core.Bool.{Bool, true, false}
use mathlib.Core.List.{List, ◌∷◌}
use Prim.Native.Nat.{ℕ, suc, ◌+◌, ◌-◌, ◌%◌, ◌≤◌, ◌<◌}
use native.Mathlib.Nat.{zero-mod}
use native.Mathlib.Omega.{arith}
use lib.Dec.{eqb}
use lib.ListN.{length, get_or}
use borrow.Author.Tests.{eqb-true, eqb-false}
use Rattle.rules.specs.declared.Job.{Job}
use Rattle.rules.specs.declared.State.{State}
use Rattle.rules.specs.Limits.{most_tasks}
use Rattle.rules.specs.State.{Shaped, period_at, reserve_at, job_at}
use Rattle.rules.specs.Choice.{speed_place, speed_of}
use Rattle.rules.specs.Counting.{next_of}
use Rattle.rules.specs.Admission.{great_of}
use Rattle.rules.specs.Calls.{fresh_state}
use Rattle.rules.proofs.Lists.{get_d_up_to}
use Rattle.rules.proofs.Stores.{with_run}
use Rattle.rules.proofs.Releases.{after_release}
use Rattle.rules.proofs.Deadlines.{due_after, release_due, due_stays, due_moves}
use Rattle.rules.proofs.Fresh.{run_fresh, over_fresh, period_laid, reserve_laid}
use Rattle.rules.proofs.Keeps.{jobs_right, job_after, entries_allowed}
use Rattle.promises.specs.Runs.{Table, Call, Step, started, step_of, grants_to, entries_of}
use Rattle.promises.proofs.RunLaws.{outcome, next, Taken, tests_passed, step_grants}
use Rattle.promises.proofs.StartLaws.{started_is, tasks_few}
use Rattle.promises.proofs.Portions.{Portion, share, portion}

-- the ticks to go from tick t to the deadline of a job with a period
unfoldable pub to_go : ℕ → ℕ → ℕ
to_go t period = t + period - t % period - t

module _ (t period : ℕ) (some : 1 ≤ period) where
  pub go_some : 1 ≤ to_go t period
  unfolding to_go
  go_some = omega (arith, due_after t period some)

  -- one less at the next tick where the deadline is not then, and a whole period where it is
  go_on : eqb ((t + 1) % period) 0 ≡ false → to_go t period ≡ suc (to_go (t + 1) period)
  unfolding to_go
  go_on e =
      let not_yet = eqb-false (t + period - t % period) (t + 1) (sym (release_due t period some) ∙ e) in
      omega (arith, due_after t period some, due_stays t period some not_yet)

  go_due : eqb ((t + 1) % period) 0 ≡ true → (to_go t period ≡ 1) × (to_go (t + 1) period ≡ period)
  unfolding to_go
  go_due e =
      let now = eqb-true (t + period - t % period) (t + 1) (sym (release_due t period some) ∙ e) in
      (omega arith, omega (arith, due_moves t period some now))

go_fresh : (period : ℕ) → to_go 0 period ≡ period
unfolding to_go
go_fresh period = omega (arith, zero-mod period)

-- a statement of a task's job at hand (whether it is over, its run count and its ticks to go) and of its grants and entries from then on
abbrev pub OfJob : Type 1
OfJob = Bool → ℕ → ℕ → List ℕ → List ℕ → Type 0

-- so of the job j of a task with a period at tick t, and of the task at a place of a state
abbrev WithJob : OfJob → ℕ → ℕ → Job → List ℕ → List ℕ → Type 0
WithJob P period t j gs us = P j.over j.run.0 (to_go t period) gs us

abbrev pub Onward : OfJob → ℕ → State → List ℕ → List ℕ → Type 0
Onward P i s gs us = WithJob P (period_at s.tasks i) s.done.0 (job_at s.tasks s.jobs i) gs us

-- after an accepted start every task has a fresh job at hand, with a whole period to go: what is said of its reserve, its period and that job
pub fresh_onward : (P : ℕ → ℕ → OfJob) (table : Table) → (started table).number ≡ 0 → (i : ℕ) → i < length table.periods → (gs us : List ℕ)
    → Onward (P (reserve_at (started table).state.tasks i) (period_at (started table).state.tasks i)) i (started table).state gs us
    → P (get_or table.reserves i 0) (get_or table.periods i 0) false 0 (get_or table.periods i 0) gs us
unfolding fresh_state job_at
fresh_onward P table e i h gs us a =
    let great = great_of table.periods in
    let l : i < most_tasks = omega (arith, tasks_few table e) in
    rw (
      started_is table e,
      reserve_laid great table.periods table.reserves i l,
      period_laid great table.periods table.reserves i l,
      run_fresh i l,
      over_fresh i l,
      go_fresh (get_or table.periods i 0),
    )
    at a

-- an accepted tick in front of those to come
module _ (s : State) (call : Call) (shape : Shaped s) (e : Taken s call) (i : ℕ) (h : i < s.tasks.count) where
  abbrev period : ℕ
  period = period_at s.tasks i

  abbrev entry : ℕ
  entry = get_or call.report i 0

  abbrev grant : ℕ
  grant = share s (speed_of s) call.report i

  abbrev settled_then : Job
  settled_then = job_at s.tasks (outcome s call).jobs i

  pub step_portion : Portion (get_or call.report i 0) (share s (speed_of s) call.report i) (job_at s.tasks s.jobs i) (job_at s.tasks (outcome s call).jobs i)
  step_portion = portion s (tests_passed s call e).is_sound shape (speed_of s) call.report (tests_passed s call e).lawful i h

  -- the job after the tick, a fresh one where the task is released then
  job_next : job_at s.tasks (next s call).jobs i ≡ after_release (s.done.0 + 1) period settled_then
  job_next =
      job_after s (jobs_right s (tests_passed s call e).is_sound shape) (speed_of s) call.report
      (entries_allowed s call.report (length call.grants) shape e) (speed_place s) i h

  -- the run's own lists begin with the task's grant and its entry
  grants_first : (xs : List Step) → grants_to i (step_of s call ∷ xs) ≡ grant ∷ grants_to i xs
  unfolding grants_to
  grants_first xs =
      ap (λ (l : List ℕ). get_or l i 0 ∷ grants_to i xs) (step_grants s call e)
      ∙ ap (λ g. g ∷ grants_to i xs) (get_d_up_to s.tasks.count (share s (speed_of s) call.report) i 0 h)

  entries_first : (xs : List Step) → entries_of i (step_of s call ∷ xs) ≡ entry ∷ entries_of i xs
  unfolding entries_of step_of
  entries_first xs = refl

  -- from a statement of the ticks to come to one with this tick in front: where the job goes on, and where its deadline comes and a fresh one is at hand
  module _ (P Q : OfJob)
      (on : (togo : ℕ) (gs us : List ℕ) → P (job_at s.tasks (outcome s call).jobs i).over (job_at s.tasks (outcome s call).jobs i).run.0 togo gs us
      → Q (job_at s.tasks s.jobs i).over (job_at s.tasks s.jobs i).run.0 (suc togo) (share s (speed_of s) call.report i ∷ gs) (get_or call.report i 0 ∷ us))
      (due : eqb ((s.done.0 + 1) % period_at s.tasks i) 0 ≡ true → (gs us : List ℕ) → P false 0 (period_at s.tasks i) gs us
      → Q (job_at s.tasks s.jobs i).over (job_at s.tasks s.jobs i).run.0 1 (share s (speed_of s) call.report i ∷ gs) (get_or call.report i 0 ∷ us))
    where
      with_next : (gs us : List ℕ) → Onward P i (next s call) gs us → WithJob P period (s.done.0 + 1) (after_release (s.done.0 + 1) period settled_then) gs us
      unfolding next_of
      with_next gs us a = rw job_next at a

      one_tick : (gs us : List ℕ) → Onward P i (next s call) gs us → Onward Q i s (grant ∷ gs) (entry ∷ us)
      unfolding after_release with_run
      one_tick gs us a = go (eqb ((s.done.0 + 1) % period) 0) refl
        where
          some : 1 ≤ period
          some = (tests_passed s call e).is_sound.period_some i h

          go : (b : Bool) → eqb ((s.done.0 + 1) % period) 0 ≡ b → Onward Q i s (grant ∷ gs) (entry ∷ us)
          go true r =
              let ends = go_due s.done.0 period some r in
              rw ends.0 (due r gs us (rw (r, ends.1) at (with_next gs us a)))
          go false r =
              rw (go_on s.done.0 period some r)
              (on (to_go (s.done.0 + 1) period) gs us (rw r at (with_next gs us a)))

      pub tick_first : (xs : List Step) → Onward P i (next s call) (grants_to i xs) (entries_of i xs) → Onward Q i s (grants_to i (step_of s call ∷ xs)) (entries_of i (step_of s call ∷ xs))
      tick_first xs a = rw (grants_first xs, entries_first xs) (one_tick (grants_to i xs) (entries_of i xs) a)
