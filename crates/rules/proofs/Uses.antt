-- Rule 2 seen from one job: a finish at u cycles and a release each change the load by what that job's use changes. By the sum over the places with one of them stored anew.
use mathlib.Core.Path.{◌≡◌, sym}
use mathlib.Core.Bool.{Bool, true, false}
use Prim.Native.Nat.{ℕ, ◌+◌, ◌*◌, ◌/◌, ◌<◌}
use lib.ListN.{length, set}
use Rattle.rules.specs.declared.Tasks.{Tasks}
use Rattle.rules.specs.declared.Jobs.{Jobs}
use Rattle.rules.specs.declared.Job.{Job}
use Rattle.rules.specs.Words.{up_to}
use Rattle.rules.specs.State.{period_at, reserve_at, job_at, put_at, jobs_of}
use Rattle.rules.specs.Load.{use_of, load}
use Rattle.rules.proofs.Lists.{length-up_to, get_d_up_to, up_to-set}
use Rattle.rules.proofs.Stores.{with_run, put_same, put_other}
use Rattle.rules.proofs.Totals.{total-set}

-- the task at place i, with its job's run count and mark in their arrays
module _ (great : ℕ) (ts : Tasks) (js : Jobs) (i : ℕ) (listed : i < ts.count) (runs : i < length js.run) (marks : i < length js.over) where
  term : Job → ℕ
  term j = use_of j * (great / j.period.0)

  -- the load with another job there
  load_put : (run : ℕ) (over : Bool) → load great (jobs_of ts (put_at js i run over)) + term (job_at ts js i) ≡ load great (jobs_of ts js) + term (with_run (job_at ts js i) run over)
  unfolding load jobs_of term
  load_put run over =
      let there = with_run (job_at ts js i) run over in
      let stored : set (up_to ts.count (job_at ts js)) i there ≡ up_to ts.count (job_at ts (put_at js i run over)) =
      up_to-set ts.count (job_at ts js) (job_at ts (put_at js i run over)) i there listed (put_same ts js i run over runs marks) (λ k ne. sym (put_other ts js i run over k ne)) in
      let sum = total-set (λ (j : Job). use_of j * (great / j.period.0)) (up_to ts.count (job_at ts js)) i there (job_at ts js i) (rw (length-up_to ts.count (job_at ts js)) listed) in
      rw (← stored) (rw (get_d_up_to ts.count (job_at ts js) i (job_at ts js i) listed) at sum)

  -- a ready job that finishes at u cycles is in the load with u in the place of its reserve, until its next release,
  pub finish_lowers : (u : ℕ) → (job_at ts js i).over ≡ false → load great (jobs_of ts (put_at js i u true)) + reserve_at ts i * (great / period_at ts i) ≡ load great (jobs_of ts js) + u * (great / period_at ts i)
  unfolding term use_of with_run job_at reserve_at period_at
  finish_lowers u ready = rw ready at (load_put u true)

  -- which puts its reserve in the place of what it ran
  pub release_raises : (job_at ts js i).over ≡ true → load great (jobs_of ts (put_at js i 0 false)) + (job_at ts js i).run.0 * (great / period_at ts i) ≡ load great (jobs_of ts js) + reserve_at ts i * (great / period_at ts i)
  unfolding term use_of with_run job_at reserve_at period_at
  release_raises over = rw over at (load_put 0 false)
