-- One place of the jobs written and read back.
use mathlib.Core.Path.{◌≡◌}
use mathlib.Core.Bool.{Bool, false}
use Prim.Native.Nat.{ℕ, ◌<◌}
use lib.ListN.{length, length-set}
use lib.Seq.{get_or-set_same, get_or-set_other}
use Rattle.units.specs.Units.{cycles}
use Rattle.rules.specs.declared.Tasks.{Tasks}
use Rattle.rules.specs.declared.Jobs.{Jobs}
use Rattle.rules.specs.declared.Job.{Job}
use Rattle.rules.specs.State.{job_at, put_at}

-- a job with another run count and mark
unfoldable pub with_run : Job → ℕ → Bool → Job
with_run j run over = record { period = j.period; reserve = j.reserve; run = cycles run; over = over }

module _ (ts : Tasks) (js : Jobs) (i run : ℕ) (over : Bool) where
  pub put_same : i < length js.run → i < length js.over → job_at ts (put_at js i run over) i ≡ with_run (job_at ts js i) run over
  unfolding job_at put_at with_run
  put_same r o = rw (get_or-set_same js.run i (cycles run) (cycles 0) r, get_or-set_same js.over i over false o)

  pub put_other : (k : ℕ) → (k ≡ i → ⊥) → job_at ts (put_at js i run over) k ≡ job_at ts js k
  unfolding job_at put_at
  put_other k ne =
      rw
      (get_or-set_other js.run i k (cycles run) (cycles 0) ne, get_or-set_other js.over i k over false ne)

  pub put_runs : length (put_at js i run over).run ≡ length js.run
  unfolding put_at
  put_runs = length-set js.run i (cycles run)

  pub put_marks : length (put_at js i run over).over ≡ length js.over
  unfolding put_at
  put_marks = length-set js.over i over
