-- The walk over the task places: what is left to test of them, place by place.
use mathlib.Core.Path.{◌≡◌, refl}
use mathlib.Core.Bool.{Bool, true, false}
use Prim.Native.Nat.{ℕ, ◌+◌, ◌≤◌, ◌<◌}
use lib.ListN.{get_or, drop}
use Rattle.units.specs.Units.{ticks, cycles}
use Rattle.rules.specs.declared.Job.{Job}
use Rattle.rules.specs.declared.Tasks.{Tasks}
use Rattle.rules.specs.declared.Jobs.{Jobs}
use Rattle.rules.specs.State.{job_at}
use Rattle.rules.specs.Words.{up_to, every}
use Rattle.rules.specs.Limits.{most_tasks, most_period, most_reserve, up_to_most}
use Rattle.rules.specs.Numbers.{unused_job, run_right}
use Rattle.rules.proofs.WalkLaws.{walk_on, walk_stop, walk_end}
use Rattle.places.specs.Places.{job_right, jobs_past}

-- a walk over the task places from one on
module _ (ts : Tasks) (js : Jobs) where
  unfoldable pub rest_from : ℕ → Bool
  rest_from i = every unused_job (drop i (up_to most_tasks (job_at ts js)))

  pub rest_is : every unused_job (jobs_past ts js) ≡ rest_from ts.count
  unfolding rest_from jobs_past
  rest_is = refl

  module _ (i : ℕ) where
    abbrev here : Job
    here =
        record {
          period = get_or ts.periods i (ticks 0);
          reserve = get_or ts.reserves i (cycles 0);
          run = get_or js.run i (cycles 0);
          over = get_or js.over i false;
        }

    pub rest_on : i < most_tasks → unused_job here ≡ true → rest_from i ≡ rest_from (i + 1)
    unfolding rest_from job_at
    rest_on h e = walk_on unused_job most_tasks (job_at ts js) i h e

    pub rest_stop : i < most_tasks → unused_job here ≡ false → rest_from i ≡ false
    unfolding rest_from job_at
    rest_stop h e = walk_stop unused_job most_tasks (job_at ts js) i h e

    pub rest_end : most_tasks ≤ i → rest_from i ≡ true
    unfolding rest_from
    rest_end h = walk_end unused_job most_tasks (job_at ts js) i h

-- a task in its ranges whose job's run is right
pub right_job : (j : Job) → up_to_most most_period j.period.0 ≡ true → up_to_most most_reserve j.reserve.0 ≡ true → run_right j ≡ true → job_right j ≡ true
unfolding job_right
right_job j p r u = rw (p, r, u)
