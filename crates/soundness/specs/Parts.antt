-- What the private functions of soundness answer and ask: nothing here is part of what it promises to callers.
use Rattle.std.specs.Prelude.{ℕ, zero, suc, ◌+◌, ◌-◌, ◌*◌, ◌/◌, ◌≤◌, ◌≡◌, Bool, true, cond, ◌&&◌, eqb, leb, Option, Some, None}
use Rattle.divisors.specs.Divisors.{gcd_of}
use Rattle.units.specs.Units.{ticks, cycles}
use Rattle.units.specs.declared.Ticks.{Ticks}
use Rattle.rules.specs.declared.Tasks.{Tasks}
use Rattle.rules.specs.declared.Jobs.{Jobs}
use Rattle.rules.specs.declared.Job.{Job}
use Rattle.rules.specs.Words.{every}
use Rattle.rules.specs.Limits.{most_tasks, most_great, most_term, up_to_most}
use Rattle.rules.specs.State.{job_at, jobs_of}
use Rattle.rules.specs.Load.{use_of}
use Rattle.rules.specs.Numbers.{unused_job}
use Rattle.places.specs.Places.{job_right, jobs_past}
use Rattle.soundness.specs.declared.sums.Sums.{Sums}

-- the sums of no task, with one task more, and of the first n tasks
unfoldable pub no_sums : Sums
no_sums = record { full = cycles 0; load = cycles 0; common = 0; rest = ticks 0 }

unfoldable pub with_job : Ticks → Sums → Job → Sums
with_job great s j =
    let times = great.0 / j.period.0 in
    record {
      full = cycles (s.full.0 + j.reserve.0 * times);
      load = cycles (s.load.0 + use_of j * times);
      common = gcd_of s.common times;
      rest = ticks (s.rest.0 + (great.0 - times * j.period.0));
    }

unfoldable pub sums_to : Tasks → Jobs → ℕ → Sums
sums_to ts js zero = no_sums
sums_to ts js (suc n) = with_job ts.great (sums_to ts js n) (job_at ts js n)

-- H is right by these sums
unfoldable pub great_test : Sums → Bool
great_test s = eqb s.rest.0 0 && eqb s.common 1

-- the sums of all tasks where a test holds
unfoldable pub summing : Bool → Tasks → Jobs → Option Sums
summing test ts js = cond test (Some (sums_to ts js ts.count)) None

-- No. 1 and 7, unused places are zero, and each task is right
unfoldable pub tasks_right : Tasks → Jobs → Bool
tasks_right ts js =
    up_to_most most_tasks ts.count && leb ts.great.0 most_great && every unused_job (jobs_past ts js) && every job_right (jobs_of ts js)

-- what keeps every sum below 2 ^ 64: few tasks, each tested before it is added, and H at most 1,000,000
pub record Small (ts : Tasks) : Type 0 where
  pub few : ts.count ≤ most_tasks
  pub small : ts.great.0 ≤ most_great

-- the sums of so many tasks that are right
pub record Within (n : ℕ) (s : Sums) : Type 0 where
  pub full : s.full.0 ≤ n * most_term
  pub load : s.load.0 ≤ n * most_term
  pub rest : s.rest.0 ≤ n * most_great

-- room for one task more
pub record Room (s : Sums) (j : Job) (great : Ticks) : Type 0 where
  pub full : s.full.0 ≤ 15 * most_term
  pub load : s.load.0 ≤ 15 * most_term
  pub rest : s.rest.0 ≤ 15 * most_great
  pub small : great.0 ≤ most_great
  pub right : job_right j ≡ true
