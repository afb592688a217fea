-- The tests of one place, taken apart and put together: what a right run count, an unused task place and an unused speed place say in numbers.
use mathlib.Core.Path.{◌≡◌, refl, ap}
use mathlib.Core.Bool.{Bool, true, false, not, ◌&&◌}
use Prim.Native.Nat.{ℕ, ◌≤◌, ◌<◌}
use native.Mathlib.Omega.{arith}
use lib.Dec.{eqb}
use borrow.Author.Tests.{eqb-true, eq-eqb, lt-ltb, ltb-true, not-true}
use Rattle.rules.specs.declared.Job.{Job}
use Rattle.rules.specs.declared.State.{State}
use Rattle.rules.specs.Limits.{up_to_most}
use Rattle.rules.specs.State.{speed_at, volts_at, count_at}
use Rattle.rules.specs.Numbers.{unused_job, unused_speed, run_right}
use Rattle.rules.proofs.Lists.{both_left, both_right}
use Rattle.rules.proofs.Ranges.{in_range, range_from, range_to}

-- a job not over has run below its reserve, a job that is over from 1 to its reserve
module _ (j : Job) (e : run_right j ≡ true) where
  pub run_below : j.over ≡ false → j.run.0 < j.reserve.0
  unfolding run_right
  run_below o = ltb-true j.run.0 j.reserve.0 (rw o at e)

  pub run_range : j.over ≡ true → up_to_most j.reserve.0 j.run.0 ≡ true
  unfolding run_right
  run_range o = rw o at e

  pub over_some : j.over ≡ true → 1 ≤ j.run.0
  over_some o = range_from j.reserve.0 j.run.0 (run_range o)

  pub over_most : j.over ≡ true → j.run.0 ≤ j.reserve.0
  over_most o = range_to j.reserve.0 j.run.0 (run_range o)

-- so no job has run past its reserve
pub run_most : (j : Job) → run_right j ≡ true → j.run.0 ≤ j.reserve.0
run_most j e = go j.over refl
  where
    go : (b : Bool) → j.over ≡ b → j.run.0 ≤ j.reserve.0
    go true o = over_most j e o
    go false o = omega (arith, run_below j e o)

-- and no reserve is 0
pub reserve_asks : (j : Job) → run_right j ≡ true → 1 ≤ j.reserve.0
reserve_asks j e = go j.over refl
  where
    go : (b : Bool) → j.over ≡ b → 1 ≤ j.reserve.0
    go true o = omega (arith, over_some j e o, over_most j e o)
    go false o = omega (arith, run_below j e o)

pub running_right : (j : Job) → j.over ≡ false → j.run.0 < j.reserve.0 → run_right j ≡ true
unfolding run_right
running_right j o h = rw o (lt-ltb j.run.0 j.reserve.0 h)

pub over_right : (j : Job) → j.over ≡ true → 1 ≤ j.run.0 → j.run.0 ≤ j.reserve.0 → run_right j ≡ true
unfolding run_right
over_right j o a b = rw o (in_range j.reserve.0 j.run.0 a b)

-- an unused task place holds zeros and a job not over
module _ (j : Job) (e : unused_job j ≡ true) where
  unused_three : (eqb j.period.0 0 && eqb j.reserve.0 0 && eqb j.run.0 0) ≡ true
  unfolding unused_job
  unused_three =
      both_left (eqb j.period.0 0 && eqb j.reserve.0 0 && eqb j.run.0 0) (not j.over) e

  unused_two : (eqb j.period.0 0 && eqb j.reserve.0 0) ≡ true
  unused_two = both_left (eqb j.period.0 0 && eqb j.reserve.0 0) (eqb j.run.0 0) unused_three

  pub unused_period : j.period.0 ≡ 0
  unused_period = eqb-true j.period.0 0 (both_left (eqb j.period.0 0) (eqb j.reserve.0 0) unused_two)

  pub unused_reserve : j.reserve.0 ≡ 0
  unused_reserve = eqb-true j.reserve.0 0 (both_right (eqb j.period.0 0) (eqb j.reserve.0 0) unused_two)

  pub unused_run : j.run.0 ≡ 0
  unused_run =
      eqb-true j.run.0 0
      (both_right (eqb j.period.0 0 && eqb j.reserve.0 0) (eqb j.run.0 0) unused_three)

  pub unused_over : j.over ≡ false
  unfolding unused_job
  unused_over =
      not-true j.over
      (both_right (eqb j.period.0 0 && eqb j.reserve.0 0 && eqb j.run.0 0) (not j.over) e)

pub job_unused : (j : Job) → j.period.0 ≡ 0 → j.reserve.0 ≡ 0 → j.run.0 ≡ 0 → j.over ≡ false → unused_job j ≡ true
unfolding unused_job
job_unused j p c r o =
    rw (eq-eqb j.period.0 0 p, eq-eqb j.reserve.0 0 c, eq-eqb j.run.0 0 r) (ap not o)

-- an unused speed place holds no speed, no volts and no count
module _ (s : State) (i : ℕ) (e : unused_speed s i ≡ true) where
  unused_both : (eqb (speed_at s.ladder i) 0 && eqb (volts_at s.ladder i) 0) ≡ true
  unfolding unused_speed
  unused_both =
      both_left (eqb (speed_at s.ladder i) 0 && eqb (volts_at s.ladder i) 0) (eqb (count_at s.tally i) 0) e

  pub unused_rung_lem : speed_at s.ladder i ≡ 0
  unused_rung_lem =
      eqb-true (speed_at s.ladder i) 0
      (both_left (eqb (speed_at s.ladder i) 0) (eqb (volts_at s.ladder i) 0) unused_both)

  pub unused_volts : volts_at s.ladder i ≡ 0
  unused_volts =
      eqb-true (volts_at s.ladder i) 0
      (both_right (eqb (speed_at s.ladder i) 0) (eqb (volts_at s.ladder i) 0) unused_both)

  pub unused_count : count_at s.tally i ≡ 0
  unfolding unused_speed
  unused_count =
      eqb-true (count_at s.tally i) 0
      (both_right (eqb (speed_at s.ladder i) 0 && eqb (volts_at s.ladder i) 0) (eqb (count_at s.tally i) 0) e)

pub speed_unused : (s : State) (i : ℕ) → speed_at s.ladder i ≡ 0 → volts_at s.ladder i ≡ 0 → count_at s.tally i ≡ 0 → unused_speed s i ≡ true
unfolding unused_speed
speed_unused s i x v c =
    rw
    (eq-eqb (speed_at s.ladder i) 0 x, eq-eqb (volts_at s.ladder i) 0 v, eq-eqb (count_at s.tally i) 0 c)
