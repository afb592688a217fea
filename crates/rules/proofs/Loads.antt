-- What soundness says of loads and speeds: no use passes its reserve, so the load is at most the sum that admission tested, and the top speed carries it.
use mathlib.Core.Path.{◌≡◌, refl}
use mathlib.Core.Bool.{Bool, true, false}
use Prim.Native.Nat.{ℕ, zero, suc, suc-le-suc, ◌-◌, ◌*◌, ◌/◌, ◌≤◌, ◌<◌}
use native.Mathlib.Nat.{add-le-add, mul-le-mul, mul-le-mul_right, div-le_self, le_trans, le_refl, zero-lt-suc}
use native.Mathlib.Omega.{arith}
use lib.ListN.{length, get_or}
use borrow.Author.Tests.{le-leb, leb-true, leb-false}
use Rattle.rules.specs.declared.Job.{Job}
use Rattle.rules.specs.declared.Ladder.{Ladder}
use Rattle.rules.specs.declared.State.{State}
use Rattle.rules.specs.Words.{up_to, total}
use Rattle.rules.specs.Limits.{most_reserve, most_speed, most_volts, most_great, most_term, up_to_most}
use Rattle.rules.specs.State.{job_at, jobs_of, period_at, reserve_at, speed_at, volts_at, periods_of, reserves_of, speeds_of, volts_of, top_of}
use Rattle.rules.specs.Load.{use_of, load, carries}
use Rattle.rules.specs.Choice.{load_of, fits_of, speed_place, speed_of, none_carries}
use Rattle.rules.specs.Admission.{full_load}
use Rattle.rules.specs.Numbers.{run_right}
use Rattle.rules.proofs.Lists.{length-up_to, get_d_up_to}
use Rattle.rules.proofs.Ranges.{range_from, range_to}
use Rattle.rules.proofs.Places.{over_most}
use Rattle.rules.proofs.Climbs.{rise_range, rise_order, rise_top, stay_range}
use Rattle.rules.proofs.Lowest.{lowest_fits, before_fails, fit_below, below_some}
use Rattle.rules.proofs.Soundness.{Sound, length_speeds, length_volts}

-- a job whose run count is right uses at most its reserve
pub use_most : (j : Job) → run_right j ≡ true → use_of j ≤ j.reserve.0
unfolding use_of
use_most j e = go j.over refl
  where
    go : (b : Bool) → j.over ≡ b → use_of j ≤ j.reserve.0
    go true o = rw o (omega (arith, over_most j e o))
    go false o = rw o (omega arith)

-- so the load of n jobs is at most the sum that admission tests
pub load_full : (great n : ℕ) (job : ℕ → Job) → ((i : ℕ) → i < n → run_right (job i) ≡ true) → load great (up_to n job) ≤ full_load great (up_to n (λ i. (job i).period.0)) (up_to n (λ i. (job i).reserve.0))
unfolding load total full_load up_to
load_full great zero job e = le_refl 0
load_full great (suc n) job e =
    add-le-add (mul-le-mul_right (great / (job 0).period.0) (use_most (job 0) (e 0 (zero-lt-suc n))))
    (load_full great n (λ i. job (suc i)) (λ i h. e (suc i) (suc-le-suc h)))

-- one term of a load is at most the most
pub term_most : (c great p : ℕ) → c ≤ most_reserve → great ≤ most_great → c * (great / p) ≤ most_term
term_most c great p few small = mul-le-mul few (le_trans (div-le_self great p) small)

-- the speed at the place that is chosen, where it is one of the list, carries the load in numbers
pub place_enough : (s : State) → speed_place s < length (speeds_of s.ladder) → load_of s ≤ speed_of s * s.tasks.great.0
unfolding fits_of carries speed_of speed_place
place_enough s h = leb-true (load_of s) (speed_of s * s.tasks.great.0) (lowest_fits (fits_of s) (speeds_of s.ladder) h)

module _ (s : State) (f : Sound s) where
  pub load_most_full : load_of s ≤ full_load s.tasks.great.0 (periods_of s.tasks) (reserves_of s.tasks)
  unfolding load_of jobs_of periods_of reserves_of job_at period_at reserve_at
  load_most_full =
      load_full s.tasks.great.0 s.tasks.count (job_at s.tasks s.jobs) f.run_right_lem

  -- the top speed carries the load
  pub top_carries : load_of s ≤ top_of (speeds_of s.ladder) * s.tasks.great.0
  top_carries = le_trans load_most_full f.admits

  pub top_fits : fits_of s (get_or (speeds_of s.ladder) (length (speeds_of s.ladder) - 1) 0) ≡ true
  unfolding fits_of carries top_of
  top_fits = le-leb (load_of s) (top_of (speeds_of s.ladder) * s.tasks.great.0) top_carries

  -- so the place of the lowest speed that does is one of the list, and the speed there does
  pub place_in : speed_place s < length (speeds_of s.ladder)
  unfolding speed_place
  place_in =
      fit_below (fits_of s) (speeds_of s.ladder) (length (speeds_of s.ladder) - 1)
      (rw (length_speeds s) (omega (arith, f.speeds_some)))
      top_fits

  pub place_below : speed_place s < s.ladder.count
  place_below = rw (length_speeds s) at place_in

  pub some_carries : none_carries s ≡ false
  unfolding none_carries speed_place
  some_carries = below_some (fits_of s) (speeds_of s.ladder) place_in

  -- so the speed answered carries the load,
  pub speed_enough : load_of s ≤ speed_of s * s.tasks.great.0
  speed_enough = place_enough s place_in

  -- and no speed listed before it does
  pub lower_short : (i : ℕ) → i < speed_place s → get_or (speeds_of s.ladder) i 0 * s.tasks.great.0 < load_of s
  unfolding fits_of carries speed_place
  lower_short i h = leb-false (load_of s) (get_or (speeds_of s.ladder) i 0 * s.tasks.great.0) (before_fails (fits_of s) (speeds_of s.ladder) i h)

-- the last of n values is the one at n - 1
pub last_at : (n : ℕ) (f : ℕ → ℕ) → 1 ≤ n → top_of (up_to n f) ≡ f (n - 1)
unfolding top_of
last_at n f h = rw (length-up_to n f) (get_d_up_to n f (n - 1) 0 (omega arith))

-- what stands at a place of the lists
pub speeds_at : (l : Ladder) (i : ℕ) → i < l.count → get_or (speeds_of l) i 0 ≡ speed_at l i
unfolding speeds_of
speeds_at l i h = get_d_up_to l.count (speed_at l) i 0 h

pub volts_at_lem : (l : Ladder) (i : ℕ) → i < l.count → get_or (volts_of l) i 0 ≡ volts_at l i
unfolding volts_of
volts_at_lem l i h = get_d_up_to l.count (volts_at l) i 0 h

pub top_at : (l : Ladder) → 1 ≤ l.count → top_of (speeds_of l) ≡ speed_at l (l.count - 1)
unfolding speeds_of
top_at l h = last_at l.count (speed_at l) h

-- each listed speed and volt value is in its range, and no speed is above the top
module _ (s : State) (f : Sound s) (i : ℕ) (h : i < s.ladder.count) where
  pub in_speeds : i < length (speeds_of s.ladder)
  in_speeds = rw (length_speeds s) h

  pub in_volts : i < length (volts_of s.ladder)
  in_volts = rw (length_volts s) h

  pub speed_range : up_to_most most_speed (speed_at s.ladder i) ≡ true
  speed_range = rw (speeds_at s.ladder i h) at (rise_range 0 (speeds_of s.ladder) f.speeds_do_rise i in_speeds)

  pub volts_range : up_to_most most_volts (volts_at s.ladder i) ≡ true
  volts_range = rw (volts_at_lem s.ladder i h) at (stay_range 0 (volts_of s.ladder) f.volts_do_not_fall i in_volts)

  pub speed_some : 1 ≤ speed_at s.ladder i
  speed_some = range_from most_speed (speed_at s.ladder i) speed_range

  pub speed_limit : speed_at s.ladder i ≤ most_speed
  speed_limit = range_to most_speed (speed_at s.ladder i) speed_range

  pub speed_most : speed_at s.ladder i ≤ top_of (speeds_of s.ladder)
  speed_most = rw (speeds_at s.ladder i h) at (rise_top 0 (speeds_of s.ladder) f.speeds_do_rise i in_speeds)

  pub volts_limit : volts_at s.ladder i ≤ most_volts
  volts_limit = range_to most_volts (volts_at s.ladder i) volts_range

-- a later speed is above
module _ (s : State) (f : Sound s) (i k : ℕ) (a : i < k) (h : k < s.ladder.count) where
  pub speed_order : speed_at s.ladder i < speed_at s.ladder k
  speed_order =
      rw (speeds_at s.ladder i (omega arith), speeds_at s.ladder k h)
      at (rise_order 0 (speeds_of s.ladder) f.speeds_do_rise i k a (in_speeds s f k h))

-- the top speed is in its range, and so is the speed of a tick, which stands at its place
module _ (s : State) (f : Sound s) where
  pub last_in : s.ladder.count - 1 < s.ladder.count
  last_in = omega (arith, f.speeds_some)

  pub top_limit : top_of (speeds_of s.ladder) ≤ most_speed
  top_limit = rw (top_at s.ladder f.speeds_some) (speed_limit s f (s.ladder.count - 1) last_in)

  pub speed_of_at : speed_of s ≡ speed_at s.ladder (speed_place s)
  unfolding speed_of
  speed_of_at = speeds_at s.ladder (speed_place s) (place_below s f)

  pub speed_of_most : speed_of s ≤ top_of (speeds_of s.ladder)
  speed_of_most = rw speed_of_at (speed_most s f (speed_place s) (place_below s f))
