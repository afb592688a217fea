-- The walk over the tasks, and that the sums over the first of them stay small: at most 16 terms, each at most 10 ^ 9 x 10 ^ 6.
use mathlib.Core.Path.{◌≡◌, sym, ap₂, ◌∙◌}
use mathlib.Core.Bool.{Bool, true, false, ◌&&◌}
use Prim.Native.Nat.{ℕ, ◌+◌, ◌*◌, ◌/◌, ◌≤◌, ◌<◌}
use native.Mathlib.Nat.{le_trans}
use native.Mathlib.Numerals.{add-one}
use native.Mathlib.Omega.{arith}
use borrow.Author.Tests.{le-leb, lt-leb}
use Rattle.divisors.specs.Divisors.{IsGcd, gcd_of}
use Rattle.divisors.proofs.DivisorLaws.{gcd_is, gcd_one}
use Rattle.divisors.proofs.Quotients.{common_one}
use Rattle.units.specs.Units.{ticks, cycles}
use Rattle.units.specs.declared.Ticks.{Ticks}
use Rattle.rules.specs.declared.Tasks.{Tasks}
use Rattle.rules.specs.declared.Jobs.{Jobs}
use Rattle.rules.specs.declared.Job.{Job}
use Rattle.rules.specs.Words.{every, up_to}
use Rattle.rules.specs.Limits.{most_tasks, most_period, most_reserve, most_great, most_term, up_to_most}
use Rattle.rules.specs.State.{job_at, jobs_of}
use Rattle.rules.specs.Load.{use_of}
use Rattle.rules.specs.Numbers.{unused_job, run_right}
use lib.ListN.{drop}
use Rattle.rules.proofs.WalkLaws.{walk_on, walk_stop, walk_end}
use Rattle.rules.proofs.Lists.{both_left, both_right}
use Rattle.rules.proofs.Loads.{use_most, term_most}
use Rattle.rules.proofs.Ranges.{in_range, too_low, too_high, range_from, range_to}
use Rattle.places.specs.Places.{job_right, jobs_past}
use Rattle.soundness.specs.declared.sums.Sums.{Sums}
use Rattle.soundness.specs.Parts.{no_sums, with_job, sums_to, tasks_right, Within, Room}

-- the greatest common divisor of 1 and any number, and of two numbers
pub common_stays : (c t : ℕ) → c ≡ 1 → gcd_of c t ≡ 1
common_stays c t e = rw e (common_one t)

pub common_is : (a b d : ℕ) → IsGcd a b d → gcd_of a b ≡ d
common_is a b d g = gcd_one (gcd_is a b) g

-- a walk over the places from `i` on, whose answer is the whole test's: it stops at a place that fails, goes on past one that passes, or ends
module _ (q : Job → Bool) (n i : ℕ) (f : ℕ → Job) (whole : Bool) (rest : whole ≡ every q (drop i (up_to n f))) where
  pub stopped : i < n → (r : Bool) → r ≡ q (f i) → r ≡ false → false ≡ whole
  stopped l r e t = sym (rest ∙ walk_stop q n f i l (sym e ∙ t))

  pub gone_on : i < n → (r : Bool) → r ≡ q (f i) → r ≡ true → whole ≡ every q (drop (i + 1) (up_to n f))
  gone_on l r e t = rest ∙ walk_on q n f i l (sym e ∙ t)

  pub ended : n ≤ i → true ≡ whole
  ended l = sym (rest ∙ walk_end q n f i l)

-- what a task that is right has
module _ (j : Job) (e : job_right j ≡ true) where
  in_ranges : (up_to_most most_period j.period.0 && up_to_most most_reserve j.reserve.0) ≡ true
  unfolding job_right
  in_ranges = both_left (up_to_most most_period j.period.0 && up_to_most most_reserve j.reserve.0) (run_right j) e

  pub period_in : up_to_most most_period j.period.0 ≡ true
  period_in = both_left (up_to_most most_period j.period.0) (up_to_most most_reserve j.reserve.0) in_ranges

  pub reserve_in : up_to_most most_reserve j.reserve.0 ≡ true
  reserve_in = both_right (up_to_most most_period j.period.0) (up_to_most most_reserve j.reserve.0) in_ranges

  pub run_in : run_right j ≡ true
  unfolding job_right
  run_in = both_right (up_to_most most_period j.period.0 && up_to_most most_reserve j.reserve.0) (run_right j) e

  pub period_some : 1 ≤ j.period.0
  period_some = range_from most_period j.period.0 period_in

  reserve_most : j.reserve.0 ≤ most_reserve
  reserve_most = range_to most_reserve j.reserve.0 reserve_in

  -- each term is at most the most
  module _ (great : Ticks) (small : great.0 ≤ most_great) where
    pub full_term : j.reserve.0 * (great.0 / j.period.0) ≤ most_term
    full_term = term_most j.reserve.0 great.0 j.period.0 reserve_most small

    pub load_term : use_of j * (great.0 / j.period.0) ≤ most_term
    load_term = term_most (use_of j) great.0 j.period.0 (le_trans (use_most j run_in) reserve_most) small

module _ (ts : Tasks) (js : Jobs) where
  -- one task more
  pub sums_on : (i : ℕ) (s r : Sums) (j : Job) → s ≡ sums_to ts js i → j ≡ job_at ts js i → r ≡ with_job ts.great s j → r ≡ sums_to ts js (i + 1)
  unfolding sums_to
  sums_on i s r j a b e = rw add-one (e ∙ ap₂ (with_job ts.great) a b)

-- no task, one task more that is right, and the room for it
pub none_is : (m : Sums) → m.full.0 ≡ 0 → m.load.0 ≡ 0 → m.common ≡ 0 → m.rest.0 ≡ 0 → m ≡ no_sums
unfolding no_sums
none_is m a b c d =
    let made : ℕ → ℕ → ℕ → ℕ → Sums = λ f l g r. record { full = cycles f; load = cycles l; common = g; rest = ticks r } in
    ap₂ (λ (f l : ℕ). made f l m.common m.rest.0) a b ∙ ap₂ (λ (g r : ℕ). made 0 0 g r) c d

pub none_within : Within 0 no_sums
unfolding no_sums
none_within = record { full = omega arith; load = omega arith; rest = omega arith }

module _ (n : ℕ) (s : Sums) (j : Job) (great : Ticks) (w : Within n s) (right : job_right j ≡ true) (small : great.0 ≤ most_great) where
  pub one_more : Within (n + 1) (with_job great s j)
  unfolding with_job
  one_more =
      record {
        full = omega (arith, w.full, full_term j right great small);
        load = omega (arith, w.load, load_term j right great small);
        rest = omega (arith, w.rest, small);
      }

  pub room_at : n < most_tasks → Room s j great
  room_at few =
      record {
        full = omega (arith, w.full, few);
        load = omega (arith, w.load, few);
        rest = omega (arith, w.rest, few);
        small = small;
        right = right;
      }

-- the whole task side, test by test
module _ (ts : Tasks) (js : Jobs) where
  pub no_task : ts.count < 1 → tasks_right ts js ≡ false
  unfolding tasks_right
  no_task l = rw (too_low most_tasks ts.count l)

  pub many_tasks : 1 ≤ ts.count → most_tasks < ts.count → tasks_right ts js ≡ false
  unfolding tasks_right
  many_tasks a h = rw (too_high most_tasks ts.count a h)

  module _ (some : 1 ≤ ts.count) (few : ts.count ≤ most_tasks) where
    pub great_large : most_great < ts.great.0 → tasks_right ts js ≡ false
    unfolding tasks_right
    great_large h = rw (in_range most_tasks ts.count some few, lt-leb ts.great.0 most_great h)

    module _ (small : ts.great.0 ≤ most_great) where
      pub rest_used : every unused_job (jobs_past ts js) ≡ false → tasks_right ts js ≡ false
      unfolding tasks_right
      rest_used u = rw (in_range most_tasks ts.count some few, le-leb ts.great.0 most_great small, u)

      pub jobs_decide : every unused_job (jobs_past ts js) ≡ true → tasks_right ts js ≡ every job_right (jobs_of ts js)
      unfolding tasks_right
      jobs_decide u = rw (in_range most_tasks ts.count some few, le-leb ts.great.0 most_great small, u)
