-- When a state is sound, fact by fact: the form that proofs use, and that it is `sound`.
use mathlib.Core.Path.{◌≡◌, refl}
use mathlib.Core.Bool.{Bool, true}
use mathlib.Core.List.{List, [], ◌∷◌}
use Prim.Native.Nat.{ℕ, ◌+◌, ◌*◌, ◌≤◌, ◌<◌}
use native.Mathlib.Omega.{arith}
use lib.ListN.{length, get_or}
use borrow.Author.Tests.{eqb-true, eq-eqb, leb-true, le-leb}
use Rattle.units.specs.declared.Cycles.{Cycles}
use Rattle.rules.specs.declared.State.{State}
use Rattle.rules.specs.Words.{total, every}
use Rattle.rules.specs.Limits.{most_tasks, most_period, most_reserve, most_speeds, most_great, most_ticks, up_to_most}
use Rattle.rules.specs.State.{job_at, jobs_of, period_at, reserve_at, speed_at, volts_at, periods_of, reserves_of, speeds_of, volts_of, top_of}
use Rattle.rules.specs.Admission.{great_of, full_load, admitted}
use Rattle.rules.specs.Numbers.{same_count, speeds_rise, volts_never_fall, tables_pass, great_right, unused_job, unused_tasks, unused_speed, unused_speeds, ticks_bounded, run_right, runs_right, cycles_bounded, late_bounded, cut_bounded, sound}
use Rattle.rules.proofs.Lists.{length-up_to, every_at, up_to_at, up_to_all, rest_at, rest_all}
use Rattle.rules.proofs.Ranges.{in_range, range_from, range_to}
use Rattle.rules.proofs.Tables.{Passes, passes, number_0, match_some, match_most}

-- every clause of soundness, place by place
pub record Sound (s : State) : Type 0 where
  pub tasks_some : 1 ≤ s.tasks.count
  pub tasks_most : s.tasks.count ≤ most_tasks
  pub speeds_some : 1 ≤ s.ladder.count
  pub speeds_most : s.ladder.count ≤ most_speeds
  pub period_some : (i : ℕ) → i < s.tasks.count → 1 ≤ period_at s.tasks i
  pub period_most : (i : ℕ) → i < s.tasks.count → period_at s.tasks i ≤ most_period
  pub reserve_some : (i : ℕ) → i < s.tasks.count → 1 ≤ reserve_at s.tasks i
  pub reserve_most : (i : ℕ) → i < s.tasks.count → reserve_at s.tasks i ≤ most_reserve
  pub speeds_do_rise : speeds_rise 0 (speeds_of s.ladder) ≡ true
  pub volts_do_not_fall : volts_never_fall 0 (volts_of s.ladder) ≡ true
  pub great_is : s.tasks.great.0 ≡ great_of (periods_of s.tasks)
  pub great_most : s.tasks.great.0 ≤ most_great
  pub admits : full_load s.tasks.great.0 (periods_of s.tasks) (reserves_of s.tasks) ≤ top_of (speeds_of s.ladder) * s.tasks.great.0
  pub run_right_lem : (i : ℕ) → i < s.tasks.count → run_right (job_at s.tasks s.jobs i) ≡ true
  pub unused_job_lem : (i : ℕ) → s.tasks.count ≤ i → i < most_tasks → unused_job (job_at s.tasks s.jobs i) ≡ true
  pub unused_speed_lem : (i : ℕ) → s.ladder.count ≤ i → i < most_speeds → unused_speed s i ≡ true
  pub done_most : s.done.0 ≤ most_ticks
  pub cycles_most : total (λ (c : Cycles). c.0) s.tally.counts + s.tally.idle.0 ≤ s.done.0 * top_of (speeds_of s.ladder)
  pub late_most : s.tally.late ≤ 16 * s.done.0
  pub cut_most : s.tally.cut ≤ 16 * s.done.0

-- rule 7 with the great period under another name
pub admitted_fits : (ps cs ss : List ℕ) (g : ℕ) → g ≡ great_of ps → admitted ps cs ss ≡ true → full_load g ps cs ≤ top_of ss * g
unfolding admitted
admitted_fits ps cs ss g e a = rw e (leb-true (full_load (great_of ps) ps cs) (top_of ss * great_of ps) a)

pub fits_admitted : (ps cs ss : List ℕ) (g : ℕ) → g ≡ great_of ps → full_load g ps cs ≤ top_of ss * g → admitted ps cs ss ≡ true
unfolding admitted
fits_admitted ps cs ss g e a = le-leb (full_load (great_of ps) ps cs) (top_of ss * great_of ps) (rw e at a)

-- the lists of the first places are as long as the counts say
module _ (s : State) where
  pub length_periods : length (periods_of s.tasks) ≡ s.tasks.count
  unfolding periods_of
  length_periods = length-up_to s.tasks.count (period_at s.tasks)

  pub length_reserves : length (reserves_of s.tasks) ≡ s.tasks.count
  unfolding reserves_of
  length_reserves = length-up_to s.tasks.count (reserve_at s.tasks)

  pub length_speeds : length (speeds_of s.ladder) ≡ s.ladder.count
  unfolding speeds_of
  length_speeds = length-up_to s.ladder.count (speed_at s.ladder)

  pub length_volts : length (volts_of s.ladder) ≡ s.ladder.count
  unfolding volts_of
  length_volts = length-up_to s.ladder.count (volts_at s.ladder)

-- the nine clauses of a sound state, one by one
module _ (s : State) (e : sound s ≡ true) where
  clauses : List Bool
  clauses =
      tables_pass s
      ∷ great_right s
      ∷ unused_tasks s
      ∷ unused_speeds s
      ∷ ticks_bounded s
      ∷ runs_right s
      ∷ cycles_bounded s
      ∷ late_bounded s
      ∷ cut_bounded s
      ∷ []

  clause : (i : ℕ) → i < 9 → get_or clauses i true ≡ true
  unfolding sound clauses
  clause i h = every_at (λ (c : Bool). c) clauses true i e h

  pub tables_pass_lem : tables_pass s ≡ true
  unfolding clauses
  tables_pass_lem = clause 0 (omega arith)

  pub great_right_lem : great_right s ≡ true
  unfolding clauses
  great_right_lem = clause 1 (omega arith)

  pub unused_tasks_lem : unused_tasks s ≡ true
  unfolding clauses
  unused_tasks_lem = clause 2 (omega arith)

  pub unused_speeds_lem : unused_speeds s ≡ true
  unfolding clauses
  unused_speeds_lem = clause 3 (omega arith)

  pub ticks_bounded_lem : ticks_bounded s ≡ true
  unfolding clauses
  ticks_bounded_lem = clause 4 (omega arith)

  pub runs_right_lem : runs_right s ≡ true
  unfolding clauses
  runs_right_lem = clause 5 (omega arith)

  pub cycles_bounded_lem : cycles_bounded s ≡ true
  unfolding clauses
  cycles_bounded_lem = clause 6 (omega arith)

  pub late_bounded_lem : late_bounded s ≡ true
  unfolding clauses
  late_bounded_lem = clause 7 (omega arith)

  pub cut_bounded_lem : cut_bounded s ≡ true
  unfolding clauses
  cut_bounded_lem = clause 8 (omega arith)

  -- the tables pass 1 to 8, and H is their great period
  pass : Passes (periods_of s.tasks) (reserves_of s.tasks) (speeds_of s.ladder) (volts_of s.ladder)
  unfolding tables_pass
  pass =
      passes (periods_of s.tasks) (reserves_of s.tasks) (speeds_of s.ladder) (volts_of s.ladder)
      (eqb-true _ 0 tables_pass_lem)

  great_equal : s.tasks.great.0 ≡ great_of (periods_of s.tasks)
  unfolding great_right
  great_equal = eqb-true _ _ great_right_lem

  period_allowed : (i : ℕ) → i < s.tasks.count → up_to_most most_period (period_at s.tasks i) ≡ true
  unfolding periods_of
  period_allowed i h =
      up_to_at (up_to_most most_period) s.tasks.count (period_at s.tasks) pass.forms.periods_allowed i h

  reserve_allowed : (i : ℕ) → i < s.tasks.count → up_to_most most_reserve (reserve_at s.tasks i) ≡ true
  unfolding reserves_of
  reserve_allowed i h =
      up_to_at (up_to_most most_reserve) s.tasks.count (reserve_at s.tasks) pass.forms.reserves_allowed i h

  pub sound_facts : Sound s
  unfolding unused_tasks unused_speeds ticks_bounded runs_right jobs_of cycles_bounded late_bounded cut_bounded
  sound_facts =
      record {
        tasks_some = rw (length_periods s) at (match_some most_tasks _ _ pass.forms.tasks_match);
        tasks_most = rw (length_periods s) at (match_most most_tasks _ _ pass.forms.tasks_match);
        speeds_some = rw (length_speeds s) at (match_some most_speeds _ _ pass.forms.speeds_match);
        speeds_most = rw (length_speeds s) at (match_most most_speeds _ _ pass.forms.speeds_match);
        period_some = λ i h. range_from most_period (period_at s.tasks i) (period_allowed i h);
        period_most = λ i h. range_to most_period (period_at s.tasks i) (period_allowed i h);
        reserve_some = λ i h. range_from most_reserve (reserve_at s.tasks i) (reserve_allowed i h);
        reserve_most = λ i h. range_to most_reserve (reserve_at s.tasks i) (reserve_allowed i h);
        speeds_do_rise = pass.forms.speeds_do_rise;
        volts_do_not_fall = pass.forms.volts_do_not_fall;
        great_is = great_equal;
        great_most = rw great_equal pass.great_small;
        admits = admitted_fits _ _ _ s.tasks.great.0 great_equal pass.admits;
        run_right_lem = up_to_at run_right s.tasks.count (job_at s.tasks s.jobs) runs_right_lem;
        unused_job_lem = rest_at unused_job s.tasks.count most_tasks (job_at s.tasks s.jobs) unused_tasks_lem;
        unused_speed_lem = rest_at (unused_speed s) s.ladder.count most_speeds (λ i. i) unused_speeds_lem;
        done_most = leb-true _ _ ticks_bounded_lem;
        cycles_most = leb-true _ _ cycles_bounded_lem;
        late_most = leb-true _ _ late_bounded_lem;
        cut_most = leb-true _ _ cut_bounded_lem;
      }

-- and from the facts back to the nine clauses
module _ (s : State) (f : Sound s) where
  pub facts_pass : Passes (periods_of s.tasks) (reserves_of s.tasks) (speeds_of s.ladder) (volts_of s.ladder)
  unfolding same_count periods_of reserves_of
  facts_pass =
      record {
        forms = record {
          tasks_match = rw
              (length_periods s, length_reserves s, in_range most_tasks s.tasks.count f.tasks_some f.tasks_most, eq-eqb s.tasks.count s.tasks.count refl);
          speeds_match = rw
              (length_speeds s, length_volts s, in_range most_speeds s.ladder.count f.speeds_some f.speeds_most, eq-eqb s.ladder.count s.ladder.count refl);
          periods_allowed = up_to_all (up_to_most most_period) s.tasks.count (period_at s.tasks)
              (λ i h. in_range most_period (period_at s.tasks i) (f.period_some i h) (f.period_most i h));
          reserves_allowed = up_to_all (up_to_most most_reserve) s.tasks.count (reserve_at s.tasks)
              (λ i h. in_range most_reserve (reserve_at s.tasks i) (f.reserve_some i h) (f.reserve_most i h));
          speeds_do_rise = f.speeds_do_rise;
          volts_do_not_fall = f.volts_do_not_fall;
        };
        great_small = rw f.great_is at f.great_most;
        admits = fits_admitted _ _ _ s.tasks.great.0 f.great_is f.admits;
      }

  passed : tables_pass s ≡ true
  unfolding tables_pass
  passed = eq-eqb _ 0 (number_0 _ _ _ _ facts_pass)

  right : great_right s ≡ true
  unfolding great_right
  right = eq-eqb _ _ f.great_is

  unused_places : unused_tasks s ≡ true
  unfolding unused_tasks
  unused_places = rest_all unused_job s.tasks.count most_tasks (job_at s.tasks s.jobs) f.unused_job_lem

  unused_rungs : unused_speeds s ≡ true
  unfolding unused_speeds
  unused_rungs = rest_all (unused_speed s) s.ladder.count most_speeds (λ i. i) f.unused_speed_lem

  in_ticks : ticks_bounded s ≡ true
  unfolding ticks_bounded
  in_ticks = le-leb _ _ f.done_most

  right_runs : runs_right s ≡ true
  unfolding runs_right jobs_of
  right_runs = up_to_all run_right s.tasks.count (job_at s.tasks s.jobs) f.run_right_lem

  in_cycles : cycles_bounded s ≡ true
  unfolding cycles_bounded
  in_cycles = le-leb _ _ f.cycles_most

  few_late : late_bounded s ≡ true
  unfolding late_bounded
  few_late = le-leb _ _ f.late_most

  few_cut : cut_bounded s ≡ true
  unfolding cut_bounded
  few_cut = le-leb _ _ f.cut_most

  pub facts_sound : sound s ≡ true
  unfolding sound every
  facts_sound = rw (passed, right, unused_places, unused_rungs, in_ticks, right_runs, in_cycles, few_late, few_cut)
