-- "Numbers a caller may see": for each call the smallest number that applies, and when a state is sound.
use Rattle.std.specs.Prelude.{ℕ, ◌+◌, ◌*◌, ◌≡◌, Bool, true, cond, not, ◌&&◌, List, [], ◌∷◌, eqb, ltb, leb, length, drop}
use Rattle.units.specs.declared.Cycles.{Cycles}
use Rattle.rules.specs.declared.Job.{Job}
use Rattle.rules.specs.declared.State.{State}
use Rattle.rules.specs.Words.{up_to, total, every, first_of}
use Rattle.rules.specs.Limits.{most_tasks, most_period, most_reserve, most_speeds, most_speed, most_volts, most_great, most_ticks, up_to_most}
use Rattle.rules.specs.State.{job_at, jobs_of, periods_of, reserves_of, speeds_of, volts_of, speed_at, volts_at, count_at, top_of}
use Rattle.rules.specs.Choice.{speed_of, none_carries}
use Rattle.rules.specs.Settlement.{keeps_rule4}
use Rattle.rules.specs.Admission.{great_of, admitted}

-- No. 1, 2: the first list has from 1 to `most` entries, and the second as many
unfoldable pub same_count : ℕ → List ℕ → List ℕ → Bool
same_count most xs ys = up_to_most most (length xs) && eqb (length ys) (length xs)

-- No. 5, 6: each number from 1 to `most`, and at least `gap` above the one before
unfoldable pub climbs_from : ℕ → ℕ → ℕ → List ℕ → Bool
climbs_from most gap before [] = true
climbs_from most gap before (x ∷ xs) = up_to_most most x && leb (before + gap) x && climbs_from most gap x xs

-- No. 5: each speed in its range and above the one before
unfoldable pub speeds_rise : ℕ → List ℕ → Bool
speeds_rise before speeds = climbs_from most_speed 1 before speeds

-- No. 6: each volt value in its range and not below the one before
unfoldable pub volts_never_fall : ℕ → List ℕ → Bool
volts_never_fall before volts = climbs_from most_volts 0 before volts

-- the numbers of start
unfoldable pub start_number : List ℕ → List ℕ → List ℕ → List ℕ → ℕ
start_number periods reserves speeds volts =
    first_of
    ((not (same_count most_tasks periods reserves), 1)
    ∷ (not (same_count most_speeds speeds volts), 2)
    ∷ (not (every (up_to_most most_period) periods), 3)
    ∷ (not (every (up_to_most most_reserve) reserves), 4)
    ∷ (not (speeds_rise 0 speeds), 5)
    ∷ (not (volts_never_fall 0 volts), 6)
    ∷ (ltb most_great (great_of periods), 7)
    ∷ (not (admitted periods reserves speeds), 8)
    ∷ [])

-- tests 1 to 6 pass
pub record Forms (periods reserves speeds volts : List ℕ) : Type 0 where
  pub tasks_match : same_count most_tasks periods reserves ≡ true
  pub speeds_match : same_count most_speeds speeds volts ≡ true
  pub periods_allowed : every (up_to_most most_period) periods ≡ true
  pub reserves_allowed : every (up_to_most most_reserve) reserves ≡ true
  pub speeds_do_rise : speeds_rise 0 speeds ≡ true
  pub volts_do_not_fall : volts_never_fall 0 volts ≡ true

-- A state is sound when its tables pass 1 to 8,
unfoldable pub tables_pass : State → Bool
tables_pass s =
    eqb
    (start_number (periods_of s.tasks) (reserves_of s.tasks) (speeds_of s.ladder) (volts_of s.ladder))
    0

-- H is right,
unfoldable pub great_right : State → Bool
great_right s = eqb s.tasks.great.0 (great_of (periods_of s.tasks))

-- unused places are zero,
unfoldable pub unused_job : Job → Bool
unused_job j = eqb j.period.0 0 && eqb j.reserve.0 0 && eqb j.run.0 0 && not j.over

unfoldable pub unused_tasks : State → Bool
unused_tasks s = every unused_job (drop s.tasks.count (up_to most_tasks (job_at s.tasks s.jobs)))

unfoldable pub unused_speed : State → ℕ → Bool
unused_speed s i = eqb (speed_at s.ladder i) 0 && eqb (volts_at s.ladder i) 0 && eqb (count_at s.tally i) 0

unfoldable pub unused_speeds : State → Bool
unused_speeds s = every (unused_speed s) (drop s.ladder.count (up_to most_speeds (λ i. i)))

-- t is at most 1,000,000,000,
unfoldable pub ticks_bounded : State → Bool
ticks_bounded s = leb s.done.0 most_ticks

-- a job not over has run below its reserve, a job that is over has run from 1 to its reserve,
unfoldable pub run_right : Job → Bool
run_right j = cond j.over (up_to_most j.reserve.0 j.run.0) (ltb j.run.0 j.reserve.0)

unfoldable pub runs_right : State → Bool
runs_right s = every run_right (jobs_of s.tasks s.jobs)

-- counts and idle together are at most t x top speed,
unfoldable pub cycles_bounded : State → Bool
cycles_bounded s =
    leb
    (total (λ (c : Cycles). c.0) s.tally.counts + s.tally.idle.0)
    (s.done.0 * top_of (speeds_of s.ladder))

-- and late and cut are each at most 16 x t.
unfoldable pub late_bounded : State → Bool
late_bounded s = leb s.tally.late (16 * s.done.0)

unfoldable pub cut_bounded : State → Bool
cut_bounded s = leb s.tally.cut (16 * s.done.0)

-- All nine hold.
unfoldable pub sound : State → Bool
sound s =
    every (λ (clause : Bool). clause)
    (tables_pass s
    ∷ great_right s
    ∷ unused_tasks s
    ∷ unused_speeds s
    ∷ ticks_bounded s
    ∷ runs_right s
    ∷ cycles_bounded s
    ∷ late_bounded s
    ∷ cut_bounded s
    ∷ [])

-- No. 10: 1,000,000,000 ticks are done
unfoldable pub all_done : State → Bool
all_done s = leb most_ticks s.done.0

-- the numbers of now, of tick (for a report and a grants list of so many places) and of energy
unfoldable pub now_number : State → ℕ
now_number s = first_of ((not (sound s), 9) ∷ (all_done s, 10) ∷ (none_carries s, 12) ∷ [])

unfoldable pub tick_number : State → List ℕ → ℕ → ℕ
tick_number s report grantPlaces =
    first_of
    ((not (sound s), 9)
    ∷ (all_done s, 10)
    ∷ (not (eqb (length report) s.tasks.count && eqb grantPlaces s.tasks.count), 11)
    ∷ (none_carries s, 12)
    ∷ (not (keeps_rule4 s (speed_of s) report), 13)
    ∷ [])

unfoldable pub energy_number : State → ℕ
energy_number s = first_of ((not (sound s), 9) ∷ [])
