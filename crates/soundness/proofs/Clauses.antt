-- The tests of the code against soundness fact by fact: each holds for a sound state, and all of them make one.
use mathlib.Core.Path.{◌≡◌, refl, sym, ap, ◌∙◌}
use Rattle.std.specs.Prelude.{Some, None, cond}
use mathlib.Core.Bool.{Bool, true, false, ◌&&◌}
use Prim.Native.Nat.{ℕ, ◌+◌, ◌-◌, ◌*◌, ◌≤◌, ◌<◌}
use native.Mathlib.Omega.{arith}
use lib.Dec.{leb}
use lib.ListN.{length, drop}
use borrow.Author.Tests.{le-leb, leb-true}
use Rattle.units.specs.Units.{cycles_in}
use Rattle.units.specs.declared.Cycles.{Cycles}
use Rattle.units.specs.declared.Speed.{Speed}
use Rattle.units.specs.declared.Ticks.{Ticks}
use Rattle.rules.specs.declared.State.{State}
use Rattle.rules.specs.declared.Tally.{Tally}
use Rattle.rules.specs.Words.{up_to, total, every}
use Rattle.rules.specs.Limits.{most_tasks, most_period, most_reserve, most_speeds, most_speed, most_great, most_ticks, up_to_most}
use Rattle.rules.specs.State.{job_at, jobs_of, period_at, reserve_at, periods_of, reserves_of, speeds_of, volts_of, top_of}
use Rattle.rules.specs.Choice.{load_of}
use Rattle.rules.specs.Admission.{full_load}
use Rattle.rules.specs.Numbers.{speeds_rise, volts_never_fall, unused_job, unused_speed, sound}
use Rattle.rules.proofs.Climbs.{rise_range}
use Rattle.rules.proofs.Lists.{both_left, both_right, up_to_at, up_to_all, rest_at, rest_all}
use Rattle.rules.proofs.Loads.{top_limit}
use Rattle.rules.proofs.Ranges.{in_range, range_from, range_to}
use Rattle.rules.proofs.Soundness.{Sound, sound_facts, facts_sound, length_speeds}
use Rattle.places.specs.Places.{job_right, jobs_past}
use Rattle.places.proofs.PlaceLaws.{right_job}
use Rattle.rungs.specs.Rungs.{unused_rung, ladder_right, top_in}
use Rattle.rungs.proofs.TopLaws.{top_is}
use Rattle.tallies.specs.Tallies.{counted_within, tally_right}
use Rattle.tallies.proofs.TallyLaws.{most_is}
use Rattle.soundness.specs.Survey.{survey_of}
use Rattle.soundness.specs.declared.sums.Sums.{Sums}
use Rattle.soundness.specs.Parts.{sums_to, summing, tasks_right, great_test}
use Rattle.soundness.proofs.SumLaws.{period_in, reserve_in, run_in, jobs_decide}
use Rattle.soundness.proofs.SumValues.{full_is, load_is, great_found, great_passes}

-- the bound of the counts is t x top speed, for a top speed and a t that are allowed
bound_is : (s : State) → s.ladder.count ≤ most_speeds → top_of (speeds_of s.ladder) ≤ most_speed → s.done.0 ≤ most_ticks → (cycles_in (top_in s.ladder) s.done).0 ≡ s.done.0 * top_of (speeds_of s.ladder)
bound_is s few low done =
    let e : (top_in s.ladder).0 ≡ top_of (speeds_of s.ladder) = top_is s.ladder few in
    most_is s.done (top_in s.ladder) (rw e low) done ∙ ap (λ (x : ℕ). s.done.0 * x) e

-- each test holds for a sound state
module _ (s : State) (f : Sound s) where
  job_holds : (i : ℕ) → i < s.tasks.count → job_right (job_at s.tasks s.jobs i) ≡ true
  unfolding job_at period_at reserve_at
  job_holds i h =
      right_job (job_at s.tasks s.jobs i)
      (in_range most_period (period_at s.tasks i) (f.period_some i h) (f.period_most i h))
      (in_range most_reserve (reserve_at s.tasks i) (f.reserve_some i h) (f.reserve_most i h))
      (f.run_right_lem i h)

  pub tasks_hold : tasks_right s.tasks s.jobs ≡ true
  unfolding jobs_of jobs_past
  tasks_hold =
      jobs_decide s.tasks s.jobs f.tasks_some f.tasks_most f.great_most (rest_all unused_job s.tasks.count most_tasks (job_at s.tasks s.jobs) f.unused_job_lem)
      ∙ up_to_all job_right s.tasks.count (job_at s.tasks s.jobs) job_holds

  -- the speed places past the count are unused
  rungs_hold : every (unused_rung s.ladder s.tally) (drop s.ladder.count (up_to most_speeds (λ i. i))) ≡ true
  unfolding unused_rung unused_speed
  rungs_hold = rest_all (unused_rung s.ladder s.tally) s.ladder.count most_speeds (λ i. i) f.unused_speed_lem

  pub ladder_holds : ladder_right s.ladder s.tally ≡ true
  unfolding ladder_right
  ladder_holds =
      rw (in_range most_speeds s.ladder.count f.speeds_some f.speeds_most, f.speeds_do_rise, f.volts_do_not_fall, rungs_hold)

  pub tally_holds : tally_right s.done s.tally (top_in s.ladder) ≡ true
  unfolding tally_right counted_within
  tally_holds =
      rw (bound_is s f.speeds_most (top_limit s f) f.done_most, le-leb _ _ f.done_most, le-leb _ _ f.late_most, le-leb _ _ f.cut_most, le-leb _ _ f.cycles_most)

  pub great_holds : great_test (sums_to s.tasks s.jobs s.tasks.count) ≡ true
  great_holds = great_passes s.tasks s.jobs f.tasks_some f.period_some f.great_is

  pub full_holds : leb (sums_to s.tasks s.jobs s.tasks.count).full.0 ((top_in s.ladder).0 * s.tasks.great.0) ≡ true
  full_holds =
      le-leb (sums_to s.tasks s.jobs s.tasks.count).full.0 ((top_in s.ladder).0 * s.tasks.great.0)
      (rw (full_is s.tasks s.jobs, top_is s.ladder f.speeds_most) f.admits)

-- what the tests of the tables give
module _ (s : State) (t : tasks_right s.tasks s.jobs ≡ true) where
  -- the four parts of the test of the task side
  abbrev many : Bool
  many = up_to_most most_tasks s.tasks.count

  abbrev low : Bool
  low = leb s.tasks.great.0 most_great

  abbrev past : Bool
  past = every unused_job (jobs_past s.tasks s.jobs)

  abbrev used : Bool
  used = every job_right (jobs_of s.tasks s.jobs)

  -- each of them holds, and says what it tests
  before_used : (many && low && past) ≡ true
  unfolding tasks_right
  before_used = both_left (many && low && past) used t

  before_past : (many && low) ≡ true
  before_past = both_left (many && low) past before_used

  counted : many ≡ true
  counted = both_left many low before_past

  great_low : s.tasks.great.0 ≤ most_great
  great_low = leb-true s.tasks.great.0 most_great (both_right many low before_past)

  jobs_right : used ≡ true
  unfolding tasks_right
  jobs_right = both_right (many && low && past) used t

  job_at_lem : (i : ℕ) → i < s.tasks.count → job_right (job_at s.tasks s.jobs i) ≡ true
  unfolding jobs_of
  job_at_lem = up_to_at job_right s.tasks.count (job_at s.tasks s.jobs) jobs_right

  period_at_lem : (i : ℕ) → i < s.tasks.count → up_to_most most_period (period_at s.tasks i) ≡ true
  unfolding job_at period_at
  period_at_lem i h = period_in (job_at s.tasks s.jobs i) (job_at_lem i h)

  reserve_at_lem : (i : ℕ) → i < s.tasks.count → up_to_most most_reserve (reserve_at s.tasks i) ≡ true
  unfolding job_at reserve_at
  reserve_at_lem i h = reserve_in (job_at s.tasks s.jobs i) (job_at_lem i h)

  past_unused : (i : ℕ) → s.tasks.count ≤ i → i < most_tasks → unused_job (job_at s.tasks s.jobs i) ≡ true
  unfolding jobs_past
  past_unused =
      rest_at unused_job s.tasks.count most_tasks (job_at s.tasks s.jobs)
      (both_right (many && low) past before_used)

module _ (s : State) (t : ladder_right s.ladder s.tally ≡ true) where
  -- the four parts of the test of the speed side
  abbrev counts : Bool
  counts = up_to_most most_speeds s.ladder.count

  abbrev rises : Bool
  rises = speeds_rise 0 (speeds_of s.ladder)

  abbrev stands : Bool
  stands = volts_never_fall 0 (volts_of s.ladder)

  abbrev unused : Bool
  unused = every (unused_rung s.ladder s.tally) (drop s.ladder.count (up_to most_speeds (λ i. i)))

  -- each of them holds, and says what it tests
  climbs : (counts && rises && stands) ≡ true
  unfolding ladder_right
  climbs = both_left (counts && rises && stands) unused t

  counted_rise : (counts && rises) ≡ true
  counted_rise = both_left (counts && rises) stands climbs

  some_speed : 1 ≤ s.ladder.count
  some_speed = range_from most_speeds s.ladder.count (both_left counts rises counted_rise)

  few_speeds_lem : s.ladder.count ≤ most_speeds
  few_speeds_lem = range_to most_speeds s.ladder.count (both_left counts rises counted_rise)

  rise : speeds_rise 0 (speeds_of s.ladder) ≡ true
  rise = both_right counts rises counted_rise

  never_fall : volts_never_fall 0 (volts_of s.ladder) ≡ true
  never_fall = both_right (counts && rises) stands climbs

  rungs_unused : (i : ℕ) → s.ladder.count ≤ i → i < most_speeds → unused_speed s i ≡ true
  unfolding ladder_right unused_rung unused_speed
  rungs_unused =
      rest_at (unused_rung s.ladder s.tally) s.ladder.count most_speeds (λ i. i)
      (both_right (counts && rises && stands) unused t)

  -- the top speed is in its range
  top_most : top_of (speeds_of s.ladder) ≤ most_speed
  unfolding top_of
  top_most =
      let some : 1 ≤ length (speeds_of s.ladder) = rw (length_speeds s) some_speed in
      range_to most_speed (top_of (speeds_of s.ladder)) (rise_range 0 (speeds_of s.ladder) rise (length (speeds_of s.ladder) - 1) (omega arith))

module _ (done : Ticks) (tally : Tally) (top : Speed) (t : tally_right done tally top ≡ true) where
  bounds : Bool
  bounds = leb done.0 most_ticks && leb tally.late (16 * done.0) && leb tally.cut (16 * done.0)

  three : (leb done.0 most_ticks && leb tally.late (16 * done.0) && leb tally.cut (16 * done.0)) ≡ true
  unfolding tally_right bounds
  three = both_left bounds (counted_within tally (cycles_in top done).0) t

  two : (leb done.0 most_ticks && leb tally.late (16 * done.0)) ≡ true
  two = both_left (leb done.0 most_ticks && leb tally.late (16 * done.0)) (leb tally.cut (16 * done.0)) three

  tally_done : done.0 ≤ most_ticks
  tally_done = leb-true done.0 most_ticks (both_left (leb done.0 most_ticks) (leb tally.late (16 * done.0)) two)

  tally_late : tally.late ≤ 16 * done.0
  tally_late =
      leb-true tally.late (16 * done.0) (both_right (leb done.0 most_ticks) (leb tally.late (16 * done.0)) two)

  tally_cut : tally.cut ≤ 16 * done.0
  tally_cut =
      leb-true tally.cut (16 * done.0)
      (both_right (leb done.0 most_ticks && leb tally.late (16 * done.0)) (leb tally.cut (16 * done.0)) three)

  tally_cycles : total (λ (c : Cycles). c.0) tally.counts + tally.idle.0 ≤ (cycles_in top done).0
  unfolding tally_right counted_within bounds
  tally_cycles =
      leb-true (total (λ (c : Cycles). c.0) tally.counts + tally.idle.0) (cycles_in top done).0
      (both_right bounds (counted_within tally (cycles_in top done).0) t)

-- all tests together make a sound state
pub record Tests (s : State) : Type 0 where
  pub tasks : tasks_right s.tasks s.jobs ≡ true
  pub ladder : ladder_right s.ladder s.tally ≡ true
  pub tally : tally_right s.done s.tally (top_in s.ladder) ≡ true
  pub great : great_test (sums_to s.tasks s.jobs s.tasks.count) ≡ true
  pub full : leb (sums_to s.tasks s.jobs s.tasks.count).full.0 ((top_in s.ladder).0 * s.tasks.great.0) ≡ true

-- the table is admitted, and the counts are within t x top speed
tests_admit : (s : State) → Tests s → full_load s.tasks.great.0 (periods_of s.tasks) (reserves_of s.tasks) ≤ top_of (speeds_of s.ladder) * s.tasks.great.0
tests_admit s t =
    rw (full_is s.tasks s.jobs, top_is s.ladder (few_speeds_lem s t.ladder))
    at (leb-true (sums_to s.tasks s.jobs s.tasks.count).full.0 ((top_in s.ladder).0 * s.tasks.great.0) t.full)

tests_cycles : (s : State) → Tests s → total (λ (c : Cycles). c.0) s.tally.counts + s.tally.idle.0 ≤ s.done.0 * top_of (speeds_of s.ladder)
tests_cycles s t =
    rw (bound_is s (few_speeds_lem s t.ladder) (top_most s t.ladder) (tally_done _ _ _ t.tally))
    at (tally_cycles _ _ _ t.tally)

tests_facts : (s : State) → Tests s → Sound s
tests_facts s t =
    record {
      tasks_some = range_from most_tasks s.tasks.count (counted s t.tasks);
      tasks_most = range_to most_tasks s.tasks.count (counted s t.tasks);
      speeds_some = some_speed s t.ladder;
      speeds_most = few_speeds_lem s t.ladder;
      period_some = λ i h. range_from most_period (period_at s.tasks i) (period_at_lem s t.tasks i h);
      period_most = λ i h. range_to most_period (period_at s.tasks i) (period_at_lem s t.tasks i h);
      reserve_some = λ i h. range_from most_reserve (reserve_at s.tasks i) (reserve_at_lem s t.tasks i h);
      reserve_most = λ i h. range_to most_reserve (reserve_at s.tasks i) (reserve_at_lem s t.tasks i h);
      speeds_do_rise = rise s t.ladder;
      volts_do_not_fall = never_fall s t.ladder;
      great_is = great_found s.tasks s.jobs t.great;
      great_most = great_low s t.tasks;
      admits = tests_admit s t;
      run_right_lem = λ i h. run_in (job_at s.tasks s.jobs i) (job_at_lem s t.tasks i h);
      unused_job_lem = past_unused s t.tasks;
      unused_speed_lem = rungs_unused s t.ladder;
      done_most = tally_done _ _ _ t.tally;
      cycles_most = tests_cycles s t;
      late_most = tally_late _ _ _ t.tally;
      cut_most = tally_cut _ _ _ t.tally;
    }

-- the tests of the code are soundness
module _ (s : State) where
  abbrev made : Sums
  made = sums_to s.tasks s.jobs s.tasks.count

  -- all but those of the task side, for these sums and this top speed
  unfoldable pub rest_right : Sums → Speed → Bool
  rest_right m top =
      ladder_right s.ladder s.tally
      && tally_right s.done s.tally top
      && great_test m
      && leb m.full.0 (top.0 * s.tasks.great.0)

  abbrev all_right : Bool
  all_right = tasks_right s.tasks s.jobs && rest_right made (top_in s.ladder)

  all_hold : Sound s → all_right ≡ true
  unfolding rest_right
  all_hold f = rw (tasks_hold s f, ladder_holds s f, tally_holds s f, great_holds s f, full_holds s f)

  all_tests : all_right ≡ true → Tests s
  unfolding rest_right
  all_tests e =
      let l = ladder_right s.ladder s.tally in
      let t = tally_right s.done s.tally (top_in s.ladder) in
      let g = great_test made in
      let f = leb made.full.0 ((top_in s.ladder).0 * s.tasks.great.0) in
      let four : (l && t && g && f) ≡ true = both_right (tasks_right s.tasks s.jobs) (l && t && g && f) e in
      let three : (l && t && g) ≡ true = both_left (l && t && g) f four in
      let two : (l && t) ≡ true = both_left (l && t) g three in
      record {
        tasks = both_left (tasks_right s.tasks s.jobs) (l && t && g && f) e;
        ladder = both_left l t two;
        tally = both_right l t two;
        great = both_right (l && t) g three;
        full = both_right (l && t && g) f four;
      }

  tests_are : sound s ≡ all_right
  tests_are = go (sound s) all_right refl refl
    where
      go : (b t : Bool) → sound s ≡ b → all_right ≡ t → b ≡ t
      go true true e a = refl
      go false false e a = refl
      go true false e a = sym (all_hold (sound_facts s e)) ∙ a
      go false true e a = sym e ∙ facts_sound s (tests_facts s (all_tests a))

  -- what survey answers: none where the task side is wrong, and else by the other tests
  pub survey_none : None ≡ summing (tasks_right s.tasks s.jobs) s.tasks s.jobs → survey_of s ≡ None
  unfolding survey_of summing
  survey_none = go (tasks_right s.tasks s.jobs) refl
    where
      go : (b : Bool) → tasks_right s.tasks s.jobs ≡ b → None ≡ cond b (Some made) None → survey_of s ≡ None
      go true r e = cc
      go false r e = rw (tests_are, r)

  pub survey_by : (m : Sums) (top : Speed) → Some m ≡ summing (tasks_right s.tasks s.jobs) s.tasks s.jobs → top ≡ top_in s.ladder → survey_of s ≡ cond (rest_right m top) (Some m.load) None
  unfolding survey_of load_of summing
  survey_by m top e t = go (tasks_right s.tasks s.jobs) refl e
    where
      go : (b : Bool) → tasks_right s.tasks s.jobs ≡ b → Some m ≡ cond b (Some made) None → survey_of s ≡ cond (rest_right m top) (Some m.load) None
      go true r e =
          let q : m ≡ made = cc in
          rw (t, q, tests_are, r, ← load_is s.tasks s.jobs)
      go false r e = cc
