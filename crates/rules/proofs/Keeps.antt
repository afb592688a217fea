-- A sound state goes to a sound state by a tick that keeps rule 4, at any speed up to the top one: each fact of soundness after the tick from those before it.
use mathlib.Core.Path.{◌≡◌, ap, ◌∙◌}
use mathlib.Core.Bool.{Bool, true, false, cond, ◌&&◌}
use mathlib.Core.List.{List, []}
use Prim.Native.Nat.{ℕ, ◌+◌, ◌*◌, ◌%◌, ◌≤◌, ◌<◌}
use native.Mathlib.Nat.{add-mul}
use native.Mathlib.Omega.{arith}
use lib.Dec.{eqb}
use lib.ListN.{length, get_or, length-set}
use lib.Seq.{get_or-set_other}
use borrow.Author.Tests.{lt-ltb}
use Rattle.units.specs.Units.{cycles}
use Rattle.units.specs.declared.Cycles.{Cycles}
use Rattle.rules.specs.declared.Job.{Job}
use Rattle.rules.specs.declared.State.{State}
use Rattle.rules.specs.Answers.{Ticked}
use Rattle.rules.specs.Words.{total}
use Rattle.rules.specs.Limits.{most_tasks, most_speeds, most_ticks}
use Rattle.rules.specs.State.{Shaped, period_at, speed_at, volts_at, count_at, job_at, speeds_of, top_of}
use Rattle.rules.specs.Choice.{ready_at, order_of, speed_place, speed_of}
use Rattle.rules.specs.Settlement.{at_tick_start, settled, all_allowed, over_entries_zero, keeps_rule4}
use Rattle.rules.specs.Counting.{counted, next_of}
use Rattle.rules.specs.Numbers.{run_right, unused_speed, sound, tick_number}
use Rattle.rules.specs.Calls.{tick_of}
use Rattle.rules.proofs.Lists.{both_left, both_right}
use Rattle.rules.proofs.Orders.{order_below, order_apart, order_short, order_ready}
use Rattle.rules.proofs.Places.{reserve_asks}
use Rattle.rules.proofs.Stores.{with_run}
use Rattle.rules.proofs.Totals.{total-set}
use Rattle.rules.proofs.Settles.{Settles, settles_all, settles_begun, grants_sum}
use Rattle.rules.proofs.Releases.{after_release, releases_runs, releases_marks, releases_past, releases_at, releases_late}
use Rattle.rules.proofs.Soundness.{Sound, facts_sound}
use Rattle.rules.proofs.Loads.{place_below, speed_of_most}
use Rattle.rules.proofs.CallRows.{Accepted, accepted, tick_accepted}

-- a released job's run count is right, since its reserve is not 0
released_right : (t p : ℕ) (j : Job) → run_right j ≡ true → run_right (after_release t p j) ≡ true
unfolding after_release with_run run_right
released_right t p j r = go (eqb (t % p) 0)
  where
    go : (b : Bool) → run_right (cond b (with_run j 0 false) j) ≡ true
    go true = lt-ltb 0 j.reserve.0 (reserve_asks j r)
    go false = r

-- both halves of rule 4: a job that is over has entry 0, and the entries of the ready ones are allowed
module _ (s : State) (speed : ℕ) (report : List ℕ) (lawful : keeps_rule4 s speed report ≡ true) where
  pub over_zeros : over_entries_zero s.tasks s.jobs report ≡ true
  unfolding keeps_rule4
  over_zeros = both_left (over_entries_zero s.tasks s.jobs report) (all_allowed s.tasks report (order_of s) (at_tick_start s.jobs speed)) lawful

  pub all_allowed_lem : all_allowed s.tasks report (order_of s) (at_tick_start s.jobs speed) ≡ true
  unfolding keeps_rule4
  all_allowed_lem = both_right (over_entries_zero s.tasks s.jobs report) (all_allowed s.tasks report (order_of s) (at_tick_start s.jobs speed)) lawful

-- what a settlement asks of the jobs of a state: each has its place, and its run count is right
pub record JobsRight (s : State) : Type 0 where
  pub few : s.tasks.count ≤ most_tasks
  pub right : (i : ℕ) → i < s.tasks.count → run_right (job_at s.tasks s.jobs i) ≡ true
  pub runs : length s.jobs.run ≡ most_tasks
  pub marks : length s.jobs.over ≡ most_tasks

pub jobs_right : (s : State) → Sound s → Shaped s → JobsRight s
jobs_right s f shape = record { few = f.tasks_most; right = f.run_right_lem; runs = shape.runs; marks = shape.marks }

-- the settlement of a tick: as it begins, with the ready jobs to come, and where it keeps rule 4, as it ends
module _ (s : State) (r : JobsRight s) (speed : ℕ) where
  pub settles_start : Settles s.tasks s.jobs s.tasks.count speed (order_of s) (at_tick_start s.jobs speed)
  unfolding order_of ready_at
  settles_start =
      let n = s.tasks.count in
      settles_begun s.tasks s.jobs n speed (order_of s) r.runs r.marks r.few r.right (order_ready _ (ready_at s) n) (order_below _ (ready_at s) n) (order_apart _ (ready_at s) n) (order_short _ (ready_at s) n)

  pub settles : (report : List ℕ) → all_allowed s.tasks report (order_of s) (at_tick_start s.jobs speed) ≡ true → Settles s.tasks s.jobs s.tasks.count speed [] (settled s speed report)
  unfolding settled
  settles report a = settles_all s.tasks s.jobs s.tasks.count speed report (order_of s) (at_tick_start s.jobs speed) r.few a settles_start

  -- the job of each task after the tick
  pub job_after : (report : List ℕ) → all_allowed s.tasks report (order_of s) (at_tick_start s.jobs speed) ≡ true → (place i : ℕ) → i < s.tasks.count → job_at s.tasks (next_of s place (settled s speed report)).jobs i ≡ after_release (s.done.0 + 1) (period_at s.tasks i) (job_at s.tasks (settled s speed report).jobs i)
  unfolding next_of
  job_after report a place i h =
      let ends = settles report a in
      releases_at s.tasks (s.done.0 + 1) _ s.tasks.count i
      (omega (arith, ends.runs, r.few)) (omega (arith, ends.marks, r.few)) h

  -- so the jobs are right after it
  pub jobs_after : (report : List ℕ) → all_allowed s.tasks report (order_of s) (at_tick_start s.jobs speed) ≡ true → (place : ℕ) → JobsRight (next_of s place (settled s speed report))
  unfolding next_of
  jobs_after report a place =
      let ends = settles report a in
      record {
        few = r.few;
        right = λ i h. rw (job_after report a place i h) (released_right (s.done.0 + 1) (period_at s.tasks i) (job_at s.tasks (settled s speed report).jobs i) (ends.right i h));
        runs = releases_runs s.tasks (s.done.0 + 1) _ s.tasks.count ∙ ends.runs;
        marks = releases_marks s.tasks (s.done.0 + 1) _ s.tasks.count ∙ ends.marks;
      }

module _ (s : State) (f : Sound s) (shape : Shaped s) (place speed : ℕ) (report : List ℕ) (room : s.done.0 < most_ticks) (listed : place < s.ladder.count) (fast : speed ≤ top_of (speeds_of s.ladder)) (lawful : all_allowed s.tasks report (order_of s) (at_tick_start s.jobs speed) ≡ true) where
  done_so : Settles s.tasks s.jobs s.tasks.count speed [] (settled s speed report)
  done_so = settles s (jobs_right s f shape) speed report lawful

  jobs_so : JobsRight (next_of s place (settled s speed report))
  jobs_so = jobs_after s (jobs_right s f shape) speed report lawful place

  -- the job of the places past the tasks
  job_past : (i : ℕ) → s.tasks.count ≤ i → job_at s.tasks (next_of s place (settled s speed report)).jobs i ≡ job_at s.tasks s.jobs i
  unfolding next_of
  job_past i h = releases_past s.tasks (s.done.0 + 1) _ s.tasks.count i h ∙ done_so.others i h

  unused_after : (i : ℕ) → s.ladder.count ≤ i → i < most_speeds → unused_speed (next_of s place (settled s speed report)) i ≡ true
  unfolding unused_speed next_of counted count_at
  unused_after i h m =
      ap (λ (c : Cycles). eqb (speed_at s.ladder i) 0 && eqb (volts_at s.ladder i) 0 && eqb c.0 0) (get_or-set_other s.tally.counts place i _ (cycles 0) differs)
      ∙ f.unused_speed_lem i h m
    where
      differs : i ≡ place → ⊥
      differs e = omega (arith, listed)

  cycles_after : total (λ (c : Cycles). c.0) (next_of s place (settled s speed report)).tally.counts + (next_of s place (settled s speed report)).tally.idle.0 ≤ (s.done.0 + 1) * top_of (speeds_of s.ladder)
  unfolding next_of counted count_at
  cycles_after =
      let sum = total-set (λ (c : Cycles). c.0) s.tally.counts place (cycles ((get_or s.tally.counts place (cycles 0)).0 + grants_sum (settled s speed report))) (cycles 0) (omega (arith, shape.counts, listed, f.speeds_most)) in
      let more : (s.done.0 + 1) * top_of (speeds_of s.ladder) ≡ s.done.0 * top_of (speeds_of s.ladder) + 1 * top_of (speeds_of s.ladder) = add-mul s.done.0 1 (top_of (speeds_of s.ladder)) in
      omega (arith, sum, more, f.cycles_most, done_so.shared, fast)

  late_after : (next_of s place (settled s speed report)).tally.late ≤ 16 * (s.done.0 + 1)
  unfolding next_of counted
  late_after =
      let more = releases_late s.tasks (s.done.0 + 1) (record { jobs = (settled s speed report).jobs; late = s.tally.late }) s.tasks.count in
      omega (arith, more, f.late_most, f.tasks_most)

  cut_after : (next_of s place (settled s speed report)).tally.cut ≤ 16 * (s.done.0 + 1)
  unfolding next_of counted
  cut_after = omega (arith, done_so.cuts, f.cut_most)

  pub next_sound : Sound (next_of s place (settled s speed report))
  unfolding next_of
  next_sound =
      record {
        tasks_some = f.tasks_some;
        tasks_most = f.tasks_most;
        speeds_some = f.speeds_some;
        speeds_most = f.speeds_most;
        period_some = f.period_some;
        period_most = f.period_most;
        reserve_some = f.reserve_some;
        reserve_most = f.reserve_most;
        speeds_do_rise = f.speeds_do_rise;
        volts_do_not_fall = f.volts_do_not_fall;
        great_is = f.great_is;
        great_most = f.great_most;
        admits = f.admits;
        run_right_lem = jobs_so.right;
        unused_job_lem = λ i h m. rw (job_past i h) (f.unused_job_lem i h m);
        unused_speed_lem = unused_after;
        done_most = omega (arith, room);
        cycles_most = cycles_after;
        late_most = late_after;
        cut_most = cut_after;
      }

  pub next_shaped : Shaped (next_of s place (settled s speed report))
  unfolding next_of counted
  next_shaped =
      record {
        periods = shape.periods;
        reserves = shape.reserves;
        runs = jobs_so.runs;
        marks = jobs_so.marks;
        speeds = shape.speeds;
        volts = shape.volts;
        counts = length-set s.tally.counts place _ ∙ shape.counts;
      }

-- an accepted tick, whatever its report, takes a sound state to a sound state
module _ (s : State) (report : List ℕ) (places : ℕ) (shape : Shaped s) (e : tick_number s report places ≡ 0) where
  taken : Accepted s report places
  taken = accepted s report places e

  pub entries_allowed : all_allowed s.tasks report (order_of s) (at_tick_start s.jobs (speed_of s)) ≡ true
  entries_allowed = all_allowed_lem s (speed_of s) report taken.lawful

  pub taken_sound : Sound (next_of s (speed_place s) (settled s (speed_of s) report))
  taken_sound =
      let f = taken.is_sound in
      next_sound s f shape (speed_place s) (speed_of s) report taken.room (place_below s f) (speed_of_most s f) entries_allowed

  pub taken_shaped : Shaped (next_of s (speed_place s) (settled s (speed_of s) report))
  taken_shaped =
      let f = taken.is_sound in
      next_shaped s f shape (speed_place s) (speed_of s) report taken.room (place_below s f) (speed_of_most s f) entries_allowed

  after_is : next_of s (speed_place s) (settled s (speed_of s) report) ≡ (tick_of s report places).state
  after_is = ap (λ (r : Ticked). r.state) (tick_accepted s report places e)

  pub tick_sound : sound (tick_of s report places).state ≡ true
  tick_sound = rw (← after_is) (facts_sound _ taken_sound)

  pub tick_shaped : Shaped (tick_of s report places).state
  tick_shaped = rw (← after_is) taken_shaped
