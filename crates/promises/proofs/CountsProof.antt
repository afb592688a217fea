-- From a fresh start on all counts come from the grants: a run adds to zeros, and the state's arrays hold the table's lists.
use mathlib.Core.Path.{◌≡◌, sym, ap, fun_ext}
use mathlib.Core.List.{List}
use Prim.Native.Nat.{ℕ, ◌-◌, ◌*◌, ◌≤◌, ◌<◌}
use native.Mathlib.Omega.{arith}
use lib.ListN.{length, get_or, length-map}
use Rattle.rules.specs.declared.State.{State}
use Rattle.rules.specs.Words.{total}
use Rattle.rules.specs.Limits.{most_speeds}
use Rattle.rules.specs.State.{speed_at, volts_at, count_at}
use Rattle.rules.specs.Counting.{energy_sum}
use Rattle.rules.specs.Calls.{fresh_tally, fresh_state, energy_of}
use Rattle.rules.proofs.Tables.{match_same}
use Rattle.rules.proofs.Soundness.{facts_sound}
use Rattle.rules.proofs.Fresh.{count_fresh, speed_laid, ladder_speeds, ladder_volts_lem}
use Rattle.rules.proofs.CallRows.{energy_accepted}
use Rattle.promises.specs.Runs.{Table, Call, Step, started, after, steps, grants_to, entries_of, granted, sum_to}
use Rattle.promises.specs.Counts.{granted_at, volts_beside, cut_job, CountsComeFromTheGrants}
use Rattle.promises.proofs.RunLaws.{keeps_all}
use Rattle.ontime.proofs.Sums.{sum_zero, sum_same}
use Rattle.promises.proofs.SoundRuns.{SoundAndShaped, sound_next, sound_start, ticks_done}
use Rattle.promises.proofs.Tallies.{all_within, counts_run, idle_run}
use Rattle.promises.proofs.TallyEnergy.{ladder_volts, step_energy, energy_run}
use Rattle.promises.proofs.StartLaws.{started_is, passed, speeds_few, tasks_count, speeds_count, start_done}
use Rattle.promises.proofs.StepPlaces.{fresh_onward}
use Rattle.promises.proofs.CutWindows.{cuts_of_jobs}
use Rattle.promises.proofs.TallyCuts.{CutsOf, CutsOnward, RunCuts, cuts_run}

-- the state that start answers, and the state and the accepted ticks after calls from there
abbrev begun : Table → State
begun table = (started table).state

abbrev ended : Table → List Call → State
ended table calls = after (begun table) calls

abbrev taken : Table → List Call → List Step
taken table calls = steps (begun table) calls

-- an accepted start: what stands in its state, in the words of the table
module _ (table : Table) (e : (started table).number ≡ 0) where
  no_idle : (begun table).tally.idle.0 ≡ 0
  unfolding fresh_state fresh_tally
  no_idle = rw (started_is table e)

  no_cut : (begun table).tally.cut ≡ 0
  unfolding fresh_state fresh_tally
  no_cut = rw (started_is table e)

  no_count : (k : ℕ) → k < length table.speeds → count_at (begun table).tally k ≡ 0
  unfolding fresh_state
  no_count k h = rw (started_is table e) (count_fresh k (omega (arith, speeds_few table e)))

  no_energy : energy_sum (begun table).ladder (begun table).tally ≡ 0
  unfolding energy_sum
  no_energy = sum_zero _ (begun table).ladder.count none
    where
      none : (k : ℕ) → k < (begun table).ladder.count → count_at (begun table).tally k * volts_at (begun table).ladder k * volts_at (begun table).ladder k ≡ 0
      none k h = rw (no_count k (omega (arith, speeds_count table e))) (omega arith)

  speed_listed : (k : ℕ) → k < length table.speeds → speed_at (begun table).ladder k ≡ get_or table.speeds k 0
  unfolding fresh_state
  speed_listed k h = rw (started_is table e) (speed_laid table.speeds table.volts k (omega (arith, speeds_few table e)))

  volts_listed : ladder_volts (begun table).ladder ≡ volts_beside table
  unfolding fresh_state ladder_volts volts_beside
  volts_listed = fun_ext same
    where
      as_long : length table.volts ≡ length table.speeds
      as_long = match_same most_speeds table.speeds table.volts (passed table e).forms.speeds_match

      same : (x : ℕ) → ladder_volts (begun table).ladder x ≡ volts_beside table x
      same x =
          rw (started_is table e, ladder_speeds table.speeds table.volts (speeds_few table e), ladder_volts_lem table.speeds table.volts (speeds_few table e) as_long)

  -- a task's first job is at hand at tick 0, with a whole period to go: its cuts to come are those of all its jobs
  cuts_listed : (i : ℕ) → i < length table.periods → (gs us : List ℕ) (cuts : ℕ) → CutsOnward i (begun table) gs us cuts → sum_to (length gs) (λ job. cut_job (get_or table.reserves i 0) (get_or table.periods i 0) job gs us) ≡ cuts
  cuts_listed i h gs us cuts to_come =
      let place : i < (begun table).tasks.count = omega (arith, tasks_count table e) in
      let f = (sound_start table e).facts in
      let (asks, some, all) = fresh_onward
      (λ reserve period over run togo xs ys. (1 ≤ reserve) × (1 ≤ period) × CutsOf cuts reserve period over run togo xs ys)
      table e i h gs us (f.reserve_some i place, f.period_some i place, to_come) in
      cuts_of_jobs (get_or table.reserves i 0) (get_or table.periods i 0) gs us cuts asks some all

-- a task has one grant in each tick
length_grants : (i : ℕ) (xs : List Step) → length (grants_to i xs) ≡ length xs
unfolding grants_to
length_grants i xs = length-map xs (λ (x : Step). get_or x.grants i 0)

-- each count after calls from there
module _ (table : Table) (e : (started table).number ≡ 0) (calls : List Call) where
  start : SoundAndShaped (begun table)
  start = sound_start table e

  ticks_are : (ended table calls).done.0 ≡ length (taken table calls)
  ticks_are = omega (arith, ticks_done calls (begun table) start, start_done table e)

  counts_are : (k : ℕ) → k < length table.speeds → count_at (ended table calls).tally k ≡ granted_at (get_or table.speeds k 0) (taken table calls)
  counts_are k h =
      rw (← speed_listed table e k h)
      (omega (arith, counts_run calls (begun table) start k (omega (arith, speeds_count table e)), no_count table e k h))

  idle_is : (ended table calls).tally.idle.0 ≡ total (λ (x : Step). x.speed - granted x) (taken table calls)
  idle_is = omega (arith, idle_run calls (begun table) start, no_idle table e)

  cut_of_run : (ended table calls).tally.cut ≡ sum_to (length table.periods) (λ i. sum_to (length (taken table calls)) (λ job. cut_job (get_or table.reserves i 0) (get_or table.periods i 0) job (grants_to i (taken table calls)) (entries_of i (taken table calls))))
  cut_of_run =
      let places = ap (λ n. sum_to n run.of_task) (tasks_count table e) in
      omega (arith, run.together, no_cut table e, places, sum_same cuts_of run.of_task (length table.periods) same)
    where
      xs : List Step
      xs = taken table calls

      run : RunCuts (begun table) (ended table calls) xs
      run = cuts_run calls (begun table) start

      cuts_of : ℕ → ℕ
      cuts_of i = sum_to (length xs) (λ job. cut_job (get_or table.reserves i 0) (get_or table.periods i 0) job (grants_to i xs) (entries_of i xs))

      same : (i : ℕ) → i < length table.periods → cuts_of i ≡ run.of_task i
      same i h =
          let to_come = run.to_come i (omega (arith, tasks_count table e)) in
          rw (length_grants i xs) at (cuts_listed table e i h (grants_to i xs) (entries_of i xs) (run.of_task i) to_come)

  energy_is : energy_sum (ended table calls).ladder (ended table calls).tally ≡ total (λ x. granted x * volts_beside table x.speed * volts_beside table x.speed) (taken table calls)
  unfolding step_energy
  energy_is =
      rw (← volts_listed table e)
      (omega (arith, energy_run calls (begun table) start, no_energy table e))

  used_is : energy_of (ended table calls) ≡ record { number = 0; energy = total (λ x. granted x * volts_beside table x.speed * volts_beside table x.speed) (taken table calls) }
  used_is =
      let last : SoundAndShaped (ended table calls) = keeps_all SoundAndShaped sound_next calls (begun table) start in
      rw (← energy_is) (sym (energy_accepted (ended table calls) (facts_sound (ended table calls) last.facts)))

-- Demand 2, "all counts": they come from the grants of the accepted ticks.
pub counts_from_grants : CountsComeFromTheGrants
unfolding CountsComeFromTheGrants
counts_from_grants table e calls =
    record {
      ticks = ticks_are table e calls;
      within = all_within calls (started table).state (sound_start table e);
      counts = counts_are table e calls;
      idle = idle_is table e calls;
      cut = cut_of_run table e calls;
      energy = used_is table e calls;
    }
