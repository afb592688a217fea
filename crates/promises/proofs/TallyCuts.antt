-- What a run adds to cut: of each task, the jobs that are cut by their windows. By the accepted ticks, one task at a time.
use mathlib.Core.Path.{◌≡◌, refl, ap}
use mathlib.Core.List.{List, [], ◌∷◌}
use Prim.Native.Nat.{ℕ, ◌+◌, ◌<◌}
use native.Mathlib.Omega.{arith}
use Rattle.rules.specs.declared.State.{State}
use Rattle.rules.specs.State.{period_at, reserve_at, job_at}
use Rattle.rules.specs.Choice.{speed_of}
use Rattle.rules.specs.Counting.{counted, next_of}
use Rattle.rules.proofs.Places.{run_below}
use Rattle.promises.specs.Runs.{Call, Step, step_of, steps, after, grants_to, entries_of, sum_to}
use Rattle.promises.proofs.RunLaws.{next, Taken, tests_passed, by_steps}
use Rattle.ontime.proofs.Sums.{sum_zero, sum_add}
use Rattle.promises.proofs.Portions.{cut_at, cut_is}
use Rattle.promises.proofs.SoundRuns.{SoundAndShaped, sound_next}
use Rattle.promises.proofs.StepPlaces.{OfJob, Onward, step_portion, tick_first}
use Rattle.promises.proofs.CutWindows.{CutsToCome, cuts_none, cuts_on, cuts_due}

-- so many cuts to come of a task, and of the task at a place of a state, by its grants and entries from then on
abbrev pub CutsOf : ℕ → ℕ → ℕ → OfJob
CutsOf cuts reserve period over run togo gs us = CutsToCome reserve period over run togo gs us cuts

abbrev pub CutsOnward : ℕ → State → List ℕ → List ℕ → ℕ → Type 0
CutsOnward i s gs us cuts = Onward (CutsOf cuts (reserve_at s.tasks i) (period_at s.tasks i)) i s gs us

-- with no tick there is none
none_to_come : (s : State) → SoundAndShaped s → (i : ℕ) → i < s.tasks.count → CutsOnward i s [] [] 0
unfolding job_at reserve_at
none_to_come s kept i h =
    let f = kept.facts in
    cuts_none (reserve_at s.tasks i) (period_at s.tasks i) _ _ _ (f.reserve_some i h) (f.period_some i h)
    (run_below (job_at s.tasks s.jobs i) (f.run_right_lem i h))

-- one accepted tick
module _ (s : State) (call : Call) (kept : SoundAndShaped s) (e : Taken s call) where
  -- all tasks together
  cut_tick : (next s call).tally.cut ≡ s.tally.cut + sum_to s.tasks.count (cut_at s (speed_of s) call.report)
  unfolding next_of counted
  cut_tick = ap (λ c. s.tally.cut + c) (cut_is s kept.facts kept.shape (speed_of s) call.report (tests_passed s call e).lawful)

  -- one task
  tick_cuts : (i : ℕ) → i < s.tasks.count → (xs : List Step) (cuts : ℕ) → CutsOnward i (next s call) (grants_to i xs) (entries_of i xs) cuts → CutsOnward i s (grants_to i (step_of s call ∷ xs)) (entries_of i (step_of s call ∷ xs)) (cut_at s (speed_of s) call.report i + cuts)
  unfolding job_at reserve_at next_of
  tick_cuts i h xs cuts =
      let part = step_portion s call kept.shape e i h in
      let reserve = reserve_at s.tasks i in
      let period = period_at s.tasks i in
      tick_first s call kept.shape e i h (CutsOf cuts reserve period) (CutsOf (cut_at s (speed_of s) call.report i + cuts) reserve period)
      (λ togo gs us rest. cuts_on period _ _ _ _ part gs us cuts togo rest)
      (λ r gs us rest. cuts_due period _ _ _ _ part gs us cuts rest)
      xs

-- the cuts of a run: those of each task, and what they come to together
pub record RunCuts (s end : State) (xs : List Step) : Type 0 where
  pub of_task : ℕ → ℕ
  pub to_come : (i : ℕ) → i < s.tasks.count → CutsOnward i s (grants_to i xs) (entries_of i xs) (of_task i)
  pub together : end.tally.cut ≡ s.tally.cut + sum_to s.tasks.count of_task

-- by the accepted ticks
run_none : (s : State) → SoundAndShaped s → RunCuts s s []
unfolding grants_to entries_of
run_none s kept =
    record {
      of_task = λ i. 0;
      to_come = none_to_come s kept;
      together = omega (arith, sum_zero (λ i. 0) s.tasks.count (λ i h. refl));
    }

run_more : (s : State) (call : Call) (end : State) (xs : List Step) → SoundAndShaped s → Taken s call → RunCuts (next s call) end xs → RunCuts s end (step_of s call ∷ xs)
unfolding next_of
run_more s call end xs kept e rest =
    let now = cut_at s (speed_of s) call.report in
    record {
      of_task = λ i. now i + rest.of_task i;
      to_come = λ i h. tick_cuts s call kept e i h xs (rest.of_task i) (rest.to_come i h);
      together = omega (arith, rest.together, cut_tick s call kept e, sum_add now rest.of_task s.tasks.count);
    }

pub cuts_run : (calls : List Call) (s : State) → SoundAndShaped s → RunCuts s (after s calls) (steps s calls)
cuts_run = by_steps SoundAndShaped sound_next RunCuts run_none run_more
