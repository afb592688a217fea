-- In any run each job has exactly its cycles: said of a task's job at hand and its later ones from any state on, by induction on the accepted ticks.
use mathlib.Core.List.{List, [], ◌∷◌}
use Prim.Native.Nat.{ℕ, ◌<◌}
use lib.ListN.{get_or}
use Rattle.rules.specs.declared.Tasks.{Tasks}
use Rattle.rules.specs.declared.State.{State}
use Rattle.rules.specs.State.{period_at, reserve_at, job_at}
use Rattle.rules.specs.Counting.{next_of}
use Rattle.promises.specs.Runs.{Call, Step, started, step_of, steps, grants_to, entries_of}
use Rattle.promises.specs.NeverLate.{OverAtRelease}
use Rattle.promises.specs.ExactCycles.{ExactlyTheCycles}
use Rattle.promises.proofs.RunLaws.{next, Taken, by_steps}
use Rattle.promises.proofs.StartLaws.{tasks_count}
use Rattle.promises.proofs.StepPlaces.{OfJob, Onward, go_some, fresh_onward, step_portion, tick_first}
use Rattle.promises.proofs.Invariant.{Kept}
use Rattle.promises.proofs.OnTimeProof.{kept_start, kept_next, kept_over}
use Rattle.promises.proofs.Windows.{Ahead, all_served, ahead_none, ahead_on, ahead_due}

-- the task at a place of a state, by its grants and entries from then on
abbrev WithTask : Tasks → ℕ → OfJob
WithTask ts i over run togo gs us = Ahead (reserve_at ts i) (period_at ts i) over run togo gs us

-- an accepted tick in front of those to come: where the task is released then, its job before that is over
module _ (s : State) (call : Call) (k : Kept s) (e : Taken s call) (i : ℕ) (h : i < s.tasks.count) where
  tick_ahead : (xs : List Step) → Onward (WithTask s.tasks i) i (next s call) (grants_to i xs) (entries_of i xs) → Onward (WithTask s.tasks i) i s (grants_to i (step_of s call ∷ xs)) (entries_of i (step_of s call ∷ xs))
  unfolding job_at reserve_at OverAtRelease
  tick_ahead =
      let part = step_portion s call k.base.shape e i h in
      tick_first s call k.base.shape e i h (WithTask s.tasks i) (WithTask s.tasks i)
      (λ togo gs us a. ahead_on (period_at s.tasks i) _ _ _ _ part gs us togo a)
      (λ r gs us a. ahead_due (period_at s.tasks i) _ _ _ _ part gs us (kept_over s call k e i h r) a)

-- from any state that keeps the invariant
from_any_state : (i : ℕ) (calls : List Call) (s : State) → Kept s → i < s.tasks.count → Onward (WithTask s.tasks i) i s (grants_to i (steps s calls)) (entries_of i (steps s calls))
unfolding next_of grants_to entries_of
from_any_state i = by_steps Kept kept_next (λ s end xs. i < s.tasks.count → Onward (WithTask s.tasks i) i s (grants_to i xs) (entries_of i xs)) none more
  where
    none : (s : State) → Kept s → i < s.tasks.count → Onward (WithTask s.tasks i) i s [] []
    none s k h =
        let some = k.base.facts.period_some i h in
        ahead_none (reserve_at s.tasks i) (period_at s.tasks i) _ _ _ some (go_some s.done.0 (period_at s.tasks i) some)

    more : (s : State) (call : Call) (end : State) (xs : List Step) → Kept s → Taken s call → (i < s.tasks.count → Onward (WithTask s.tasks i) i (next s call) (grants_to i xs) (entries_of i xs)) → i < s.tasks.count → Onward (WithTask s.tasks i) i s (grants_to i (step_of s call ∷ xs)) (entries_of i (step_of s call ∷ xs))
    more s call end xs k t rest h = tick_ahead s call k t i h xs (rest h)

-- such is the state of an accepted start, where each task's first job is at hand
pub exactly_the_cycles : ExactlyTheCycles
unfolding ExactlyTheCycles
exactly_the_cycles table e calls i job h =
    let s = (started table).state in
    let gs = grants_to i (steps s calls) in
    let us = entries_of i (steps s calls) in
    all_served (get_or table.reserves i 0) (get_or table.periods i 0) gs us
    (fresh_onward Ahead table e i h gs us (from_any_state i calls s (kept_start table e) (rw (tasks_count table e) h))) job
