-- Demand 3: "a table turned away for load is one that no order of running could serve at top speed if each job used its reserve".
use Rattle.std.specs.Prelude.{ℕ, ◌+◌, ◌*◌, ◌≤◌, ◌<◌, ◌≡◌, length, get_or}
use Rattle.rules.specs.State.{top_of}
use Rattle.rules.specs.Admission.{great_of}
use Rattle.promises.specs.Runs.{Table, started, sum_to}

-- A way to run a table: how many cycles each tick hands out to each task; at top speed it hands out no more than that in any tick.
abbrev pub HandOut : Type 0
HandOut = ℕ → ℕ → ℕ

unfoldable pub WithinTopSpeed : Table → HandOut → Type 0
WithinTopSpeed table out = (t : ℕ) → sum_to (length table.periods) (out t) ≤ top_of table.speeds

-- Rule 1. What a task's job, the first being number 0, gets from its release to its deadline.
unfoldable pub gets : HandOut → ℕ → ℕ → ℕ → ℕ
gets out i period job = sum_to period (λ k. out (job * period + k) i)

-- a job that is released in the first H ticks and gets less than its reserve
pub record Starved (table : Table) (out : HandOut) : Type 0 where
  pub task : ℕ
  pub job : ℕ
  pub is_task : task < length table.periods
  pub released_early : job * get_or table.periods task 0 < great_of table.periods
  pub gets_less : gets out task (get_or table.periods task 0) job < get_or table.reserves task 0

-- Rule 7. Where start answers 8, every way to run the table at top speed starves a job.
unfoldable pub TurnedAwayForLoad : Type 0
TurnedAwayForLoad = (table : Table) → (started table).number ≡ 8 → (out : HandOut) → WithinTopSpeed table out → Starved table out
