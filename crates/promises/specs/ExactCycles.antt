-- Demand 3: a job "has had exactly the cycles it reported in an accepted tick, or its full reserve where it reported no finish in one, and never more than the reserve".
use Rattle.std.specs.Prelude.{ℕ, ◌+◌, ◌*◌, ◌≤◌, ◌<◌, ◌≡◌, cond, List, [], ◌∷◌, eqb, length, get_or, take, drop}
use Rattle.rules.specs.Words.{total}
use Rattle.promises.specs.Runs.{Table, Call, started, steps, grants_to, entries_of}

-- Rule 1. The window of a task's job, the first job being number 0: the period's ticks from its release to its deadline, as many of them as the run has.
unfoldable pub window_of : ℕ → ℕ → List ℕ → List ℕ
window_of period job l = take period (drop (job * period) l)

-- Rule 4. The finishes among the entries of a window: those that are not 0.
unfoldable pub finishes : List ℕ → List ℕ
finishes [] = []
finishes (u ∷ us) = cond (eqb u 0) (finishes us) (u ∷ finishes us)

-- the cycles that a job is to have: those at which it reported its finish, or its full reserve where it reported none
unfoldable pub due_to : ℕ → List ℕ → ℕ
due_to reserve [] = reserve
due_to reserve (u ∷ us) = u

-- A job by the grants and entries of its window: at most one accepted tick reports a finish, it never has more than its reserve, and where the
-- whole window lies in the run it has had exactly its cycles.
pub record Served (reserve period job : ℕ) (grants entries : List ℕ) : Type 0 where
  pub once : length (finishes (window_of period job entries)) ≤ 1
  pub never_more : total (λ g. g) (window_of period job grants) ≤ reserve
  pub exactly : (job + 1) * period ≤ length grants
      → total (λ g. g) (window_of period job grants) ≡ due_to reserve (finishes (window_of period job entries))

-- In any run, for each task and each of its jobs.
unfoldable pub ExactlyTheCycles : Type 0
ExactlyTheCycles =
    (table : Table) → (started table).number ≡ 0 → (calls : List Call) (i job : ℕ) → i < length table.periods
    → Served (get_or table.reserves i 0) (get_or table.periods i 0) job
    (grants_to i (steps (started table).state calls)) (entries_of i (steps (started table).state calls))
