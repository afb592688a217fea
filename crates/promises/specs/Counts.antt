-- Demand 2: "all counts". From a fresh start on they are drawn from the grants of the accepted ticks: rules 4 to 6 over a whole run.
use Rattle.std.specs.Prelude.{ℕ, ◌-◌, ◌*◌, ◌≤◌, ◌<◌, ◌≡◌, cond, ◌&&◌, List, eqb, length, get_or}
use Rattle.rules.specs.Words.{total}
use Rattle.rules.specs.State.{count_at}
use Rattle.rules.specs.Choice.{lowest}
use Rattle.rules.specs.Calls.{energy_of}
use Rattle.promises.specs.Runs.{Table, Call, Step, Each, started, after, steps, grants_to, entries_of, granted, sum_to}
use Rattle.promises.specs.ExactCycles.{window_of, finishes}

-- the cycles granted in the ticks at a speed
unfoldable pub granted_at : ℕ → List Step → ℕ
granted_at speed xs = total (λ x. cond (eqb x.speed speed) (granted x) 0) xs

-- the volts that the table lists beside a speed
unfoldable pub volts_beside : Table → ℕ → ℕ
volts_beside table speed = get_or table.volts (lowest (λ s. eqb s speed) table.speeds) 0

-- Rule 4: a job is cut where its window has no finish and its grants come to its reserve: 1 for such a job, 0 for another.
unfoldable pub cut_job : ℕ → ℕ → ℕ → List ℕ → List ℕ → ℕ
cut_job reserve period job grants entries =
    cond (eqb (length (finishes (window_of period job entries))) 0 && eqb (total (λ g. g) (window_of period job grants)) reserve) 1 0

-- each count of the state after the calls, from the accepted ticks among them
pub record CountsAre (table : Table) (calls : List Call) (xs : List Step) : Type 0 where
  -- t is the number of accepted ticks, and none of them grants more than its speed
  pub ticks : (after (started table).state calls).done.0 ≡ length xs
  pub within : Each (λ (x : Step). granted x ≤ x.speed) xs
  -- rule 5: each speed's count, and idle
  pub counts : (k : ℕ) → k < length table.speeds → count_at (after (started table).state calls).tally k ≡ granted_at (get_or table.speeds k 0) xs
  pub idle : (after (started table).state calls).tally.idle.0 ≡ total (λ x. x.speed - granted x) xs
  -- rule 4: cut, task by task and job by job; a job that has had a tick is among the first length xs
  pub cut : (after (started table).state calls).tally.cut ≡ sum_to (length table.periods) (λ i. sum_to (length xs) (λ job. cut_job (get_or table.reserves i 0) (get_or table.periods i 0) job (grants_to i xs) (entries_of i xs)))
  -- rule 6: energy
  pub energy : energy_of (after (started table).state calls) ≡ record { number = 0; energy = total (λ x. granted x * volts_beside table x.speed * volts_beside table x.speed) xs }

unfoldable pub CountsComeFromTheGrants : Type 0
CountsComeFromTheGrants = (table : Table) → (started table).number ≡ 0 → (calls : List Call) → CountsAre table calls (steps (started table).state calls)
