-- Demand 2: Figure 4 over a whole run. A task's use is its reserve from each release on and what it reported from its finish on, and the load, by which the speed is chosen, is the sum of these: of no job before.
use Rattle.std.specs.Prelude.{ℕ, ◌*◌, ◌/◌, ◌≡◌, List, length, get_or, drop}
use Rattle.rules.specs.Choice.{load_of}
use Rattle.rules.specs.Admission.{great_of}
use Rattle.promises.specs.Runs.{Table, Call, started, after, steps, entries_of, sum_to}
use Rattle.promises.specs.ExactCycles.{finishes, due_to}

-- Rule 1. Of a task's entries, tick by tick, those since its last release: what comes after the whole periods.
unfoldable pub since_release : ℕ → List ℕ → List ℕ
since_release period entries = drop (length entries / period * period) entries

-- Rule 2. Its use after these ticks: its reserve, or the cycles at which it reported its finish since then.
unfoldable pub use_by : ℕ → ℕ → List ℕ → ℕ
use_by reserve period entries = due_to reserve (finishes (since_release period entries))

-- After any run the load is the sum of use x (H / P), by the entries of the accepted ticks alone.
unfoldable pub LoadIsByTheReports : Type 0
LoadIsByTheReports =
    (table : Table) → (started table).number ≡ 0 → (calls : List Call)
    → load_of (after (started table).state calls)
    ≡ sum_to (length table.periods) (λ i. use_by (get_or table.reserves i 0) (get_or table.periods i 0) (entries_of i (steps (started table).state calls)) * (great_of table.periods / get_or table.periods i 0))
