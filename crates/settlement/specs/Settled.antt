-- What a settlement answers, and what it writes to the grants list.
use Rattle.std.specs.Prelude.{ℕ, Bool, cond, ◌&&◌, Option, Some, None, List, ltb, length, get_or}
use Rattle.units.specs.declared.Cycles.{Cycles}
use Rattle.units.specs.Units.{cycles}
use Rattle.rules.specs.declared.Tasks.{Tasks}
use Rattle.rules.specs.declared.Jobs.{Jobs}
use Rattle.rules.specs.declared.Settling.{Settling}
use Rattle.rules.specs.Words.{up_to}
use Rattle.rules.specs.Limits.{most_tasks}
use Rattle.rules.specs.Settlement.{settle_all, all_allowed, over_entries_zero, at_tick_start}
use Rattle.settlement.specs.declared.Settled.{Settled}

-- Rule 4. Whether no entry breaks it when the jobs are taken in this order,
unfoldable pub lawful_in : Tasks → Jobs → List ℕ → ℕ → List ℕ → Bool
lawful_in ts js order speed report = over_entries_zero ts js report && all_allowed ts report order (at_tick_start js speed)

-- and what is settled then; else as at the tick's start.
unfoldable pub outcome_in : Tasks → Jobs → List ℕ → ℕ → List ℕ → Settling
outcome_in ts js order speed report =
    let begun = at_tick_start js speed in
    cond (lawful_in ts js order speed report) (settle_all ts report order begun) begun

-- The answer: what is settled; none where an entry breaks rule 4.
unfoldable pub settled_of : Tasks → Jobs → List ℕ → ℕ → List ℕ → Option Settled
settled_of ts js order speed report =
    let outcome = outcome_in ts js order speed report in
    cond (lawful_in ts js order speed report) (Some (record { jobs = outcome.jobs; left = outcome.left; cut = outcome.cut })) None

-- a list whose first 16 places hold each job's cycles, 0 where there is no job; past those it is as it was
unfoldable pub paid : List Cycles → List ℕ → List ℕ
paid given grants = up_to (length grants) (λ i. cond (ltb i most_tasks) (get_or given i (cycles 0)).0 (get_or grants i 0))

-- Rule 4. The grants list: what each job gets; where an entry breaks rule 4, as it was.
unfoldable pub granted_of : Tasks → Jobs → List ℕ → ℕ → List ℕ → List ℕ → List ℕ
granted_of ts js order speed report grants =
    cond (lawful_in ts js order speed report) (paid (outcome_in ts js order speed report).grants grants) grants
