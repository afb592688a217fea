-- "Load, choice, settlement", rule 4: a report is settled.
use Rattle.std.specs.Prelude.{ℕ, ◌+◌, ◌-◌, min, Bool, true, false, cond, not, ◌&&◌, ◌||◌, List, [], ◌∷◌, eqb, ltb, leb, get_or, set}
use Rattle.units.specs.Units.{cycles}
use Rattle.rules.specs.declared.Tasks.{Tasks}
use Rattle.rules.specs.declared.Jobs.{Jobs}
use Rattle.rules.specs.declared.Job.{Job}
use Rattle.rules.specs.declared.Settling.{Settling}
use Rattle.rules.specs.declared.State.{State}
use Rattle.rules.specs.Words.{up_to, every}
use Rattle.rules.specs.Limits.{most_tasks}
use Rattle.rules.specs.State.{job_at, put_at}
use Rattle.rules.specs.Choice.{order_of}

-- Rule 4. The first three bullets for a ready job, by what is left and its entry: nothing left, entry 0, or entry u.
unfoldable pub by_bullet : {A : Type 0} → ℕ → ℕ → A → A → A → A
by_bullet left entry nothing_left entry_0 entry_u = cond (eqb left 0) nothing_left (cond (eqb entry 0) entry_0 entry_u)

-- a job's remaining reserve, and whether the smaller of that and what is left uses the reserve up
unfoldable pub remaining : Job → ℕ
remaining j = j.reserve.0 - j.run.0

unfoldable pub uses_up : ℕ → Job → Bool
uses_up left j = eqb (j.run.0 + min left (remaining j)) j.reserve.0

-- Rule 4. What entries are allowed. Nothing left: only 0. Entry 0: always. Entry u: needs run < u <= reserve and u - run <= what is left.
unfoldable pub allowed : ℕ → ℕ → Job → Bool
allowed left u j =
    by_bullet left u (eqb u 0) true (ltb j.run.0 u && leb u j.reserve.0 && leb (u - j.run.0) left)

-- Rule 4. What the job gets. Nothing left: 0. Entry 0: the smaller of what is left and its remaining reserve. Entry u: u - run.
unfoldable pub granted : ℕ → ℕ → Job → ℕ
granted left u j = by_bullet left u 0 (min left (remaining j)) (u - j.run.0)

-- Rule 4. Entry 0: if that uses up the reserve, the job is over and counted as cut. Entry u: it is over.
unfoldable pub is_cut : ℕ → ℕ → Job → Bool
is_cut left u j = by_bullet left u false (uses_up left j) false

unfoldable pub is_over : ℕ → ℕ → Job → Bool
is_over left u j = by_bullet left u false (uses_up left j) true

-- Rule 4. What is settled once the ready job at place i is too, with entry u, from what is settled so far.
unfoldable pub settle_at : Tasks → ℕ → ℕ → Settling → Settling
settle_at ts i u sofar =
    let j = job_at ts sofar.jobs i in
    let left = sofar.left.0 in
    record {
      jobs = put_at sofar.jobs i (j.run.0 + granted left u j) (is_over left u j);
      grants = set sofar.grants i (cycles (granted left u j));
      left = cycles (left - granted left u j);
      cut = sofar.cut + cond (is_cut left u j) 1 0;
    }

-- Rule 4. Take the ready jobs in the order of rule 3: what is settled after all of them, and whether each entry is allowed.
unfoldable pub settle_all : Tasks → List ℕ → List ℕ → Settling → Settling
settle_all ts report [] sofar = sofar
settle_all ts report (i ∷ o) sofar = settle_all ts report o (settle_at ts i (get_or report i 0) sofar)

unfoldable pub all_allowed : Tasks → List ℕ → List ℕ → Settling → Bool
all_allowed ts report [] sofar = true
all_allowed ts report (i ∷ o) sofar =
    allowed sofar.left.0 (get_or report i 0) (job_at ts sofar.jobs i)
    && all_allowed ts report o (settle_at ts i (get_or report i 0) sofar)

-- Rule 4. A job that is already over must have entry 0.
unfoldable pub over_entries_zero : Tasks → Jobs → List ℕ → Bool
over_entries_zero ts js report =
    every (λ i. not (job_at ts js i).over || eqb (get_or report i 0) 0) (up_to ts.count (λ i. i))

-- Rule 4. At the start of the settlement what is left is the tick's speed, the cycles of one tick at it.
unfoldable pub at_tick_start : Jobs → ℕ → Settling
at_tick_start js speed = record { jobs = js; grants = up_to most_tasks (λ i. cycles 0); left = cycles speed; cut = 0 }

-- a tick at a speed, settled; and whether no entry breaks rule 4
unfoldable pub settled : State → ℕ → List ℕ → Settling
settled s speed report = settle_all s.tasks report (order_of s) (at_tick_start s.jobs speed)

unfoldable pub keeps_rule4 : State → ℕ → List ℕ → Bool
keeps_rule4 s speed report =
    over_entries_zero s.tasks s.jobs report && all_allowed s.tasks report (order_of s) (at_tick_start s.jobs speed)
