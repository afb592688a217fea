-- What the private functions of a tick ask and answer: nothing here is part of what this crate promises to callers.
use Rattle.std.specs.Prelude.{ℕ, zero, suc, ◌+◌, ◌%◌, ◌≤◌, ◌<◌, ◌≡◌, true, false, cond, not, ◌&&◌, List, Option, Some, None, Result, Ok, Err, eqb, length, get_or, set}
use Rattle.units.specs.Units.{ticks, cycles, most_count}
use Rattle.units.specs.declared.Ticks.{Ticks}
use Rattle.units.specs.declared.Cycles.{Cycles}
use Rattle.units.specs.declared.Speed.{Speed}
use Rattle.rules.specs.declared.Tasks.{Tasks}
use Rattle.rules.specs.declared.Tally.{Tally}
use Rattle.rules.specs.declared.Dues.{Dues}
use Rattle.rules.specs.declared.Releasing.{Releasing}
use Rattle.rules.specs.declared.State.{State}
use Rattle.rules.specs.Limits.{most_tasks, most_speeds, most_ticks}
use Rattle.rules.specs.State.{period_at, count_at, put_at}
use Rattle.refusals.specs.declared.Refusal.{Refusal}
use Rattle.refusals.specs.declared.Refusal.TheVariants.{Unsound, RunDone, Length, NoSpeed}
use Rattle.rules.specs.Choice.{load_of, speed_place}
use Rattle.rules.specs.Counting.{releases}
use Rattle.rules.specs.Numbers.{sound, all_done}
use Rattle.settlement.specs.declared.Settled.{Settled}
use Rattle.stepping.specs.declared.Stepped.{Stepped}

-- the load of a state, or the rows 9 to 11 of a tick by lists of so many places
unfoldable pub row_load : State → ℕ → ℕ → Result Cycles Refusal
row_load s reported granted =
    cond (not (sound s)) (Err Unsound)
    (cond (all_done s) (Err RunDone)
    (cond (not (eqb reported s.tasks.count && eqb granted s.tasks.count)) (Err Length) (Ok (cycles (load_of s)))))

-- the place of the speed that was found, or the row 12 of a tick: no listed speed carries the load
unfoldable pub row_place : Option ℕ → Result ℕ Refusal
row_place (Some place) = Ok place
row_place None = Err NoSpeed

-- rule 5's sums stay in their range
pub record Countable (tally : Tally) (place : ℕ) (speed : Speed) (left : Cycles) (cut : ℕ) : Type 0 where
  pub listed : place < most_speeds
  pub rest : left.0 ≤ speed.0
  pub count : count_at tally place + speed.0 ≤ most_count
  pub idle : tally.idle.0 + speed.0 ≤ most_count
  pub cuts : tally.cut + cut ≤ most_count

-- rule 5's counts by the cycles granted, those left and the jobs cut
unfoldable pub counted_by : Tally → ℕ → ℕ → ℕ → ℕ → Tally
counted_by tally place granted left cut =
    record {
      counts = set tally.counts place (cycles (count_at tally place + granted));
      idle = cycles (tally.idle.0 + left);
      late = tally.late;
      cut = tally.cut + cut;
    }

-- a task's deadline is the new tick exactly where its period divides that, and the count of late jobs has room
pub record Timely (tasks : Tasks) (dues : Dues) (next : Ticks) (late : ℕ) : Type 0 where
  pub few : tasks.count ≤ most_tasks
  pub due : (i : ℕ) → i < tasks.count → eqb (get_or dues.at i (ticks 0)).0 next.0 ≡ eqb (next.0 % period_at tasks i) 0
  pub room : late + most_tasks ≤ most_count

-- one task released
unfoldable pub released : ℕ → Releasing → Releasing
released i sofar =
    record {
      jobs = put_at sofar.jobs i 0 false;
      late = sofar.late + cond (get_or sofar.jobs.over i false) 0 1;
    }

-- the tasks below n released whose deadline is the new tick, one after the other
unfoldable pub released_to : List Ticks → ℕ → ℕ → Releasing → Releasing
released_to at next zero sofar = sofar
released_to at next (suc n) sofar =
    cond (eqb (get_or at n (ticks 0)).0 next) (released n (released_to at next n sofar)) (released_to at next n sofar)

-- a tick that can be counted
pub record Steps (done : Ticks) (tasks : Tasks) (tally : Tally) (place : ℕ) (speed : Speed) (dues : Dues) (settled : Settled) : Type 0 where
  pub room : done.0 + 1 ≤ most_count
  pub counts : Countable tally place speed settled.left settled.cut
  pub releases : Timely tasks dues (ticks (done.0 + 1)) tally.late

-- rule 5: what a tick changes, by the cycles granted and what its settlement came to
unfoldable pub after_of : Ticks → Tasks → Tally → ℕ → ℕ → Settled → Stepped
after_of done ts tally place granted settled =
    let t = done.0 + 1 in
    let counts = counted_by tally place granted settled.left.0 settled.cut in
    let r = releases ts t ts.count (record { jobs = settled.jobs; late = counts.late }) in
    record {
      done = ticks t;
      jobs = r.jobs;
      tally = record { counts = counts.counts; idle = counts.idle; late = r.late; cut = counts.cut };
    }

-- a tick that passes rows 9 to 12, at the place of the lowest speed that carries the load
pub record Passed (s : State) (place : ℕ) (report : List ℕ) (grantPlaces : ℕ) : Type 0 where
  pub whole : sound s ≡ true
  pub goes_on : s.done.0 < most_ticks
  pub reported : length report ≡ s.tasks.count
  pub granted : grantPlaces ≡ s.tasks.count
  pub lowest : place ≡ speed_place s
