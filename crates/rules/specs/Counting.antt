-- "Load, choice, settlement", rules 5 and 6: counting, release and energy.
use Rattle.std.specs.Prelude.{ℕ, zero, suc, ◌+◌, ◌*◌, ◌%◌, false, cond, eqb, set}
use Rattle.units.specs.Units.{ticks, cycles}
use Rattle.units.specs.declared.Cycles.{Cycles}
use Rattle.rules.specs.declared.Tasks.{Tasks}
use Rattle.rules.specs.declared.Ladder.{Ladder}
use Rattle.rules.specs.declared.Tally.{Tally}
use Rattle.rules.specs.declared.Settling.{Settling}
use Rattle.rules.specs.declared.Releasing.{Releasing}
use Rattle.rules.specs.declared.State.{State}
use Rattle.rules.specs.Words.{up_to, total}
use Rattle.rules.specs.State.{period_at, job_at, put_at, volts_at, count_at}

-- Rule 5. The cycles granted are added to the count of that tick's speed, idle cycles to the idle count. Rule 4: the jobs cut are counted.
unfoldable pub counted : Tally → ℕ → Settling → Tally
counted tally place outcome =
    record {
      counts = set tally.counts place (cycles (count_at tally place + total (λ (g : Cycles). g.0) outcome.grants));
      idle = cycles (tally.idle.0 + outcome.left.0);
      late = tally.late;
      cut = tally.cut + outcome.cut;
    }

-- Rule 5. A task whose period divides t is released: a job not over is counted as late and dropped, the new one has run 0.
unfoldable pub release_at : Tasks → ℕ → ℕ → Releasing → Releasing
release_at ts t i sofar =
    cond (eqb (t % period_at ts i) 0)
    (record { jobs = put_at sofar.jobs i 0 false; late = sofar.late + cond (job_at ts sofar.jobs i).over 0 1 })
    sofar

-- Rule 5. The releases of the first n tasks, one after the other.
unfoldable pub releases : Tasks → ℕ → ℕ → Releasing → Releasing
releases ts t zero sofar = sofar
releases ts t (suc n) sofar = release_at ts t n (releases ts t n sofar)

-- Rule 5. The state after a tick at the speed of a place, with what its settlement came to: t grows by 1, and each task whose period divides the new t is released.
unfoldable pub next_of : State → ℕ → Settling → State
next_of s place outcome =
    let t = s.done.0 + 1 in
    let tally = counted s.tally place outcome in
    let r = releases s.tasks t s.tasks.count (record { jobs = outcome.jobs; late = tally.late }) in
    record {
      done = ticks t;
      tasks = s.tasks;
      jobs = r.jobs;
      ladder = s.ladder;
      tally = record { counts = tally.counts; idle = tally.idle; late = r.late; cut = tally.cut };
    }

-- Rule 6. Energy is the sum over speeds of count x volts x volts.
unfoldable pub energy_sum : Ladder → Tally → ℕ
energy_sum l tally = total (λ i. count_at tally i * volts_at l i * volts_at l i) (up_to l.count (λ i. i))
