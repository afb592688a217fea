-- `tasks_from` lays each list into an array.
use Prim.Native.Nat.{ℕ}
use lib.ListN.{get_or}
use borrow.Author.Rules.{rules}
use Rattle.units.specs.Units.{ticks, cycles}
use Rattle.rules.specs.Limits.{most_tasks}
use Rattle.rules.specs.Calls.{tasks_from}
use Rattle.starting.proofs.Laid.{laid}
use Rattle.starting.proofs.tables.tasks_from.Goals as goal

pub returns : goal.returns
unfolding tasks_from
returns c =
    let a = c.args in
    rw (
      laid (λ (i : ℕ). ticks (get_or a.periods.now i 0)) (λ i y q k. search rules) most_tasks c.from_fn.result (ticks 0) c.from_fn.ensures.items,
      laid (λ (i : ℕ). cycles (get_or a.reserves.now i 0)) (λ i y q k. search rules) most_tasks c.from_fn-2.result (cycles 0) c.from_fn-2.ensures.items,
    )
