-- `ladder_from` lays each list into an array.
use Prim.Native.Nat.{ℕ}
use lib.ListN.{get_or}
use borrow.Author.Rules.{rules}
use Rattle.units.specs.Units.{speed, volts}
use Rattle.rules.specs.Limits.{most_speeds}
use Rattle.rules.specs.Calls.{ladder_from}
use Rattle.starting.proofs.Laid.{laid}
use Rattle.starting.proofs.tables.ladder_from.Goals as goal

pub returns : goal.returns
unfolding ladder_from
returns c =
    let a = c.args in
    rw (
      laid (λ (i : ℕ). speed (get_or a.speeds.now i 0)) (λ i y q k. search rules) most_speeds c.from_fn.result (speed 0) c.from_fn.ensures.items,
      laid (λ (i : ℕ). volts (get_or a.volts.now i 0)) (λ i y q k. search rules) most_speeds c.from_fn-2.result (volts 0) c.from_fn-2.ensures.items,
    )
