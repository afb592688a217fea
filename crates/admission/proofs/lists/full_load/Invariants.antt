-- `full_load` is the sum of rule 7: what is summed so far and the sum of the pairs left make the whole, and each term is at most 10 ^ 15.
use mathlib.Core.Path.{◌≡◌}
use Prim.Native.Nat.{◌+◌, ◌*◌, ◌≤◌}
use lib.ListN.{length}
use Rattle.rules.specs.Admission.{full_load}
use Rattle.rules.specs.Limits.{most_tasks, most_term}
use Rattle.admission.specs.Parts.{Summable}
use Rattle.admission.proofs.lists.full_load.Given as goal

abbrev pub invariant-loop-period : goal.invariant-loop-period
invariant-loop-period l =
    let ps = l.period-iterator.a.rest.now in
    let cs = l.period-iterator.b.rest.now in
    record {
      summable : Summable ps cs l.great;
      room : l.sum.0 + length ps * most_term ≤ most_tasks * most_term;
      summed : l.sum.0 + full_load l.great.0 ps cs ≡ full_load l.great.0 l.periods l.reserves;
    }
