-- `climbs` tests every place against the one before: what is left to test from `x` on, after the number before, is the whole test.
use mathlib.Core.Path.{◌≡◌}
use Prim.Native.Nat.{◌≤◌}
use lib.ListN.{drop}
use Rattle.rules.specs.Numbers.{climbs_from}
use Rattle.admission.proofs.lists.climbs.Given as goal

abbrev pub invariant-loop-x : goal.invariant-loop-x
invariant-loop-x l = (l.before ≤ l.most) × (climbs_from l.most l.gap 0 l.list ≡ climbs_from l.most l.gap l.before (drop l.x-index l.list))
