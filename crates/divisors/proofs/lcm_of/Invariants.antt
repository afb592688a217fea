-- `lcm_of` meets its contract: the loop keeps that `acc` is the least common multiple of the numbers passed, at most the cap. Assumes nothing.
use Prim.Native.Nat.{◌≤◌}
use lib.ListN.{take}
use Rattle.divisors.specs.Divisors.{IsLcmOf}
use Rattle.divisors.proofs.lcm_of.Given as goal

abbrev pub invariant-loop-x : goal.invariant-loop-x
invariant-loop-x l = (l.acc ≤ l.cap) × IsLcmOf (take l.x-index l.list) l.acc
