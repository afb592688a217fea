-- `gcd` meets its contract: a division keeps the greatest common divisor, and the second number, which is the measure, falls to 0. Assumes nothing.
use native.Mathlib.Nat.{mod-lt, pos_of_ne-zero}
use native.Mathlib.Omega.{arith}
use Rattle.divisors.proofs.DivisorLaws.{gcd-zero, gcd_step}
use Rattle.divisors.proofs.+gcd.Goals as goal

pub nonzero_rem-a : goal.nonzero_rem-a
nonzero_rem-a t c = pos_of_ne-zero c.if-b-eq0.false

pub gcd-requires : goal.gcd-requires
gcd-requires t c = (omega (arith, mod-lt c.args.a (pos_of_ne-zero c.if-b-eq0.false), c.decreases), tt)

pub returns-then-b-eq0 : goal.returns-then-b-eq0
returns-then-b-eq0 t c = rw c.if-b-eq0.true (gcd-zero c.args.a)

pub returns-else-b-eq0 : goal.returns-else-b-eq0
returns-else-b-eq0 t c = gcd_step c.args.a c.args.b c.gcd.ensures
