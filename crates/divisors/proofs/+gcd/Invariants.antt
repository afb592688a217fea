-- The second number is the measure: it falls to 0.
use Rattle.divisors.proofs.+gcd.Given as goal

abbrev pub decreases-gcd : goal.decreases-gcd
decreases-gcd l = l.b
