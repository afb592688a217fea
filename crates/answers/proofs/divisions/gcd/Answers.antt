-- One number only is the greatest common divisor.
use Rattle.divisors.proofs.DivisorLaws.{gcd_one}
use Rattle.answers.proofs.divisions.gcd.Goals as goal

pub returns : goal.returns
returns c = gcd_one c.gcd.ensures c.gcd-2.ensures
