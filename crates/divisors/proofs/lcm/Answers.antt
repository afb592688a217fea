-- `lcm` meets its contract: the multiple is the quotient by the greatest common divisor times b, so it is above the cap just where the quotient is above cap / b. Assumes nothing.
use native.Mathlib.Nat.{pos_of_ne-zero, lt_of_le_of_lt}
use Rattle.divisors.proofs.Caps.{left_zero, right_zero, gcd_pos, product_within, product_is, product_above}
use Rattle.divisors.proofs.lcm.Goals as goal
use Rattle.divisors.proofs.lcm.Goals.{then-a-eq0-via-then-a-eq0, then-a-eq0-via-else-a-eq0+then-b-eq0}

pub returns-then-a-eq0 : goal.returns-then-a-eq0
returns-then-a-eq0 c =
    elim c.then-a-eq0.branch [
      | then-a-eq0-via-then-a-eq0 w ↦ left_zero _ _ _ w.if-a-eq0.true
      | then-a-eq0-via-else-a-eq0+then-b-eq0 w ↦ right_zero _ _ _ w.if-b-eq0.true
    ]

pub nonzero_div-q : goal.nonzero_div-q
nonzero_div-q c = gcd_pos c.gcd.ensures c.if-a-eq0.false

pub returns-then-q-cap : goal.returns-then-q-cap
returns-then-q-cap c = product_above _ _ _ (pos_of_ne-zero c.if-b-eq0.false) c.gcd.ensures c.if-q-cap.true

pub overflow_mul-result : goal.overflow_mul-result
overflow_mul-result c = record { fits = lt_of_le_of_lt (product_within (pos_of_ne-zero c.if-b-eq0.false) c.if-q-cap.false) c.ranges.cap.fits }

pub returns : goal.returns
returns c = product_is _ _ _ (pos_of_ne-zero c.if-b-eq0.false) c.gcd.ensures c.if-q-cap.false
