-- The quotient by the greatest common divisor, compared with the cap over the other number, tells whether the multiple is at most the cap. Assumes nothing.
use mathlib.Core.Path.{◌≡◌, subst}
use Prim.Native.Nat.{ℕ, ◌*◌, ◌/◌, ◌≤◌, ◌<◌}
use native.Mathlib.Nat.{le-div_iff_mul-le, div-lt_iff_lt-mul, pos_of_ne-zero, pos_of_dvd_of_pos}
use native.Mathlib.Omega.{arith}
use Rattle.std.specs.Prelude.{Some, None}
use Rattle.divisors.specs.Divisors.{IsGcd, IsLcm, Capped}
use Rattle.divisors.proofs.DivisorLaws.{quotient_is, lcm_one, lcm-zero_left, lcm-zero_right}

-- a product by a number above 0 is at most the cap where the quotient of the cap allows it
pub product_within : {q b cap : ℕ} → 0 < b → q ≤ cap / b → q * b ≤ cap
product_within pos h = (le-div_iff_mul-le pos).0 h

module _ (a b cap : ℕ) {g : ℕ} (pos : 0 < b) (s : IsGcd a b g) where
  -- the answer is the product, where that is at most the cap
  pub product_is : a / g ≤ cap / b → Capped cap (IsLcm a b) (Some (a / g * b))
  unfolding Capped
  product_is h = (quotient_is a b s, product_within pos h)

  -- every least common multiple is above the cap, where the product is
  pub product_above : cap / b < a / g → Capped cap (IsLcm a b) None
  unfolding Capped
  product_above h m t = subst (λ (n : ℕ). cap < n) (lcm_one (quotient_is a b s) t) ((div-lt_iff_lt-mul pos).0 h)

-- where one of the numbers is 0, the answer is 0
pub left_zero : (a b cap : ℕ) → a ≡ 0 → Capped cap (IsLcm a b) (Some 0)
unfolding Capped
left_zero a b cap e = (rw e (lcm-zero_left b), omega arith)

pub right_zero : (a b cap : ℕ) → b ≡ 0 → Capped cap (IsLcm a b) (Some 0)
unfolding Capped
right_zero a b cap e = (rw e (lcm-zero_right a), omega arith)

-- and else their greatest common divisor is above 0
pub gcd_pos : {a b g : ℕ} → IsGcd a b g → (a ≡ 0 → ⊥) → 0 < g
gcd_pos s n = pos_of_dvd_of_pos s.left (pos_of_ne-zero n)
