-- The sum of rule 7 from a pair on, and that no part of it passes 2 ^ 64: at most 16 terms, each at most 10 ^ 9 x 10 ^ 6.
use mathlib.Core.Path.{◌≡◌, refl}
use mathlib.Core.List.{List, [], ◌∷◌}
use Prim.Native.Nat.{ℕ, ◌+◌, ◌*◌, ◌/◌, ◌≤◌, ◌<◌}
use native.Mathlib.Omega.{arith}
use native.Mathlib.Numerals.{add-one}
use lib.ListN.{length}
use Rattle.units.specs.declared.Ticks.{Ticks}
use Rattle.rules.specs.Limits.{most_period, most_reserve, most_term, up_to_most}
use Rattle.rules.specs.Admission.{full_load}
use Rattle.rules.proofs.Lists.{every_first, every_rest}
use Rattle.rules.proofs.Ranges.{range_from, range_to}
use Rattle.rules.proofs.Loads.{term_most}
use Rattle.admission.specs.Parts.{Summable}

-- the sum of no pairs
pub full_none : (great : Ticks) (ps cs : List ℕ) → length ps ≡ 0 → length cs ≡ 0 → full_load great.0 ps cs ≡ 0
unfolding full_load
full_none great [] [] e f = refl
full_none great (p ∷ ps) cs e f = absurd (omega arith)
full_none great [] (c ∷ cs) e f = refl

-- a pair more
module _ (great : Ticks) {ps cs : List ℕ} {p c : ℕ} {ps' cs' : List ℕ} (ep : ps ≡ p ∷ ps') (ec : cs ≡ c ∷ cs') (s : Summable ps cs great) where
  from_pair : Summable (p ∷ ps') (c ∷ cs') great
  from_pair = rw (ep, ec) at s

  -- no period is 0, and a term is at most the most
  pub period_pos : 0 < p
  period_pos = range_from most_period p (every_first (up_to_most most_period) p ps' from_pair.periods_allowed)

  pub full_term : c * (great.0 / p) ≤ most_term
  full_term =
      term_most c great.0 p (range_to most_reserve c (every_first (up_to_most most_reserve) c cs' from_pair.reserves_allowed)) s.small

  pub full_pair : full_load great.0 ps cs ≡ c * (great.0 / p) + full_load great.0 ps' cs'
  unfolding full_load
  full_pair = rw (ep, ec)

  pub fewer : length ps ≡ length ps' + 1
  fewer = rw (ep, add-one)

  pub summable_rest : Summable ps' cs' great
  summable_rest =
      record {
        few = omega (arith, from_pair.few);
        paired = omega (arith, from_pair.paired);
        periods_allowed = every_rest (up_to_most most_period) p ps' from_pair.periods_allowed;
        reserves_allowed = every_rest (up_to_most most_reserve) c cs' from_pair.reserves_allowed;
        small = s.small;
      }
