-- The great period, and rule 7: admission.
use Rattle.std.specs.Prelude.{ℕ, ◌*◌, ◌/◌, ◌+◌, Bool, List, [], ◌∷◌, leb}
use Rattle.divisors.specs.Divisors.{lcm_all}
use Rattle.rules.specs.State.{top_of}

-- The great period H is the least common multiple of the periods.
unfoldable pub great_of : List ℕ → ℕ
great_of periods = lcm_all periods

-- Rule 7. The sum of reserve x (H / P), the load where every job uses its reserve.
unfoldable pub full_load : ℕ → List ℕ → List ℕ → ℕ
full_load great [] [] = 0
full_load great [] (c ∷ cs) = 0
full_load great (p ∷ ps) [] = 0
full_load great (p ∷ ps) (c ∷ cs) = c * (great / p) + full_load great ps cs

-- Rule 7. A table is admitted exactly when that sum is at most top speed x H.
unfoldable pub admitted : List ℕ → List ℕ → List ℕ → Bool
admitted periods reserves speeds = leb (full_load (great_of periods) periods reserves) (top_of speeds * great_of periods)
