-- What the private functions of rungs answer: nothing here is part of what it promises to callers.
use Rattle.std.specs.Prelude.{ℕ, Bool, ◌&&◌, List, eqb, get_or, drop}
use Rattle.units.specs.Units.{cycles, speed, volts}
use Rattle.units.specs.declared.Cycles.{Cycles}
use Rattle.units.specs.declared.Speed.{Speed}
use Rattle.units.specs.declared.Volts.{Volts}
use Rattle.rules.specs.Words.{up_to, every}
use Rattle.rules.specs.Limits.{most_speeds}
use Rattle.rules.specs.Numbers.{speeds_rise, volts_never_fall}

-- what is left to test of numbers 5 and 6 from place i on, after a speed and a volt value
unfoldable pub climbing : ℕ → List Speed → List Volts → ℕ → ℕ → ℕ → Bool
climbing count ss vs low faint i =
    speeds_rise low (drop i (up_to count (λ k. (get_or ss k (speed 0)).0)))
    && volts_never_fall faint (drop i (up_to count (λ k. (get_or vs k (volts 0)).0)))

-- a speed, a volt value and a count that are zero, and those of all places from place i on
unfoldable pub zeros : Speed → Volts → Cycles → Bool
zeros s v c = eqb s.0 0 && eqb v.0 0 && eqb c.0 0

unfoldable pub zeros_from : List Speed → List Volts → List Cycles → ℕ → Bool
zeros_from ss vs cs i =
    every (λ k. zeros (get_or ss k (speed 0)) (get_or vs k (volts 0)) (get_or cs k (cycles 0)))
    (drop i (up_to most_speeds (λ k. k)))
