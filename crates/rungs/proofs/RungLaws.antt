-- The tests of the speed places, case by case, and one turn of the walk past the count.
use mathlib.Core.Path.{◌≡◌, refl}
use mathlib.Core.Bool.{Bool, true, false, ◌&&◌}
use mathlib.Core.List.{List}
use Prim.Native.Nat.{ℕ, ◌+◌, ◌≤◌, ◌<◌}
use lib.ListN.{get_or, drop}
use Rattle.units.specs.Units.{cycles, speed, volts}
use Rattle.units.specs.declared.Cycles.{Cycles}
use Rattle.units.specs.declared.Speed.{Speed}
use Rattle.units.specs.declared.Volts.{Volts}
use Rattle.rules.specs.declared.Ladder.{Ladder}
use Rattle.rules.specs.declared.Tally.{Tally}
use Rattle.rules.specs.Words.{up_to, every}
use Rattle.rules.specs.Limits.{most_speeds, up_to_most}
use Rattle.rules.specs.State.{speed_at, volts_at, count_at, speeds_of, volts_of}
use Rattle.rules.specs.Numbers.{speeds_rise, volts_never_fall}
use Rattle.rungs.specs.Parts.{climbing, zeros, zeros_from}
use Rattle.rungs.specs.Rungs.{unused_rung, ladder_right}
use Rattle.rules.proofs.WalkLaws.{walk_on, walk_stop, walk_end}

-- a walk over the places from one on
module _ (ss : List Speed) (vs : List Volts) (cs : List Cycles) (i : ℕ) where
  abbrev unused : ℕ → Bool
  unused k = zeros (get_or ss k (speed 0)) (get_or vs k (volts 0)) (get_or cs k (cycles 0))

  pub past_on : i < most_speeds → unused i ≡ true → zeros_from ss vs cs i ≡ zeros_from ss vs cs (i + 1)
  unfolding zeros_from
  past_on h e = walk_on unused most_speeds (λ k. k) i h e

  pub past_stop : i < most_speeds → unused i ≡ false → zeros_from ss vs cs i ≡ false
  unfolding zeros_from
  past_stop h e = walk_stop unused most_speeds (λ k. k) i h e

  pub past_end : most_speeds ≤ i → zeros_from ss vs cs i ≡ true
  unfolding zeros_from
  past_end h = walk_end unused most_speeds (λ k. k) i h

-- the whole speed side is the count's range and the two walks
regroup : (a b c d : Bool) → (a && b && c && d) ≡ (a && (b && c) && d)
regroup true b c d = refl
regroup false b c d = refl

pub ladder_is : (l : Ladder) (t : Tally) → ladder_right l t ≡ (up_to_most most_speeds l.count && climbing l.count l.speeds l.volts 0 0 0 && zeros_from l.speeds l.volts t.counts l.count)
unfolding ladder_right climbing speeds_of volts_of speed_at volts_at zeros_from zeros unused_rung count_at
ladder_is l t =
    regroup (up_to_most most_speeds l.count) (speeds_rise 0 (speeds_of l)) (volts_never_fall 0 (volts_of l)) (every (unused_rung l t) (drop l.count (up_to most_speeds (λ i. i))))
