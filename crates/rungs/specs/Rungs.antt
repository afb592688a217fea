-- What rungs answers for the speed side of a state.
use Rattle.std.specs.Prelude.{ℕ, min, Bool, ◌&&◌, eqb, drop}
use Rattle.units.specs.Units.{speed}
use Rattle.units.specs.declared.Speed.{Speed}
use Rattle.rules.specs.declared.Ladder.{Ladder}
use Rattle.rules.specs.declared.Tally.{Tally}
use Rattle.rules.specs.Words.{up_to, every}
use Rattle.rules.specs.Limits.{most_speeds, up_to_most}
use Rattle.rules.specs.State.{speed_at, volts_at, count_at, speeds_of, volts_of, top_of}
use Rattle.rules.specs.Numbers.{speeds_rise, volts_never_fall}

-- a speed place that is unused: no speed, no volts, and no cycles counted
unfoldable pub unused_rung : Ladder → Tally → ℕ → Bool
unused_rung l t i = eqb (speed_at l i) 0 && eqb (volts_at l i) 0 && eqb (count_at t i) 0

-- from 1 to 8 speeds, they and their volts as No. 5 and 6 ask, and unused places are zero
unfoldable pub ladder_right : Ladder → Tally → Bool
ladder_right l t =
    up_to_most most_speeds l.count
    && speeds_rise 0 (speeds_of l)
    && volts_never_fall 0 (volts_of l)
    && every (unused_rung l t) (drop l.count (up_to most_speeds (λ i. i)))

-- the top speed, the last of the speeds listed, of which the first 8 are looked at; 0 where none is listed
unfoldable pub top_in : Ladder → Speed
top_in l = speed (top_of (up_to (min l.count most_speeds) (speed_at l)))
