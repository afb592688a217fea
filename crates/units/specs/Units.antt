-- Counts in their units, the one way from ticks to cycles, and the one from the cycles of a tick to its speed.
use Rattle.std.specs.Prelude.{ℕ, ◌*◌, min}
use Rattle.units.specs.declared.Ticks.{Ticks}
use Rattle.units.specs.declared.Cycles.{Cycles}
use Rattle.units.specs.declared.Speed.{Speed}
use Rattle.units.specs.declared.Volts.{Volts}

-- a number as a count of each unit
abbrev pub ticks : ℕ → Ticks
ticks n = record { 0 = n }

abbrev pub cycles : ℕ → Cycles
cycles n = record { 0 = n }

abbrev pub speed : ℕ → Speed
speed n = record { 0 = n }

abbrev pub volts : ℕ → Volts
volts n = record { 0 = n }

-- the largest count, of ticks, of cycles or of anything else, that can be written: 2 ^ 64 - 1
abbrev pub most_count : ℕ
most_count = 18_446_744_073_709_551_615

-- speed x ticks, or the largest count where that is more
unfoldable pub cycles_in : Speed → Ticks → Cycles
cycles_in s t = cycles (min (s.0 * t.0) most_count)

-- "a speed is cycles per tick": the speed at which one tick has so many cycles
abbrev pub per_tick : Cycles → Speed
per_tick c = speed c.0
