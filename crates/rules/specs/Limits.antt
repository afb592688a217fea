-- "Ticks, cycles, volts": the table of what is allowed.
use Rattle.std.specs.Prelude.{ℕ, ◌*◌, Bool, ◌&&◌, leb}

-- tasks: 1 to 16
abbrev pub most_tasks : ℕ
most_tasks = 16

-- period, ticks: 1 to 1,000,000
abbrev pub most_period : ℕ
most_period = 1_000_000

-- reserve, cycles per job: 1 to 1,000,000,000
abbrev pub most_reserve : ℕ
most_reserve = 1_000_000_000

-- speeds: 1 to 8,
abbrev pub most_speeds : ℕ
most_speeds = 8

-- each 1 to 1,000,000, strictly rising
abbrev pub most_speed : ℕ
most_speed = 1_000_000

-- volts, one per speed: 1 to 100, never falling
abbrev pub most_volts : ℕ
most_volts = 100

-- great period: at most 1,000,000
abbrev pub most_great : ℕ
most_great = 1_000_000

-- ticks in one run: at most 1,000,000,000
abbrev pub most_ticks : ℕ
most_ticks = 1_000_000_000

-- whether a number is from 1 to a limit: so all of the above but the great period and the ticks, which are only at most theirs
unfoldable pub up_to_most : ℕ → ℕ → Bool
up_to_most most n = leb 1 n && leb n most

-- so one term of a load is at most this: a reserve in each of as many jobs as the great period has ticks
abbrev pub most_term : ℕ
most_term = most_reserve * most_great
