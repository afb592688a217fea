-- "Run files": the lines. A line is a word, numbers that commas part, and a line's end.
use Rattle.std.specs.Prelude.{ℕ, ◌+◌, Bool, cond, ◌&&◌, List, [], ◌∷◌, eqb, ltb, leb, length, get_or, Option, Some, None}
use Rattle.units.specs.declared.Ticks.{Ticks}
use Rattle.units.specs.declared.Cycles.{Cycles}
use Rattle.units.specs.Units.{ticks, cycles}
use Rattle.words.specs.Words.{stands_at}
use Rattle.decimal.specs.declared.Number.{Number}
use Rattle.decimal.specs.Decimal.{read_number, field_at}
use Rattle.lines.specs.declared.PairLine.{PairLine}
use Rattle.lines.specs.declared.EndLine.{EndLine}
use Rattle.lines.specs.declared.RunLine.{RunLine}

-- "Lines begin with the bytes `task,` `speed,` `end,` or `run,`"
unfoldable pub task_word : List ℕ
task_word = 116 ∷ 97 ∷ 115 ∷ 107 ∷ 44 ∷ []

unfoldable pub speed_word : List ℕ
speed_word = 115 ∷ 112 ∷ 101 ∷ 101 ∷ 100 ∷ 44 ∷ []

unfoldable pub end_word : List ℕ
end_word = 101 ∷ 110 ∷ 100 ∷ 44 ∷ []

unfoldable pub run_word : List ℕ
run_word = 114 ∷ 117 ∷ 110 ∷ 44 ∷ []

-- a byte stands in a text at a place
unfoldable pub byte_at : List ℕ → ℕ → ℕ → Bool
byte_at text at b = ltb at (length text) && eqb (get_or text at 0) b

-- "lines end in LF or CR LF, the last may lack it": the place of the next line, where a line ends at a place
unfoldable pub line_end : List ℕ → ℕ → Option ℕ
line_end text at =
    cond (leb (length text) at) (Some at)
    (cond (byte_at text at 10) (Some (at + 1))
    (cond (byte_at text at 13 && byte_at text (at + 1) 10) (Some (at + 2)) None))

-- a number that a comma follows: the next place is past the comma
unfoldable pub past_comma : List ℕ → Option Number → Option Number
past_comma text (Some n) = cond (byte_at text n.next 44) (read_number n.value (n.next + 1)) None
past_comma text None = None

unfoldable pub number_comma : List ℕ → ℕ → Option Number
number_comma text at = past_comma text (field_at text at)

-- a number that a line's end follows: the next place is that of the next line
unfoldable pub ended_by : ℕ → Option ℕ → Option Number
ended_by value (Some place) = read_number value place
ended_by value None = None

unfoldable pub past_end : List ℕ → Option Number → Option Number
past_end text (Some n) = ended_by n.value (line_end text n.next)
past_end text None = None

unfoldable pub number_end : List ℕ → ℕ → Option Number
number_end text at = past_end text (field_at text at)

-- the lines that are read, each with the place of the next line
abbrev pub read_pair : ℕ → ℕ → ℕ → Option PairLine
read_pair first second next = Some (record { first = first; second = second; next = next })

abbrev pub read_end : Ticks → ℕ → Cycles → ℕ → Option EndLine
read_end tick task cycles next = Some (record { tick = tick; task = task; cycles = cycles; next = next })

abbrev pub read_run : Ticks → ℕ → Option RunLine
read_run ticks next = Some (record { ticks = ticks; next = next })

-- task and speed lines have two numbers after their word
unfoldable pub from_second : ℕ → Option Number → Option PairLine
from_second first (Some n) = read_pair first n.value n.next
from_second first None = None

unfoldable pub from_first : List ℕ → Option Number → Option PairLine
from_first text (Some n) = from_second n.value (number_end text n.next)
from_first text None = None

unfoldable pub pair_at : List ℕ → ℕ → Option PairLine
pair_at text at = from_first text (number_comma text at)

-- end lines have three: tick, task, cycles
unfoldable pub from_cycles : ℕ → ℕ → Option Number → Option EndLine
from_cycles tick task (Some n) = read_end (ticks tick) task (cycles n.value) n.next
from_cycles tick task None = None

unfoldable pub from_task : List ℕ → ℕ → Option Number → Option EndLine
from_task text tick (Some n) = from_cycles tick n.value (number_end text n.next)
from_task text tick None = None

unfoldable pub from_tick : List ℕ → Option Number → Option EndLine
from_tick text (Some n) = from_task text n.value (number_comma text n.next)
from_tick text None = None

unfoldable pub end_at : List ℕ → ℕ → Option EndLine
end_at text at = from_tick text (number_comma text at)

-- the run line has one: ticks
unfoldable pub from_run : Option Number → Option RunLine
from_run (Some n) = read_run (ticks n.value) n.next
from_run None = None

unfoldable pub run_at : List ℕ → ℕ → Option RunLine
run_at text at = cond (stands_at text at run_word) (from_run (number_end text (at + 4))) None
