-- What the parts of the printout do, for their contracts.
use Rattle.std.specs.Prelude.{ℕ, zero, suc, ◌+◌, ◌*◌, ◌≤◌, ◌≡◌, true, cond, List, [], ◌∷◌, ◌++◌, eqb, length, take, drop}
use Rattle.rules.specs.declared.State.{State}
use Rattle.rules.specs.Numbers.{sound}
use Rattle.decimal.specs.Decimal.{decimal_of}
use Rattle.runfile.specs.RunFile.{most_run_ticks}
use Rattle.printout.specs.declared.lasts.Last.{Last}
use Rattle.printout.specs.declared.lasts.Last.TheVariants.{Total, Refused}
use Rattle.printout.specs.Print.{line_of, total_word, refused_word, totals_of}
use Rattle.printout.specs.Largest.{most_printed}

-- the lines of so many ticks from tick t on, whose rows of `width` numbers stand one after the other
unfoldable pub row_lines : ℕ → ℕ → ℕ → List ℕ → List ℕ
row_lines width zero t rows = []
row_lines width (suc ticks) t rows = line_of (decimal_of t) (take width rows) ++ row_lines width ticks (suc t) (drop width rows)

-- the last line, by its word and its numbers
unfoldable pub word_of : Last → List ℕ
word_of (Total numbers) = total_word
word_of (Refused number) = refused_word

unfoldable pub numbers_of : Last → List ℕ
numbers_of (Total numbers) = numbers
numbers_of (Refused number) = number ∷ []

unfoldable pub last_text : Last → List ℕ
last_text l = line_of (word_of l) (numbers_of l)

-- what the last line of a run that ended so says
unfoldable pub last_of : ℕ → State → Last
last_of number s = cond (eqb number 0) (Total (totals_of s)) (Refused number)

-- the counts of a run that was not refused can be summed: its state is sound
unfoldable pub Summed : ℕ → State → Type 0
Summed number s = number ≡ 0 → sound s ≡ true

-- all lines of a run: those of its ticks, and the last
unfoldable pub lines_of : ℕ → ℕ → Last → List ℕ → List ℕ
lines_of width ticks last rows = row_lines width ticks 0 rows ++ last_text last

-- rows that can be written: at most as many as a run has ticks, of at most 18 numbers, all of them there, and a text that is no longer than any run's
pub record Writable (width ticks : ℕ) (last : Last) (rows : List ℕ) : Type 0 where
  pub there : ticks * width ≤ length rows
  pub narrow : width ≤ 18
  pub few : ticks ≤ most_run_ticks
  pub short : length (lines_of width ticks last rows) ≤ most_printed

-- a run that ended so, as text, and when it can be written
unfoldable pub rendered : ℕ → State → List ℕ → List ℕ
rendered number s rows = lines_of (s.tasks.count + 2) s.done.0 (last_of number s) rows

pub record Renderable (number : ℕ) (s : State) (rows : List ℕ) : Type 0 where
  pub summed : Summed number s
  pub all : Writable (s.tasks.count + 2) s.done.0 (last_of number s) rows
