-- The longest printout. 10,000 ticks have at most 150 bytes each: 4 digits of tick, 18 numbers of at most 7 digits with their commas, CR LF; and the last line has at most 112.
use Rattle.std.specs.Prelude.{ℕ, ◌≤◌, List, length}
use Rattle.printout.specs.Print.{print_of}

abbrev pub most_printed : ℕ
most_printed = 1_500_200

-- No bytes at all have a longer printout: a buffer of so many places is always enough.
unfoldable pub NeverLonger : Type 0
NeverLonger = (text : List ℕ) → length (print_of text) ≤ most_printed
