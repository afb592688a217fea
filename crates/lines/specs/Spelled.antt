-- "Run files" without places: how a line's numbers are spelled, and what follows them in the text.
use Rattle.std.specs.Prelude.{ℕ, List, [], ◌∷◌, ◌++◌}
use Rattle.decimal.specs.Decimal.{decimal_of}
use Rattle.lines.specs.Lines.{run_word}

-- "lines end in LF or CR LF"
pub data LineBreak : Type 0 where
  lf crlf : LineBreak

unfoldable pub break_bytes : LineBreak → List ℕ
break_bytes lf = 10 ∷ []
break_bytes crlf = 13 ∷ 10 ∷ []

-- "the last may lack it"
pub data LastBreak : Type 0 where
  lacking : LastBreak
  ended : LineBreak → LastBreak

unfoldable pub last_bytes : LastBreak → List ℕ
last_bytes lacking = []
last_bytes (ended k) = break_bytes k

-- two numbers or three, each as it would be written, commas between them, the line's end, and the rest of the text
unfoldable pub two_numbers : ℕ → ℕ → LineBreak → List ℕ → List ℕ
two_numbers a b k rest = decimal_of a ++ (44 ∷ (decimal_of b ++ (break_bytes k ++ rest)))

unfoldable pub three_numbers : ℕ → ℕ → ℕ → LineBreak → List ℕ → List ℕ
three_numbers a b c k rest = decimal_of a ++ (44 ∷ (decimal_of b ++ (44 ∷ (decimal_of c ++ (break_bytes k ++ rest)))))

-- the run line, which is last
unfoldable pub run_line : ℕ → LastBreak → List ℕ
run_line ticks k = run_word ++ (decimal_of ticks ++ last_bytes k)
