-- "The bench prints": a run as text, every byte, and what is printed for any bytes at all.
use Rattle.std.specs.Prelude.{ℕ, suc, cond, List, [], ◌∷◌, ◌++◌, eqb, leb, length, Option, Some, None}
use Rattle.units.specs.declared.Cycles.{Cycles}
use Rattle.rules.specs.declared.State.{State}
use Rattle.rules.specs.Words.{total}
use Rattle.rules.specs.Calls.{energy_of}
use Rattle.decimal.specs.Decimal.{decimal_of}
use Rattle.player.specs.Plays.{Tick, Play, play_of}
use Rattle.player.specs.Rows.{row_of}

-- `total`, `refused`, and CR LF, which ends every line
unfoldable pub total_word : List ℕ
total_word = 116 ∷ 111 ∷ 116 ∷ 97 ∷ 108 ∷ []

unfoldable pub refused_word : List ℕ
refused_word = 114 ∷ 101 ∷ 102 ∷ 117 ∷ 115 ∷ 101 ∷ 100 ∷ []

unfoldable pub cr_lf : List ℕ
cr_lf = 13 ∷ 10 ∷ []

-- a field after a line's first, with the comma before it, and all of them
unfoldable pub field_of : ℕ → List ℕ
field_of v = 44 ∷ decimal_of v

unfoldable pub fields_of : List ℕ → List ℕ
fields_of [] = []
fields_of (v ∷ vs) = field_of v ++ fields_of vs

-- a line: its first field, the others, and its end
unfoldable pub line_of : List ℕ → List ℕ → List ℕ
line_of first others = first ++ (fields_of others ++ cr_lf)

-- "for each tick: tick, speed, grants of tasks 1 to n, idle", from tick t on
unfoldable pub tick_lines : ℕ → List Tick → List ℕ
tick_lines t [] = []
tick_lines t (x ∷ xs) = line_of (decimal_of t) (row_of x) ++ tick_lines (suc t) xs

-- "then `total`, cycles granted, idle, energy, late, cut"
unfoldable pub totals_of : State → List ℕ
totals_of s =
    total (λ (c : Cycles). c.0) s.tally.counts
    ∷ s.tally.idle.0
    ∷ (energy_of s).energy
    ∷ s.tally.late
    ∷ s.tally.cut
    ∷ []

-- "A refusal prints `refused,N` as the last line, after the ticks already done, and no total."
unfoldable pub last_line : Play → List ℕ
last_line p =
    cond (eqb p.number 0)
    (line_of total_word (totals_of p.state))
    (line_of refused_word (p.number ∷ []))

-- a run as text
unfoldable pub text_of : Play → List ℕ
text_of p = tick_lines 0 p.ticks ++ last_line p

-- what the bench prints for any bytes
unfoldable pub print_of : List ℕ → List ℕ
print_of text = text_of (play_of text)

-- what print answers for bytes to be printed and a buffer of so many places: how many bytes, or that there is no room for them
unfoldable pub printed_of : List ℕ → ℕ → Option ℕ
printed_of bytes places = cond (leb (length bytes) places) (Some (length bytes)) None
