-- A run's rows as its ticks: the lines of the rows are those of the ticks, and the last line is that of the run. By induction on the ticks, a row of n + 2 numbers for each.
use mathlib.Core.Path.{◌≡◌, refl, ap, ◌∙◌}
use mathlib.Core.Bool.{Bool, true, false}
use mathlib.Core.List.{List, [], ◌∷◌, ◌++◌, append_assoc}
use Prim.Native.Nat.{ℕ, suc, ◌+◌}
use native.Mathlib.Omega.{arith}
use lib.Dec.{eqb}
use lib.ListN.{length, length-append}
use lib.Seq.{take_at, drop_at}
use Rattle.decimal.specs.Decimal.{decimal_of}
use Rattle.player.specs.Plays.{Tick, Play}
use Rattle.player.specs.Rows.{row_of, rows_of}
use Rattle.played.specs.Promised.{TickRight, EachTick}
use Rattle.printout.specs.Print.{line_of, tick_lines, totals_of, last_line, text_of}
use Rattle.printout.specs.Parts.{row_lines, word_of, numbers_of, last_text, last_of, lines_of, rendered}

-- a row has a number for each grant and two more
pub row_long : (x : Tick) → length (row_of x) ≡ length x.grants + 2
unfolding row_of
row_long x = omega (arith, length-append x.grants (x.idle ∷ []))

-- the lines of rows of n + 2 numbers, whatever stands after them, are the lines of the ticks
pub rows_are_ticks : (n t : ℕ) (xs : List Tick) (rest : List ℕ) → EachTick (TickRight n) xs → row_lines (n + 2) (length xs) t (rows_of xs ++ rest) ≡ tick_lines t xs
unfolding row_lines tick_lines rows_of
rows_are_ticks n t [] rest h = refl
rows_are_ticks n t (x ∷ xs) rest h =
    let long : length (row_of x) ≡ n + 2 = row_long x ∙ ap (λ k. k + 2) h.0.one_each in
    rw (append_assoc (row_of x) (rows_of xs) rest, take_at (row_of x) (rows_of xs ++ rest) (n + 2) long, drop_at (row_of x) (rows_of xs ++ rest) (n + 2) long)
    (ap (λ (l : List ℕ). line_of (decimal_of t) (row_of x) ++ l) (rows_are_ticks n (suc t) xs rest h.1))

-- the last line by its numbers is the last line of the run
pub last_is : (p : Play) → last_text (last_of p.number p.state) ≡ last_line p
unfolding last_text last_of last_line word_of numbers_of totals_of
last_is p = go (eqb p.number 0) refl
  where
    go : (t : Bool) → eqb p.number 0 ≡ t → last_text (last_of p.number p.state) ≡ last_line p
    go true e = rw e
    go false e = rw e

-- a run whose rows stand in front of a list, as text
pub rendered_is : (p : Play) (rest : List ℕ) → p.state.done.0 ≡ length p.ticks → EachTick (TickRight p.state.tasks.count) p.ticks → rendered p.number p.state (rows_of p.ticks ++ rest) ≡ text_of p
unfolding rendered lines_of text_of
rendered_is p rest done right =
    ap (λ (k : ℕ). row_lines (p.state.tasks.count + 2) k 0 (rows_of p.ticks ++ rest) ++ last_text (last_of p.number p.state)) done
    ∙ ap (λ (l : List ℕ). l ++ last_text (last_of p.number p.state)) (rows_are_ticks p.state.tasks.count 0 p.ticks rest right)
    ∙ ap (λ (l : List ℕ). tick_lines 0 p.ticks ++ l) (last_is p)
