-- The longest printout: no line of a tick has more than 150 bytes, since its numbers are at most its speed, and there are at most 10,000 of them; the last line has five numbers at most.
use mathlib.Core.Path.{◌≡◌, refl}
use mathlib.Core.Bool.{Bool, true, false}
use mathlib.Core.List.{List, [], ◌∷◌, ◌++◌}
use Prim.Native.Nat.{ℕ, suc, zero-le, ◌+◌, ◌*◌, ◌≤◌, ◌<◌}
use native.Mathlib.Omega.{arith}
use lib.Dec.{eqb}
use lib.ListN.{length, length-append}
use Rattle.rules.specs.Words.{total}
use Rattle.decimal.specs.Decimal.{decimal_of}
use Rattle.decimal.proofs.Written.{narrow}
use Rattle.player.specs.Plays.{Tick, Play, play_of}
use Rattle.player.specs.Rows.{row_of}
use Rattle.played.specs.Promised.{TickRight, EachTick}
use Rattle.played.proofs.TextLaws.{text_right}
use Rattle.printout.specs.Print.{total_word, refused_word, field_of, fields_of, line_of, tick_lines, totals_of, last_line, text_of, print_of}
use Rattle.printout.specs.Largest.{NeverLonger}
use Rattle.printout.proofs.Fields.{field_length, fields_few, line_length}

-- a number below 10,000,000 has a field of at most 8 bytes
field_narrow : (v : ℕ) → v < 10_000_000 → length (field_of v) ≤ 8
field_narrow v h = omega (arith, field_length v, narrow v 7 h (omega arith))

-- so have all of a list whose sum is below it
fields_narrow : (vs : List ℕ) → total (λ g. g) vs < 10_000_000 → length (fields_of vs) ≤ 8 * length vs
unfolding fields_of total
fields_narrow [] h = zero-le
fields_narrow (v ∷ vs) h =
    omega (arith, length-append (field_of v) (fields_of vs), field_narrow v (omega arith), fields_narrow vs (omega arith))

-- the sum of a list and one number more
total_more : (vs : List ℕ) (v : ℕ) → total (λ g. g) (vs ++ (v ∷ [])) ≡ total (λ g. g) vs + v
unfolding total
total_more [] v = omega arith
total_more (x ∷ vs) v = omega (arith, total_more vs v)

-- the fields of a tick's row: each of its numbers is at most its speed
row_short : (n : ℕ) (x : Tick) → TickRight n x → length (fields_of (row_of x)) ≤ 8 * n + 16
unfolding fields_of row_of
row_short n x r =
    let rest = x.grants ++ (x.idle ∷ []) in
    let small : total (λ g. g) rest < 10_000_000 = omega (arith, total_more x.grants x.idle, r.shared, r.most) in
    omega (arith, r.one_each, length-append x.grants (x.idle ∷ []), length-append (field_of x.speed) (fields_of rest), field_narrow x.speed (omega (arith, r.most)), fields_narrow rest small)

-- no tick's line has more than 150 bytes
ticks_short : (n t : ℕ) (xs : List Tick) → n ≤ 16 → t + length xs ≤ 10_000 → EachTick (TickRight n) xs → length (tick_lines t xs) ≤ 150 * length xs
unfolding tick_lines
ticks_short n t [] few h r = zero-le
ticks_short n t (x ∷ xs) few h r =
    omega (arith, length-append (line_of (decimal_of t) (row_of x)) (tick_lines (suc t) xs), line_length (decimal_of t) (row_of x), narrow t 4 (omega arith) (omega arith), row_short n x r.0, ticks_short n (suc t) xs few (omega arith) r.1)

-- and no last line more than 112
last_short : (p : Play) → length (last_line p) ≤ 112
unfolding last_line total_word refused_word totals_of
last_short p = go (eqb p.number 0) refl
  where
    go : (t : Bool) → eqb p.number 0 ≡ t → length (last_line p) ≤ 112
    go true e = rw e (omega (arith, line_length total_word (totals_of p.state), fields_few (totals_of p.state)))
    go false e = rw e (omega (arith, line_length refused_word (p.number ∷ []), fields_few (p.number ∷ [])))

-- no bytes at all have a printout longer than 1,500,200 bytes
pub never_longer : NeverLonger
unfolding NeverLonger print_of text_of
never_longer text =
    let p = play_of text in
    let r = text_right text in
    omega (arith, length-append (tick_lines 0 p.ticks) (last_line p), ticks_short p.state.tasks.count 0 p.ticks r.tasks_most (omega (arith, r.ticks_most)) r.ticks_right, r.ticks_most, last_short p)
