-- The lines of a run's rows: the first line and the rest, their bytes and where they are put. By the definition of the lines, row by row.
use mathlib.Core.Path.{◌≡◌, sym, ap, ◌∙◌}
use mathlib.Core.List.{List, [], ◌++◌}
use Prim.Native.Nat.{ℕ, zero, suc, zero-le, ◌+◌, ◌-◌, ◌*◌, ◌≤◌, ◌<◌}
use native.Mathlib.Nat.{sub-zero, zero-mul}
use native.Mathlib.Numerals.{add-one}
use native.Mathlib.Omega.{arith}
use lib.ListN.{length, set, take, drop, length-append, length-take, length-set}
use lib.Seq.{sets, length-sets, drop-drop}
use Rattle.words.specs.Words.{put_in, place_after}
use Rattle.words.proofs.Stores.{sets_append, put_fits, length_put}
use Rattle.decimal.specs.Decimal.{decimal_of}
use Rattle.decimal.proofs.Written.{few_digits}
use Rattle.printout.specs.Print.{cr_lf, fields_of, line_of}
use Rattle.printout.specs.Parts.{row_lines}
use Rattle.printout.proofs.Fields.{fields_few, line_length, put_line}

-- a first field put where it fits, and the others after it: the place after them, the buffer, and its length
pub row_stored : (d : List ℕ) (at : ℕ) (first fields d₁ d₂ : List ℕ) (at₁ at₂ : ℕ) → at + length first ≤ length d → at₁ ≡ place_after d at first → d₁ ≡ put_in d at first → at₂ ≡ at₁ + length fields → d₂ ≡ sets d₁ at₁ fields → (at₂ ≡ at + length first + length fields) × (d₂ ≡ sets (sets d at first) (at + length first) fields) × (length d₂ ≡ length d)
row_stored d at first fields d₁ d₂ at₁ at₂ h p₁ e₁ p₂ e₂ =
    let fit = put_fits d at first h in
    let whole : d₂ ≡ sets (sets d at first) (at + length first) fields = rw (e₂, e₁, p₁, fit.1, fit.0) in
    (omega (arith, fit.1), whole, ap length whole ∙ length-sets (sets d at first) (at + length first) fields ∙ length-sets d at first)

-- and then the line's end, byte by byte: the line is put
pub end_stored : (first others d : List ℕ) (at : ℕ) → set (set (sets (sets d at first) (at + length first) (fields_of others)) (at + length first + length (fields_of others)) 13) (at + length first + length (fields_of others) + 1) 10 ≡ sets d at (line_of first others)
unfolding cr_lf
end_stored first others d at =
    let e = put_line first others d at in
    rw add-one e

-- the lines from tick t on
abbrev pub lines_left : ℕ → ℕ → List ℕ → ℕ → List ℕ
lines_left width ticks rows t = row_lines width (ticks - t) t (drop (t * width) rows)

-- the numbers of tick t's row
abbrev pub row_at : ℕ → List ℕ → ℕ → List ℕ
row_at width rows t = take (t * width + width - t * width) (drop (t * width) rows)

module _ (width ticks t : ℕ) (rows : List ℕ) where
  module _ (h : t < ticks) where
    -- the first line left and the rest
    pub first_line : lines_left width ticks rows t ≡ line_of (decimal_of t) (row_at width rows t) ++ lines_left width ticks rows (t + 1)
    unfolding row_lines
    first_line =
        let left : ticks - t ≡ suc (ticks - (t + 1)) = omega arith in
        let wide : t * width + width - t * width ≡ width = omega arith in
        let next : (t + 1) * width ≡ t * width + width = omega arith in
        rw (left, wide, next, ← drop-drop width (t * width) rows, add-one t)

    -- the bytes of both
    pub first_line_length : length (lines_left width ticks rows t) ≡ length (line_of (decimal_of t) (row_at width rows t)) + length (lines_left width ticks rows (t + 1))
    first_line_length =
        ap length first_line ∙ length-append (line_of (decimal_of t) (row_at width rows t)) (lines_left width ticks rows (t + 1))

    -- the first line put, and then the rest
    pub put_first_line : (d : List ℕ) (place : ℕ) → sets (sets d place (line_of (decimal_of t) (row_at width rows t))) (place + length (line_of (decimal_of t) (row_at width rows t))) (lines_left width ticks rows (t + 1)) ≡ sets d place (lines_left width ticks rows t)
    put_first_line d place =
        sets_append (line_of (decimal_of t) (row_at width rows t)) (lines_left width ticks rows (t + 1)) d place
        ∙ ap (sets d place) (sym first_line)

  -- past the last tick there is no line
  pub no_line : ticks ≤ t → lines_left width ticks rows t ≡ []
  unfolding row_lines
  no_line h = let none : ticks - t ≡ 0 = omega arith in rw none

-- before the first tick all lines are left
pub all_left : (width ticks : ℕ) (rows : List ℕ) → lines_left width ticks rows 0 ≡ row_lines width ticks 0 rows
all_left width ticks rows = rw (sub-zero ticks, zero-mul width)

-- no line of at most 18 numbers has more than 400 bytes
pub lines_few : (width ticks t : ℕ) (rows : List ℕ) → width ≤ 18 → length (row_lines width ticks t rows) ≤ 400 * ticks
unfolding row_lines
lines_few width zero t rows h = zero-le
lines_few width (suc ticks) t rows h =
    omega (arith, length-append (line_of (decimal_of t) (take width rows)) (row_lines width ticks (suc t) (drop width rows)), line_length (decimal_of t) (take width rows), few_digits t, fields_few (take width rows), length-take width rows, lines_few width ticks (suc t) (drop width rows) h)

-- what one line comes to, and what the lines of a run do
pub ruleset one_line = (length-set, line_length, row_stored, end_stored, put_fits, length_put)

pub ruleset all_lines = (line_length, all_left, first_line_length, put_first_line, no_line, lines_few)
