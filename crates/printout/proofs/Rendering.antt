-- A run's lines in a buffer: all of them or none, by whether there is room. The last line is put after the others, and one run of stores after another is one.
use mathlib.Core.Path.{◌≡◌, sym, ap, ◌∙◌}
use mathlib.Core.Bool.{true, false}
use mathlib.Core.List.{List}
use Prim.Native.Nat.{ℕ, ◌+◌, ◌≤◌}
use native.Mathlib.Nat.{zero-add}
use native.Mathlib.Omega.{arith}
use borrow.Author.Tests.{leb-true, leb-false}
use lib.Dec.{leb}
use lib.ListN.{length, length-append}
use lib.Seq.{sets}
use Rattle.words.specs.Words.{put_in}
use Rattle.words.proofs.Stores.{sets_append, put_fits, put_short}
use Rattle.std.specs.Prelude.{Some, None}
use Rattle.printout.specs.declared.lasts.Last.{Last}
use Rattle.printout.specs.Print.{printed_of}
use Rattle.printout.specs.Parts.{row_lines, last_text, lines_of}

module _ (bytes out : List ℕ) where
  -- without room nothing is put
  pub none_put : leb (length bytes) (length out) ≡ false → (None ≡ printed_of bytes (length out)) × (out ≡ put_in out 0 bytes)
  unfolding printed_of
  none_put e = (rw e, sym (put_short out 0 bytes (omega (arith, leb-false (length bytes) (length out) e))).0)

  -- with room all of it is
  pub all_put : leb (length bytes) (length out) ≡ true → (Some (length bytes) ≡ printed_of bytes (length out)) × (sets out 0 bytes ≡ put_in out 0 bytes)
  unfolding printed_of
  all_put e = (rw e, sym (put_fits out 0 bytes (omega (arith, leb-true (length bytes) (length out) e))).0)

module _ (width ticks : ℕ) (last : Last) (rows : List ℕ) where
  -- the bytes of the ticks' lines and of the last
  pub lines_length : length (lines_of width ticks last rows) ≡ length (row_lines width ticks 0 rows) + length (last_text last)
  unfolding lines_of
  lines_length = length-append (row_lines width ticks 0 rows) (last_text last)

  -- where all of it fits, there are places for both
  pub parts_fit : (places : ℕ) → leb (length (lines_of width ticks last rows)) places ≡ true → length (row_lines width ticks 0 rows) + length (last_text last) ≤ places
  parts_fit places e = rw lines_length at (leb-true (length (lines_of width ticks last rows)) places e)

  -- the ticks' lines put, and the last after them
  pub put_lines : (out : List ℕ) → sets (sets out 0 (row_lines width ticks 0 rows)) (length (row_lines width ticks 0 rows)) (last_text last) ≡ sets out 0 (lines_of width ticks last rows)
  unfolding lines_of
  put_lines out =
      ap (λ (k : ℕ). sets (sets out 0 (row_lines width ticks 0 rows)) k (last_text last)) (sym (zero-add (length (row_lines width ticks 0 rows))))
      ∙ sets_append (row_lines width ticks 0 rows) (last_text last) out 0

  -- and then the place after the last line and the buffer are those of the whole put
  pub both_put : (out d₁ d₂ : List ℕ) (at₁ at₂ : ℕ) → leb (length (lines_of width ticks last rows)) (length out) ≡ true → at₁ ≡ length (row_lines width ticks 0 rows) → d₁ ≡ sets out 0 (row_lines width ticks 0 rows) → at₂ ≡ at₁ + length (last_text last) → d₂ ≡ sets d₁ at₁ (last_text last) → (Some at₂ ≡ printed_of (lines_of width ticks last rows) (length out)) × (d₂ ≡ put_in out 0 (lines_of width ticks last rows))
  both_put out d₁ d₂ at₁ at₂ fit p₁ e₁ p₂ e₂ =
      let whole = all_put (lines_of width ticks last rows) out fit in
      let after : at₂ ≡ length (lines_of width ticks last rows) = omega (arith, lines_length) in
      (ap Some after ∙ whole.0, rw (e₂, e₁, p₁) (put_lines out) ∙ whole.1)
